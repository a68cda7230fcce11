-- Opening: the log that is read, and what is known from it and from the master.
use Rattle.std.specs.Prelude.{ℕ, zero, suc, ◌+◌, max, cond, List, [], ◌∷◌, ◌++◌, eqb, Option, None, Some}
use Rattle.fields.specs.Field.{dec}
use Rattle.fields.specs.Part.{part}
use Rattle.fields.specs.Block.{blk, log_block_at, end_place}
use Rattle.layout.specs.Journal.{Record, version, commit, record_size, sequence_of, used_of, parsed, empty_block}
use Rattle.layout.specs.Master.{oldest_on}

-- 01: "Tag 4: next transaction number, 8": the master's, by its place
unfoldable pub next_on : List ℕ → ℕ
next_on m = dec (part m 24 8)

-- 01: "Tag 5: last stored commit time, 8": the master's, by its place
unfoldable pub time_on : List ℕ → ℕ
time_on m = dec (part m 35 8)

-- 01: "The end place of a record": a record with the sequence of its block and its end place
pub record Placed : Type 0 where
  pub seq : ℕ
  pub end : ℕ
  pub rec : Record

-- 01: "512 × sequence plus the offset after it": the records of a block, the first of them at an offset
unfoldable pub place_from : ℕ → ℕ → List Record → List Placed
place_from s off [] = []
place_from s off (r ∷ rs) =
    record { seq = s; end = end_place s (off + record_size r); rec = r } ∷ place_from s (off + record_size r) rs

-- 01: "transaction number (8)", "body 16: number, time": the number in a record of either tag
abbrev pub number_in : Record → ℕ
number_in (version h v) = h.number.0
number_in (commit p) = p.number.0

-- 01: "body 16: number, time": a commit record's time, 0 for a version record
abbrev pub time_in : Record → ℕ
time_in (version h v) = 0
time_in (commit p) = p.time.0

-- 01: "the highest logged plus 1": of the numbers, 0 if nothing is logged
unfoldable pub above_all : List Placed → ℕ
above_all [] = 0
above_all (x ∷ xs) = max (number_in x.rec + 1) (above_all xs)

-- 01: "last time likewise, without the plus": the highest time logged, 0 if there is none
unfoldable pub latest : List Placed → ℕ
latest [] = 0
latest (x ∷ xs) = max (time_in x.rec) (latest xs)

-- 01: "Pairs come from table and log": the time of a commit record, and its end place
pub record Commitment : Type 0 where
  pub time : ℕ
  pub end : ℕ

-- 01: "Pairs come from table and log": what a record that ends at e gives, if it is a commit under n
abbrev pub commit_in : Record → ℕ → ℕ → Option Commitment
commit_in (version h v) e n = None
commit_in (commit p) e n = cond (eqb p.number.0 n) (Some (record { time = p.time.0; end = e })) None

-- 01: "Pairs come from table and log": the first, or the second where there is no first
abbrev pub or_else : {A : Type 0} → Option A → Option A → Option A
or_else (Some a) b = Some a
or_else None b = b

-- 01: "Pairs come from table and log": the first commit record under a number
unfoldable pub commit_under : List Placed → ℕ → Option Commitment
commit_under [] n = None
commit_under (x ∷ xs) n = or_else (commit_in x.rec x.end n) (commit_under xs n)

module _ (m : List ℕ) (l : ℕ) where
  -- 01: "Sequence s is at block 3 + (s mod L)": the log block of a sequence
  unfoldable pub block_of : ℕ → List ℕ
  block_of s = blk m (log_block_at l s)

  -- 01: "while sequences match (at most L blocks)": how many of the k blocks from sequence s on
  unfoldable pub matching : ℕ → ℕ → ℕ
  matching s zero = 0
  matching s (suc k) = cond (eqb (sequence_of (block_of s)) s) (suc (matching (s + 1) k)) 0

  -- 01: "reads the log from the oldest block while sequences match (at most L blocks)": how many
  unfoldable pub read_count : ℕ
  read_count = matching (oldest_on m) l

  -- 01: "reads the log from the oldest block": the records of the k blocks from sequence s on
  unfoldable pub logged_from : ℕ → ℕ → List Placed
  logged_from s zero = []
  logged_from s (suc k) = place_from s 10 (parsed (block_of s)).records ++ logged_from (s + 1) k

  -- 01: "reads the log from the oldest block while sequences match": all records read
  unfoldable pub read_log : List Placed
  read_log = logged_from (oldest_on m) read_count

  -- 01: "The last block read is the tail; if none matches, the tail is empty under the oldest sequence"
  abbrev pub tail_after : ℕ → List ℕ
  tail_after zero = empty_block (oldest_on m)
  tail_after (suc k) = block_of (oldest_on m + k)

  -- 01: "The last block read is the tail": after all that match
  unfoldable pub read_tail : List ℕ
  read_tail = tail_after read_count

  -- 01: "the log's end": the end place of what stands in the tail
  unfoldable pub log_end : ℕ
  log_end = end_place (sequence_of read_tail) (used_of read_tail)

  -- 01: "Next number is the larger of the master's and the highest logged plus 1"
  unfoldable pub next_number : ℕ
  next_number = max (next_on m) (above_all read_log)

  -- 01: "last time likewise, without the plus": the larger of the master's and the highest logged
  unfoldable pub last_time : ℕ
  last_time = max (time_on m) (latest read_log)
