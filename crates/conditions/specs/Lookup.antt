-- What was looked up and gathered, as the code has it.
use Rattle.layout.specs.declared.CommitTime.{CommitTime}
use Rattle.layout.specs.declared.EndPlace.{EndPlace}
use Rattle.std.specs.Prelude.{ℕ, ◌+◌, ◌<◌, ◌≤◌, ◌*◌, ◌≡◌, Bool, true, cond, ◌&&◌, List, [], ◌∷◌, get_or, eqb, ltb, Option, None, Some, set, leb}
use Rattle.layout.specs.Journal.{Record, version, commit}
use Rattle.layout.specs.Table.{table_pair}
use Rattle.store.specs.Write.{or_none}
use Rattle.store.specs.Chain.{cell_at, newest}
use Rattle.store.specs.OpenLog.{Placed, Commitment, read_log}
use Rattle.store.specs.OpenConditions.{time_below}
use Rattle.conditions.specs.declared.log.Commit.{Commit}
use Rattle.conditions.specs.declared.slots.Newest.{Newest}

-- the time and the end place of a commit
abbrev pub match_of : Option Commitment → Option (CommitTime × EndPlace)
match_of None = None
match_of (Some x) = Some (record { 0 = x.time }, record { 0 = x.end })

-- the commit records of a log
abbrev pub with_commit : Record → ℕ → List Commit → List Commit
with_commit (version h v) e rest = rest
with_commit (commit p) e rest = record { number = p.number; time = p.time; end = record { 0 = e } } ∷ rest

unfoldable pub commits_of : List Placed → List Commit
commits_of [] = []
commits_of (x ∷ xs) = with_commit x.rec x.end (commits_of xs)

-- the first of them under a number
unfoldable pub commit_among : List Commit → ℕ → Option Commitment
commit_among [] n = None
commit_among (x ∷ xs) n = cond (eqb x.number.0 n) (Some (record { time = x.time.0; end = x.end.0 })) (commit_among xs n)

-- the table's places from `used` on are empty
pub record Extent (m : List ℕ) (used : ℕ) : Type 0 where
  pub few : used ≤ 64
  pub empty : (i : ℕ) → used ≤ i → i < 64 → (table_pair m i).number.0 ≡ 0

-- what is known of the pairs once table and log were gone through: the table's extent, and the log's commits
pub record Known (m : List ℕ) (l used : ℕ) (commits : List Commit) : Type 0 where
  pub table : Extent m used
  pub log : commits ≡ commits_of (read_log m l)

-- one more than a commit time, 0 for none: the least that may follow it
abbrev pub low_of : Option CommitTime → ℕ
low_of None = 0
low_of (Some t) = t.0 + 1

-- a time, or 0 for none
abbrev pub time_or_zero : Option CommitTime → ℕ
time_or_zero None = 0
time_or_zero (Some t) = t.0

-- every version record has a slot below 15 × d
abbrev pub slot_below : ℕ → Record → Bool
slot_below d (version h v) = ltb h.slot (15 * d)
slot_below d (commit p) = true

unfoldable pub slots_below : ℕ → List Placed → Bool
slots_below d [] = true
slots_below d (x ∷ xs) = slot_below d x.rec && slots_below d xs

-- every slot of d pages has a record number below 1,024
abbrev pub KeysBelow : List ℕ → ℕ → Type 0
KeysBelow c d = (n : ℕ) → n < 15 * d → (cell_at c n).key < 1024

-- of each record, by its number, the newest version and the newest time of its versions below slot n
pub record Tracks (m : List ℕ) (l : ℕ) (c : List ℕ) (n : ℕ) (all : Newest) : Type 0 where
  pub newest_slot : (k : ℕ) → k < 1024 → get_or all.slots k 0 ≡ or_none (newest c k n)
  pub newest_time : (k : ℕ) → k < 1024 → get_or all.times k 0 ≡ time_or_zero (time_below m l 0 c k n)

-- is a time not below the record's newest one, and the newest times with it
abbrev pub time_fits : List ℕ → ℕ → Option CommitTime → Bool
time_fits times key None = true
time_fits times key (Some t) = leb (get_or times key 0) t.0

abbrev pub times_after : List ℕ → ℕ → Option CommitTime → List ℕ
times_after times key None = times
times_after times key (Some t) = set times key t.0
