-- The ghost of the proof of Demand 3: the log blocks since formatting, by sequence, with an empty block 0 in front, so
-- that block s is `get_or bs s []`. All else is a function of it: placed records, versions, commits, the book's rows,
-- and what a page holds. Definitions only.
use Rattle.layout.specs.declared.CommitTime.{CommitTime}
use Rattle.std.specs.Prelude.{Option, Some, None}
use Prim.Native.Nat.{ℕ, zero, suc, ◌+◌, ◌-◌, ◌*◌, ◌^◌, ◌≤◌, ◌<◌, min, max}
use mathlib.Core.Bool.{true, cond}
use mathlib.Core.List.{List, [], ◌∷◌, ◌++◌}
use mathlib.Core.Path.{◌≡◌}
use lib.Dec.{eqb}
use lib.ListN.{length, take, drop, get_or}
use Rattle.layout.specs.Journal.{Record, version, commit, record_size, record_form}
use Rattle.layout.specs.Slot.{Cell}
use Rattle.layout.specs.Page.{page_bytes}
use Rattle.layout.specs.declared.slot.Slot.TheVariants.{Waiting, Stamped}
use Rattle.layout.proofs.RecordLaws.{RecordSized}
use Rattle.fields.proofs.CellLaws.{Each}
use Rattle.layout.proofs.PageLaws.{no_cell}
use Rattle.store.specs.OpenLog.{Placed, place_from, number_in}
use Rattle.store.specs.OpenPairs.{waits_under}
use Rattle.runs.specs.Book.{Row, version as version_row, committed as commit_row}

-- ---- blocks of records

-- the bytes that the records of a block take
unfoldable pub size_of : List Record → ℕ
size_of [] = 0
size_of (r ∷ rs) = record_size r + size_of rs

-- a version's slot is in the store, a commit's time is at least 1
abbrev pub Placeable : ℕ → Record → Type 0
Placeable d (version h v) = h.slot < 15 * d
Placeable d (commit p) = 1 ≤ p.time.0

-- a record that a call may log
pub record Sound (d : ℕ) (r : Record) : Type 0 where
  pub sized : RecordSized r  -- its fields fit their widths
  pub form : record_form r ≡ true  -- a record number below 1,024, kind 0 or 1, an erased value zeros
  pub low : 1 ≤ number_in r
  pub high : number_in r < 2 ^ 64 - 1
  pub placeable : Placeable d r

-- the records of a block are sound and fit it
pub record BlockSound (d : ℕ) (b : List Record) : Type 0 where
  pub each : Each (Sound d) b
  pub fits : size_of b ≤ 502

-- ---- the records with their places

unfoldable pub place_all : ℕ → List (List Record) → List Placed
place_all q [] = []
place_all q (b ∷ bs) = place_from q 10 b ++ place_all (suc q) bs

-- all records of the blocks, of which the first has sequence 0
abbrev pub records : List (List Record) → List Placed
records bs = place_all 0 bs

-- ---- versions

pub record LoggedVersion : Type 0 where
  pub seq : ℕ
  pub end : ℕ
  pub slot : ℕ
  pub key : ℕ
  pub kind : ℕ
  pub earlier : ℕ
  pub num : ℕ
  pub value : List ℕ

abbrev pub as_version : Record → ℕ → ℕ → List LoggedVersion
as_version (version h v) q e =
    record {
      seq = q;
      end = e;
      slot = h.slot;
      key = h.key;
      kind = h.kind;
      earlier = h.earlier;
      num = h.number.0;
      value = v;
    } ∷ []
as_version (commit p) q e = []

unfoldable pub versions_in : List Placed → List LoggedVersion
versions_in [] = []
versions_in (x ∷ xs) = as_version x.rec x.seq x.end ++ versions_in xs

-- the versions of all blocks, by slot
abbrev pub versions_of : List (List Record) → List LoggedVersion
versions_of bs = versions_in (records bs)

abbrev pub no_version : LoggedVersion
no_version = record { seq = 0; end = 0; slot = 0; key = 0; kind = 0; earlier = 0; num = 0; value = [] }

abbrev pub at : List LoggedVersion → ℕ → LoggedVersion
at vs n = get_or vs n no_version

-- the highest slot below n with this key, of the versions by slot
unfoldable pub newest_of : List LoggedVersion → ℕ → ℕ → Option ℕ
newest_of vs key zero = None
newest_of vs key (suc n) = cond (eqb (at vs n).key key) (Some n) (newest_of vs key n)

-- ---- commits; a time of 0 says that there is none

pub record LoggedCommit : Type 0 where
  pub seq : ℕ
  pub end : ℕ
  pub num : ℕ
  pub time : ℕ

abbrev pub as_commit : Record → ℕ → ℕ → List LoggedCommit
as_commit (version h v) q e = []
as_commit (commit p) q e = record { seq = q; end = e; num = p.number.0; time = p.time.0 } ∷ []

unfoldable pub commits_in : List Placed → List LoggedCommit
commits_in [] = []
commits_in (x ∷ xs) = as_commit x.rec x.seq x.end ++ commits_in xs

-- the commits of all blocks, in their order
abbrev pub commits_of : List (List Record) → List LoggedCommit
commits_of bs = commits_in (records bs)

abbrev pub no_commit : LoggedCommit
no_commit = record { seq = 0; end = 0; num = 0; time = 0 }

-- the first commit of a number
unfoldable pub find : List LoggedCommit → ℕ → LoggedCommit
find [] n = no_commit
find (c ∷ cs) n = cond (eqb c.num n) c (find cs n)

-- the highest time
unfoldable pub last_of : List LoggedCommit → ℕ
last_of [] = 0
last_of (c ∷ cs) = max c.time (last_of cs)

-- the times rise, from above `low` on
abbrev pub Rising : ℕ → List LoggedCommit → Type 0
Rising low [] = Unit {0}
Rising low (c ∷ cs) = (low < c.time) × Rising c.time cs

-- a number commits once
abbrev pub Once : List LoggedCommit → Type 0
Once [] = Unit {0}
Once (c ∷ cs) = ((find cs c.num).time ≡ 0) × Once cs

-- 0 as no time
abbrev pub timing : ℕ → Option CommitTime
timing zero = None
timing (suc t) = Some (record { 0 = suc t })

-- ---- cells

abbrev pub cell : List Cell → ℕ → Cell
cell cs n = get_or cs n no_cell

-- the slot that a version's record gives, and the slot stamped
abbrev pub waiting_cell : LoggedVersion → Cell
waiting_cell v =
    record { state = Waiting (record { 0 = v.num }); key = v.key; kind = v.kind; earlier = v.earlier; value = v.value }

abbrev pub stamped_cell : LoggedVersion → ℕ → Cell
stamped_cell v t =
    record { state = Stamped (record { 0 = t }); key = v.key; kind = v.kind; earlier = v.earlier; value = v.value }

-- a version's slot: it waits under its number, or has the time of its number's commit among cs
pub data Match (cs : List LoggedCommit) (v : LoggedVersion) : Cell → Type 0 where
  still : Match cs v (waiting_cell v)
  marked : (t : ℕ) → 0 < t → (find cs v.num).time ≡ t → Match cs v (stamped_cell v t)

-- how many slots wait under a number
unfoldable pub count : ℕ → List Cell → ℕ
count n [] = 0
count n (c ∷ cs) = cond (waits_under c.state n) 1 0 + count n cs

-- ---- pages

-- the end place of a page with k slots: that of its last version
abbrev pub end_of_page : List LoggedVersion → ℕ → ℕ → ℕ
end_of_page vs p zero = 0
end_of_page vs p (suc k) = (at vs (15 * p + k)).end

-- page p with its first k slots
unfoldable pub page_with : List LoggedVersion → List Cell → ℕ → ℕ → List ℕ
page_with vs cs p k = page_bytes (end_of_page vs p k) (take k (drop (15 * p) cs))

-- how many of n slots page p has
abbrev pub full : ℕ → ℕ → ℕ
full n p = min 15 (n - 15 * p)

-- ---- the book's rows

abbrev pub row_of : Record → Row
row_of (version h v) = version_row (record { number = h.number.0; key = h.key; kind = h.kind; value = v })
row_of (commit p) = commit_row p.number.0 p.time.0

unfoldable pub rows_in : List Placed → List Row
rows_in [] = []
rows_in (x ∷ xs) = row_of x.rec ∷ rows_in xs

-- ---- what the medium holds, beside the blocks of the whole history

pub record Disk : Type 0 where
  pub oldest : ℕ  -- the master's oldest sequence
  pub next : ℕ  -- its next number
  pub time : ℕ  -- its time
  -- the blocks, by sequence, that the medium holds or held: closed ones, and of the tail what is stored
  pub stored : List (List Record)
  pub cells : List Cell  -- all slots, stamped where they are on the medium
  pub on : ℕ → ℕ  -- how many slots of page p are on the medium

-- ---- the log as an opening takes it up: the last block of the medium is the tail, or the tail is empty if none
-- matches

unfoldable pub closed_of : ℕ → List (List Record) → List (List Record)
closed_of old stored = cond (eqb (length stored) old) stored (take (length stored - 1) stored)

unfoldable pub tail_of : ℕ → List (List Record) → List Record
tail_of old stored = cond (eqb (length stored) old) [] (get_or stored (length stored - 1) [])
