-- Opening: the pairs of table and log, and the live transactions that they give.
use Rattle.layout.specs.declared.CommitTime.{CommitTime}
use Rattle.std.specs.Prelude.{ℕ, zero, suc, ◌+◌, Bool, true, false, cond, not, ◌&&◌, List, [], ◌∷◌, set, eqb, ltb, Option, None, Some}
use Rattle.layout.specs.Table.{table_pair}
use Rattle.layout.specs.declared.slot.Slot.{Slot}
use Rattle.layout.specs.declared.slot.Slot.TheVariants.{Empty, Waiting, Stamped}
use Rattle.store.specs.declared.Life.TheVariants.{Committed}
use Rattle.store.specs.declared.Place.{Place}
use Rattle.store.specs.Places.{first, is_at, place_at, free_place, is_free}
use Rattle.store.specs.Chain.{cell_at, is_timed}
use Rattle.store.specs.OpenLog.{Placed, Commitment, commit_under}

-- the table place of a number; 01: "Number 0 is an empty place"
unfoldable pub table_find : List ℕ → ℕ → Option ℕ
table_find m n = cond (eqb n 0) None (first (λ i. eqb (table_pair m i).number.0 n) 64 0)

-- 01: "Pairs come from table and log": the time of a commit record, if there is one
abbrev pub time_of_commitment : Option Commitment → Option CommitTime
time_of_commitment (Some x) = Some (record { 0 = x.time })
time_of_commitment None = None

-- 01: "The end place of a record": that of a commit record, 0 if the log has none
abbrev pub end_of_commitment : Option Commitment → ℕ
end_of_commitment (Some x) = x.end
end_of_commitment None = 0

-- 01: "Pairs come from table and log": the time in the table place found, or another if none was found
abbrev pub table_or : Option ℕ → List ℕ → Option CommitTime → Option CommitTime
table_or (Some i) m other = Some (table_pair m i).time
table_or None m other = other

-- 01: "Pairs come from table and log": the time of a number
unfoldable pub pair_time : List ℕ → List Placed → ℕ → Option CommitTime
pair_time m log n = table_or (table_find m n) m (time_of_commitment (commit_under log n))

-- 01: "waiting under a number": does the slot wait under n?
abbrev pub waits_under : Slot → ℕ → Bool
waits_under Empty n = false
waits_under (Waiting k) n = eqb k.0 n
waits_under (Stamped t) n = false

-- 01: "Counts are made afresh": how many of the first k slots wait under a number
unfoldable pub count_waiting : List ℕ → ℕ → ℕ → ℕ
count_waiting c n zero = 0
count_waiting c n (suc k) = count_waiting c n k + cond (waits_under (cell_at c k).state n) 1 0

-- 01: "by rising number": a number put among rising ones, once
unfoldable pub insert : ℕ → List ℕ → List ℕ
insert n [] = n ∷ []
insert n (x ∷ xs) = cond (ltb n x) (n ∷ x ∷ xs) (cond (eqb n x) (x ∷ xs) (x ∷ insert n xs))

-- 01: "by rising number": the number put among the others, or left out
abbrev pub insert_if : Bool → ℕ → List ℕ → List ℕ
insert_if true n xs = insert n xs
insert_if false n xs = xs

-- 01: "waiting under a number": the numbers with the one under which the slot waits, if it passes a test
abbrev pub with_waiting : Slot → (ℕ → Bool) → List ℕ → List ℕ
with_waiting Empty p xs = xs
with_waiting (Waiting n) p xs = insert_if (p n.0) n.0 xs
with_waiting (Stamped t) p xs = xs

-- 01: "by rising number": the numbers that pass a test under which one of the first k slots waits
unfoldable pub waiting_numbers : List ℕ → (ℕ → Bool) → ℕ → List ℕ
waiting_numbers c p zero = []
waiting_numbers c p (suc k) = with_waiting (cell_at c k).state p (waiting_numbers c p k)

-- 01: "committed with waiting versions": a live committed transaction's place, with its count made afresh
unfoldable pub live_place : List ℕ → List Placed → List ℕ → ℕ → ℕ → ℕ → Place
live_place m log c slots n t = record {
  life = Committed (record { 0 = n }) (record { 0 = t }) (record { 0 = end_of_commitment (commit_under log n) });
  waiting = count_waiting c n slots;
}

-- 01: "Table pairs that are live retain their places": the k places from place i on
unfoldable pub table_places : List ℕ → List Placed → List ℕ → ℕ → ℕ → ℕ → List Place
table_places m log c slots i zero = []
table_places m log c slots i (suc k) =
    let n = (table_pair m i).number.0 in
    cond (not (eqb n 0) && ltb 0 (count_waiting c n slots)) (live_place m log c slots n (table_pair m i).time.0) free_place
    ∷ table_places m log c slots (i + 1) k

-- 01: "take free ones": p put in the place found, if one was found
abbrev pub take_at : Option ℕ → List Place → Place → List Place
take_at (Some i) ps p = set ps i p
take_at None ps p = ps

-- 01: "live log pairs": the time of a commit record, 0 if there is none
abbrev pub time_or_zero : Option Commitment → ℕ
time_or_zero (Some x) = x.time
time_or_zero None = 0

-- 01: "live log pairs without one take free ones by rising number"
unfoldable pub take_free : List ℕ → List Placed → List ℕ → ℕ → List Place → List ℕ → List Place
take_free m log c slots ps [] = ps
take_free m log c slots ps (n ∷ ns) =
    take_free m log c slots
    (take_at (first (λ i. is_free (place_at ps i).life) 64 0) ps (live_place m log c slots n (time_or_zero (commit_under log n)))) ns

-- 01: "Waiting versions without a pair count as never committed": has the number a pair?
unfoldable pub is_paired : List ℕ → List Placed → ℕ → Bool
is_paired m log n = is_timed (pair_time m log n)

-- 01: "live log pairs without one": the number has a pair in the log and no place in the table
unfoldable pub in_log_alone : List ℕ → List Placed → ℕ → Bool
in_log_alone m log n = not (is_at (table_find m n)) && is_timed (time_of_commitment (commit_under log n))

-- 01: "Table pairs that are live retain their places; live log pairs without one take free ones": all 64 places
unfoldable pub open_places : List ℕ → List Placed → List ℕ → ℕ → List Place
open_places m log c slots =
    take_free m log c slots (table_places m log c slots 0 64) (waiting_numbers c (in_log_alone m log) slots)
