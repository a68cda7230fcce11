-- Opening: 01's "well formed?", ten conditions from semicolon to semicolon. Each is a list of items in the order master,
-- table, log by sequence, pages by slot: whether the item keeps it, and the item's block.
use Rattle.layout.specs.declared.CommitTime.{CommitTime}
use Rattle.std.specs.Prelude.{ℕ, zero, suc, ◌+◌, ◌-◌, ◌*◌, ◌/◌, ◌^◌, Bool, true, false, cond, not, ◌&&◌, ◌||◌, List, [], ◌∷◌, ◌++◌, length, eqb, leb, ltb, Option, None, Some}
use Rattle.fields.specs.Block.{blk, log_block_at, page_block_at}
use Rattle.layout.specs.Page.{page_form, page_end, page_used}
use Rattle.layout.specs.Journal.{Record, version, commit, used_form, record_form, parsed}
use Rattle.layout.specs.Table.{table_pair, pair_form}
use Rattle.layout.specs.Master.{master_of, oldest_on}
use Rattle.layout.specs.declared.master.Fields.{Fields}
use Rattle.layout.specs.declared.slot.Slot.{Slot}
use Rattle.layout.specs.declared.slot.Slot.TheVariants.{Empty, Waiting, Stamped}
use Rattle.store.specs.Places.{first, is_at}
use Rattle.store.specs.Write.{or_none}
use Rattle.store.specs.Chain.{cell_at, is_version, version_of, version_time, newest}
use Rattle.store.specs.OpenLog.{Placed, number_in, commit_under, Commitment, next_on, block_of, read_count, read_log, log_end, next_number, last_time}
use Rattle.store.specs.OpenRedo.{Redone, pages_on, untouched, redo, redo_checks}
use Rattle.store.specs.OpenPairs.{table_find, pair_time, is_paired, waiting_numbers}

-- 01: "Open: well formed? 3": the items of a condition: whether each keeps it, and its block
abbrev pub Checks : Type 0
Checks = List (Bool × ℕ)

-- 01: "well formed? 3": does every item keep the condition?
unfoldable pub holds : Checks → Bool
holds [] = true
holds (x ∷ xs) = x.0 && holds xs

-- 01: "well formed? 3": does every condition hold?
unfoldable pub all_hold : List Checks → Bool
all_hold [] = true
all_hold (x ∷ xs) = holds x && all_hold xs

-- 01: "well formed? 3": the block of the first item that breaks the condition
unfoldable pub broken : Checks → Option ℕ
broken [] = None
broken (x ∷ xs) = cond x.0 (broken xs) (Some x.1)

-- 01: "well formed? 3": a check for each of the k numbers from i on
unfoldable pub each : (ℕ → Bool × ℕ) → ℕ → ℕ → Checks
each f i zero = []
each f i (suc k) = f i ∷ each f (i + 1) k

-- 01: "well formed? 3": a list of checks for each of the k numbers from i on, one behind the other
unfoldable pub each_list : (ℕ → Checks) → ℕ → ℕ → Checks
each_list f i zero = []
each_list f i (suc k) = f i ++ each_list f (i + 1) k

-- 01: "pair table (1 and 2)": the block of a table place
abbrev pub table_block_of : ℕ → ℕ
table_block_of i = 1 + i / 32

-- 01: "64 places of 16 bytes": a check for each place of the table
unfoldable pub table_checks : (ℕ → Bool) → Checks
table_checks f = each (λ i. (f i, table_block_of i)) 0 64

-- 01: "L and D as given": is the master whole, with these sizes?
abbrev pub sizes_are : Option Fields → ℕ → ℕ → Bool
sizes_are (Some f) l d = eqb f.blocks l && eqb f.pages d
sizes_are None l d = false

-- 01: "Fields as above": is every record in form (kind 0 or 1, an erased value zeros; 02, #104: a record number of "0 to 1,023")?
unfoldable pub forms_of : List Record → Bool
forms_of [] = true
forms_of (r ∷ rs) = record_form r && forms_of rs

-- 01: "their slots below 15 × D, commit times rising": one record; `low` is one more than the commit time before it, 0
-- if there is none
abbrev pub record_fits : ℕ → ℕ → Record → Bool
record_fits d low (version h v) = ltb h.slot (15 * d)
record_fits d low (commit p) = leb low p.time.0

-- 01: "commit times rising": `low` for the record after this one
abbrev pub low_after : ℕ → Record → ℕ
low_after low (version h v) = low
low_after low (commit p) = p.time.0 + 1

-- 01: "their slots below 15 × D, commit times rising": all records of a block
unfoldable pub records_fit : ℕ → ℕ → List Record → Bool
records_fit d low [] = true
records_fit d low (r ∷ rs) = record_fits d low r && records_fit d (low_after low r) rs

-- 01: "commit times rising": `low` behind all records of a block
unfoldable pub low_after_all : ℕ → List Record → ℕ
low_after_all low [] = low
low_after_all low (r ∷ rs) = low_after_all (low_after low r) rs

-- 01: "numbers at least 1", "logged numbers below 2^64 - 1": a check for each record of the log
unfoldable pub log_checks : ℕ → (Record → Bool) → List Placed → Checks
log_checks l f [] = []
log_checks l f (x ∷ xs) = (f x.rec, log_block_at l x.seq) ∷ log_checks l f xs

-- 01: "numbers at least 1, times too"
abbrev pub at_least_one : Record → Bool
at_least_one (version h v) = leb 1 h.number.0
at_least_one (commit p) = leb 1 p.number.0 && leb 1 p.time.0

-- 01: "numbers at least 1, times too": those of a slot
abbrev pub slot_at_least_one : Slot → Bool
slot_at_least_one Empty = true
slot_at_least_one (Waiting n) = leb 1 n.0
slot_at_least_one (Stamped t) = leb 1 t.0

-- 01: "waiting .. numbers below the next, no stamp .. above the last time": those of a slot
abbrev pub slot_in_bounds : Slot → ℕ → ℕ → Bool
slot_in_bounds Empty next last = true
slot_in_bounds (Waiting n) next last = ltb n.0 next
slot_in_bounds (Stamped t) next last = leb t.0 last

-- 01: "a record's times never falling": the time of a version of the record, or what its lower ones have
abbrev pub time_or : Bool → Option CommitTime → Option CommitTime → Option CommitTime
time_or true (Some t) rest = Some t
time_or true None rest = rest
time_or false t rest = rest

-- 01: "a record's times never falling": the first time is not above the second, or one of them is not there
abbrev pub not_above : Option CommitTime → Option CommitTime → Bool
not_above (Some a) (Some b) = leb a.0 b.0
not_above (Some a) None = true
not_above None (Some b) = true
not_above None None = true

-- 01: "no number .. with two times": t is the time in the table place found, or none was found
abbrev pub same_time : Option ℕ → List ℕ → ℕ → Bool
same_time (Some i) m t = eqb (table_pair m i).time.0 t
same_time None m t = true

-- 01: "in two commit records or with two times": no commit record under the number before this one, and the table's
-- time for it where it has one
abbrev pub once_in : Record → List ℕ → Option Commitment → Bool
once_in (version h v) m before = true
once_in (commit p) m None = same_time (table_find m p.number.0) m p.time.0
once_in (commit p) m (Some x) = false

-- 01: "in two commit records or with two times": a check for each log record; `seen` are those before it
unfoldable pub once_checks : ℕ → List ℕ → List Placed → List Placed → Checks
once_checks l m seen [] = []
once_checks l m seen (x ∷ xs) =
    (once_in x.rec m (commit_under seen (number_in x.rec)), log_block_at l x.seq)
    ∷ once_checks l m (seen ++ (x ∷ [])) xs

module _ (m : List ℕ) (l d : ℕ) where
  -- 01: "reads the log from the oldest block": a check for each log block read
  unfoldable pub block_checks : (ℕ → Bool) → Checks
  block_checks f = each (λ s. (f s, log_block_at l s)) (oldest_on m) (read_count m l)

  -- 01: "Fields as above, L and D as given": condition 1
  unfoldable pub fields_in_form : Checks
  fields_in_form =
      (sizes_are (master_of (blk m 0)) l d, 0)
      ∷ (table_checks (λ i. pair_form (table_pair m i))
      ++ (block_checks (λ s. used_form (block_of m l s) && forms_of (parsed (block_of m l s)).records)
      ++ each (λ p. (page_form (blk m (page_block_at l p)), page_block_at l p)) 0 d))

  -- 01: "sequences from 1 to below 2^48": condition 2
  unfoldable pub sequences_in_range : Checks
  sequences_in_range =
      (leb 1 (oldest_on m) && ltb (oldest_on m) (2 ^ 48), 0) ∷ block_checks (λ s. leb 1 s && ltb s (2 ^ 48))

  -- 01: "log records whole, their slots below 15 × D, commit times rising": the k blocks from sequence s on
  unfoldable pub records_from : ℕ → ℕ → ℕ → Checks
  records_from low s zero = []
  records_from low s (suc k) =
      (records_fit d low (parsed (block_of m l s)).records && (parsed (block_of m l s)).whole, log_block_at l s)
      ∷ records_from (low_after_all low (parsed (block_of m l s)).records) (s + 1) k

  -- 01: "log records whole, their slots below 15 × D, commit times rising": condition 3
  unfoldable pub records_whole : Checks
  records_whole = records_from 0 (oldest_on m) (read_count m l)

  -- 01: "no page's end place above the log's end": condition 4
  unfoldable pub ends_logged : Checks
  ends_logged = each (λ p. (leb (page_end (blk m (page_block_at l p))) (log_end m l), page_block_at l p)) 0 d

  -- 01: "logged numbers below 2^64 - 1": condition 8
  unfoldable pub numbers_left : Checks
  numbers_left = log_checks l (λ r. ltb (number_in r) (2 ^ 64 - 1)) (read_log m l)

  -- 01: "no number in two table places": place i is empty, or no lower place has its number
  abbrev pub new_in_table : ℕ → Bool
  new_in_table i = eqb (table_pair m i).number.0 0 || not (is_at (first (λ j. eqb (table_pair m j).number.0 (table_pair m i).number.0) i 0))

  -- 01: "no number in two table places, in two commit records or with two times (one pair in table and log is
  -- allowed)": condition 9
  unfoldable pub pairs_once : Checks
  pairs_once = table_checks new_in_table ++ once_checks l m [] (read_log m l)

  -- what follows is judged after the log, on the cache c as redo leaves it
  module _ (c : List ℕ) where
    -- 01: "15 slots of 32 bytes": for each page a check of its own, then one for each of its 15 slots
    unfoldable pub page_checks : (ℕ → Bool) → (ℕ → Bool) → Checks
    page_checks page slot =
        each_list (λ p. (page p, page_block_at l p) ∷ each (λ i. (slot (15 * p + i), page_block_at l p)) 0 15) 0 d

    -- 01: "pages full before the last used": page p is full, or the last, or the next one has no used slot
    unfoldable pub full_before : ℕ → Bool
    full_before p = eqb (page_used (blk c p)) 15 || (eqb (p + 1) d || eqb (page_used (blk c (p + 1))) 0)

    -- 01: "earlier slots true": the record's newest version below it, or none
    unfoldable pub earlier_true : ℕ → Bool
    earlier_true n = eqb (cell_at c n).earlier (or_none (newest c (cell_at c n).key n))

    -- 01: "a record's times never falling": the time of its newest version below n that has one
    unfoldable pub time_below : ℕ → ℕ → Option CommitTime
    time_below key zero = None
    time_below key (suc n) =
        time_or (version_of c key n) (version_time (pair_time m (read_log m l)) (cell_at c n).state) (time_below key n)

    -- 01: "a record's times never falling": the time below slot n is not above its own, where both are there
    unfoldable pub not_falling : ℕ → Bool
    not_falling n = not_above (time_below (cell_at c n).key n) (version_time (pair_time m (read_log m l)) (cell_at c n).state)

    -- 01: "paired numbers below the next, no stamp or pair above the last time": a table place (the log's own pairs are
    -- by how the two are made)
    unfoldable pub pair_in_bounds : ℕ → Bool
    pair_in_bounds i =
        eqb (table_pair m i).number.0 0
        || (ltb (table_pair m i).number.0 (next_number m l) && leb (table_pair m i).time.0 (last_time m l))

    -- 01: "earlier slots true, a record's times never falling": both, and the bounds, if slot n holds a version
    unfoldable pub slot_true : ℕ → Bool
    slot_true n =
        not (is_version (cell_at c n).state)
        || (earlier_true n && (not_falling n && slot_in_bounds (cell_at c n).state (next_number m l) (last_time m l)))

    -- 01: "pages full before the last used .. no stamp or pair above the last time": condition 6
    unfoldable pub history_true : Checks
    history_true = table_checks pair_in_bounds ++ page_checks full_before slot_true

    -- 01: "numbers at least 1, times too but for the master's and an empty place's": condition 7
    unfoldable pub from_one : Checks
    from_one =
        (leb 1 (next_on m), 0)
        ∷ (table_checks (λ i. eqb (table_pair m i).number.0 0 || leb 1 (table_pair m i).time.0)
        ++ (log_checks l at_least_one (read_log m l)
        ++ page_checks (λ p. true) (λ n. slot_at_least_one (cell_at c n).state)))

    -- 01: "at most 64 waiting committed": condition 10
    unfoldable pub few_waiting : Checks
    few_waiting = (leb (length (waiting_numbers c (is_paired m (read_log m l)) (15 * d))) 64, 0) ∷ []

  -- 01: "It copies the pages": the cache before redo, with no page changed
  unfoldable pub copied : Redone
  copied = record { cache = pages_on m l d; first = untouched }

  -- 01: "applies version records": the cache and the first changes that redo leaves
  unfoldable pub redone : Redone
  redone = redo copied (read_log m l)

  -- 01: "every applied version in the next slot of its page": condition 5
  unfoldable pub applied_next : Checks
  applied_next = redo_checks l copied (read_log m l)

  -- 01: "well formed? 3": the ten conditions, in 01's order
  unfoldable pub conditions : List Checks
  conditions =
      fields_in_form
      ∷ sequences_in_range
      ∷ records_whole
      ∷ ends_logged
      ∷ applied_next
      ∷ history_true redone.cache
      ∷ from_one redone.cache
      ∷ numbers_left
      ∷ pairs_once
      ∷ few_waiting redone.cache
      ∷ []

  -- 01: "Open: well formed? 3": all ten hold
  unfoldable pub well_formed : Bool
  well_formed = all_hold conditions
