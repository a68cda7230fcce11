-- The opening as it was before request #104, kept to say that an old medium opens as it did: the readers of a log
-- record and of a slot, and what opening judges and finds by them. Whatever reads neither a record nor a record number
-- is the store's own, and so is the writer of a slot.
use Rattle.layout.specs.declared.CommitTime.{CommitTime}
use Rattle.std.specs.Prelude.{ℕ, zero, suc, ◌+◌, ◌-◌, ◌*◌, ◌^◌, ◌<◌, max, ◌≡◌, Bool, true, false, cond, not, ◌&&◌, ◌||◌, Option, None, Some, Ok}
use Rattle.std.specs.Prelude.{List, [], ◌∷◌, ◌++◌, length, get_or, drop, eqb, leb, ltb}
use Rattle.fields.specs.Field.{dec}
use Rattle.fields.specs.Part.{part}
use Rattle.fields.specs.Equal.{all_zero}
use Rattle.fields.specs.Block.{blk, log_block_at, page_block_at, medium_length, cache_length}
use Rattle.layout.specs.Item.{of_length, commit_item}
use Rattle.layout.specs.Journal.{Record, version, commit, Parsed, onward, body_of, used_form}
use Rattle.layout.specs.Slot.{Cell, kind_form, slot_state}
use Rattle.layout.specs.Page.{page_used, page_slot, cache_slot}
use Rattle.layout.specs.Table.{table_pair, pair_form}
use Rattle.layout.specs.Master.{master_of, oldest_on}
use Rattle.layout.specs.declared.item.Width.{Width}
use Rattle.layout.specs.declared.item.Width.TheVariants.{One, Two}
use Rattle.layout.specs.declared.item.VersionHead.{VersionHead}
use Rattle.layout.specs.declared.item.Item.{Item}
use Rattle.layout.specs.declared.item.Item.TheVariants.{End, Version, Commit, Number, Damaged}
use Rattle.store.specs.declared.Phase.TheVariants.{Idle}
use Rattle.store.specs.declared.Refusal.{Refusal}
use Rattle.store.specs.declared.Refusal.TheVariants.{BadSizes, BadCache, Malformed}
use Rattle.store.specs.declared.Answer.TheVariants.{Opened}
use Rattle.store.specs.declared.State.{State}
use Rattle.store.specs.Answer.{Outcome, leaves, refuses, ask}
use Rattle.store.specs.State.{in_range, no_state}
use Rattle.store.specs.Write.{or_none}
use Rattle.store.specs.Chain.{is_version, version_time}
use Rattle.store.specs.OpenLog.{Placed, place_from, number_in, above_all, latest, next_on, time_on, block_of}
use Rattle.store.specs.OpenLog.{read_count, read_log, read_tail, log_end}
use Rattle.store.specs.OpenRedo.{Redone, pages_on, redo, redo_checks, used_in}
use Rattle.store.specs.OpenPairs.{pair_time, is_paired, waiting_numbers, open_places}
use Rattle.store.specs.OpenConditions.{Checks, all_hold, each, table_checks, sizes_are, records_fit, low_after_all}
use Rattle.store.specs.OpenConditions.{log_checks, at_least_one, slot_at_least_one, slot_in_bounds, time_or, not_above}
use Rattle.store.specs.OpenConditions.{once_checks, block_checks, sequences_in_range, ends_logged, new_in_table}
use Rattle.store.specs.OpenConditions.{page_checks, full_before, copied}
use Rattle.store.specs.Open.{refused_cache, open_of}
use Rattle.runs.specs.Event.{are_bytes}

-- ---- the earlier reader of a log record

-- 01: "Tag 1, version, body 30 bytes: slot (2), record number (1), kind (1), earlier slot (2), transaction number (8),
-- value (16)"
unfoldable pub head_before : List ℕ → VersionHead
head_before b = record {
  width = One;
  slot = dec (part b 0 2);
  key = get_or b 2 0;
  kind = get_or b 3 0;
  earlier = dec (part b 4 2);
  number = record { 0 = dec (part b 6 8) };
}

-- 01: "Tag 1, version", "Tag 2, commit"; any other is damage
unfoldable pub item_before : List ℕ → Item
item_before bs =
    cond (eqb (length bs) 0) End
    (cond (ltb (length bs) 3) Damaged
    (cond (eqb (get_or bs 0 0) 1) (of_length 30 (dec (part bs 1 2)) (drop 3 bs) (Version (head_before (drop 3 bs))))
    (cond (eqb (get_or bs 0 0) 2) (commit_item (dec (part bs 1 2)) (drop 3 bs))
    Damaged)))

-- 01: "A record is tag, length, body": 3 + 30 bytes, 3 + 16 bytes
abbrev pub more_before : Item → List ℕ → (ℕ → Parsed) → Parsed
more_before End bs rest = record { records = []; whole = true }
more_before (Version h) bs rest = onward (version h (part (drop 3 bs) 14 16)) (rest 33)
more_before (Commit p) bs rest = onward (commit p) (rest 19)
more_before (Number t n) bs rest = record { records = []; whole = false }
more_before Damaged bs rest = record { records = []; whole = false }

-- 01: "log records whole": the records up to the first that is not; k bounds them
unfoldable pub parse_before : ℕ → List ℕ → Parsed
parse_before zero bs = record { records = []; whole = false }
parse_before (suc k) bs = more_before (item_before bs) bs (λ n. parse_before k (drop n bs))

-- 01: "Log block": its records
unfoldable pub parsed_before : List ℕ → Parsed
parsed_before b = parse_before (suc (length (body_of b))) (body_of b)

-- 01: "Fields as above": kind 0 or 1, an erased value zeros
unfoldable pub record_form_before : Record → Bool
record_form_before (version h v) = kind_form h.kind v
record_form_before (commit p) = true

module _ (m : List ℕ) (l : ℕ) where
  -- 01: "reads the log from the oldest block": the records of the k blocks from sequence s on
  unfoldable pub logged_before : ℕ → ℕ → List Placed
  logged_before s zero = []
  logged_before s (suc k) = place_from s 10 (parsed_before (block_of m l s)).records ++ logged_before (s + 1) k

  -- 01: "reads the log from the oldest block while sequences match": all records read
  unfoldable pub log_before : List Placed
  log_before = logged_before (oldest_on m) (read_count m l)

-- ---- the earlier reader of a slot

-- 01: "Slot bytes: 0 state, 1 record number, 2 kind (0 present, 1 erased), 3 zero, 4-5 earlier slot of that record"
unfoldable pub cell_before : List ℕ → Cell
cell_before s = record {
  state = slot_state s;
  key = get_or s 1 0;
  kind = get_or s 2 0;
  earlier = dec (part s 4 2);
  value = part s 16 16;
}

-- 01: "3 zero", "6-7 zero": a slot that holds a version is in form
unfoldable pub slot_form_before : List ℕ → Bool
slot_form_before s =
    (eqb (get_or s 0 0) 1 || eqb (get_or s 0 0) 2)
    && (eqb (get_or s 3 0) 0 && (all_zero (part s 6 2) && kind_form (get_or s 2 0) (part s 16 16)))

-- ---- the conditions as they were judged

-- 01: "Fields as above": is every record in form?
unfoldable pub forms_before : List Record → Bool
forms_before [] = true
forms_before (r ∷ rs) = record_form_before r && forms_before rs

-- 01: "15 slots of 32 bytes", "An empty slot and an erased value are zeros": the k slots of a page from slot i on
unfoldable pub slots_form_before : List ℕ → ℕ → ℕ → Bool
slots_form_before p i zero = true
slots_form_before p i (suc k) =
    cond (ltb i (page_used p)) (slot_form_before (page_slot p i)) (all_zero (page_slot p i))
    && slots_form_before p (i + 1) k

-- 01: "used slots, 1; zeros", "then 15 slots": a page is in form
unfoldable pub page_form_before : List ℕ → Bool
page_form_before p = leb (page_used p) 15 && (all_zero (part p 9 23) && slots_form_before p 0 15)

-- 01: "Slot n of the store is in page n div 15": what slot n of the cache holds
unfoldable pub cell_at_before : List ℕ → ℕ → Cell
cell_at_before c n = cell_before (cache_slot c n)

-- 01: "Slot bytes: 0 state, 1 record number": does slot n hold a version with this key?
unfoldable pub version_of_before : List ℕ → ℕ → ℕ → Bool
version_of_before c key n = is_version (cell_at_before c n).state && eqb (cell_at_before c n).key key

-- 01: "from the record's newest": the highest slot below n that holds a version of the record
unfoldable pub newest_before : List ℕ → ℕ → ℕ → Option ℕ
newest_before c key zero = None
newest_before c key (suc n) = cond (version_of_before c key n) (Some n) (newest_before c key n)

module _ (m : List ℕ) (l : ℕ) where
  -- 01: "Next number is the larger of the master's and the highest logged plus 1"
  unfoldable pub next_before : ℕ
  next_before = max (next_on m) (above_all (log_before m l))

  -- 01: "last time likewise, without the plus"
  unfoldable pub last_before : ℕ
  last_before = max (time_on m) (latest (log_before m l))

  -- 01: "A version's time is its stamp or its pair's time": that of slot n of the cache c
  unfoldable pub time_at_before : List ℕ → ℕ → Option CommitTime
  time_at_before c n = version_time (pair_time m (log_before m l)) (cell_at_before c n).state

  -- 01: "a record's times never falling": the time of its newest version below n that has one
  unfoldable pub time_below_before : List ℕ → ℕ → ℕ → Option CommitTime
  time_below_before c key zero = None
  time_below_before c key (suc n) = time_or (version_of_before c key n) (time_at_before c n) (time_below_before c key n)

  -- 01: "earlier slots true, a record's times never falling", and the bounds, if slot n holds a version
  unfoldable pub slot_true_before : List ℕ → ℕ → Bool
  slot_true_before c n =
      not (is_version (cell_at_before c n).state)
      || (eqb (cell_at_before c n).earlier (or_none (newest_before c (cell_at_before c n).key n))
      && (not_above (time_below_before c (cell_at_before c n).key n) (time_at_before c n)
      && slot_in_bounds (cell_at_before c n).state next_before last_before))

  -- 01: "paired numbers below the next, no stamp or pair above the last time": a table place
  unfoldable pub pair_in_bounds_before : ℕ → Bool
  pair_in_bounds_before i =
      eqb (table_pair m i).number.0 0
      || (ltb (table_pair m i).number.0 next_before && leb (table_pair m i).time.0 last_before)

module _ (m : List ℕ) (l d : ℕ) where
  -- 01: "Fields as above, L and D as given": condition 1
  unfoldable pub fields_before : Checks
  fields_before =
      (sizes_are (master_of (blk m 0)) l d, 0)
      ∷ (table_checks (λ i. pair_form (table_pair m i))
      ++ (block_checks m l d (λ s. used_form (block_of m l s) && forms_before (parsed_before (block_of m l s)).records)
      ++ each (λ p. (page_form_before (blk m (page_block_at l p)), page_block_at l p)) 0 d))

  -- 01: "log records whole, their slots below 15 × D, commit times rising": condition 3, of the k blocks from sequence
  -- s on
  unfoldable pub records_before : ℕ → ℕ → ℕ → Checks
  records_before low s zero = []
  records_before low s (suc k) = (
    records_fit d low (parsed_before (block_of m l s)).records && (parsed_before (block_of m l s)).whole,
    log_block_at l s,
  )
      ∷ records_before (low_after_all low (parsed_before (block_of m l s)).records) (s + 1) k

  -- 01: "It copies the pages", "applies version records": the cache and the first changes that redo leaves
  unfoldable pub redone_before : Redone
  redone_before = redo (copied m l d) (log_before m l)

  -- 01: "pages full before the last used .. no stamp or pair above the last time": condition 6
  unfoldable pub history_before : Checks
  history_before =
      table_checks (pair_in_bounds_before m l)
      ++ page_checks m l d redone_before.cache (full_before m l d redone_before.cache)
      (slot_true_before m l redone_before.cache)

  -- 01: "numbers at least 1, times too but for the master's and an empty place's": condition 7
  unfoldable pub from_one_before : Checks
  from_one_before =
      (leb 1 (next_on m), 0)
      ∷ (table_checks (λ i. eqb (table_pair m i).number.0 0 || leb 1 (table_pair m i).time.0)
      ++ (log_checks l at_least_one (log_before m l)
      ++ page_checks m l d redone_before.cache (λ p. true)
      (λ n. slot_at_least_one (cell_at_before redone_before.cache n).state)))

  -- 01: "well formed? 3": the ten conditions, in 01's order
  unfoldable pub conditions_before : List Checks
  conditions_before =
      fields_before
      ∷ sequences_in_range m l d
      ∷ records_before 0 (oldest_on m) (read_count m l)
      ∷ ends_logged m l d
      ∷ redo_checks l (copied m l d) (log_before m l)
      ∷ history_before
      ∷ from_one_before
      ∷ log_checks l (λ r. ltb (number_in r) (2 ^ 64 - 1)) (log_before m l)
      ∷ (table_checks (new_in_table m l d) ++ once_checks l m [] (log_before m l))
      ∷ ((leb (length (waiting_numbers redone_before.cache (is_paired m (log_before m l)) (15 * d))) 64, 0) ∷ [])
      ∷ []

  -- 01: "It copies the pages, reads the log", "after opening, the search begins at 0": the state of an opened medium
  unfoldable pub state_before : State
  state_before = record {
    blocks = l;
    pages = d;
    slots = used_in redone_before.cache d;
    next = record { 0 = next_before m l };
    last = record { 0 = last_before m l };
    saved = record { 0 = last_before m l };
    end = record { 0 = log_end m l };
    tail = read_tail m l;
    places = open_places m (log_before m l) redone_before.cache (15 * d);
    ring = 0;
    first = redone_before.first;
    phase = Idle;
  }

-- 01: "L, D (the caller's) in range, medium length right? 1", "cache length right? 2", "well formed? 3"
abbrev pub asks_before : List ℕ → List ℕ → ℕ → ℕ → List (Bool × Refusal)
asks_before m c l d =
    (in_range l d && eqb (length m) (medium_length l d), BadSizes)
    ∷ (eqb (length c) (cache_length d), BadCache)
    ∷ (all_hold (conditions_before m l d), Malformed)
    ∷ []

-- 01: "Opening stores nothing", "opening answers the last time"
unfoldable pub open_if_before : Option Refusal → List ℕ → List ℕ → ℕ → ℕ → Outcome
open_if_before (Some r) m c l d = refuses r no_state m (refused_cache r c)
open_if_before None m c l d =
    leaves (Ok (Opened (record { 0 = last_before m l }))) (state_before m l d) m (redone_before m l d).cache

-- 01: "In this order, those that fit the call": opening's outcome, as it was
unfoldable pub open_before : List ℕ → List ℕ → ℕ → ℕ → Outcome
open_before m c l d = open_if_before (ask (asks_before m c l d)) m c l d

-- ---- what an old medium is, and how it opens

-- 02, #104: "log tag 3 is a version record with a two-byte record number": is it of tag 1?
abbrev pub old_width : Width → Bool
old_width One = true
old_width Two = false

-- 02, #104: "Old media": a record of tag 1, or a commit
abbrev pub old_record : Record → Bool
old_record (version h v) = old_width h.width
old_record (commit p) = true

-- 02, #104: "Old media": is every record read an old one?
unfoldable pub old_log : List Placed → Bool
old_log [] = true
old_log (x ∷ xs) = old_record x.rec && old_log xs

-- 02, #104: "Old media", "their byte 3 is zero": a medium of bytes, no tag 3 in its log, and in its slots no record
-- number above 255
pub record Old (m : List ℕ) (l d : ℕ) : Type 0 where
  pub bytes : are_bytes m ≡ true
  pub log : old_log (read_log m l) ≡ true
  pub slots : (n : ℕ) → n < 15 * d → get_or (cache_slot (pages_on m l d) n) 3 0 ≡ 0

-- 02, #104: "Old media open unchanged": answer, state, medium and cache are those of the opening as it was, be it
-- refused or not
unfoldable pub OpensAsBefore : Type 0
OpensAsBefore = (m c : List ℕ) (l d : ℕ) → Old m l d → open_of m c l d ≡ open_before m c l d
