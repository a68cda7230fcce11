-- An old medium opens as it did. Its log, its slots and its cache after the log read the same with both readers, so
-- each question has the same answer and each part of the outcome the same value; on a medium of another length both
-- openings refuse 1.
use Rattle.std.specs.Prelude.{Option, None, Some}
use Prim.Native.Nat.{ℕ, zero, suc, ◌+◌, ◌*◌, ◌≤◌, ◌<◌}
use native.Mathlib.Omega.{arith}
use mathlib.Core.Path.{◌≡◌, refl, ap, fun_ext}
use mathlib.Core.Bool.{Bool, ◌&&◌}
use mathlib.Core.List.{List}
use lib.ListN.{length}
use lib.Dec.{eqb}
use borrow.Author.Tests.{eqb-true}
use Rattle.fields.specs.Block.{blk, log_block_at, page_block_at, medium_length, cache_length}
use Rattle.layout.specs.Journal.{parsed, used_form}
use Rattle.layout.specs.Page.{page_form}
use Rattle.layout.specs.Master.{oldest_on}
use Rattle.fields.proofs.Choose.{bool_case, and_1}
use Rattle.fields.proofs.CellLaws.{Each}
use Rattle.store.specs.declared.Refusal.{Refusal}
use Rattle.store.specs.State.{in_range}
use Rattle.store.specs.OpenLog.{Placed, block_of, read_count, read_log, next_number, last_time}
use Rattle.store.specs.OpenRedo.{pages_on}
use Rattle.store.specs.OpenConditions.{all_hold, forms_of, block_checks, fields_in_form, records_whole, numbers_left}
use Rattle.store.specs.OpenConditions.{pairs_once, earlier_true, time_below, not_falling, pair_in_bounds, slot_true}
use Rattle.store.specs.OpenConditions.{history_true, from_one, few_waiting, copied, redone, applied_next, conditions}
use Rattle.store.specs.OpenConditions.{well_formed}
use Rattle.store.specs.Open.{opened_state, open_if, open_of}
use Rattle.runs.specs.Earlier.{log_before, parsed_before, forms_before, page_form_before, cell_at_before, next_before}
use Rattle.runs.specs.Earlier.{last_before, time_at_before, time_below_before, slot_true_before, pair_in_bounds_before}
use Rattle.runs.specs.Earlier.{fields_before, records_before, redone_before, history_before, from_one_before}
use Rattle.runs.specs.Earlier.{conditions_before, state_before, open_if_before, open_before, Old, OpensAsBefore}
use Rattle.runs.proofs.Lengths.{length_pages_on}
use Rattle.runs.proofs.EarlierReads.{Small, Along, BlockSmall, each_same, bytes_of_law, parsed_same, forms_same}
use Rattle.runs.proofs.EarlierReads.{blocks_small, log_small, logged_same, records_same, Low, page_form_same}
use Rattle.runs.proofs.EarlierReads.{slot_copied, low_within, low_redo, at_same, version_same, newest_same}

-- the k numbers from s on, each with its bounds
along_all : (P : ℕ → Type 0) (s k : ℕ) → ((j : ℕ) → s ≤ j → j < s + k → P j) → Along P s k
along_all P s zero f = tt
along_all P s (suc k) f =
    (f s (omega arith) (omega arith), along_all P (s + 1) k (λ j a b. f j (omega arith) (omega arith)))

module _ (m : List ℕ) (l d : ℕ) (old : Old m l d) where
  -- ---- the log

  blocks : Along (BlockSmall m l) (oldest_on m) (read_count m l)
  unfolding read_log
  blocks = blocks_small m l (bytes_of_law m old.bytes) (oldest_on m) (read_count m l) old.log

  records : Each (λ (x : Placed). Small x.rec) (read_log m l)
  unfolding read_log
  records = log_small m l (oldest_on m) (read_count m l) blocks

  log_same : read_log m l ≡ log_before m l
  unfolding read_log log_before
  log_same = logged_same m l (oldest_on m) (read_count m l) blocks

  next_same : next_number m l ≡ next_before m l
  unfolding next_number next_before
  next_same = rw log_same

  last_same : last_time m l ≡ last_before m l
  unfolding last_time last_before
  last_same = rw log_same

  -- ---- the conditions

  block_form : (s : ℕ) → BlockSmall m l s
      → used_form (block_of m l s) && forms_of (parsed (block_of m l s)).records
      ≡ used_form (block_of m l s) && forms_before (parsed_before (block_of m l s)).records
  block_form s a = rw (forms_same (parsed (block_of m l s)).records a, parsed_same (block_of m l s) a)

  page_form_law : (p : ℕ) → p < d → page_form (blk m (page_block_at l p)) ≡ page_form_before (blk m (page_block_at l p))
  page_form_law p h =
      page_form_same (blk m (page_block_at l p))
      (λ i k. rw (slot_copied m l d p i h k) (old.slots (15 * p + i) (omega arith)))

  fields_same : fields_in_form m l d ≡ fields_before m l d
  unfolding fields_in_form fields_before block_checks
  fields_same =
      rw (
        each_same (BlockSmall m l) _ _ (oldest_on m) (read_count m l)
            (λ s a. ap (λ (t : Bool). (t, log_block_at l s)) (block_form s a)) blocks,
        each_same (λ p. p < d) _ _ 0 d (λ p h. ap (λ (t : Bool). (t, page_block_at l p)) (page_form_law p h))
            (along_all (λ p. p < d) 0 d (λ j a b. omega arith)),
      )

  whole_same : records_whole m l d ≡ records_before m l d 0 (oldest_on m) (read_count m l)
  unfolding records_whole
  whole_same = records_same m l d 0 (oldest_on m) (read_count m l) blocks

  -- those on a cache with no high byte
  module _ (c : List ℕ) (low : Low c) where
    time_below_same : (key n : ℕ) → time_below m l d c key n ≡ time_below_before m l c key n
    unfolding time_below time_below_before time_at_before
    time_below_same key zero = refl
    time_below_same key (suc n) = rw (version_same c low key n, at_same c low n, log_same, time_below_same key n)

    slot_true_same : (n : ℕ) → slot_true m l d c n ≡ slot_true_before m l c n
    unfolding slot_true slot_true_before earlier_true not_falling time_at_before
    slot_true_same n =
        let k = (cell_at_before c n).key in
        rw (at_same c low n, newest_same c low k n, time_below_same k n, log_same, next_same, last_same)

  pair_in_bounds_same : (c : List ℕ) (i : ℕ) → pair_in_bounds m l d c i ≡ pair_in_bounds_before m l i
  unfolding pair_in_bounds pair_in_bounds_before
  pair_in_bounds_same c i = rw (next_same, last_same)

  redone_same : redone m l d ≡ redone_before m l d
  unfolding redone redone_before
  redone_same = rw log_same

  module _ (size : length m ≡ medium_length l d) where
    low_redone : Low (redone_before m l d).cache
    unfolding redone_before copied
    low_redone =
        let q : length (pages_on m l d) ≡ cache_length d = length_pages_on m l d size in
        low_redo d (copied m l d) (log_before m l) q (rw log_same at records)
        (low_within (pages_on m l d) d q old.slots)

    pub low_opened : Low (redone m l d).cache
    low_opened = rw redone_same low_redone

    history_same : history_true m l d (redone m l d).cache ≡ history_before m l d
    unfolding history_true history_before
    history_same =
        let c = (redone_before m l d).cache in
        rw (redone_same, fun_ext (pair_in_bounds_same c), fun_ext (slot_true_same c low_redone))

    from_one_same : from_one m l d (redone m l d).cache ≡ from_one_before m l d
    unfolding from_one from_one_before
    from_one_same =
        let c = (redone_before m l d).cache in
        rw (redone_same, log_same, fun_ext (at_same c low_redone))

    conditions_same : conditions m l d ≡ conditions_before m l d
    unfolding conditions conditions_before applied_next numbers_left pairs_once few_waiting
    conditions_same = rw (fields_same, whole_same, history_same, from_one_same, redone_same, log_same)

    well_same : well_formed m l d ≡ all_hold (conditions_before m l d)
    unfolding well_formed
    well_same = rw conditions_same

  state_same : opened_state m l d ≡ state_before m l d
  unfolding opened_state state_before
  state_same = rw (redone_same, next_same, last_same, log_same)

  if_same : (a : Option Refusal) (c : List ℕ) → open_if a m c l d ≡ open_if_before a m c l d
  unfolding open_if open_if_before
  if_same (Some r) c = refl
  if_same None c = rw (last_same, state_same, redone_same)

  opens_same : (c : List ℕ) → open_of m c l d ≡ open_before m c l d
  unfolding open_of open_before
  opens_same c =
      let sizes = in_range l d && eqb (length m) (medium_length l d) in
      bool_case sizes
      (λ t. rw (well_same (eqb-true (length m) (medium_length l d)
      (and_1 (in_range l d) (eqb (length m) (medium_length l d)) t))) (if_same _ c))
      (λ f. rw f (if_same _ c))

-- 02, #104: "Old media open unchanged"
pub opens_as_before : OpensAsBefore
unfolding OpensAsBefore
opens_as_before m c l d old = opens_same m l d old c
