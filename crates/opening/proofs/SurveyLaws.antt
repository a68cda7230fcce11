-- What the survey of a medium goes by: its master, the end of its log, and what each finding makes of "well formed".
-- By the definitions; assumes nothing.
use mathlib.Core.Path.{◌≡◌, refl, sym, ap, ◌∙◌}
use mathlib.Core.Bool.{Bool, true, false, ◌&&◌}
use Prim.Native.Nat.{ℕ, zero, suc, ◌+◌, ◌-◌, ◌*◌, ◌≤◌, ◌<◌, ◌^◌}
use native.Mathlib.Nat.{add-zero}
use native.Mathlib.Numerals.{add-one}
use native.Mathlib.Omega.{arith}
use mathlib.Core.List.{List, []}
use lib.ListN.{length, take, drop}
use lib.Dec.{eqb, leb, ltb}
use borrow.Author.Tests.{ltb-true, eqb-true}
use Rattle.fields.specs.Field.{dec}
use Rattle.fields.specs.Block.{blk, log_block_at, end_place}
use Rattle.layout.specs.Page.{page_used}
use Rattle.layout.specs.Journal.{sequence_of, used_of, used_form, parsed, empty_block}
use Rattle.layout.specs.Master.{master_of, oldest_on}
use Rattle.layout.specs.declared.master.Fields.{Fields}
use Rattle.std.specs.Prelude.{Option, Some, None}
use Rattle.fields.proofs.Choose.{cond_elim, and_0, and_1}
use Rattle.fields.proofs.FieldLaws.{Bytes, dec_part_lt}
use Rattle.fields.proofs.PartLaws.{lent_part}
use Rattle.fields.proofs.BlockLaws.{part_blk, length_blk}
use Rattle.layout.proofs.MasterLaws.{MasterParts, master_parts, oldest_on_is}
use Rattle.layout.proofs.JournalLaws.{sequence_empty_block, used_empty_block}
use Rattle.store.specs.OpenLog.{next_on, block_of, matching, read_count, read_tail, log_end, next_number, last_time}
use Rattle.store.specs.OpenRedo.{used_in}
use Rattle.store.specs.OpenConditions.{sizes_are, low_after_all, full_before}
use Rattle.conditions.specs.Cursor.{Ready}
use Rattle.conditions.specs.Passes.{all_of, page_ok, place_ok, slot_ok, records_ok, master_ok, blocks_ok, table_and_slots, medium_ok}
use Rattle.conditions.proofs.BlockPasses.{bytes_blk}
use Rattle.conditions.proofs.CursorLaws.{block_lent, block_in, matching_low}

-- ---- the master: r is what was read of it

pub master_broken : (m : List ℕ) (l d : ℕ) (r : Option Fields) → r ≡ master_of (blk m 0) → r ≡ None → false ≡ master_ok m l d
unfolding master_ok
master_broken m l d r e f = sym (rw (sym e ∙ f))

module _ (m : List ℕ) (l d : ℕ) (r : Option Fields) (f : Fields) (read : r ≡ master_of (blk m 0)) (whole : r ≡ Some f) where
  fields : MasterParts (blk m 0) f
  fields = master_parts (blk m 0) f (sym read ∙ whole)

  oldest_is : oldest_on m ≡ f.oldest
  oldest_is = oldest_on_is m ∙ sym fields.oldest

  next_is : next_on m ≡ f.next.0
  unfolding next_on
  next_is = ap dec (sym (part_blk m 0 24 8 (omega arith))) ∙ sym fields.next

  pub master_is : master_ok m l d ≡ ((eqb f.blocks l && eqb f.pages d) && (leb 1 f.oldest && (ltb f.oldest (2 ^ 48) && leb 1 f.next.0)))
  unfolding master_ok
  master_is = rw (sym read ∙ whole, oldest_is, next_is)

-- ---- the tail and the end of the log: s is the oldest sequence, k the count of blocks read

-- every block that is read has its sequence
pub matching_read : (m : List ℕ) (l s n k : ℕ) → k < matching m l s n → sequence_of (block_of m l (s + k)) ≡ s + k
unfolding matching
matching_read m l s zero k h = absurd (omega arith)
matching_read m l s (suc n) k h =
    cond_elim (λ x. k < x → sequence_of (block_of m l (s + k)) ≡ s + k) (eqb (sequence_of (block_of m l s)) s) (go k (λ j. matching_read m l (s + 1) n j)) (λ _ h. absurd (omega arith)) h
  where
    go : (k : ℕ) → ((j : ℕ) → j < matching m l (s + 1) n → sequence_of (block_of m l (s + 1 + j)) ≡ s + 1 + j) → eqb (sequence_of (block_of m l s)) s ≡ true
        → k < suc (matching m l (s + 1) n) → sequence_of (block_of m l (s + k)) ≡ s + k
    go zero f t h = rw add-zero (eqb-true (sequence_of (block_of m l s)) s t)
    go (suc k) f t h = let e : s + 1 + k ≡ s + suc k = omega arith in rw e at (f k (omega arith))

pub used_below : (b : List ℕ) → Bytes b → length b ≡ 512 → used_of b < 65536
unfolding used_of
used_below b k h = dec_part_lt b 8 2 k (omega arith)

module _ (m : List ℕ) (l s k : ℕ) (oldest : s ≡ oldest_on m) (count : k ≡ read_count m l) where
  module _ (none : k ≡ 0) where
    pub tail_none : (b : List ℕ) → b ≡ empty_block s → b ≡ read_tail m l
    unfolding read_tail
    tail_none b e = let z : read_count m l ≡ 0 = sym count ∙ none in e ∙ sym (rw (z, oldest))

    pub end_none : s < 2 ^ 48 → 512 * s + 10 ≡ log_end m l
    unfolding log_end end_place
    end_none h = rw (← tail_none (empty_block s) refl, sequence_empty_block s (omega arith), used_empty_block s)

  module _ (some : k ≡ 0 → ⊥) (start : ℕ) (at-start : start ≡ 512 * log_block_at l (s + k - 1)) where
    tail_is : read_tail m l ≡ block_of m l (s + k - 1)
    unfolding read_tail
    tail_is =
        let c : read_count m l ≡ suc (k - 1) = sym count ∙ omega arith in
        let e : s + k - 1 ≡ s + (k - 1) = omega arith in
        rw (c, e, oldest)

    sequence_is : sequence_of (block_of m l (s + k - 1)) ≡ s + k - 1
    unfolding read_count
    sequence_is =
        let e : s + k - 1 ≡ s + (k - 1) = omega arith in
        let c : k ≡ matching m l s l = rw (← oldest) at count in
        rw e (matching_read m l s l (k - 1) (omega arith))

    pub tail_last : (b : List ℕ) → b ≡ take (start + 512 - start) (drop start m) → b ≡ read_tail m l
    tail_last b e = e ∙ block_lent m l (s + k - 1) start at-start ∙ sym tail_is

    pub end_last : (u : ℕ) → u ≡ used_of (take (start + 512 - start) (drop start m)) → 512 * (s + k - 1) + u ≡ log_end m l
    unfolding log_end end_place
    end_last u e = rw (tail_is, sequence_is, e, block_lent m l (s + k - 1) start at-start)

    -- the block lies within the medium, and its used bytes are a number of two bytes
    pub last_in : Ready l (length m) → start + 512 ≤ length m
    last_in r = rw at-start (block_in m l r (s + k - 1))

    pub last_used : Ready l (length m) → Bytes m → (u : ℕ) → u ≡ used_of (take (start + 512 - start) (drop start m)) → u < 65536
    unfolding block_of
    last_used r w u e =
        let b = block_of m l (s + k - 1) in
        let f : u ≡ used_of b = rw (block_lent m l (s + k - 1) start at-start) at e in
        rw f (used_below b (bytes_blk m (log_block_at l (s + k - 1)) w) (length_blk m (log_block_at l (s + k - 1)) (block_in m l r (s + k - 1))))

-- ---- the slots that are used: the page at `a`

pub used_turn : (c : List ℕ) (p n u a : ℕ) → a ≡ 512 * p → n ≡ used_in c p → u ≡ page_used (take (a + 512 - a) (drop a c)) → n + u ≡ used_in c (p + 1)
unfolding used_in blk
used_turn c p n u a ha hn hu = rw (add-one, ← hn, ← ha, hu, lent_part c a 512)

-- ---- the medium

module _ (m : List ℕ) (l d : ℕ) where
  pub no_master : master_ok m l d ≡ false → medium_ok m l d ≡ false
  unfolding medium_ok
  no_master e = rw e

  pub oldest_low : master_ok m l d ≡ true → oldest_on m < 2 ^ 48
  unfolding master_ok
  oldest_low e =
      let a = leb 1 (oldest_on m) in
      let b = ltb (oldest_on m) (2 ^ 48) in
      let c = leb 1 (next_on m) in
      let f : a && (b && c) ≡ true = and_1 (sizes_are (master_of (blk m 0)) l d) (a && (b && c)) e in
      ltb-true (oldest_on m) (2 ^ 48) (and_0 b c (and_1 a (b && c) f))

  pub blocks_below : (low s k : ℕ) → blocks_ok m l d low s k ≡ true → s ≤ 2 ^ 48 → s + k ≤ 2 ^ 48
  unfolding blocks_ok
  blocks_below low s zero e h = omega arith
  blocks_below low s (suc k) e h =
      let b = block_of m l s in
      let a = ltb s (2 ^ 48) in
      let t = used_form b && (records_ok d low (parsed b).records && (parsed b).whole) in
      let r = blocks_ok m l d (low_after_all low (parsed b).records) (s + 1) k in
      let i : s < 2 ^ 48 = ltb-true s (2 ^ 48) (and_0 a t (and_0 (a && t) r e)) in
      omega (arith, blocks_below (low_after_all low (parsed b).records) (s + 1) k (and_1 (a && t) r e) (omega arith))

  -- s is the oldest sequence, k the count that was read from it
  module _ (s k : ℕ) (oldest : s ≡ oldest_on m) (count : k ≡ matching m l s l) where
    pub count_is : k ≡ read_count m l
    unfolding read_count
    count_is = rw oldest at count

    pub count_low : k ≤ l
    count_low = rw count (matching_low m l s l)

    module _ (master : master_ok m l d ≡ true) where
      pub no_blocks : blocks_ok m l d 0 s k ≡ false → medium_ok m l d ≡ false
      unfolding medium_ok
      no_blocks e = rw (master, ← oldest, ← count_is, e)

      pub no_pages : blocks_ok m l d 0 s k ≡ true → all_of (page_ok m l d) 0 d ≡ false → medium_ok m l d ≡ false
      unfolding medium_ok
      no_pages e f = rw (master, ← oldest, ← count_is, e, f)

      pub all_in_form : blocks_ok m l d 0 s k ≡ true → all_of (page_ok m l d) 0 d ≡ true → medium_ok m l d ≡ true
      unfolding medium_ok
      all_in_form e f = rw (master, ← oldest, ← count_is, e, f)

-- ---- the table, the pages and the slots of the cache: t is what was found of the table

pub kept_is : (m : List ℕ) (l d : ℕ) (c : List ℕ) (next last : ℕ) → next ≡ next_number m l → last ≡ last_time m l → (t : Bool) → t ≡ all_of (place_ok m next last) 0 64
    → table_and_slots m l d c ≡ t && (all_of (full_before [] 0 d c) 0 d && all_of (slot_ok m l d c) 0 (15 * d))
unfolding table_and_slots full_before
kept_is m l d c next last e f t g = rw (g, e, f)
