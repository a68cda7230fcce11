-- An accepted opening leaves a state that fits: its conditions give the ranges and the lengths, each page's used slots
-- are at most 15 before redo and after every record applied, and the tail is a block that the conditions judge.
use Rattle.std.specs.Prelude.{Option, Some, None, Ok}
use mathlib.Core.Path.{◌≡◌, refl, ap, ◌∙◌}
use mathlib.Core.Bool.{Bool, true, false, cond, ◌&&◌}
use mathlib.Core.List.{List, [], ◌∷◌, ◌++◌}
use Prim.Native.Nat.{ℕ, zero, suc, ◌+◌, ◌*◌, ◌%◌, ◌^◌, ◌≤◌, ◌<◌}
use native.Mathlib.Omega.{arith}
use native.Mathlib.Decide.{dec_lt}
use lib.ListN.{length, length-set, length-replicate}
use lib.Dec.{eqb, leb, ltb}
use borrow.Author.Tests.{ltb-true, leb-true, eqb-true}
use Rattle.fields.specs.Block.{blk, put, medium_length, cache_length, page_of, log_block_at, page_block_at}
use Rattle.layout.specs.Slot.{Cell}
use Rattle.layout.specs.Page.{page_form, page_used, put_cell, put_version}
use Rattle.layout.specs.Journal.{Record, version, commit, sequence_of, used_of, used_form, parsed}
use Rattle.layout.specs.Master.{master_of, oldest_on}
use Rattle.layout.specs.Table.{table_pair, pair_form}
use Rattle.layout.specs.declared.CommitTime.{CommitTime}
use Rattle.layout.specs.declared.item.VersionHead.{VersionHead}
use Rattle.fields.proofs.Choose.{and_0, and_1}
use Rattle.fields.proofs.PartLaws.{part_before}
use Rattle.fields.proofs.BlockLaws.{length_blk}
use Rattle.layout.proofs.PlaceLaws.{log_in_medium}
use Rattle.layout.proofs.PageLaws.{page_form_law}
use Rattle.layout.proofs.CacheLaws.{put_cell_used, length_put_version, put_version_page, put_version_beside}
use Rattle.store.specs.declared.Place.{Place}
use Rattle.store.specs.declared.Answer.TheVariants.{Opened}
use Rattle.store.specs.Answer.{Outcome}
use Rattle.store.specs.Places.{first, place_at, is_free}
use Rattle.store.specs.State.{in_range, fits}
use Rattle.store.specs.Write.{cell_for, touched}
use Rattle.store.specs.OpenLog.{Placed, block_of, matching, read_count, tail_after, read_tail, read_log, commit_under}
use Rattle.store.specs.OpenRedo.{Redone, applies, redo_if, redo_record, redo_one, redo, used_in, untouched}
use Rattle.store.specs.OpenPairs.{table_places, take_at, take_free, open_places, live_place, time_or_zero}
use Rattle.store.specs.OpenConditions.{Checks, holds, all_hold, each, table_checks, block_checks, sizes_are, forms_of}
use Rattle.store.specs.OpenConditions.{fields_in_form, sequences_in_range, conditions, well_formed, copied, redone}
use Rattle.store.specs.Open.{opened_state, open_of}
use Rattle.store.proofs.FitLaws.{InRange, TailFit, Fit, range_of, fit_is}
use Rattle.store.proofs.CopyLaws.{page_copied}
use Rattle.runs.proofs.Fitting.{empty_fits}
use Rattle.runs.proofs.Lengths.{length_pages_on}
use Rattle.runs.proofs.Refusals.{Opening, bad_sizes, bad_cache, malformed, opened, opening_way}

-- ---- a fact out of a list of checks

pub holds_left : (xs ys : Checks) → holds (xs ++ ys) ≡ true → holds xs ≡ true
unfolding holds
holds_left [] ys e = refl
holds_left (x ∷ xs) ys e =
    let f = holds_left xs ys (and_1 x.0 (holds (xs ++ ys)) e) in
    rw (and_0 x.0 (holds (xs ++ ys)) e) f

pub holds_right : (xs ys : Checks) → holds (xs ++ ys) ≡ true → holds ys ≡ true
unfolding holds
holds_right [] ys e = e
holds_right (x ∷ xs) ys e = holds_right xs ys (and_1 x.0 (holds (xs ++ ys)) e)

pub holds_each : (f : ℕ → Bool × ℕ) (i k n : ℕ) → i ≤ n → n < i + k → holds (each f i k) ≡ true → (f n).0 ≡ true
unfolding holds each
holds_each f i zero n lo hi e = absurd (omega arith)
holds_each f i (suc k) n lo hi e =
    go (λ h. holds_each f (i + 1) k n h (omega arith) (and_1 (f i).0 (holds (each f (i + 1) k)) e)) (dec_lt i n)
  where
    go : (i + 1 ≤ n → (f n).0 ≡ true) → Dec (i < n) → (f n).0 ≡ true
    go ih (yes h) = ih (omega arith)
    go ih (no h) = let q : n ≡ i = omega arith in rw q (and_0 (f i).0 (holds (each f (i + 1) k)) e)

-- ---- lengths

pub length_take_free : (m : List ℕ) (log : List Placed) (c : List ℕ) (slots : ℕ) (ps : List Place) (ns : List ℕ)
    → length (take_free m log c slots ps ns) ≡ length ps
unfolding take_free
length_take_free m log c slots ps [] = refl
length_take_free m log c slots ps (n ∷ ns) =
    let p = live_place m log c slots n (time_or_zero (commit_under log n)) in
    length_take_free m log c slots (take_at (first (λ i. is_free (place_at ps i).life) 64 0) ps p) ns
    ∙ one (first (λ i. is_free (place_at ps i).life) 64 0) p
  where
    one : (f : Option ℕ) (p : Place) → length (take_at f ps p) ≡ length ps
    one (Some i) p = length-set ps i p
    one None p = refl

pub length_table_places : (m : List ℕ) (log : List Placed) (c : List ℕ) (slots i k : ℕ)
    → length (table_places m log c slots i k) ≡ k
unfolding table_places
length_table_places m log c slots i zero = refl
length_table_places m log c slots i (suc k) = ap suc (length_table_places m log c slots (i + 1) k)

pub length_open_places : (m : List ℕ) (log : List Placed) (c : List ℕ) (slots : ℕ)
    → length (open_places m log c slots) ≡ 64
unfolding open_places
length_open_places m log c slots = length_take_free m log c slots _ _ ∙ length_table_places m log c slots 0 64

-- ---- redo

-- a cache of d pages with at most 15 used slots each, and first changes for 64 pages
pub record Sound (d : ℕ) (r : Redone) : Type 0 where
  pub cache : length r.cache ≡ cache_length d
  pub first : length r.first ≡ 64
  pub used : (p : ℕ) → p < d → page_used (blk r.cache p) ≤ 15

-- a page before that of slot n
page_before : (c : List ℕ) (n e : ℕ) (v : Cell) (p : ℕ) → p < page_of n → blk (put_version c n e v) p ≡ blk c p
unfolding put_version blk put
page_before c n e v p h = part_before c (512 * page_of n) _ (512 * p) 512 (omega arith)

-- a version in any slot n: the page has n mod 15 + 1 used slots then, the others what they had
put_used : (c : List ℕ) (d n e : ℕ) (v : Cell) → length c ≡ cache_length d
    → ((p : ℕ) → p < d → page_used (blk c p) ≤ 15)
    → (p : ℕ) → p < d → page_used (blk (put_version c n e v) p) ≤ 15
unfolding cache_length
put_used c d n e v len few p h = go (dec_lt p (page_of n)) (dec_lt (page_of n) p)
  where
    go : Dec (p < page_of n) → Dec (page_of n < p) → page_used (blk (put_version c n e v) p) ≤ 15
    go (yes a) b = rw (page_before c n e v p a) (few p h)
    go (no a) (yes b) = rw (put_version_beside c n (omega arith) e v p (λ q. omega arith)) (few p h)
    go (no a) (no b) =
        let w : 512 * page_of n + 512 ≤ length c = omega arith in
        let q : p ≡ page_of n = omega arith in
        let u : page_used (put_cell (blk c (page_of n)) (n % 15) e v) ≡ n % 15 + 1 =
        put_cell_used (blk c (page_of n)) (n % 15) e v (length_blk c (page_of n) w) in
        rw (q, put_version_page c n w e v) (omega arith)

pub one_sound : (d : ℕ) (r : Redone) (x : Placed) → Sound d r → Sound d (redo_one r x)
unfolding redo_one touched
one_sound d r x f = by x.rec
  where
    done : (h : VersionHead) (v : List ℕ) (b : Bool) → Sound d (redo_if b r h v x)
    done h v false = f
    done h v true = record {
      cache = length_put_version r.cache h.slot x.end (cell_for h v) ∙ f.cache;
      first = length-set r.first _ _ ∙ f.first;
      used = put_used r.cache d h.slot x.end (cell_for h v) f.cache f.used;
    }

    by : (rec : Record) → Sound d (redo_record rec r x)
    by (version h v) = done h v (applies r.cache h x.end)
    by (commit p) = f

pub redo_sound : (d : ℕ) (r : Redone) (xs : List Placed) → Sound d r → Sound d (redo r xs)
unfolding redo
redo_sound d r [] f = f
redo_sound d r (x ∷ xs) f = redo_sound d (redo_one r x) xs (one_sound d r x f)

pub used_few : (c : List ℕ) (d : ℕ) → ((p : ℕ) → p < d → page_used (blk c p) ≤ 15) → used_in c d ≤ 15 * d
unfolding used_in
used_few c zero few = omega arith
used_few c (suc d) few = omega (arith, few d (omega arith), used_few c d (λ p h. few p (omega arith)))

-- ---- the log that is read

-- a block counted has its own sequence
pub matching_at : (m : List ℕ) (l s k n : ℕ) → s ≤ n → n < s + matching m l s k → sequence_of (block_of m l n) ≡ n
unfolding matching
matching_at m l s zero n lo hi = absurd (omega arith)
matching_at m l s (suc k) n lo hi =
    go (eqb (sequence_of (block_of m l s)) s) refl hi (λ a b. matching_at m l (s + 1) k n a b)
  where
    go : (t : Bool) → eqb (sequence_of (block_of m l s)) s ≡ t → n < s + cond t (suc (matching m l (s + 1) k)) 0
        → (s + 1 ≤ n → n < s + 1 + matching m l (s + 1) k → sequence_of (block_of m l n) ≡ n)
        → sequence_of (block_of m l n) ≡ n
    go false t h ih = absurd (omega arith)
    go true t h ih = further (dec_lt s n)
      where
        further : Dec (s < n) → sequence_of (block_of m l n) ≡ n
        further (yes a) = ih (omega arith) (omega arith)
        further (no a) = let q : n ≡ s = omega arith in rw q (eqb-true (sequence_of (block_of m l s)) s t)

-- ---- what the conditions say

module _ (m : List ℕ) (l d : ℕ) (well : well_formed m l d ≡ true) where
  fields_hold : holds (fields_in_form m l d) ≡ true
  unfolding well_formed all_hold conditions
  fields_hold = and_0 (holds (fields_in_form m l d)) _ well

  sequences_hold : holds (sequences_in_range m l d) ≡ true
  unfolding well_formed all_hold conditions
  sequences_hold = and_0 (holds (sequences_in_range m l d)) _ (and_1 (holds (fields_in_form m l d)) _ well)

  -- condition 1, behind master and table: of the blocks read, and of the pages
  abbrev block_form : ℕ → Bool
  block_form s = used_form (block_of m l s) && forms_of (parsed (block_of m l s)).records

  abbrev page_check : ℕ → Bool × ℕ
  page_check p = (page_form (blk m (page_block_at l p)), page_block_at l p)

  blocks_pages : holds (block_checks m l d block_form ++ each page_check 0 d) ≡ true
  unfolding fields_in_form holds
  blocks_pages =
      holds_right (table_checks (λ i. pair_form (table_pair m i))) _
      (and_1 (sizes_are (master_of (blk m 0)) l d) _ fields_hold)

  -- s is the sequence of a block read
  module _ (s : ℕ) (lo : oldest_on m ≤ s) (hi : s < oldest_on m + read_count m l) where
    pub block_used : used_form (block_of m l s) ≡ true
    unfolding block_checks
    block_used =
        let e : block_form s ≡ true =
        holds_each (λ n. (block_form n, log_block_at l n)) (oldest_on m) (read_count m l) s lo hi
        (holds_left (block_checks m l d block_form) _ blocks_pages) in
        and_0 (used_form (block_of m l s)) _ e

    pub block_range : (1 ≤ s) × (s < 2 ^ 48)
    unfolding sequences_in_range block_checks holds
    block_range =
        let e : leb 1 s && ltb s (2 ^ 48) ≡ true =
        holds_each (λ n. (leb 1 n && ltb n (2 ^ 48), log_block_at l n)) (oldest_on m) (read_count m l) s lo hi
        (and_1 (leb 1 (oldest_on m) && ltb (oldest_on m) (2 ^ 48)) _ sequences_hold) in
        (leb-true 1 s (and_0 (leb 1 s) _ e), ltb-true s (2 ^ 48) (and_1 (leb 1 s) _ e))

    pub block_sequence : sequence_of (block_of m l s) ≡ s
    unfolding read_count
    block_sequence = matching_at m l (oldest_on m) l s lo hi

  pub oldest_range : (1 ≤ oldest_on m) × (oldest_on m < 2 ^ 48)
  unfolding sequences_in_range holds
  oldest_range =
      let e : leb 1 (oldest_on m) && ltb (oldest_on m) (2 ^ 48) ≡ true =
      and_0 (leb 1 (oldest_on m) && ltb (oldest_on m) (2 ^ 48)) _ sequences_hold in (
        leb-true 1 (oldest_on m) (and_0 (leb 1 (oldest_on m)) _ e),
        ltb-true (oldest_on m) (2 ^ 48) (and_1 (leb 1 (oldest_on m)) _ e),
      )

  pub page_in_form : (p : ℕ) → p < d → page_form (blk m (page_block_at l p)) ≡ true
  page_in_form p h =
      holds_each page_check 0 d p (omega arith) (omega arith)
      (holds_right (block_checks m l d block_form) _ blocks_pages)

  -- ---- the opened state

  module _ (range : InRange l d) (len : length m ≡ medium_length l d) where
    copied_sound : Sound d (copied m l d)
    unfolding copied untouched
    copied_sound = record {
      cache = length_pages_on m l d len;
      first = length-replicate {A = ℕ} 64 0;
      used = λ p h. rw (page_copied m l d p h) (page_form_law _ (page_in_form p h)).used;
    }

    pub redone_sound : Sound d (redone m l d)
    unfolding redone
    redone_sound = redo_sound d (copied m l d) (read_log m l) copied_sound

    block_fits : (s : ℕ) → oldest_on m ≤ s → s < oldest_on m + read_count m l → TailFit (block_of m l s)
    unfolding used_form block_of
    block_fits s lo hi =
        let u = used_of (blk m (log_block_at l s)) in
        let e = block_used s lo hi in
        let q = block_sequence s lo hi in
        let r = block_range s lo hi in
        record {
          used_low = leb-true 10 u (and_0 (leb 10 u) _ e);
          used_high = leb-true u 512 (and_0 (leb u 512) _ (and_1 (leb 10 u) _ e));
          sequence_low = rw q r.0;
          sequence_high = rw q r.1;
          size = length_blk m (log_block_at l s) (rw len (log_in_medium l d s (omega arith)));
        }

    pub tail_fits : TailFit (read_tail m l)
    unfolding read_tail
    tail_fits = go (read_count m l) refl
      where
        go : (k : ℕ) → read_count m l ≡ k → TailFit (tail_after m l k)
        go zero e = empty_fits (oldest_on m) oldest_range.0 oldest_range.1
        go (suc k) e = block_fits (oldest_on m + k) (omega arith) (omega arith)

    pub opened_fit : Fit (opened_state m l d) (length m) (length (redone m l d).cache)
    unfolding opened_state
    opened_fit = record {
      range = range;
      medium = len;
      cache = redone_sound.cache;
      slots = used_few (redone m l d).cache d redone_sound.used;
      tail = tail_fits;
      places = length_open_places m (read_log m l) (redone m l d).cache (15 * d);
      first = redone_sound.first;
    }

-- ---- an accepted opening

pub open_fits : (m c : List ℕ) (l d : ℕ) (t : CommitTime) → (open_of m c l d).answer ≡ Ok (Opened t)
    → fits (open_of m c l d).state (length m) (length (open_of m c l d).cache) ≡ true
open_fits m c l d t e = go (opening_way m c l d) e
  where
    go : {o : Outcome} → Opening m c l d o → o.answer ≡ Ok (Opened t) → fits o.state (length m) (length o.cache) ≡ true
    go bad_sizes e = let z : ◌≡◌ {A = ℕ} 0 1 = cc in absurd (omega arith)
    go bad_cache e = let z : ◌≡◌ {A = ℕ} 0 1 = cc in absurd (omega arith)
    go malformed e = let z : ◌≡◌ {A = ℕ} 0 1 = cc in absurd (omega arith)
    go (opened p) e =
        let r : InRange l d = range_of l d (and_0 (in_range l d) _ p.0) in
        let n : length m ≡ medium_length l d = eqb-true _ _ (and_1 (in_range l d) _ p.0) in
        fit_is _ _ _ (opened_fit m l d p.1.1.0 r n)
