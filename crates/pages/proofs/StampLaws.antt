-- A stamp changes its own slot alone, so the slots from slot i on say what they said when the page came, and what is found for each
-- is what the definitions find. The places that were found for the slots are those that settling counts down, in the same order.
use Rattle.layout.specs.declared.CommitTime.{CommitTime}
use Rattle.std.specs.Prelude.{Option, Some, None, fold}
use Rattle.std.proofs.Common.{below_more, ltb-true, ltb-false}
use Rattle.std.proofs.lemmas.List.Sums.{fold_push}
use Rattle.std.proofs.lemmas.List.{get_or-set_same, get_or-set_other, get_or_past, drop_all}
use mathlib.Core.Path.{◌≡◌, refl, sym, ap, ◌∙◌}
use mathlib.Core.Logic.{◌≢◌}
use mathlib.Core.Bool.{Bool, true, false}
use lib.Dec.{ltb}
use mathlib.Core.List.{List}
use Prim.Native.Nat.{ℕ, zero, suc, ◌+◌, ◌-◌, ◌*◌, ◌≤◌, ◌<◌}
use native.Mathlib.Nat.{add-zero}
use native.Mathlib.Numerals.{add-one}
use native.Mathlib.Omega.{arith}
use lib.ListN.{length, get_or, set, take, drop, length-set, replicate}
use lib.Seq.{drop-cons, take-suc}
use Rattle.fields.specs.Part.{part}
use Rattle.fields.specs.Block.{slot_in}
use Rattle.fields.proofs.PartLaws.{part_before, lent_part}
use Rattle.layout.specs.Slot.{slot_state, stamped}
use Rattle.layout.specs.Page.{page_slot, stamp_cell}
use Rattle.layout.specs.declared.slot.Slot.{Slot}
use Rattle.layout.specs.declared.slot.Slot.TheVariants.{Empty, Waiting, Stamped}
use Rattle.layout.proofs.CacheLaws.{stamp_cell_same, stamp_cell_other}
use Rattle.store.specs.declared.Place.{Place}
use Rattle.store.specs.Places.{place_at, find_committed, stored_under, time_up_to, at_found}
use Rattle.store.specs.StorePage.{stamp_time, stamp_with, stamp_from, lower_at, settle_with, settle_from}
use Rattle.store.proofs.LengthLaws.{length_stamp_with}
use Rattle.live.proofs.FirstLaws.{committed_below}
use Rattle.pages.specs.Stamped.{with_time, stamp_at, stamp_for, stamped_under, settled_under, place_of, place_for, AmongPlaces}

-- ---- one stamp

pub stamp_with_other : (t : Option CommitTime) (page : List ℕ) (i j : ℕ) → j ≢ i → page_slot (stamp_with t page i) j ≡ page_slot page j
stamp_with_other (Some t) page i j d = stamp_cell_other page i t.0 j d
stamp_with_other None page i j d = refl

-- a slot with a time
abbrev pub stamped_by : Option CommitTime → List ℕ → List ℕ
stamped_by (Some t) slot = stamped slot t.0
stamped_by None slot = slot

stamp_with_same : (t : Option CommitTime) (page : List ℕ) (i : ℕ) → length page ≡ 512 → i < 15
    → page_slot (stamp_with t page i) i ≡ stamped_by t (page_slot page i)
stamp_with_same (Some t) page i n h = stamp_cell_same page i t.0 n h
stamp_with_same None page i n h = refl

stamp_with_header : (t : Option CommitTime) (page : List ℕ) (i : ℕ) → part (stamp_with t page i) 0 32 ≡ part page 0 32
unfolding stamp_cell slot_in
stamp_with_header (Some t) page i = part_before page (32 + 32 * i) (stamped (page_slot page i) t.0) 0 32 (omega arith)
stamp_with_header None page i = refl

-- slot i as it is lent
pub lent_slot : (page : List ℕ) (i : ℕ) → take (32 + 32 * i + 32 - (32 + 32 * i)) (drop (32 + 32 * i) page) ≡ page_slot page i
unfolding page_slot slot_in
lent_slot page i = lent_part page (32 + 32 * i) 32

-- ---- the k slots from slot i on: lengths and the header stay, and each slot has its time

module _ (pair : ℕ → Option CommitTime) where
  -- a slot with the time that it waits for, and the page with slot i stamped so
  abbrev pub timed : List ℕ → List ℕ
  timed slot = stamped_by (stamp_time pair (slot_state slot)) slot

  abbrev turned : List ℕ → ℕ → List ℕ
  turned page i = stamp_with (stamp_time pair (slot_state (page_slot page i))) page i

  pub length_stamp_from : (k : ℕ) (page : List ℕ) (i : ℕ) → length (stamp_from pair page i k) ≡ length page
  unfolding stamp_from
  length_stamp_from zero page i = refl
  length_stamp_from (suc k) page i = length_stamp_from k (turned page i) (i + 1) ∙ length_stamp_with _ page i

  pub stamp_from_header : (k : ℕ) (page : List ℕ) (i : ℕ) → part (stamp_from pair page i k) 0 32 ≡ part page 0 32
  unfolding stamp_from
  stamp_from_header zero page i = refl
  stamp_from_header (suc k) page i = stamp_from_header k (turned page i) (i + 1) ∙ stamp_with_header _ page i

  -- a slot before them
  stamp_from_before : (k : ℕ) (page : List ℕ) (i j : ℕ) → j < i → page_slot (stamp_from pair page i k) j ≡ page_slot page j
  unfolding stamp_from
  stamp_from_before zero page i j h = refl
  stamp_from_before (suc k) page i j h =
      stamp_from_before k (turned page i) (i + 1) j (omega arith) ∙ stamp_with_other _ page i j (λ e. absurd (omega arith))

  -- a slot of them: d slots behind i
  stamp_from_slot : (d k : ℕ) (page : List ℕ) (i : ℕ) → length page ≡ 512 → d < k → i + d < 15
      → page_slot (stamp_from pair page i k) (i + d) ≡ timed (page_slot page (i + d))
  unfolding stamp_from
  stamp_from_slot d zero page i n h g = absurd (omega arith)
  stamp_from_slot zero (suc k) page i n h g =
      rw add-zero (stamp_from_before k (turned page i) (i + 1) i (omega arith) ∙ stamp_with_same _ page i n (omega arith))
  stamp_from_slot (suc d) (suc k) page i n h g =
      let e : i + suc d ≡ (i + 1) + d = omega arith in
      rw e (stamp_from_slot d k (turned page i) (i + 1) (length_stamp_with _ page i ∙ n) (omega arith) (omega arith)
      ∙ ap timed (stamp_with_other _ page i (i + 1 + d) (λ q. absurd (omega arith))))

  -- a slot of the whole page
  pub stamped_slot : (page : List ℕ) (i : ℕ) → length page ≡ 512 → i < 15
      → page_slot (stamp_from pair page 0 15) i ≡ timed (page_slot page i)
  stamped_slot page i n h =
      let e : 0 + i ≡ i = omega arith in rw e at (stamp_from_slot i 15 page 0 n h (omega arith))

-- ---- what is found for a slot

-- the time of what is found
abbrev time_of_stamp : Option (ℕ × CommitTime) → Option CommitTime
time_of_stamp (Some (i, t)) = Some t
time_of_stamp None = None

module _ (ps : List Place) (end : ℕ) where
  abbrev pair : ℕ → Option CommitTime
  pair = stored_under ps end

  -- it is the time with which the definitions stamp the slot
  found_time : (slot : Slot) → stamp_time pair slot ≡ time_of_stamp (stamp_for ps end slot)
  unfolding stamp_time stored_under stamp_for
  found_time Empty = refl
  found_time (Waiting n) = go (find_committed ps n.0)
    where
      by : (i : ℕ) (t : Option CommitTime) → t ≡ time_of_stamp (with_time i t)
      by i (Some t) = refl
      by i None = refl

      go : (f : Option ℕ) → at_found f (λ i. time_up_to (place_at ps i).life end) ≡ time_of_stamp (stamp_at ps end f)
      go (Some i) = by i (time_up_to (place_at ps i).life end)
      go None = refl
  found_time (Stamped t) = refl

  -- its place is the one that the definitions count down
  found_lower : (slot : Slot) (qs : List Place) → lower_at (place_for ps end slot) qs ≡ settle_with (stamp_time pair slot) slot ps qs
  unfolding stamp_time stored_under stamp_for place_for
  found_lower Empty qs = refl
  found_lower (Waiting n) qs = go (find_committed ps n.0) refl
    where
      by : (i : ℕ) → find_committed ps n.0 ≡ Some i → (t : Option CommitTime)
          → lower_at (place_of (with_time i t)) qs ≡ settle_with t (Waiting n) ps qs
      by i e (Some t) = rw e
      by i e None = refl

      go : (f : Option ℕ) → find_committed ps n.0 ≡ f
          → lower_at (place_of (stamp_at ps end f)) qs ≡ settle_with (at_found f (λ i. time_up_to (place_at ps i).life end)) (Waiting n) ps qs
      go (Some i) e = by i e (time_up_to (place_at ps i).life end)
      go None e = refl
  found_lower (Stamped t) qs = refl

  -- and lies among the 64
  place_below : (slot : Slot) (i : ℕ) → place_for ps end slot ≡ Some i → i < 64
  unfolding stamp_for place_for
  place_below Empty i e = cc
  place_below (Waiting n) i e = go (find_committed ps n.0) refl e
    where
      by : (j : ℕ) (t : Option CommitTime) → place_of (with_time j t) ≡ Some i → j ≡ i
      by j (Some t) e = cc
      by j None e = cc

      go : (f : Option ℕ) → find_committed ps n.0 ≡ f → place_of (stamp_at ps end f) ≡ Some i → i < 64
      go (Some j) q e = let h = committed_below _ _ _ q in let k = by j _ e in omega arith
      go None q e = cc
  place_below (Stamped t) i e = cc

  -- ---- stamping; `page` is the page when it came

  module _ (page : List ℕ) where
    abbrev slot : ℕ → Slot
    slot i = slot_state (page_slot page i)

    -- before the turn for slot i: x is the page, and found what was found for the slots before
    pub record Stamping (x : List ℕ) (found : List (Option ℕ)) (i : ℕ) : Type 0 where
      pub size : length found ≡ 15
      pub rest : stamp_from pair x i (15 - i) ≡ stamped_under ps end page
      pub ahead : (k : ℕ) → i ≤ k → page_slot x k ≡ page_slot page k
      pub noted : (k : ℕ) → k < i → get_or found k None ≡ place_for ps end (slot k)
      pub vacant : (k : ℕ) → i ≤ k → get_or found k None ≡ None

    pub stamp_starts : Stamping page (replicate 15 None) 0
    unfolding stamped_under
    stamp_starts = record { size = refl; rest = refl; ahead = λ k h. refl; noted = λ k h. absurd (omega arith); vacant = λ k h. nones 15 k }
      where
        nones : (n k : ℕ) → ◌≡◌ {A = Option ℕ} (get_or (replicate n None) k None) None
        nones zero k = refl
        nones (suc n) zero = refl
        nones (suc n) (suc k) = nones n k

    pub stamp_ends : (x : List ℕ) (found : List (Option ℕ)) (i : ℕ) → Stamping x found i → 15 ≤ i → x ≡ stamped_under ps end page
    unfolding stamp_from
    stamp_ends x found i s h = let m : 15 - i ≡ 0 = omega arith in rw m at s.rest

    module _ (x : List ℕ) (found : List (Option ℕ)) (i : ℕ) (s : Stamping x found i) (h : i < 15) where
      -- y is the page with slot i stamped, or as it is
      turn : (r : Option (ℕ × CommitTime)) → r ≡ stamp_for ps end (slot i) → (y : List ℕ) → y ≡ stamp_with (time_of_stamp r) x i
          → (found' : List (Option ℕ)) → length found' ≡ 15 → get_or found' i None ≡ place_of r
          → ((k : ℕ) → k ≢ i → get_or found' k None ≡ get_or found k None) → Stamping y found' (i + 1)
      unfolding stamp_from place_for
      turn r e y f found' n here beside = record {
        size = n;
        rest =
            let m : 15 - i ≡ suc (15 - (i + 1)) = omega arith in
            let t : time_of_stamp r ≡ stamp_time pair (slot_state (page_slot x i)) =
            ap time_of_stamp e ∙ sym (found_time (slot i)) ∙ ap (λ (l : List ℕ). stamp_time pair (slot_state l)) (sym (s.ahead i (omega arith))) in
            rw (f, t) (rw m at s.rest);
        ahead = λ k g. rw f (stamp_with_other (time_of_stamp r) x i k (λ q. absurd (omega arith)) ∙ s.ahead k (omega arith));
        noted = below_more _ i (λ k g. beside k (λ q. absurd (omega arith)) ∙ s.noted k g) (here ∙ ap place_of e);
        vacant = λ k g. beside k (λ q. absurd (omega arith)) ∙ s.vacant k (omega arith);
      }

      pub stamp_hit : (p : ℕ) (t : CommitTime) (y : List ℕ) → Some (p, t) ≡ stamp_for ps end (slot i) → y ≡ stamp_cell x i t.0
          → Stamping y (set found i (Some p)) (i + 1)
      stamp_hit p t y e f =
          let n = s.size in
          turn (Some (p, t)) e y f _ (length-set found i (Some p) ∙ n) (get_or-set_same found i (Some p) None (omega arith))
          (λ k g. get_or-set_other found i k (Some p) None g)

      pub stamp_miss : None ≡ stamp_for ps end (slot i) → Stamping x found (i + 1)
      stamp_miss e = turn None e x refl found s.size (s.vacant i (omega arith)) (λ k g. refl)

    -- ---- settling, by what was found for the slots of the page

    module _ (found : List (Option ℕ)) (n : length found ≡ 15) (each : (k : ℕ) → k < 15 → get_or found k None ≡ place_for ps end (slot k)) where
      pub all_below : AmongPlaces found
      all_below k i e = go (ltb k 15) refl
        where
          go : (b : Bool) → ltb k 15 ≡ b → i < 64
          go true t = place_below (slot k) i (sym (each k (ltb-true k 15 t)) ∙ e)
          go false t = let none = get_or_past found k None (omega (arith, ltb-false k 15 t)) in cc

      settled_from : (k i : ℕ) (qs : List Place) → i + k ≡ 15
          → fold (λ ps p. lower_at p ps) qs (drop i found) ≡ settle_from pair ps page qs i k
      unfolding settle_from
      settled_from zero i qs h = let past : length found ≤ i = omega arith in rw drop_all
      settled_from (suc k) i qs h =
          let rs = settle_with (stamp_time pair (slot i)) (slot i) ps qs in
          let e : lower_at (get_or found i None) qs ≡ rs =
          ap (λ (p : Option ℕ). lower_at p qs) (each i (omega arith)) ∙ found_lower (slot i) qs in
          ap (fold (λ ps p. lower_at p ps) qs) (drop-cons found i None (omega arith))
          ∙ ap (λ (ps : List Place). fold (λ ps p. lower_at p ps) ps (drop (suc i) found)) e
          ∙ rw (← add-one) (settled_from k (i + 1) rs (omega arith))

      pub settled_is : fold (λ ps p. lower_at p ps) ps found ≡ settled_under ps end page
      unfolding settled_under
      settled_is = settled_from 15 0 ps refl

-- ---- settling: one place more is counted down

pub settle_turn : (found : List (Option ℕ)) (ps : List Place) (i : ℕ) (qs : List Place) → i < length found
    → qs ≡ fold (λ ps p. lower_at p ps) ps (take i found) → (p : Option ℕ) → get_or found i None ≡ p
    → lower_at p qs ≡ fold (λ ps p. lower_at p ps) ps (take (i + 1) found)
settle_turn found ps i qs h e p here =
    rw (add-one, take-suc found i None h, fold_push (λ (ps : List Place) (p : Option ℕ). lower_at p ps) ps (take i found) (get_or found i None), here, e)
