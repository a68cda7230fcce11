-- The pages and slots of a cache, judged one after the other: pages full before the last used, and a slot against what
-- is known of its record from the slots below it. Assumes nothing.
use Rattle.layout.specs.declared.CommitTime.{CommitTime}
use Rattle.std.specs.Prelude.{Option, Some, None}
use mathlib.Core.Path.{◌≡◌, refl, sym, ap, subst, ◌∙◌}
use mathlib.Core.Bool.{Bool, true, false, ◌&&◌, ◌||◌}
use mathlib.Core.List.{List, []}
use Prim.Native.Nat.{ℕ, zero, suc, ◌+◌, ◌-◌, ◌*◌, ◌<◌}
use native.Mathlib.Omega.{arith}
use native.Mathlib.Decide.{ℕ_discrete}
use lib.ListN.{length, take, drop, get_or, set, replicate, get_or-replicate}
use lib.Seq.{get_or-set_same, get_or-set_other}
use lib.Dec.{eqb, leb}
use borrow.Author.Tests.{eq-eqb, ne_eqb, le-leb}
use Rattle.fields.specs.Block.{blk}
use Rattle.layout.specs.Page.{page_used}
use Rattle.layout.specs.declared.slot.Slot.{Slot}
use Rattle.layout.specs.declared.slot.Slot.TheVariants.{Empty, Waiting, Stamped}
use Rattle.fields.proofs.PartLaws.{lent_part}
use Rattle.store.specs.Write.{or_none}
use Rattle.store.specs.Chain.{cell_at, is_version, version_of, version_time, newest}
use Rattle.store.specs.OpenLog.{read_log, next_number, last_time}
use Rattle.store.specs.OpenPairs.{pair_time}
use Rattle.store.specs.OpenConditions.{slot_in_bounds, slot_at_least_one, full_before, earlier_true, time_or, time_below, not_above, not_falling, slot_true}
use Rattle.conditions.specs.Lookup.{Tracks, time_or_zero, time_fits, times_after}
use Rattle.conditions.specs.Passes.{slot_ok}

-- ---- page p, which begins at a: u and v are the used slots that the code read of it and of the page behind it

pub full_here : (c : List ℕ) (d p a u : ℕ) → a ≡ 512 * p → u ≡ page_used (take (a + 512 - a) (drop a c)) → u ≡ 15 → true ≡ full_before [] 0 d c p
unfolding full_before blk
full_here c d p a u ha e t = let w : page_used (take 512 (drop (512 * p) c)) ≡ 15 = sym (rw (lent_part c a 512, ha) at e) ∙ t in simp w

pub full_last : (c : List ℕ) (d p : ℕ) → p + 1 ≡ d → true ≡ full_before [] 0 d c p
unfolding full_before
full_last c d p t = simp (eq-eqb _ _ t, or_true)
  where
    or_true : (b : Bool) → b || true ≡ true
    or_true true = refl
    or_true false = refl

pub full_next : (c : List ℕ) (d p a u b v : ℕ) → a ≡ 512 * p → u ≡ page_used (take (a + 512 - a) (drop a c)) → (u ≡ 15 → ⊥) → (p + 1 ≡ d → ⊥)
    → b ≡ 512 * (p + 1) → v ≡ page_used (take (b + 512 - b) (drop b c)) → eqb v 0 ≡ full_before [] 0 d c p
unfolding full_before blk
full_next c d p a u b v ha e t l hb f =
    let x : u ≡ page_used (take 512 (drop (512 * p) c)) = rw (lent_part c a 512, ha) at e in
    let y : v ≡ page_used (take 512 (drop (512 * (p + 1)) c)) = rw (lent_part c b 512, hb) at f in
    simp (← x, ← y, ne_eqb _ _ t, ne_eqb _ _ l)

-- ---- a number or time of 0 is out of bounds

pub zero_out : (b : Bool) (n : ℕ) → n ≡ 0 → false ≡ b && leb 1 n
zero_out true n e = rw e
zero_out false n e = refl

pub one_in : (b : Bool) (n : ℕ) → (n ≡ 0 → ⊥) → b ≡ b && leb 1 n
one_in true n h = sym (le-leb 1 n (omega arith))
one_in false n h = refl

empty_one : (s : Slot) → is_version s ≡ false → slot_at_least_one s ≡ true
empty_one Empty e = refl
empty_one (Waiting n) e = let z : ◌≡◌ {A = ℕ} 0 1 = cc in absurd (omega arith)
empty_one (Stamped t) e = let z : ◌≡◌ {A = ℕ} 0 1 = cc in absurd (omega arith)

-- a time against the newest before it
fits_as : (p t : Option CommitTime) (times : List ℕ) (key : ℕ) → get_or times key 0 ≡ time_or_zero p → time_fits times key t ≡ not_above p t
fits_as (Some a) (Some b) times key e = rw e
fits_as (Some a) None times key e = refl
fits_as None (Some b) times key e = rw e (le-leb 0 b.0 (omega arith))
fits_as None None times key e = refl

-- what was read of slot n
pub held : (c : List ℕ) (n : ℕ) (s : Slot) (b : Bool) → s ≡ (cell_at c n).state → b ≡ is_version s → b ≡ true → is_version (cell_at c n).state ≡ true
held c n s b e f t = ap is_version (sym e) ∙ sym f ∙ t

pub timed : (c : List ℕ) (n : ℕ) (s : Slot) (pairs : ℕ → Option CommitTime) (u : Option CommitTime) → s ≡ (cell_at c n).state → u ≡ version_time pairs s
    → u ≡ version_time pairs (cell_at c n).state
timed c n s pairs u e f = rw e at f

-- ---- slot n of a cache: `all` has what is known of each record from the slots below it

-- the number of pages plays no part
time_same : (m : List ℕ) (l d : ℕ) (c : List ℕ) (key n : ℕ) → time_below m l 0 c key n ≡ time_below m l d c key n
unfolding time_below
time_same m l d c key zero = refl
time_same m l d c key (suc n) = ap (time_or (version_of c key n) (version_time (pair_time m (read_log m l)) (cell_at c n).state)) (time_same m l d c key n)

pub slot_same : (m : List ℕ) (l d : ℕ) (c : List ℕ) (n : ℕ) → slot_ok m l 0 c n ≡ slot_ok m l d c n
unfolding slot_ok slot_true earlier_true not_falling
slot_same m l d c n = rw (time_same m l d c (cell_at c n).key n)

module _ (m : List ℕ) (l : ℕ) (c : List ℕ) where
  pub tracks_start : Tracks m l c 0 (record { slots = replicate 1024 65535; times = replicate 1024 0 })
  unfolding newest time_below
  tracks_start = record { newest_slot = λ k h. get_or-replicate 1024 k 65535 0 h; newest_time = λ k h. get_or-replicate 1024 k 0 0 h }

  pub tracks_empty : (n : ℕ) (s t : List ℕ) → is_version (cell_at c n).state ≡ false → Tracks m l c n (record { slots = s; times = t }) → Tracks m l c (suc n) (record { slots = s; times = t })
  unfolding newest time_below version_of
  tracks_empty n s t e w = record {
    newest_slot = λ k h. simp e (w.newest_slot k h);
    newest_time = λ k h. simp e (w.newest_time k h);
  }

  -- slot n holds a version of record `key` with time u
  timed_same : (u p : Option CommitTime) (t : List ℕ) (key : ℕ) → key < length t → get_or t key 0 ≡ time_or_zero p → get_or (times_after t key u) key 0 ≡ time_or_zero (time_or true u p)
  timed_same None p t key h e = e
  timed_same (Some x) p t key h e = get_or-set_same t key x.0 0 h

  timed_other : (u : Option CommitTime) (t : List ℕ) (key k : ℕ) → (k ≡ key → ⊥) → get_or (times_after t key u) k 0 ≡ get_or t k 0
  timed_other None t key k h = refl
  timed_other (Some x) t key k h = get_or-set_other t key k x.0 0 h

  pub tracks_version : (n key : ℕ) (u : Option CommitTime) (s t : List ℕ) → is_version (cell_at c n).state ≡ true → key ≡ (cell_at c n).key
      → u ≡ version_time (pair_time m (read_log m l)) (cell_at c n).state → length s ≡ 1024 → length t ≡ 1024 → key < 1024
      → Tracks m l c n (record { slots = s; times = t }) → Tracks m l c (suc n) (record { slots = set s key n; times = times_after t key u })
  unfolding newest time_below version_of
  tracks_version n key u s t v ek eu ls lt hk w = record {
    newest_slot = λ k h. slot k h (ℕ_discrete k key);
    newest_time = λ k h. time k h (ℕ_discrete k key);
  }
    where
      slot : (k : ℕ) → k < 1024 → Dec (k ≡ key) → get_or (set s key n) k 0 ≡ or_none (newest c k (suc n))
      slot k h (yes e) = simp (v, ← ek, e, eq-eqb key key refl, get_or-set_same s key n 0 (omega arith))
      slot k h (no e) = simp (v, ← ek, ne_eqb key k (λ q. e (sym q)), get_or-set_other s key k n 0 e) (w.newest_slot k h)

      time : (k : ℕ) → k < 1024 → Dec (k ≡ key) → get_or (times_after t key u) k 0 ≡ time_or_zero (time_below m l 0 c k (suc n))
      time k h (yes e) =
          subst
          (λ (x : ℕ). get_or (times_after t key u) x 0 ≡ time_or_zero (time_below m l 0 c x (suc n)))
          (sym e)
          (simp (v, ← ek, ← eu, eq-eqb key key refl) (timed_same u (time_below m l 0 c key n) t key (omega arith) (w.newest_time key hk)))
      time k h (no e) = simp (v, ← ek, ne_eqb key k (λ q. e (sym q)), timed_other u t key k e) (w.newest_time k h)

  pub ok_empty : (n : ℕ) → is_version (cell_at c n).state ≡ false → true ≡ slot_ok m l 0 c n
  unfolding slot_ok slot_true
  ok_empty n e = simp (e, empty_one (cell_at c n).state e)

  -- the earlier slot is another, the time falls, or the bounds decide
  pub ok_earlier : (n key e : ℕ) (s t : List ℕ) → is_version (cell_at c n).state ≡ true → key ≡ (cell_at c n).key → e ≡ (cell_at c n).earlier → key < 1024
      → Tracks m l c n (record { slots = s; times = t }) → (get_or s key 0 ≡ e → ⊥) → false ≡ slot_ok m l 0 c n
  unfolding slot_ok slot_true earlier_true
  ok_earlier n key e s t v ek ee hk w h =
      simp (v, ← ek, ← ee, ← w.newest_slot key hk, ne_eqb e (get_or s key 0) (λ q. h (sym q)))

  module _ (n key e : ℕ) (u : Option CommitTime) (s t : List ℕ) (b : Bool) (v : is_version (cell_at c n).state ≡ true) (ek : key ≡ (cell_at c n).key) (ee : e ≡ (cell_at c n).earlier)
      (eu : u ≡ version_time (pair_time m (read_log m l)) (cell_at c n).state) (hk : key < 1024) (w : Tracks m l c n (record { slots = s; times = t })) (h : get_or s key 0 ≡ e) (eb : b ≡ time_fits t key u) where
    falls : b ≡ not_falling m l 0 c n
    unfolding not_falling
    falls = simp (← ek, ← eu) (eb ∙ fits_as (time_below m l 0 c key n) u t key (w.newest_time key hk))

    true_earlier : earlier_true m l 0 c n ≡ true
    unfolding earlier_true
    true_earlier = simp (← ek, ← ee, ← w.newest_slot key hk) (eq-eqb e (get_or s key 0) (sym h))

    pub ok_falls : b ≡ false → false ≡ slot_ok m l 0 c n
    unfolding slot_ok slot_true
    ok_falls z = simp (v, true_earlier, ← falls, z)

    pub ok_bounds : (r : Bool) (x : Slot) (next last : ℕ) → b ≡ true → x ≡ (cell_at c n).state → next ≡ next_number m l → last ≡ last_time m l
        → r ≡ slot_in_bounds x next last && slot_at_least_one x → r ≡ slot_ok m l 0 c n
    unfolding slot_ok slot_true
    ok_bounds r x next last z ex en el er = simp (v, true_earlier, ← falls, z, ← ex, ← en, ← el) er
