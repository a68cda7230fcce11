-- A search over the places finds the one that the invariant speaks of, since numbers in places are distinct.
use Rattle.std.specs.Prelude.{Option, Some, None}
use Prim.Native.Nat.{ℕ, ◌<◌}
use native.Mathlib.Omega.{arith}
use mathlib.Core.Bool.{true, false≢true}
use mathlib.Core.List.{List}
use mathlib.Core.Logic.{◌⊎◌, inl, inr, ◌≢◌}
use mathlib.Core.Path.{◌≡◌, refl, sym, ap, ◌∙◌}
use borrow.Author.Tests.{eqb-true, eq-eqb}
use Rattle.layout.specs.Slot.{Cell}
use Rattle.store.proofs.SearchLaws.{first_found, first_only}
use Rattle.store.specs.Places.{is_free, place_at, find_active, find_committed, time_under, active_as, committed_as}
use Rattle.store.specs.Places.{time_of, at_found}
use Rattle.store.specs.declared.Place.{Place}
use Rattle.store.specs.declared.Life.{Life}
use Rattle.store.specs.declared.Life.TheVariants.{Free, Active, Committed}
use Rattle.agreement.proofs.history.CommitLaws.{timed}
use Rattle.agreement.proofs.history.Ghost.{LoggedCommit, find, timing, count}
use Rattle.agreement.proofs.history.ListLaws.{same?}
use Rattle.agreement.proofs.invariant.Invariant.{life_num, life_time, Formed, Living, num_at, time_at}

-- ---- of the places

active_life : (x : Life) (n : ℕ) → Formed x → active_as x n ≡ true → (0 < n) × (life_num x ≡ n) × (life_time x ≡ 0)
active_life Free n f e = absurd (false≢true e)
active_life (Active a k) n f e = let z = eqb-true a.0 n e in (omega arith, z, refl)
active_life (Committed a t k) n f e = absurd (false≢true e)

life_active : (x : Life) (n : ℕ) → Formed x → 0 < n → life_num x ≡ n → life_time x ≡ 0 → active_as x n ≡ true
life_active Free n f z e t = absurd (omega arith)
life_active (Active a k) n f z e t = eq-eqb a.0 n e
life_active (Committed a u k) n f z e t = absurd (omega (arith, f.1))

committed_life : (x : Life) (n : ℕ) → Formed x → committed_as x n ≡ true → (life_num x ≡ n) × (0 < life_time x)
committed_life Free n f e = absurd (false≢true e)
committed_life (Active a k) n f e = absurd (false≢true e)
committed_life (Committed a t k) n f e = (eqb-true a.0 n e, f.1)

life_committed : (x : Life) (n : ℕ) → Formed x → life_num x ≡ n → 0 < life_time x → committed_as x n ≡ true
life_committed Free n f e t = absurd (omega arith)
life_committed (Active a k) n f e t = absurd (omega arith)
life_committed (Committed a u k) n f e t = eq-eqb a.0 n e

pub free_num : (x : Life) → is_free x ≡ true → life_num x ≡ 0
free_num Free e = refl
free_num (Active n k) e = absurd (false≢true e)
free_num (Committed n t z) e = absurd (false≢true e)

-- a committed place has a number
pub life_low : (x : Life) → Formed x → 0 < life_time x → 0 < life_num x
life_low Free f h = absurd (omega arith)
life_low (Active a k) f h = absurd (omega arith)
life_low (Committed a t k) f h = f.0

-- the life of a place by its number and time
pub life_time_law : (x : Life) → 0 < life_time x → time_of x ≡ timing (life_time x)
life_time_law Free h = absurd (omega arith)
life_time_law (Active a k) h = absurd (omega arith)
life_time_law (Committed a t k) h = timed t.0 h

module _ {m : List ℕ} {cs : List LoggedCommit} {cells : List Cell} {o next : ℕ} {ps : List Place}
    (v : Living m cs cells o next ps) where
  -- the active place that was found
  pub active_found : (n i : ℕ) → find_active ps n ≡ Some i → (i < 64) × (0 < n) × (num_at ps i ≡ n) × (time_at ps i ≡ 0)
  unfolding find_active
  active_found n i e =
      let r = first_found (λ j. active_as (place_at ps j).life n) 64 0 i e in
      let h : i < 64 = omega (arith, r.1) in
      let a = active_life (place_at ps i).life n (v.each i h).formed r.2 in (h, a.0, a.1, a.2)

  pub active_finds : (n i : ℕ) → i < 64 → 0 < n → num_at ps i ≡ n → time_at ps i ≡ 0 → find_active ps n ≡ Some i
  unfolding find_active
  active_finds n i h z e t =
      first_only (λ j. active_as (place_at ps j).life n) 64 i h
      (life_active (place_at ps i).life n (v.each i h).formed z e t)
      (λ j g a. let b = active_life (place_at ps j).life n (v.each j g).formed a in
      v.distinct j i g h (omega (arith, b.1)) (b.1 ∙ sym e))

  pub committed_found : (n i : ℕ) → find_committed ps n ≡ Some i → (i < 64) × (num_at ps i ≡ n) × (0 < time_at ps i)
  unfolding find_committed
  committed_found n i e =
      let r = first_found (λ j. committed_as (place_at ps j).life n) 64 0 i e in
      let h : i < 64 = omega (arith, r.1) in
      let a = committed_life (place_at ps i).life n (v.each i h).formed r.2 in (h, a.0, a.1)

  pub committed_finds : (n i : ℕ) → i < 64 → 0 < n → num_at ps i ≡ n → 0 < time_at ps i → find_committed ps n ≡ Some i
  unfolding find_committed
  committed_finds n i h z e t =
      first_only (λ j. committed_as (place_at ps j).life n) 64 i h
      (life_committed (place_at ps i).life n (v.each i h).formed e t)
      (λ j g a. let b = committed_life (place_at ps j).life n (v.each j g).formed a in
      v.distinct j i g h (omega (arith, b.0)) (b.0 ∙ sym e))

  -- the time of a number that is waited for is its commit's
  pub time_under_law : (n : ℕ) → 0 < n → 0 < count n cells → time_under ps n ≡ timing (find cs n).time
  unfolding time_under
  time_under_law n z h = go (same? (find cs n).time 0) (find_committed ps n) refl
    where
      time_of_law : (i : ℕ) → i < 64 → num_at ps i ≡ n → 0 < time_at ps i
          → time_of (place_at ps i).life ≡ timing (find cs n).time
      time_of_law i g e t =
          life_time_law (place_at ps i).life t
          ∙ ap timing (sym ((v.each i g).over t) ∙ ap (λ (j : ℕ). (find cs j).time) e)

      go : ((find cs n).time ≡ 0) ⊎ ((find cs n).time ≢ 0) → (f : Option ℕ) → find_committed ps n ≡ f
          → at_found f (λ i. time_of (place_at ps i).life) ≡ timing (find cs n).time
      go c (Some i) e = let r = committed_found n i e in time_of_law i r.0 r.1 r.2
      go (inl c) None e = rw c
      go (inr c) None e = let (i, g, q) = v.all n h (omega arith) in by i g q (same? (time_at ps i) 0)
        where
          by : (i : ℕ) → i < 64 → num_at ps i ≡ n → (time_at ps i ≡ 0) ⊎ (time_at ps i ≢ 0)
              → None ≡ timing (find cs n).time
          by i g q (inl t) = absurd (c (rw q at ((v.each i g).unended (omega arith) t)))
          by i g q (inr t) =
              let f : find_committed ps n ≡ Some i = committed_finds n i g z q (omega arith) in
              let y : ◌≡◌ {A = ℕ} 0 1 = cc in absurd (omega arith)
