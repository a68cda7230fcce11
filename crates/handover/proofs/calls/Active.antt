-- Which numbers are active once place i is replaced: as before, for every number under which it was and is equally active. So a call
-- that replaces its number's place changes the activity of that number alone.
use Rattle.std.specs.Prelude.{Option, Some, None}
use Prim.Native.Nat.{ℕ, ◌<◌}
use native.Mathlib.Omega.{arith}
use mathlib.Core.Path.{◌≡◌, refl, sym, ap, ◌∙◌}
use mathlib.Core.Logic.{◌⊎◌, inl, inr, ◌≢◌}
use mathlib.Core.Bool.{Bool, true, false, false≢true}
use mathlib.Core.List.{List}
use lib.ListN.{length, set}
use borrow.Author.Tests.{eqb-true, ne_eqb}
use Rattle.store.specs.declared.Life.{Life}
use Rattle.store.specs.declared.Life.TheVariants.{Free, Active, Committed}
use Rattle.store.specs.declared.Place.{Place}
use Rattle.store.specs.Places.{first, is_at, is_free, active_as, place_at, find_active, find_free, ring_place}
use Rattle.store.proofs.SearchLaws.{first_found, first_nothing, first_none, first_same}
use Rattle.agreement.proofs.history.ListLaws.{same?}
use Rattle.agreement.proofs.invariant.Invariant.{life_num}
use Rattle.agreement.proofs.invariant.PlaceSet.{place_at_same, place_at_other}

-- ---- a life

-- of another number
not_active : (x : Life) (n : ℕ) → life_num x ≢ n → active_as x n ≡ false
not_active Free n h = refl
not_active (Active a t) n h = ne_eqb a.0 n h
not_active (Committed a t z) n h = refl

-- active under one number alone
active_one : (x : Life) (n k : ℕ) → active_as x n ≡ true → n ≢ k → active_as x k ≡ false
active_one Free n k e h = refl
active_one (Active a t) n k e h = ne_eqb a.0 k (λ q. h (sym (eqb-true a.0 n e) ∙ q))
active_one (Committed a t z) n k e h = refl

free_idle : (x : Life) (n : ℕ) → is_free x ≡ true → active_as x n ≡ false
free_idle Free n e = refl
free_idle (Active a t) n e = absurd (false≢true e)
free_idle (Committed a t z) n e = refl

-- ---- place i replaced by p

abbrev active_in : List Place → ℕ → ℕ → Bool
active_in ps n j = active_as (place_at ps j).life n

module _ (ps : List Place) (i : ℕ) (p : Place) (size : length ps ≡ 64) (inside : i < 64) where
  pub active_set : (n : ℕ) → active_as p.life n ≡ active_as (place_at ps i).life n → find_active (set ps i p) n ≡ find_active ps n
  unfolding find_active
  active_set n e = first_same (active_in (set ps i p) n) (active_in ps n) 64 0 (λ j h. go j (same? j i))
    where
      go : (j : ℕ) → (j ≡ i) ⊎ (j ≢ i) → active_in (set ps i p) n j ≡ active_in ps n j
      go j (inl q) = rw (q, place_at_same ps i p size inside) e
      go j (inr q) = rw (place_at_other ps i j p q)

  -- active once the place is
  pub active_put : (n : ℕ) → active_as p.life n ≡ true → is_at (find_active (set ps i p) n) ≡ true
  unfolding find_active
  active_put n e = go (first (active_in (set ps i p) n) 64 0) refl
    where
      go : (f : Option ℕ) → first (active_in (set ps i p) n) 64 0 ≡ f → is_at f ≡ true
      go (Some j) q = refl
      go None q =
          absurd (false≢true (sym (first_nothing (active_in (set ps i p) n) 64 0 q i (omega arith) (omega arith))
          ∙ ap (λ (x : Place). active_as x.life n) (place_at_same ps i p size inside) ∙ e))

  -- active no more, where no other place has the number
  pub active_gone : (n : ℕ) → active_as p.life n ≡ false → ((j : ℕ) → j < 64 → j ≢ i → life_num (place_at ps j).life ≢ n) → is_at (find_active (set ps i p) n) ≡ false
  unfolding find_active
  active_gone n e elsewhere = ap is_at (first_none (active_in (set ps i p) n) 64 0 (λ j a b. go j (omega arith) (same? j i)))
    where
      go : (j : ℕ) → j < 64 → (j ≡ i) ⊎ (j ≢ i) → active_in (set ps i p) n j ≡ false
      go j h (inl q) = rw (q, place_at_same ps i p size inside) e
      go j h (inr q) = rw (place_at_other ps i j p q) (not_active (place_at ps j).life n (elsewhere j h q))

-- ---- the place found

pub found_active : (ps : List Place) (n i : ℕ) → find_active ps n ≡ Some i → (i < 64) × (active_as (place_at ps i).life n ≡ true)
unfolding find_active
found_active ps n i e = let r = first_found (active_in ps n) 64 0 i e in (omega (arith, r.1), r.2)

-- replaced by one that is not active, it changes no other number
pub active_others : (ps : List Place) (x i : ℕ) (p : Place) → length ps ≡ 64 → find_active ps x ≡ Some i → ((n : ℕ) → active_as p.life n ≡ false)
    → (n : ℕ) → x ≢ n → find_active (set ps i p) n ≡ find_active ps n
active_others ps x i p size f idle n z =
    let g = found_active ps x i f in
    active_set ps i p size g.0 n (idle n ∙ sym (active_one (place_at ps i).life x n g.1 z))

pub free_found : (ps : List Place) (ring k : ℕ) → find_free ps ring ≡ Some k
    → (ring_place ring k < 64) × ((n : ℕ) → active_as (place_at ps (ring_place ring k)).life n ≡ false)
unfolding find_free ring_place
free_found ps ring k e = (
  omega arith,
  λ n. free_idle (place_at ps (ring_place ring k)).life n (first_found (λ j. is_free (place_at ps (ring_place ring j)).life) 64 0 k e).2,
)
