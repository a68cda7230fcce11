-- Active places stay through stores and checkpoint calls: storing a page counts down committed places only, and frees
-- no other.
use Rattle.layout.specs.declared.CommitTime.{CommitTime}
use Rattle.std.specs.Prelude.{Option, Some, None}
use Prim.Native.Nat.{ℕ, zero, suc, ◌+◌, ◌<◌}
use mathlib.Core.Path.{◌≡◌, refl, sym, ap, ◌∙◌, subst}
use mathlib.Core.Bool.{Bool, true, false, false≢true}
use mathlib.Core.List.{List}
use Rattle.layout.specs.Page.{page_slot}
use Rattle.layout.specs.Slot.{slot_state}
use Rattle.layout.specs.declared.slot.Slot.{Slot}
use Rattle.layout.specs.declared.slot.Slot.TheVariants.{Empty, Waiting, Stamped}
use Rattle.store.specs.declared.Life.{Life}
use Rattle.store.specs.declared.Life.TheVariants.{Free, Active, Committed}
use Rattle.store.specs.declared.Place.{Place}
use Rattle.store.specs.declared.State.{State}
use Rattle.store.specs.Places.{place_at, active_as, committed_as, find_active, find_committed, lowered}
use Rattle.store.specs.StorePage.{stamp_time, lower_at, settle_with, settle_from, stored_pair, settled}
use Rattle.store.proofs.SearchLaws.{first_found, first_same}
use Rattle.agreement.proofs.invariant.PlaceSet.{place_at_other}
use Rattle.agreement.proofs.stores.SettleLaws.{Kept, same, freed, AllKept}

-- t has the next number and the active places of s
pub record Alike (s t : State) : Type 0 where
  pub next : t.next ≡ s.next
  pub active : (n : ℕ) → find_active t.places n ≡ find_active s.places n
  pub place : (j n : ℕ) → active_as (place_at s.places j).life n ≡ true → place_at t.places j ≡ place_at s.places j

pub alike_same : (s t : State) → t.next ≡ s.next → t.places ≡ s.places → Alike s t
alike_same s t f e =
    record {
      next = f;
      active = λ n. ap (λ (ps : List Place). find_active ps n) e;
      place =
          λ j n h. ap (λ (ps : List Place). place_at ps j) e;
    }

pub alike_then : (r s t : State) → Alike r s → Alike s t → Alike r t
alike_then r s t a b = record {
  next = b.next ∙ a.next;
  active = λ n. b.active n ∙ a.active n;
  place = λ j n h. b.place j n (ap (λ (p : Place). active_as p.life n) (a.place j n h) ∙ h) ∙ a.place j n h;
}

not_both : (x : Life) (n k : ℕ) → active_as x n ≡ true → committed_as x k ≡ true → ⊥
not_both Free n k e f = false≢true e
not_both (Active m c) n k e f = false≢true f
not_both (Committed m t z) n k e f = false≢true e

-- a version that is stamped counts down a committed place
module _ (old : List Place) (j n : ℕ) (h : active_as (place_at old j).life n ≡ true) where
  lower_active : (x : ℕ) (f : Option ℕ) → find_committed old x ≡ f → (ps : List Place)
      → place_at (lower_at f ps) j ≡ place_at ps j
  unfolding find_committed
  lower_active x None e ps = refl
  lower_active x (Some i) e ps = place_at_other ps i j (lowered (place_at ps i)) (λ z.
      not_both (place_at old j).life n x h
      (subst (λ (a : ℕ). committed_as (place_at old a).life x ≡ true) (sym z)
      (first_found (λ a. committed_as (place_at old a).life x) 64 0 i e).2))

  settle_active : (t : Option CommitTime) (slot : Slot) (ps : List Place) → place_at (settle_with t slot old ps) j ≡ place_at ps j
  settle_active None slot ps = refl
  settle_active (Some t) Empty ps = refl
  settle_active (Some t) (Waiting x) ps = lower_active x.0 (find_committed old x.0) refl ps
  settle_active (Some t) (Stamped u) ps = refl

  settles_active : (pair : ℕ → Option CommitTime) (page : List ℕ) (ps : List Place) (i k : ℕ)
      → place_at (settle_from pair old page ps i k) j ≡ place_at ps j
  unfolding settle_from
  settles_active pair page ps i zero = refl
  settles_active pair page ps i (suc k) =
      let slot = slot_state (page_slot page i) in
      settles_active pair page (settle_with (stamp_time pair slot) slot old ps) (i + 1) k
      ∙ settle_active (stamp_time pair slot) slot ps

pub alike_settled : (s t : State) (page : List ℕ) → t.next ≡ s.next → t.places ≡ settled s page
    → AllKept s.places (settled s page) → Alike s t
unfolding settled find_active
alike_settled s t page f e k = record {
  next = f;
  active =
      λ n. first_same (λ i. active_as (place_at t.places i).life n) (λ i. active_as (place_at s.places i).life n) 64 0
      (λ j h. go n j h (active_as (place_at s.places j).life n) refl);
  place = stays;
}
  where
    stays : (j n : ℕ) → active_as (place_at s.places j).life n ≡ true → place_at t.places j ≡ place_at s.places j
    stays j n h =
        ap (λ (ps : List Place). place_at ps j) e ∙ settles_active s.places j n h (stored_pair s) page s.places 0 15

    by : (x y : Life) (n : ℕ) → Kept x y → active_as x n ≡ false → active_as y n ≡ false
    by x y n same h = h
    by x y n freed h = refl

    go : (n j : ℕ) → j < 64 → (a : Bool) → active_as (place_at s.places j).life n ≡ a
        → active_as (place_at t.places j).life n ≡ active_as (place_at s.places j).life n
    go n j h true a = ap (λ (p : Place). active_as p.life n) (stays j n a)
    go n j h false a = by (place_at s.places j).life (place_at t.places j).life n (rw e (k j h)) a ∙ sym a
