-- The cases of the slot and of what is found are those of the definition.
use Rattle.std.specs.Prelude.{None}
use mathlib.Core.Path.{◌≡◌, refl, sym, ◌∙◌}
use mathlib.Core.List.{List}
use Prim.Native.Nat.{ℕ}
use native.Mathlib.Omega.{arith}
use Rattle.layout.specs.declared.TxNumber.{TxNumber}
use Rattle.layout.specs.declared.slot.Slot.{Slot}
use Rattle.layout.specs.declared.slot.Slot.TheVariants.{Empty, Waiting, Stamped}
use Rattle.live.proofs.FirstLaws.{committed_below}
use Rattle.store.specs.declared.Place.{Place}
use Rattle.store.specs.Places.{place_at}
use Rattle.pages.specs.Stamped.{stamp_for}
use Rattle.pages.proofs.stamp_for.Goals as goal

no_stamp : (ps : List Place) (end : ℕ) (slot : Slot) → ((n : TxNumber) → slot ≡ Waiting n → ⊥) → None ≡ stamp_for ps end slot
unfolding stamp_for
no_stamp ps end Empty other = refl
no_stamp ps end (Waiting n) other = absurd (other n refl)
no_stamp ps end (Stamped t) other = refl

pub returns-in_default : goal.returns-in_default
returns-in_default c = no_stamp _ _ _ c.in_default.not-Waiting

pub returns-in_err-place : goal.returns-in_err-place
unfolding stamp_for
returns-in_err-place c = simp (c.in-Waiting.is, ← c.find_committed.ensures, c.in_err-place.was, c.from_residual.ensures)

pub offset_bounds-places-place : goal.offset_bounds-places-place
offset_bounds-places-place c = let h = committed_below _ _ _ (sym c.find_committed.ensures ∙ c.in_ok-place.was) in omega arith

pub bounds-places-place : goal.bounds-places-place
bounds-places-place c = committed_below _ _ _ (sym c.find_committed.ensures ∙ c.in_ok-place.was)

pub returns-in_err-time : goal.returns-in_err-time
unfolding stamp_for place_at
returns-in_err-time c = simp (c.in-Waiting.is, ← c.find_committed.ensures, c.in_ok-place.was, ← c.stored_time.ensures, c.in_err-time.was, c.from_residual-in_err-time.ensures)

pub returns : goal.returns
unfolding stamp_for place_at
returns c = simp (c.in-Waiting.is, ← c.find_committed.ensures, c.in_ok-place.was, ← c.stored_time.ensures, c.in_ok-time.was)
