-- The refused handover computed by the definitions: the flight keeps its owner.
use Prim.Native.Nat.{ℕ}
use native.Mathlib.Omega.{arith}
use mathlib.Core.Path.{◌≡◌, refl, sym, ap, ◌∙◌}
use lib.ListN.{get_or}
use Rattle.store.specs.State.{in_range}
use Rattle.runs.specs.Event.{Strip, missing, erased, present}
use Rattle.handover.specs.Calls.{hand_typed}
use Rattle.examples.specs.OldBoard.{Seen, Shows, wrong_sector, kept, lost, passed}
use Rattle.examples.proofs.Refusing.{shows}

pub keeps_owner : Shows wrong_sector kept
unfolding passed in_range hand_typed
keeps_owner = shows wrong_sector kept refl refl refl

abbrev owner : Strip → ℕ
owner missing = 0
owner erased = 0
owner (present v) = get_or v 0 0

-- what the old board shows is not seen
pub never : Shows wrong_sector lost → ⊥
never s =
    let z : ◌≡◌ {A = ℕ} 3 0 = ap (λ (x : Seen). owner x.is) (sym keeps_owner.seen ∙ s.seen) in omega arith
