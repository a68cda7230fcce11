-- A version without a time follows any; another one is compared and becomes the newest.
use mathlib.Core.Path.{refl}
use Rattle.conditions.proofs.slots.follows.Goals as goal

pub returns-in_default : goal.returns-in_default
returns-in_default c = simp c.in_default.is (refl, refl)

pub returns : goal.returns
returns c = simp c.in-Some.is (refl, refl)
