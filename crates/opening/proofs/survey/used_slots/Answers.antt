-- Each turn counts one page.
use mathlib.Core.Path.{◌≡◌, refl, ◌∙◌}
use Prim.Native.Nat.{◌*◌}
use native.Mathlib.Omega.{arith}
use Rattle.store.specs.OpenRedo.{used_in}
use Rattle.opening.proofs.SurveyLaws.{used_turn}
use Rattle.opening.proofs.survey.used_slots.Goals as goal

pub loop-page-init : goal.loop-page-init
unfolding used_in
loop-page-init c = (omega arith, refl)

pub loop-page-preserved : goal.loop-page-preserved
loop-page-preserved c =
    (omega arith, used_turn _ c.loop-page.page _ _ (512 * c.loop-page.page) refl c.loop-page.invariant.1 (c.from-used.ensures ∙ c.used.ensures))

pub returns : goal.returns
returns c = let e : c.loop-page.page ≡ c.args.pages = omega arith in rw e at c.loop-page.invariant.1
