-- The places that were found before a turn are counted down.
use mathlib.Core.Path.{ap, ◌∙◌}
use native.Mathlib.Omega.{arith}
use lib.ListN.{set}
use Rattle.store.specs.Places.{place_at}
use Rattle.pages.proofs.StampLaws.{settle_turn}
use Rattle.pages.proofs.settle.Goals as goal
use Rattle.pages.proofs.settle.Goals.{in-Some, in_default}

pub loop-place-preserved : goal.loop-place-preserved
unfolding place_at
loop-place-preserved c =
    let turn = settle_turn c.args.found.now c.args.places.now c.loop-place.place-index c.loop-place.places (omega arith) c.loop-place.invariant in
    elim c.match-place.branch [
      | in-Some w ↦ w.places-is ∙ ap (set c.loop-place.places w.in-Some.place) w.lower.ensures ∙ turn _ w.in-Some.is
      | in_default w ↦ w.places-is ∙ turn _ w.in_default.is
    ]
