-- The places before place i are those of the words.
use Rattle.std.proofs.Common.{below_more, ◌≢◌, ◌<◌, length}
use Rattle.std.proofs.lemmas.List.{get_or-set_same, get_or-set_other}
use Rattle.std.proofs.lemmas.List.FromFn.{fill_by_all}
use mathlib.Core.Path.{◌∙◌}
use lib.ListN.{length-set}
use native.Mathlib.Omega.{arith}
use Rattle.store.specs.Places.{free_place}
use Rattle.relief.specs.Words.{place_in, places_of}
use Rattle.relief.proofs.words.read_places.Goals as goal

pub loop-i-preserved : goal.loop-i-preserved
loop-i-preserved c =
    let within : c.loop-i.i < length c.loop-i.places = omega arith in (
      length-set _ _ _ ∙ c.loop-i.invariant.0,
      below_more _ _
          (λ k h. let other : k ≢ c.loop-i.i = omega arith in rw get_or-set_other (c.loop-i.invariant.1 k h))
          (get_or-set_same _ _ _ _ within ∙ c.read_place.ensures),
    )

pub returns : goal.returns
unfolding places_of
returns c =
    fill_by_all (place_in c.args.words.now) c.loop-i.places 64 free_place (omega arith) (λ k h. c.loop-i.invariant.1 k (omega arith))
