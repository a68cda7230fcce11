-- The places before place i are laid, and the words in front of the places stay.
use Rattle.std.proofs.lemmas.List.FromFn.{fill_by_all}
use mathlib.Core.Path.{sym}
use native.Mathlib.Omega.{arith}
use Rattle.store.specs.Places.{free_place}
use Rattle.relief.specs.Words.{place_in, places_of}
use Rattle.relief.proofs.words.lay_places.Goals as goal

pub returns-clause-placed : goal.returns-clause-placed
unfolding places_of
returns-clause-placed c =
    let laid = c.loop-i.invariant.1 in
    sym (fill_by_all (place_in c.loop-i.words) c.args.places.now 64 free_place (omega arith) (λ k h. sym (laid k (omega arith))))
