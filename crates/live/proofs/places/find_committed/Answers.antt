-- `position` gives the first place that passes the test.
use native.Mathlib.Omega.{arith}
use Rattle.std.proofs.Common.{rules, tests}
use Rattle.std.proofs.lemmas.Iterator.{YieldsList-from_slice}
use Rattle.std.proofs.lemmas.Iterator.Search.{position_from_yields_List}
use Rattle.store.specs.declared.Place.{Place}
use Rattle.store.specs.Places.{committed_as, find_committed}
use Rattle.live.proofs.FirstLaws.{position_first}
use Rattle.live.proofs.places.find_committed.Goals as goal

pub returns : goal.returns
unfolding find_committed
returns c =
    let p = λ (place : Place). committed_as place.life c.args.number in
    position_first p c.args.places.now c.position.result (omega arith)
    (position_from_yields_List p _ _ _ c.position.ensures.ran (YieldsList-from_slice _ c.iter.ensures.rest) (λ x b q k. search (rules, tests)))
