-- The call is lent medium and cache, and its outcome stands in their place.
use native.Mathlib.Omega.{arith}
use Rattle.turns.proofs.TurnLaws.{make_left}
use Rattle.turns.proofs.turn.make.Goals as goal

pub returns : goal.returns
returns c =
    make_left c.args.standing c.args.medium.now c.args.cache.now c.args.state.now c.args.asked.call _ _ _ _ _ _ _
    c.requires.bound c.requires.call_value c.medium_part.ensures.value c.cache_part.ensures.value (omega arith) (omega arith)
    c.change.auto.medium c.change.auto.cache c.change.ensures
