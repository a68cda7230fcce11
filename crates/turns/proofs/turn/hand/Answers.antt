-- The handover is lent medium and cache, and what it leaves stands in their place.
use native.Mathlib.Omega.{arith}
use Rattle.turns.proofs.TurnLaws.{hand_left}
use Rattle.turns.proofs.turn.hand.Goals as goal

pub returns : goal.returns
returns c =
    hand_left c.args.standing c.args.medium.now c.args.cache.now c.args.state.now c.args.asked _ _ _ _ _ _ c.requires.bound
    c.medium_part.ensures.value c.cache_part.ensures.value (omega arith) (omega arith) c.hand.auto.medium c.hand.auto.cache
    c.hand.ensures
