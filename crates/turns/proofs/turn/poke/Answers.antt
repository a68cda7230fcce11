-- A byte within the medium, or none.
use Rattle.turns.proofs.TurnLaws.{poke_in, poke_out}
use Rattle.turns.proofs.turn.poke.Goals as goal

pub returns-then-offset-medium_part : goal.returns-then-offset-medium_part
returns-then-offset-medium_part c cache s =
    let k = c.args in
    poke_in k.standing k.medium.now cache s k.offset k.byte _ c.medium_part.ensures.value c.if-offset-medium_part.true

pub returns-else-offset-medium_part : goal.returns-else-offset-medium_part
returns-else-offset-medium_part c cache s =
    let k = c.args in
    poke_out k.standing k.medium.now cache s k.offset k.byte _ c.medium_part.ensures.value c.if-offset-medium_part.false
