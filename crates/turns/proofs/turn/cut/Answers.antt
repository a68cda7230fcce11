-- A room with a medium is shut.
use Rattle.turns.proofs.TurnLaws.{cut_left}
use Rattle.turns.proofs.turn.cut.Goals as goal

pub returns : goal.returns
returns c m k s = cut_left c.args.standing.now m k s c.requires
