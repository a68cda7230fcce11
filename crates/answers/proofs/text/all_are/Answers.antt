-- The bytes are all this one just if those before b are and those from b on are.
use Rattle.answers.proofs.TextLaws.{are_turn, are_end}
use Rattle.answers.proofs.text.all_are.Goals as goal

pub loop-b-preserved : goal.loop-b-preserved
loop-b-preserved c = are_turn _ _ _ _ _ c.loop-b-test.true c.loop-b.invariant

pub returns : goal.returns
returns c = are_end _ _ _ _ _ c.loop-b-test.false c.loop-b.invariant
