-- The bytes are all zero just if those before b are and those from b on are.
use Rattle.fields.proofs.EqualLaws.{zero_turn, zero_end}
use Rattle.fields.proofs.block.all_zero.Goals as goal

pub loop-b-preserved : goal.loop-b-preserved
loop-b-preserved c = zero_turn _ _ _ _ c.loop-b-test.true c.loop-b.invariant

pub returns : goal.returns
returns c = zero_end _ _ _ _ c.loop-b-test.false c.loop-b.invariant
