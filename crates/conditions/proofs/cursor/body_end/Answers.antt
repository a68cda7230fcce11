-- The used bytes but for the ten of the header, cut at the block's end: the least of two numbers.
use native.Mathlib.Omega.{arith}
use Rattle.conditions.proofs.BlockPasses.{body_is}
use Rattle.conditions.proofs.cursor.body_end.Goals as goal

pub returns : goal.returns
returns c = omega (arith, body_is c.args.block.now c.requires)
