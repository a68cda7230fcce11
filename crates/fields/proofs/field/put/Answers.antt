-- `field::put` meets its contract: the bytes up to b, and then the bytes of v that are still to come, are those of n.
use mathlib.Core.Path.{◌∙◌}
use native.Mathlib.Omega.{arith}
use lib.ListN.{length-set}
use Rattle.fields.proofs.FieldLaws.{enc_turn, enc_end}
use Rattle.fields.proofs.field.put.Goals as goal

pub loop-b-preserved : goal.loop-b-preserved
loop-b-preserved c =
    simp length-set (enc_turn c.loop-b.s c.loop-b.b-index c.loop-b.v (omega arith) ∙ c.loop-b.invariant)

pub returns : goal.returns
returns c = enc_end c.loop-b.s _ c.loop-b.b-index c.loop-b.v (omega arith) c.loop-b.invariant
