-- The lines put and the lines left are the whole list.
use native.Mathlib.Omega.{arith}
use Prim.Native.Nat.{◌*◌}
use lib.ListN.{take}
use Rattle.fields.proofs.PartLaws.{lent_part}
use Rattle.answers.proofs.TextLaws.{changes_turn, changes_end}
use Rattle.answers.proofs.text.put_changes.Goals as goal

pub loop-i-preserved : goal.loop-i-preserved
loop-i-preserved c = (
  omega arith,
  changes_turn c.args.buffer.now _ _ c.loop-i.i (take c.loop-i.end c.loop-i.out) _ c.loop-i-test.true
      (rw (lent_part c.args.buffer.now (32 * c.loop-i.i) 32) at c.put_change-end.ensures.out_after) c.loop-i.invariant.1,
)

pub returns-clause-out_after : goal.returns-clause-out_after
returns-clause-out_after c =
    changes_end c.args.buffer.now _ _ c.loop-i.i (take c.loop-i.end c.loop-i.out) c.loop-i-test.false c.loop-i.invariant.1
