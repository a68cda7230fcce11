-- After each turn the pairs of the places before i lie over the front of the block. Assumes nothing.
use native.Mathlib.Omega.{arith}
use lib.Seq.{take_all}
use Rattle.checkpoints.proofs.PairsLaws.{row, row_begin, row_turn}
use Rattle.checkpoints.proofs.lay_pairs.Goals as goal

pub loop-i-init : goal.loop-i-init
loop-i-init c = row_begin _ _ _

pub loop-i-preserved : goal.loop-i-preserved
loop-i-preserved c =
    row_turn _ _ _ _ _ _ _ _ (omega arith) c.loop-i.invariant c.pair_of.ensures c.write.ensures

pub returns : goal.returns
unfolding row
returns c =
    rw (take_all c.loop-i.i c.args.places.now c.loop-i-test.false) at c.loop-i.invariant
