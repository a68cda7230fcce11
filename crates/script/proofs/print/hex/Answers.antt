-- Two digits more behind those of the first bytes are the digits of one byte more.
use mathlib.Core.List.{append-nil}
use mathlib.Core.Path.{sym}
use native.Mathlib.Omega.{arith}
use lib.ListN.{take}
use Rattle.script.specs.Print.{hex_of}
use Rattle.script.proofs.PrintLaws.{hex_turn}
use Rattle.script.proofs.print.hex.Goals as goal

pub loop-b-init : goal.loop-b-init
unfolding hex_of
loop-b-init c = (omega arith, sym (append-nil (take c.args.n c.args.out.now)))

pub loop-b-preserved : goal.loop-b-preserved
loop-b-preserved c = (
  omega arith,
  hex_turn _ _ _ (take c.args.n c.args.out.now) c.args.text.now c.loop-b.b-index _ _ c.loop-b-test.true
      c.loop-b.invariant.1 c.byte-at.ensures.out_after c.byte-at-in-loop-b.ensures.out_after c.digit.ensures
      c.digit-in-loop-b.ensures,
)
