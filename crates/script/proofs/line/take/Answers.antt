-- The byte at the place of the turn is the first of those to come.
use mathlib.Core.Path.{sym, ◌∙◌}
use native.Mathlib.Omega.{arith}
use Rattle.script.proofs.TakeLaws.{take_newline, take_on, take_end}
use Rattle.script.proofs.line.take.Goals as goal

pub returns-then-bytes-i-eq10 : goal.returns-then-bytes-i-eq10
returns-then-bytes-i-eq10 c =
    sym (take_newline c.args.bytes.now c.loop-i.line c.loop-i.i c.loop-i-test.true c.if-bytes-i-eq10.true) ∙ c.loop-i.invariant

pub loop-i-preserved : goal.loop-i-preserved
loop-i-preserved c =
    sym (take_on c.args.bytes.now c.loop-i.line c.loop-i.i _ c.loop-i-test.true c.if-bytes-i-eq10.false
    c.with_byte-line.ensures) ∙ c.loop-i.invariant

pub returns : goal.returns
returns c =
    sym (take_end c.args.bytes.now c.loop-i.line c.loop-i.i (omega arith)) ∙ c.loop-i.invariant
