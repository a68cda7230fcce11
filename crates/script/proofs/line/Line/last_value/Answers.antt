-- The number of both halves has the bytes of both.
use mathlib.Core.Path.{◌∙◌}
use native.Mathlib.Omega.{arith}
use borrow.Author.Tests.{eq-eqb}
use Rattle.script.specs.Reader.{last_word}
use Rattle.script.proofs.WideLaws.{value_wide}
use Rattle.script.proofs.line.Line.last_value.Goals as goal

pub returns : goal.returns
unfolding last_word
returns c =
    let line = c.args.self in
    let e = c.to_be_bytes.ensures ∙ value_wide c.from.result c.from-2.result (omega arith) (omega arith) in
    simp (eq-eqb _ _ c.if-self-ne32.false, e, c.from.ensures, c.from-2.ensures)
