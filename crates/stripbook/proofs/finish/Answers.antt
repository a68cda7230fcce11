-- A line that was begun ends with the input.
use mathlib.Core.Path.{refl}
use borrow.Author.Tests.{eq-eqb}
use Rattle.script.specs.Run.{finished}
use Rattle.script.proofs.TakeLaws.{end_line}
use Rattle.book.specs.Steps.{does}
use Rattle.stripbook.proofs.finish.Goals as goal

pub returns-then-run-eq0 : goal.returns-then-run-eq0
unfolding finished
returns-then-run-eq0 g c =
    record {
      on_value = refl;
      out_after = simp (eq-eqb _ _ c.if-run-eq0.true);
    }

pub returns : goal.returns
returns g c =
    record {
      on_value = refl;
      out_after = end_line does _ _ _ c.if-run-eq0.false c.play_out-last.ensures;
    }
