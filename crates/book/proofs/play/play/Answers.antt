-- A turn takes one line; the bytes of its call's line are put behind those that were put before.
use mathlib.Core.Path.{sym, ap, ◌∙◌}
use native.Mathlib.Omega.{arith}
use lib.ListN.{drop_of_length-le}
use borrow.Author.Tests.{not-true, not-false}
use Rattle.script.specs.Run.{play_of}
use Rattle.script.proofs.TakeLaws.{step_on, step_stop}
use Rattle.book.specs.Steps.{does}
use Rattle.book.proofs.PlayLaws.{step_other, step_call}
use Rattle.book.proofs.play.play.Goals as goal

pub returns-then-not-taken-clause-out_after : goal.returns-then-not-taken-clause-out_after
returns-then-not-taken-clause-out_after c =
    sym (step_stop c.args.bytes.now c.loop-at.line c.loop-at.at c.take-taken.result c.loop-at-test.true
    c.take-taken.ensures does _ _ (not-true c.take-taken.result.ended c.if-not-taken.true))
    ∙ c.loop-at.invariant.same

pub returns-in_default-clause-out_after : goal.returns-in_default-clause-out_after
returns-in_default-clause-out_after c =
    sym (step_other c.args.bytes.now c.loop-at.line c.loop-at.at c.take-taken.result c.loop-at-test.true
    c.take-taken.ensures (not-false c.take-taken.result.ended c.if-not-taken.false) _ _ c.empty-line.result
    c.empty-line.ensures (sym c.meaning.ensures ∙ c.in_default.is))
    ∙ c.loop-at.invariant.same

pub loop-at-smaller : goal.loop-at-smaller
loop-at-smaller c =
    let w = step_on c.args.bytes.now _ c.loop-at.at c.take-taken.result c.loop-at-test.true c.take-taken.ensures in
    omega arith

pub loop-at-preserved : goal.loop-at-preserved
loop-at-preserved c =
    let w = step_on c.args.bytes.now _ c.loop-at.at c.take-taken.result c.loop-at-test.true c.take-taken.ensures in
    let v = c.loop-at.invariant in
    record {
      place = w.1;
      room = omega arith;
      same =
          step_call c.args.bytes.now c.loop-at.line c.loop-at.at c.take-taken.result c.loop-at-test.true
          c.take-taken.ensures (not-false c.take-taken.result.ended c.if-not-taken.false) _ _ c.empty-line.result
          c.empty-line.ensures c.in-Some.call c.letter.result _ c.make-said.result _ (sym c.meaning.ensures ∙ c.in-Some.is)
          c.letter.ensures c.make-said.ensures.left c.make-said.ensures.said c.put-printed.ensures.out_after ∙ v.same;
    }

pub returns-clause-out_after : goal.returns-clause-out_after
unfolding play_of
returns-clause-out_after c =
    ap (play_of does _) (sym (drop_of_length-le _ c.loop-at-test.false)) ∙ c.loop-at.invariant.same
