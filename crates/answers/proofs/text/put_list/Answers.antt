-- The lines, and then the rest of the buffer; behind any other answer nothing.
use native.Mathlib.Omega.{arith}
use mathlib.Core.List.{append-nil}
use lib.ListN.{take}
use Rattle.answers.specs.Text.{list_text}
use Rattle.answers.proofs.TextLaws.{list_put, list_none}
use Rattle.answers.proofs.text.put_list.Goals as goal

pub returns-in_default-clause-out_after : goal.returns-in_default-clause-out_after
unfolding list_text
returns-in_default-clause-out_after c = simp (c.in_default.is, append-nil)

pub returns-in_default-answer : goal.returns-in_default-answer
returns-in_default-answer c = record {
  upper_bound = omega arith;
  out_after = simp (c.in-Ok.is, list_none c.in-Ok.answer c.args.buffer.now c.in_default-answer.not-Listed, append-nil);
}

pub returns-clause-out_after : goal.returns-clause-out_after
returns-clause-out_after c =
    simp (c.in-Ok.is, c.in-Listed.is)
    (list_put (take c.args.n c.args.out.now) _ _ c.args.buffer.now _ _ c.put_changes-end.ensures.out_after c.all_are-kept.ensures
    c.put_kept.ensures.out_after)
