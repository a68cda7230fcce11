-- What is left is what the calls under the number leave, and where they were refused what their abort leaves.
use mathlib.Core.Path.{sym, ◌∙◌}
use Rattle.std.proofs.lemmas.Result.{err_from_is_err_and}
use Rattle.handover.specs.Hand.{after_begin, hand_of}
use Rattle.handover.proofs.HandLaws.{begin_gives, aborted_at, handed_at}
use Rattle.handover.proofs.hand.hand.Goals as goal

pub returns-in_err-begun : goal.returns-in_err-begun
unfolding after_begin hand_of
returns-in_err-begun c = let p = err_from_is_err_and c.from_residual.result c.from_residual.ensures.1 in rw (p.1, p.2, ← c.in_err-begun.ensures)

pub unreachable-requires : goal.unreachable-requires
unreachable-requires c = begin_gives _ _ _ _ _ _ c.in_ok-begun.ensures c.in_default.not-Begun

pub returns-then-is_err : goal.returns-then-is_err
returns-then-is_err c =
    let begun = rw c.in-Begun.is at c.in_ok-begun.ensures in
    aborted_at _ _ _ _ _ _ _ _ _ begun _ c.carry-handed.ensures (sym c.is_err.ensures.value ∙ c.if-is_err.true) _ _ c.abort.ensures

pub returns-else-is_err : goal.returns-else-is_err
returns-else-is_err c =
    let begun = rw c.in-Begun.is at c.in_ok-begun.ensures in
    handed_at _ _ _ _ _ _ _ _ _ begun _ c.carry-handed.ensures (sym c.is_err.ensures.value ∙ c.if-is_err.false)
