-- Each call follows on what the one before left: the definition takes the same way, call by call, and a refusal is given up where
-- it arises.
use mathlib.Core.Path.{sym, ◌∙◌}
use Rattle.std.proofs.lemmas.Result.{err_from_is_err_and}
use Rattle.store.specs.Answer.{answer_value}
use Rattle.handover.specs.Hand.{may_hand, after_begin, after_read, after_check}
use Rattle.handover.proofs.HandLaws.{not_present, commit_gives, write_refused, commit_refused, committed_at}
use Rattle.handover.proofs.hand.carry.Goals as goal

pub returns-in_err-reading : goal.returns-in_err-reading
unfolding after_begin after_read answer_value
returns-in_err-reading c = let p = err_from_is_err_and c.from_residual.result c.from_residual.ensures.1 in rw (p.1, p.2, ← c.in_err-reading.ensures)

pub returns-in_default : goal.returns-in_default
unfolding after_begin after_read after_check may_hand answer_value
returns-in_default c = simp (← c.in_ok-reading.ensures, not_present c.in_ok-reading.reading c.in_default.not-Present)

pub returns-then-not-may_hand : goal.returns-then-not-may_hand
unfolding after_begin after_read after_check answer_value
returns-then-not-may_hand c =
    let read = rw c.in-Present.is at c.in_ok-reading.ensures in
    simp (← read, ← c.may_hand.ensures, c.if-not-may_hand.true)

pub returns-in_err-write : goal.returns-in_err-write
returns-in_err-write c =
    let read = rw c.in-Present.is at c.in_ok-reading.ensures in
    let may = sym c.may_hand.ensures ∙ c.if-not-may_hand.false in
    let p = err_from_is_err_and c.from_residual-in_err-write.result c.from_residual-in_err-write.ensures.1 in
    rw (p.1, p.2) (write_refused _ _ _ _ _ _ read may _ _ _ _ c.in_err-write.ensures)

pub returns-in_err-committed : goal.returns-in_err-committed
returns-in_err-committed c =
    let read = rw c.in-Present.is at c.in_ok-reading.ensures in
    let may = sym c.may_hand.ensures ∙ c.if-not-may_hand.false in
    let p = err_from_is_err_and c.from_residual-in_err-committed.result c.from_residual-in_err-committed.ensures.1 in
    rw (p.1, p.2) (commit_refused _ _ _ _ _ _ read may _ _ _ _ c.in_ok-write.ensures _ _ _ c.in_err-committed.ensures)

pub unreachable-requires : goal.unreachable-requires
unreachable-requires c =
    commit_gives _ _ _ _ _ _ _ _ _ _ _ _ _ _ c.in_ok-write.ensures c.in_ok-committed.ensures c.in_default-committed.not-Committed

pub returns : goal.returns
returns c =
    let read = rw c.in-Present.is at c.in_ok-reading.ensures in
    let may = sym c.may_hand.ensures ∙ c.if-not-may_hand.false in
    let end = rw c.in-Committed.is at c.in_ok-committed.ensures in
    committed_at _ _ _ _ _ _ read may _ _ _ _ c.in_ok-write.ensures _ _ _ end
