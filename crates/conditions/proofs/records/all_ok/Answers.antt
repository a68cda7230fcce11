-- Those seen were in order, and what is left decides; a record that fails ends it. The tallies are the highest so far.
use mathlib.Core.Path.{refl}
use native.Mathlib.Omega.{arith}
use Rattle.conditions.proofs.CursorLaws.{step_done, step_skip, step_written, step_committed, rest_rises}
use Rattle.conditions.proofs.RecordsLaws.{judged_begin, judged_on, judged_end, judged_stop, judged_turn, version_judged, commit_turn, commit_low}
use Rattle.conditions.proofs.records.all_ok.Goals as goal

pub loop-next-init : goal.loop-next-init
loop-next-init c = record { valid = c.requires.valid; judged = judged_begin _ _ _ refl }

pub returns-in-Done-clause-verdict : goal.returns-in-Done-clause-verdict
returns-in-Done-clause-verdict c =
    let i = c.loop-next.invariant in
    let w = judged_end (judged_on i.judged (step_done _ _ c.requires.ready _ i.valid c.in-Done.ensures)) in w.0

pub returns-in-Done-clause-value : goal.returns-in-Done-clause-value
returns-in-Done-clause-value c =
    let i = c.loop-next.invariant in
    let w = judged_end (judged_on i.judged (step_done _ _ c.requires.ready _ i.valid c.in-Done.ensures)) in (w.1, w.2)

pub loop-next-smaller-in-Skip : goal.loop-next-smaller-in-Skip
loop-next-smaller-in-Skip c =
    let w = step_skip _ _ c.requires.ready _ _ c.loop-next.invariant.valid c.in-Skip.ensures in w.less

pub loop-next-preserved-in-Skip : goal.loop-next-preserved-in-Skip
loop-next-preserved-in-Skip c =
    let i = c.loop-next.invariant in
    let w = step_skip _ _ c.requires.ready _ _ i.valid c.in-Skip.ensures in
    record { valid = w.valid; judged = judged_on i.judged w.rest }

pub returns-then-not-number_ok-clause-verdict : goal.returns-then-not-number_ok-clause-verdict
returns-then-not-number_ok-clause-verdict c =
    let i = c.loop-next.invariant in
    let w = step_written _ _ c.requires.ready _ _ _ _ _ i.valid c.in-Written.ensures in
    judged_stop (judged_on i.judged w.0.rest) _ (version_judged _ _ _ _ _ c.number_ok.ensures) c.if-not-number_ok.true

pub loop-next-smaller-in-Written : goal.loop-next-smaller-in-Written
loop-next-smaller-in-Written c =
    let w = step_written _ _ c.requires.ready _ _ _ _ _ c.loop-next.invariant.valid c.in-Written.ensures in w.0.less

pub loop-next-preserved-in-Written : goal.loop-next-preserved-in-Written
loop-next-preserved-in-Written c =
    let i = c.loop-next.invariant in
    let w = step_written _ _ c.requires.ready _ _ _ _ _ i.valid c.in-Written.ensures in
    record {
      valid = w.0.valid;
      judged = judged_turn (judged_on i.judged w.0.rest) _ (version_judged _ _ _ _ _ c.number_ok.ensures) _ _ c.if-not-number_ok.false c.max-above.ensures (omega arith);
    }

pub returns-then-not-commit_ok-clause-verdict : goal.returns-then-not-commit_ok-clause-verdict
returns-then-not-commit_ok-clause-verdict c =
    let i = c.loop-next.invariant in
    let w = step_committed _ _ c.requires.ready _ _ _ _ i.valid c.in-Committed.ensures in
    let j = judged_on i.judged w.rest in
    judged_stop j _ (commit_turn j _ _ (rest_rises _ _ _ c.requires.valid) refl _ c.requires.commits_value _ c.commit_ok.ensures) c.if-not-commit_ok.true

pub overflow_add-pair : goal.overflow_add-pair
overflow_add-pair c = omega (arith, commit_low _ _ _ _ _ c.commit_ok.ensures c.if-not-commit_ok.false)

pub loop-next-smaller : goal.loop-next-smaller
loop-next-smaller c =
    let w = step_committed _ _ c.requires.ready _ _ _ _ c.loop-next.invariant.valid c.in-Committed.ensures in w.less

pub loop-next-preserved : goal.loop-next-preserved
loop-next-preserved c =
    let i = c.loop-next.invariant in
    let w = step_committed _ _ c.requires.ready _ _ _ _ i.valid c.in-Committed.ensures in
    let j = judged_on i.judged w.rest in
    record { valid = w.valid; judged = judged_turn j _ (commit_turn j _ _ (rest_rises _ _ _ c.requires.valid) refl _ c.requires.commits_value _ c.commit_ok.ensures) _ _ c.if-not-commit_ok.false c.max-above-in-Committed.ensures c.max-latest.ensures }
