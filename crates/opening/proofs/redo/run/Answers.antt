-- Each turn takes one record of the log; what is left, applied to the present cache and first changes, is the whole.
use mathlib.Core.Path.{refl}
use native.Mathlib.Omega.{arith}
use Rattle.fields.proofs.Choose.{no}
use Rattle.fields.proofs.PartLaws.{lent_part}
use Rattle.conditions.proofs.CursorLaws.{step_done, step_skip, step_written, step_committed}
use Rattle.opening.proofs.RedoLaws.{going_begin, going_done, going_skip, going_commit, going_slot, going_page, going_pass, going_stop, going_apply}
use Rattle.opening.proofs.redo.run.Goals as goal

pub loop-next-init : goal.loop-next-init
loop-next-init c =
    going_begin _ _ _ _ _ c.requires.valid c.requires.pages_bound.1 c.requires.from_value

pub returns-in-Done : goal.returns-in-Done
returns-in-Done c =
    let g = c.loop-next.invariant in
    let w = going_done g (step_done _ _ c.requires.ready _ g.valid c.in-Done.ensures) in
    (w.0, λ _. w.1)

pub loop-next-smaller-in-Skip : goal.loop-next-smaller-in-Skip
loop-next-smaller-in-Skip c =
    let w = step_skip _ _ c.requires.ready _ _ c.loop-next.invariant.valid c.in-Skip.ensures in
    w.less

pub loop-next-preserved-in-Skip : goal.loop-next-preserved-in-Skip
loop-next-preserved-in-Skip c =
    let w = step_skip _ _ c.requires.ready _ _ c.loop-next.invariant.valid c.in-Skip.ensures in
    going_skip c.loop-next.invariant w

pub must_apply-requires : goal.must_apply-requires
must_apply-requires c =
    let w = step_written _ _ c.requires.ready _ _ _ _ _ c.loop-next.invariant.valid c.in-Written.ensures in
    going_page c.loop-next.invariant _ w.0 _ _ refl

pub is_next-requires : goal.is_next-requires
is_next-requires c =
    let w = step_written _ _ c.requires.ready _ _ _ _ _ c.loop-next.invariant.valid c.in-Written.ensures in
    going_page c.loop-next.invariant _ w.0 _ _ refl

pub returns-then-not-is_next : goal.returns-then-not-is_next
returns-then-not-is_next c =
    let w = step_written _ _ c.requires.ready _ _ _ _ _ c.loop-next.invariant.valid c.in-Written.ensures in
    (going_stop c.loop-next.invariant _ w.0 _ _ refl c.must_apply.result c.must_apply.ensures c.if-must_apply.true c.is_next.result c.is_next.ensures c.if-not-is_next.true, no)

pub overflow_add-value : goal.overflow_add-value
overflow_add-value c =
    let w = step_written _ _ c.requires.ready _ _ _ _ _ c.loop-next.invariant.valid c.in-Written.ensures in
    omega (arith, w.1)

pub slice_bounds-apply-end : goal.slice_bounds-apply-end
slice_bounds-apply-end c =
    let w = step_written _ _ c.requires.ready _ _ _ _ _ c.loop-next.invariant.valid c.in-Written.ensures in
    omega (arith, w.1)

pub apply-requires-clause-slot_bound : goal.apply-requires-clause-slot_bound
apply-requires-clause-slot_bound c =
    let w = step_written _ _ c.requires.ready _ _ _ _ _ c.loop-next.invariant.valid c.in-Written.ensures in
    omega (arith, going_slot c.loop-next.invariant _ w.0 _ _ refl)

pub apply-requires-clause-slot_in_bounds : goal.apply-requires-clause-slot_in_bounds
apply-requires-clause-slot_in_bounds c =
    let w = step_written _ _ c.requires.ready _ _ _ _ _ c.loop-next.invariant.valid c.in-Written.ensures in
    going_page c.loop-next.invariant _ w.0 _ _ refl

pub touch-requires : goal.touch-requires
touch-requires c =
    let w = step_written _ _ c.requires.ready _ _ _ _ _ c.loop-next.invariant.valid c.in-Written.ensures in
    omega (arith, going_slot c.loop-next.invariant _ w.0 _ _ refl)

pub loop-next-smaller-else-not-is_next : goal.loop-next-smaller-else-not-is_next
loop-next-smaller-else-not-is_next c =
    let w = step_written _ _ c.requires.ready _ _ _ _ _ c.loop-next.invariant.valid c.in-Written.ensures in
    w.0.less

pub loop-next-preserved-else-not-is_next : goal.loop-next-preserved-else-not-is_next
loop-next-preserved-else-not-is_next c =
    let w = step_written _ _ c.requires.ready _ _ _ _ _ c.loop-next.invariant.valid c.in-Written.ensures in
    going_apply c.loop-next.invariant _ w.0 _ _ refl c.must_apply.result c.must_apply.ensures c.if-must_apply.true c.is_next.result c.is_next.ensures _ _
    c.if-not-is_next.false (rw (lent_part _ c.in-Written.value 16) at c.apply.ensures) c.touch.ensures

pub loop-next-smaller-else-must_apply : goal.loop-next-smaller-else-must_apply
loop-next-smaller-else-must_apply c =
    let w = step_written _ _ c.requires.ready _ _ _ _ _ c.loop-next.invariant.valid c.in-Written.ensures in
    w.0.less

pub loop-next-preserved-else-must_apply : goal.loop-next-preserved-else-must_apply
loop-next-preserved-else-must_apply c =
    let w = step_written _ _ c.requires.ready _ _ _ _ _ c.loop-next.invariant.valid c.in-Written.ensures in
    going_pass c.loop-next.invariant _ w.0 _ _ refl c.must_apply.result c.must_apply.ensures c.if-must_apply.false

pub loop-next-smaller : goal.loop-next-smaller
loop-next-smaller c =
    let w = step_committed _ _ c.requires.ready _ _ _ _ c.loop-next.invariant.valid c.in-Committed.ensures in
    w.less

pub loop-next-preserved : goal.loop-next-preserved
loop-next-preserved c =
    let w = step_committed _ _ c.requires.ready _ _ _ _ c.loop-next.invariant.valid c.in-Committed.ensures in
    going_commit c.loop-next.invariant _ w _ refl
