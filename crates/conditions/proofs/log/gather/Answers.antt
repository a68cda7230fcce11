-- The commits gathered so far, and those of the records that are left, are those of all records. A commit record takes 19
-- bytes of a block, so that there is room for all of them.
use native.Mathlib.Omega.{arith}
use Rattle.conditions.proofs.CursorLaws.{step_done, step_skip, step_written, step_committed, committed_far}
use Rattle.conditions.proofs.GatherLaws.{gather_start, gather_end, gather_skip, gather_written, gather_room, gather_committed}
use Rattle.conditions.proofs.log.gather.Goals as goal

pub loop-next-init : goal.loop-next-init
loop-next-init c = gather_start _ _ _ _ c.clear.ensures c.requires.valid

pub returns-in-Done : goal.returns-in-Done
returns-in-Done c =
    let g = c.loop-next.invariant in
    gather_end _ _ _ c.loop-next.cursor _ g (step_done _ _ c.requires.ready _ g.valid c.in-Done.ensures)

pub loop-next-smaller-in-Skip : goal.loop-next-smaller-in-Skip
loop-next-smaller-in-Skip c =
    let w = step_skip _ _ c.requires.ready _ _ c.loop-next.invariant.valid c.in-Skip.ensures in w.less

pub loop-next-preserved-in-Skip : goal.loop-next-preserved-in-Skip
loop-next-preserved-in-Skip c =
    let g = c.loop-next.invariant in
    gather_skip _ _ _ c.loop-next.cursor _ g _ (step_skip _ _ c.requires.ready _ _ g.valid c.in-Skip.ensures)

pub loop-next-smaller-in-Written : goal.loop-next-smaller-in-Written
loop-next-smaller-in-Written c =
    let w = step_written _ _ c.requires.ready _ _ _ _ _ c.loop-next.invariant.valid c.in-Written.ensures in w.0.less

pub loop-next-preserved-in-Written : goal.loop-next-preserved-in-Written
loop-next-preserved-in-Written c =
    let g = c.loop-next.invariant in
    let w = step_written _ _ c.requires.ready _ _ _ _ _ g.valid c.in-Written.ensures in
    gather_written _ _ _ c.loop-next.cursor _ g _ _ _ _ _ w.0

pub push-requires : goal.push-requires
push-requires c =
    let g = c.loop-next.invariant in
    (omega arith, gather_room _ _ _ c.loop-next.cursor _ g c.in-Committed.next (committed_far _ _ c.requires.ready _ _ _ _ g.valid c.in-Committed.ensures))

pub loop-next-smaller : goal.loop-next-smaller
loop-next-smaller c =
    let w = step_committed _ _ c.requires.ready _ _ _ _ c.loop-next.invariant.valid c.in-Committed.ensures in w.less

pub loop-next-preserved : goal.loop-next-preserved
loop-next-preserved c =
    let g = c.loop-next.invariant in
    gather_committed _ _ _ c.loop-next.cursor _ g _ (committed_far _ _ c.requires.ready _ _ _ _ g.valid c.in-Committed.ensures) _ _ _ _
    (step_committed _ _ c.requires.ready _ _ _ _ g.valid c.in-Committed.ensures) c.push.ensures.items
