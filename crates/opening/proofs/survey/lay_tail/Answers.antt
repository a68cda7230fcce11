-- The last block read is found by its sequence; where none was read, the tail is empty.
use native.Mathlib.Omega.{arith}
use Rattle.opening.proofs.SurveyLaws.{tail_none, tail_last, last_in}
use Rattle.opening.proofs.survey.lay_tail.Goals as goal

pub returns-then-log-eq0 : goal.returns-then-log-eq0
returns-then-log-eq0 c =
    tail_none _ _ _ _ c.requires.log_value.0 c.requires.log_value.1 c.if-log-eq0.true _ c.begin.ensures

pub overflow_add-start : goal.overflow_add-start
overflow_add-start c =
    omega (arith, last_in _ _ _ _ c.requires.log_value.0 c.requires.log_value.1 c.if-log-eq0.false _ c.block_start-start.ensures c.requires.ready)

pub slice_bounds-copy_from_slice-end-else-log-eq0 : goal.slice_bounds-copy_from_slice-end-else-log-eq0
slice_bounds-copy_from_slice-end-else-log-eq0 c =
    omega (arith, last_in _ _ _ _ c.requires.log_value.0 c.requires.log_value.1 c.if-log-eq0.false _ c.block_start-start.ensures c.requires.ready)

pub returns-else-log-eq0 : goal.returns-else-log-eq0
returns-else-log-eq0 c =
    tail_last _ _ _ _ c.requires.log_value.0 c.requires.log_value.1 c.if-log-eq0.false _ c.block_start-start.ensures _ c.copy_from_slice.ensures.after
