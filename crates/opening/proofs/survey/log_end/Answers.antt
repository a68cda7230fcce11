-- The tail is the last block read, found by its sequence, or an empty block.
use native.Mathlib.Omega.{arith}
use Rattle.opening.proofs.SurveyLaws.{end_none, end_last, last_in, last_used}
use Rattle.opening.proofs.survey.log_end.Goals as goal

pub returns-then-count-eq0 : goal.returns-then-count-eq0
returns-then-count-eq0 c =
    end_none _ _ _ _ c.requires.oldest_value.0 c.requires.oldest_value.1 c.if-count-eq0.true c.requires.oldest_bound.0

pub overflow_add-start : goal.overflow_add-start
overflow_add-start c =
    omega (arith, last_in _ _ _ _ c.requires.oldest_value.0 c.requires.oldest_value.1 c.if-count-eq0.false _ c.block_start-start.ensures c.requires.ready)

pub slice_bounds-used-end : goal.slice_bounds-used-end
slice_bounds-used-end c =
    omega (arith, last_in _ _ _ _ c.requires.oldest_value.0 c.requires.oldest_value.1 c.if-count-eq0.false _ c.block_start-start.ensures c.requires.ready)

pub overflow_add-result-2 : goal.overflow_add-result-2
overflow_add-result-2 c =
    omega (arith, last_used _ _ _ _ c.requires.oldest_value.0 c.requires.oldest_value.1 c.if-count-eq0.false _ c.block_start-start.ensures c.requires.ready c.type_inv.medium _ c.used.ensures)

pub returns : goal.returns
returns c =
    end_last _ _ _ _ c.requires.oldest_value.0 c.requires.oldest_value.1 c.if-count-eq0.false _ c.block_start-start.ensures _ c.used.ensures
