-- The medium before does not matter.
use mathlib.Core.Path.{sym, ◌∙◌}
use native.Mathlib.Omega.{arith}
use Rattle.turns.proofs.TurnLaws.{stage_accepted, stage_refused, format_left}
use Rattle.turns.proofs.turn.format.Goals as goal

pub returns-then-is_ok : goal.returns-then-is_ok
returns-then-is_ok c cache s =
    let stage = stage_accepted _ (sym c.is_ok.ensures.value ∙ c.if-is_ok.true) in
    format_left c.args.blocks c.args.pages _ _ _ _ c.args.medium.now cache s stage c.fresh_length-bytes.ensures.value
    c.fresh_length-bytes.ensures.upper_bound (omega arith) c.format-answer.auto.medium c.format-answer.ensures

pub returns-else-is_ok : goal.returns-else-is_ok
returns-else-is_ok c cache s =
    let stage = stage_refused _ (sym c.is_ok.ensures.value ∙ c.if-is_ok.false) in
    format_left c.args.blocks c.args.pages _ _ _ _ c.args.medium.now cache s stage c.fresh_length-bytes.ensures.value
    c.fresh_length-bytes.ensures.upper_bound (omega arith) c.format-answer.auto.medium c.format-answer.ensures
