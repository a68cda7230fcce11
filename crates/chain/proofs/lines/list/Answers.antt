-- The versions ranked and then kept are those whose lines the definition lists.
use mathlib.Core.Path.{◌∙◌}
use Rattle.chain.proofs.ListLaws.{all_slots, kept_slots, list_short, list_whole}
use Rattle.chain.proofs.lines.list.Goals as goal

pub keep_changes-requires : goal.keep_changes-requires
keep_changes-requires c = all_slots _ _ _ _ _ c.gather.ensures c.requires

pub returns-then-buffer-lines : goal.returns-then-buffer-lines
returns-then-buffer-lines c =
    let kept = c.as_slice-lines.ensures.result_value ∙ c.keep_changes.ensures in
    let p = list_short _ _ _ _ _ c.gather.ensures c.requires _ _ kept _ c.if-buffer-lines.true in
    record { result_value = p.0; buffer_after = p.1 }

pub write-requires-clause-slots : goal.write-requires-clause-slots
write-requires-clause-slots c =
    kept_slots _ _ _ _ _ c.gather.ensures c.requires _ _ (c.as_slice-lines.ensures.result_value ∙ c.keep_changes.ensures)

pub returns : goal.returns
returns c =
    let kept = c.as_slice-lines.ensures.result_value ∙ c.keep_changes.ensures in
    let p = list_whole _ _ _ _ _ c.gather.ensures c.requires _ _ kept _ _ c.if-buffer-lines.false c.write.ensures in
    record { result_value = p.0; buffer_after = p.1 }
