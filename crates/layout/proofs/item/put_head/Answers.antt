-- `item::put_head` meets its contract: the length lies just behind the tag.
use mathlib.Core.Path.{◌∙◌}
use Rattle.layout.proofs.RecordLaws.{head_written}
use Rattle.layout.proofs.item.put_head.Goals as goal

pub returns : goal.returns
returns c = c.put2.ensures ∙ head_written _ _ _ _
