-- `field::get2` meets its contract: std reads the copied bytes as `dec` does.
use mathlib.Core.Path.{◌∙◌}
use Rattle.fields.proofs.WordLaws.{dec_copied}
use Rattle.fields.proofs.field.get2.Goals as goal

pub returns : goal.returns
returns c = c.from.ensures ∙ c.from_le_bytes.ensures ∙ dec_copied _ _ c.args.at 1 c.requires c.copy_from_slice.ensures.after
