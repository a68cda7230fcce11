-- `field::put8` meets its contract: std writes the bytes of `enc`.
use mathlib.Core.Path.{◌∙◌}
use Rattle.fields.proofs.PartLaws.{lent_copy}
use Rattle.fields.proofs.WordLaws.{enc_word}
use Rattle.fields.proofs.field.put8.Goals as goal

pub returns : goal.returns
returns c =
    lent_copy _ _ _ _ _ c.requires c.copy_from_slice.ensures.len
    (c.copy_from_slice.ensures.after ∙ c.to_le_bytes.ensures ∙ enc_word 8 _)
