-- `field::put2` meets its contract: std writes the bytes of `enc`, of which the two lowest are copied.
use mathlib.Core.Path.{ap, ◌∙◌}
use lib.ListN.{take}
use Rattle.fields.proofs.PartLaws.{lent_copy}
use Rattle.fields.proofs.WordLaws.{enc_word}
use Rattle.fields.proofs.field.put2.Goals as goal

pub returns : goal.returns
returns c =
    lent_copy _ _ _ _ _ c.requires c.copy_from_slice.ensures.len
    (c.copy_from_slice.ensures.after ∙ ap (take 2) c.to_le_bytes.ensures ∙ enc_word 2 _)
