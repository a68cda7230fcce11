-- `block::copy_into` meets its contract: what the copy leaves in the lent part is laid over the slice.
use Rattle.fields.proofs.PartLaws.{lent_copy}
use Rattle.fields.proofs.block.copy_into.Goals as goal

pub returns : goal.returns
returns c = lent_copy _ _ _ _ _ c.requires c.copy_from_slice.ensures.len c.copy_from_slice.ensures.after
