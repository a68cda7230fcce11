-- `block::store` meets its contract: the copy fills the lent part, which is block k.
use Rattle.fields.specs.Block.{put}
use Rattle.fields.proofs.PartLaws.{lent_copy}
use Rattle.fields.proofs.block.store.Goals as goal

pub returns : goal.returns
unfolding put
returns c = lent_copy _ _ _ _ _ c.requires.k_in_bounds c.copy_from_slice.ensures.len c.copy_from_slice.ensures.after
