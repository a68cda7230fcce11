-- The first block is lent, and the master is laid over the whole of it. Assumes nothing.
use mathlib.Core.Path.{ap, ◌∙◌}
use Rattle.fields.specs.Part.{splice}
use Rattle.fields.specs.Block.{put}
use Rattle.fields.proofs.PartLaws.{lent_back}
use Rattle.checkpoints.proofs.store_master.Goals as goal

pub returns : goal.returns
unfolding put
returns c = lent_back _ _ 0 512 c.requires c.write.auto.block ∙ ap (splice _ 0) c.write.ensures
