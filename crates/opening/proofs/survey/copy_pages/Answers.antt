-- The pages are one part of the medium.
use mathlib.Core.Path.{◌∙◌}
use Prim.Native.Nat.{◌+◌, ◌*◌}
use native.Mathlib.Omega.{arith}
use Rattle.fields.specs.Block.{medium_length}
use Rattle.store.specs.OpenRedo.{pages_on}
use Rattle.fields.proofs.PartLaws.{lent_part}
use Rattle.opening.proofs.survey.copy_pages.Goals as goal

pub slice_bounds-copy_from_slice-end : goal.slice_bounds-copy_from_slice-end
unfolding medium_length
slice_bounds-copy_from_slice-end c = omega arith

pub returns : goal.returns
unfolding pages_on
returns c = c.copy_from_slice.ensures.after ∙ lent_part _ (512 * (3 + c.args.blocks)) (512 * c.args.pages)
