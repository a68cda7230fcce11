-- `block::same_block` meets its contract: the lent part is block k.
use mathlib.Core.Path.{ap, ◌∙◌}
use Prim.Native.Nat.{ℕ, ◌*◌}
use mathlib.Core.List.{List}
use Rattle.fields.specs.Equal.{eq_list}
use Rattle.fields.specs.Block.{blk}
use Rattle.fields.proofs.EqualLaws.{eq_pointwise}
use Rattle.fields.proofs.PartLaws.{lent_part}
use Rattle.fields.proofs.block.same_block.Goals as goal

pub returns : goal.returns
unfolding blk
returns c =
    c.eq.ensures ∙ eq_pointwise _ _ ∙ ap (λ (l : List ℕ). eq_list l c.args.block.now) (lent_part c.args.medium.now (512 * c.args.k) 512)
