-- The end place of the slot's page, lent from the cache, is compared.
use mathlib.Core.Path.{ap}
use Prim.Native.Nat.{ℕ, ◌*◌, ◌/◌}
use native.Mathlib.Omega.{arith}
use lib.Dec.{ltb}
use Rattle.fields.specs.Block.{blk, page_of}
use Rattle.fields.proofs.PartLaws.{lent_part}
use Rattle.store.specs.OpenRedo.{applies}
use Rattle.opening.proofs.redo.must_apply.Goals as goal

pub overflow_mul-start : goal.overflow_mul-start
unfolding page_of
overflow_mul-start c = omega arith

pub overflow_add-start : goal.overflow_add-start
unfolding page_of
overflow_add-start c = omega arith

pub slice_bounds-end-end : goal.slice_bounds-end-end
unfolding page_of
slice_bounds-end-end c = omega arith

pub returns : goal.returns
unfolding applies blk page_of
returns c =
    let a = c.args in
    ap (λ (e : ℕ). ltb e a.end.0) (rw (lent_part _ (512 * (a.head.slot / 15)) 512) at c.end.ensures)
