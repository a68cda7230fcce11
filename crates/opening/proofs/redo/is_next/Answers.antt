-- The used slots of the slot's page, lent from the cache, are compared.
use mathlib.Core.Path.{ap}
use Prim.Native.Nat.{◌*◌, ◌/◌, ◌%◌}
use native.Mathlib.Omega.{arith}
use lib.Dec.{eqb}
use Rattle.fields.specs.Block.{blk, page_of}
use Rattle.fields.proofs.PartLaws.{lent_part}
use Rattle.opening.proofs.redo.is_next.Goals as goal

pub overflow_mul-start : goal.overflow_mul-start
unfolding page_of
overflow_mul-start c = omega arith

pub overflow_add-start : goal.overflow_add-start
unfolding page_of
overflow_add-start c = omega arith

pub slice_bounds-used-end : goal.slice_bounds-used-end
unfolding page_of
slice_bounds-used-end c = omega arith

pub returns : goal.returns
unfolding blk page_of
returns c =
    let a = c.args in
    rw c.from.ensures (ap (eqb (a.head.slot % 15)) (rw (lent_part _ (512 * (a.head.slot / 15)) 512) at c.used.ensures))
