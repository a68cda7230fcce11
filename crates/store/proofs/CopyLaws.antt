-- A page of the cache that an opening begins with is the medium's: both are the same bytes of the medium.
use Prim.Native.Nat.{ℕ, ◌+◌, ◌*◌, ◌<◌}
use native.Mathlib.Omega.{arith}
use mathlib.Core.Path.{◌≡◌}
use mathlib.Core.List.{List}
use Rattle.fields.specs.Block.{blk, page_block_at}
use Rattle.fields.proofs.PartLaws.{part_part}
use Rattle.store.specs.OpenRedo.{pages_on}

pub page_copied : (m : List ℕ) (l d p : ℕ) → p < d → blk (pages_on m l d) p ≡ blk m (page_block_at l p)
unfolding pages_on blk page_block_at
page_copied m l d p h =
    let e : 512 * (3 + l) + 512 * p ≡ 512 * (3 + l + p) = omega arith in
    rw e at (part_part m (512 * (3 + l)) (512 * d) (512 * p) 512 (omega arith))
