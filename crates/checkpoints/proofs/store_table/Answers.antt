-- The block is lent, and what is left in it is put back: the pairs of the places from the half's first one on. Assumes nothing.
use mathlib.Core.Path.{◌≡◌, ◌∙◌}
use Prim.Native.Nat.{◌+◌, ◌-◌, ◌*◌, ◌≤◌}
use native.Mathlib.Omega.{arith}
use lib.ListN.{length, take, drop, length-take}
use Rattle.store.specs.Checkpoint.{table_block}
use Rattle.checkpoints.proofs.PairsLaws.{pairs_are, table_laid, row_short}
use Rattle.checkpoints.proofs.store_table.Goals as goal

pub returns : goal.returns
unfolding table_block
returns c =
    let ps = c.args.places.now in
    let from = 32 * (c.args.k - 1) in
    let size : from + 32 - from ≡ 32 = omega arith in
    let short : length (take (from + 32 - from) (drop from ps)) ≤ 32 = simp length-take (omega arith) in
    table_laid _ _ c.args.k _ (omega arith) (row_short _ _ short) c.lay_pairs.auto.block c.lay_pairs.ensures
    ∙ simp (size, pairs_are c.args.oldest ps from 32 (omega arith))
