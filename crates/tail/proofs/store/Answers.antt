-- The block of the tail's sequence lies within the medium. Assumes nothing.
use native.Mathlib.Omega.{arith}
use Rattle.layout.proofs.PlaceLaws.{log_in_medium}
use Rattle.store.specs.Tail.{stored_tail}
use Rattle.tail.proofs.store.Goals as goal

pub store-requires-clause-k_in_bounds : goal.store-requires-clause-k_in_bounds
store-requires-clause-k_in_bounds c =
    let s = c.args.state.now in
    omega (arith, log_in_medium s.blocks s.pages c.sequence.result (omega arith))

pub returns : goal.returns
unfolding stored_tail
returns c = simp (c.sequence.ensures, c.log_block-k.ensures) at c.store.ensures
