-- It is the test of `tail_fits`, and the used bytes are a number of two bytes. Assumes nothing.
use native.Mathlib.Omega.{arith}
use Rattle.store.specs.Tail.{tail_fits}
use Rattle.tail.proofs.TailLaws.{used_below}
use Rattle.tail.proofs.has_room.Goals as goal

pub overflow_add-result : goal.overflow_add-result
overflow_add-result c = omega (arith, used_below c.args.tail.now c.fits-tail)

pub returns : goal.returns
unfolding tail_fits
returns c = simp c.used.ensures
