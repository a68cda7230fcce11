-- `end_place` is given the sequence and the used bytes, which are a number of two bytes. Assumes nothing.
use mathlib.Core.Path.{ap, ◌∙◌}
use Prim.Native.Nat.{ℕ}
use native.Mathlib.Omega.{arith}
use Rattle.layout.specs.declared.EndPlace.{EndPlace}
use Rattle.store.specs.Tail.{tail_end}
use Rattle.tail.proofs.TailLaws.{used_below}
use Rattle.tail.proofs.end_of.Goals as goal

pub end_place-requires : goal.end_place-requires
end_place-requires c = (omega arith, omega (arith, used_below c.args.tail.now c.fits-tail))

place_of : ℕ → EndPlace
place_of e = record { 0 = e }

pub returns : goal.returns
unfolding tail_end place_of
returns c = ap place_of c.end_place.ensures ∙ simp (c.sequence.ensures, c.used.ensures)
