-- After each turn the pairs of the places before i lie over the front of the block. Assumes nothing.
use mathlib.Core.Path.{◌≡◌}
use Rattle.fields.specs.Part.{splice}
use Rattle.checkpoints.proofs.PairsLaws.{row}
use Rattle.checkpoints.proofs.lay_pairs.Given as goal

abbrev pub invariant-loop-i : goal.invariant-loop-i
invariant-loop-i l = l.block ≡ splice l.initial.block 0 (row l.oldest l.places l.i)
