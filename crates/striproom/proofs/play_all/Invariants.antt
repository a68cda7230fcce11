-- Each turn takes a byte or more, and no call changes the length of a buffer.
use mathlib.Core.Path.{◌≡◌}
use lib.ListN.{length}
use Rattle.striproom.proofs.play_all.Given as goal

abbrev pub invariant-loop-run : goal.invariant-loop-run
invariant-loop-run g l = (length l.medium ≡ 50688) × (length l.cache ≡ 32768) × (length l.buffer ≡ 40000) × (length l.out ≡ 94000)

abbrev pub decreases-loop-run : goal.decreases-loop-run
decreases-loop-run g l = length l.rest
