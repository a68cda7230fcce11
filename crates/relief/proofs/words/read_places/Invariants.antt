-- The places before place i are those of the words.
use Rattle.std.proofs.Common.{◌≡◌, ℕ, ◌<◌, length, get_or}
use Rattle.store.specs.Places.{free_place}
use Rattle.relief.specs.Words.{place_in}
use Rattle.relief.proofs.words.read_places.Given as goal

abbrev pub invariant-loop-i : goal.invariant-loop-i
invariant-loop-i l = (length l.places ≡ 64) × ((k : ℕ) → k < l.i → get_or l.places k free_place ≡ place_in l.words k)
