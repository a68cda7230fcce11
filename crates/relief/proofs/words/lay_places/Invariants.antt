-- The places before place i are laid, and the words in front of the places stay.
use Rattle.std.proofs.Common.{◌≡◌, ℕ, ◌<◌, get_or}
use Rattle.store.specs.Places.{free_place}
use Rattle.relief.specs.Words.{place_in}
use Rattle.relief.proofs.words.lay_places.Given as goal

abbrev pub invariant-loop-i : goal.invariant-loop-i
invariant-loop-i l = ((k : ℕ) → k < 128 → get_or l.words k 0 ≡ get_or l.initial.words k 0) × ((k : ℕ) → k < l.i → place_in l.words k ≡ get_or l.places k free_place)
