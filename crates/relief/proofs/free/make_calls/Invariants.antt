-- What was printed, and what the definition still does with the room as it is, make up the whole; the next call is known.
use Rattle.std.proofs.Common.{◌≡◌, ◌*◌, ◌-◌, ◌≤◌, length, take}
use Rattle.store.specs.Relief.{relief_of}
use Rattle.relief.specs.Free.{behind, freed_from}
use Rattle.relief.proofs.free.make_calls.Given as goal

abbrev pub invariant-loop : goal.invariant-loop
invariant-loop l = (l.n ≤ 44 * l.counter) × (length l.medium ≡ length l.initial.medium) × (length l.cache ≡ length l.initial.cache) × (length l.out ≡ length l.initial.out) × (behind (take l.n l.out) (freed_from (70 - l.counter) l.state l.medium l.cache) ≡ freed_from 70 l.initial.state l.initial.medium l.initial.cache) × (l.next ≡ relief_of l.state l.medium l.cache)
