-- The table's places, and then those of the numbers that wait, taken in turn: from the next number on they give the places of
-- all live transactions.
use mathlib.Core.Path.{◌≡◌}
use Prim.Native.Nat.{◌*◌}
use lib.ListN.{drop}
use Rattle.store.specs.OpenLog.{read_log}
use Rattle.store.specs.OpenPairs.{open_places}
use Rattle.opening.specs.Placing.{take_all}
use Rattle.opening.proofs.places.lay.Given as goal

abbrev pub invariant-loop-waiting : goal.invariant-loop-waiting
invariant-loop-waiting l =
    take_all l.pairs.medium.now (read_log l.pairs.medium.now l.pairs.blocks) l.places (drop l.waiting-index l.waiting-items)
    ≡ open_places l.pairs.medium.now (read_log l.pairs.medium.now l.pairs.blocks) l.cache (15 * l.pages)
