-- The places from i on are empty; at 0 or behind a place in use that is the extent.
use Rattle.conditions.specs.Lookup.{Extent}
use Rattle.conditions.proofs.table.extent.Given as goal

abbrev pub invariant-loop-i : goal.invariant-loop-i
invariant-loop-i l = Extent l.medium l.i
