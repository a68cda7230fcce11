-- Invariant: the lines so far are chosen as in choice j, and the bits that are left are a choice of the lines behind
-- them.
use mathlib.Core.Path.{◌≡◌}
use mathlib.Core.Bool.{false}
use mathlib.Core.List.{◌++◌}
use Prim.Native.Nat.{◌-◌, ◌%◌, ◌^◌}
use lib.ListN.{length, take, drop, replicate}
use Rattle.shortest.specs.Choice.{chosen_of}
use Rattle.shortest.proofs.choice.chosen.Given as goal

abbrev pub invariant-loop-i : goal.invariant-loop-i
invariant-loop-i l = record {
  places : length l.flags ≡ 12;
  behind : drop l.i l.flags ≡ replicate (12 - l.i) false;
  same : take l.i l.flags ++ chosen_of (l.m - l.i) (l.j % 2 ^ (l.m - l.i)) ≡ chosen_of l.m l.j;
}
