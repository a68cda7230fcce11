-- With the lines that are left, out is what it is to become.
use mathlib.Core.Path.{◌≡◌}
use lib.ListN.{length, drop}
use Rattle.chain.specs.Ranked.{Slots}
use Rattle.chain.proofs.PickLaws.{laid}
use Rattle.chain.proofs.lines.write.Given as goal

abbrev pub invariant-loop-i : goal.invariant-loop-i
invariant-loop-i l = record {
  size : length l.out ≡ length l.initial.out;
  slots : Slots (drop l.i l.ranked) (length l.cache);
  same : laid l.cache l.ranked l.out l.i ≡ laid l.cache l.ranked l.initial.out 0;
}
