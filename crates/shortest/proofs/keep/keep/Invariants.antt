-- Invariant: the calls that are kept, with those of the lines from here on, are those of the script.
use Rattle.std.specs.Prelude.{None}
use mathlib.Core.Path.{◌≡◌}
use mathlib.Core.List.{◌++◌}
use Prim.Native.Nat.{◌-◌, ◌≤◌}
use lib.ListN.{length, take, drop, replicate}
use Rattle.script.specs.Words.{lines_of}
use Rattle.shortest.specs.Script.{script_of, calls_of}
use Rattle.shortest.proofs.KeepLaws.{calls_at}
use Rattle.shortest.proofs.keep.keep.Given as goal

abbrev pub invariant-loop-at : goal.invariant-loop-at
invariant-loop-at l = record {
  count : l.n ≤ 12;
  place : l.at ≤ length l.bytes;
  places : length l.calls ≡ 12;
  behind : drop l.n l.calls ≡ replicate (12 - l.n) None;
  same : take l.n l.calls ++ calls_at l.bytes l.at ≡ calls_of (script_of (lines_of l.bytes));
}

abbrev pub decreases-loop-at : goal.decreases-loop-at
decreases-loop-at l = length l.bytes - l.at
