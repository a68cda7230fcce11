-- Invariant: what is still to come, played from here, gives what the whole does from the start. A line prints at most
-- 44 bytes and has one byte at least.
use mathlib.Core.Path.{◌≡◌}
use mathlib.Core.Bool.{true}
use mathlib.Core.List.{[]}
use Prim.Native.Nat.{◌+◌, ◌-◌, ◌*◌, ◌≤◌}
use lib.ListN.{length, take, drop}
use Rattle.script.specs.Run.{stand, play_of}
use Rattle.book.specs.Steps.{world, does}
use Rattle.book.proofs.play.play.Given as goal

abbrev pub invariant-loop-at : goal.invariant-loop-at
invariant-loop-at l = record {
  place : l.at ≤ length l.bytes;
  room : l.printed + 44 * (length l.bytes - l.at) ≤ length l.out;
  same :
      play_of does (stand l.line (world l.state l.medium l.cache) true (take l.printed l.out)) (drop l.at l.bytes)
      ≡ play_of does (stand l.fn.begun (world l.initial.state l.initial.medium l.initial.cache) true []) l.bytes;
}

abbrev pub decreases-loop-at : goal.decreases-loop-at
decreases-loop-at l = length l.bytes - l.at
