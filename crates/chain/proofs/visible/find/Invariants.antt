-- In each turn what is seen from the present slot on is what is seen from the head on.
use mathlib.Core.Path.{◌≡◌}
use Prim.Native.Nat.{suc}
use lib.ListN.{length}
use Rattle.store.specs.Chain.{visible_from, visible_of}
use Rattle.store.specs.Places.{time_under}
use Rattle.cached.specs.Room.{Room}
use Rattle.chain.proofs.visible.find.Given as goal

abbrev pub invariant-loop-slot : goal.invariant-loop-slot
invariant-loop-slot l = record {
  room : Room (length l.cache) (suc l.at);
  same : visible_from l.cache (time_under l.places) l.number (suc l.at) l.at ≡ visible_of l.fn.head l.cache (time_under l.places) l.number;
}

abbrev pub decreases-loop-slot : goal.decreases-loop-slot
decreases-loop-slot l = l.at
