-- In each turn the best so far against the best from the present slot on is the best from the head on.
use mathlib.Core.Path.{◌≡◌}
use Prim.Native.Nat.{suc}
use lib.ListN.{length}
use Rattle.store.specs.Chain.{best_from, best_of}
use Rattle.store.specs.Places.{time_under}
use Rattle.cached.specs.Room.{Room}
use Rattle.chain.specs.Later.{or_later}
use Rattle.chain.proofs.best.find.Given as goal

abbrev pub invariant-loop-slot : goal.invariant-loop-slot
invariant-loop-slot l = record {
  room : Room (length l.cache) (suc l.at);
  same : or_later l.best (best_from l.cache (time_under l.places) l.time (suc l.at) l.at) ≡ best_of l.fn.head l.cache (time_under l.places) l.time;
}

abbrev pub decreases-loop-slot : goal.decreases-loop-slot
decreases-loop-slot l = l.at
