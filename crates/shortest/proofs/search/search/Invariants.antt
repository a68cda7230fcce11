-- Invariant: the best so far, and then the choices that are left, give the best of all.
use mathlib.Core.Path.{◌≡◌}
use Prim.Native.Nat.{◌-◌, ◌^◌, ◌<◌}
use Rattle.shortest.specs.Search.{best_from}
use Rattle.shortest.specs.Kept.{size_in, ends_in, best_in}
use Rattle.shortest.proofs.search.search.Given as goal

abbrev pub invariant-loop-j : goal.invariant-loop-j
invariant-loop-j l =
    (l.best < 2 ^ l.m)
    × (best_from (size_in l.m) (ends_in l.calls l.m l.number) l.best l.j (2 ^ l.m - l.j) ≡ best_in l.calls l.m l.number)
