-- Where no slot from i on holds a version, the newest below i is the newest below n.
use mathlib.Core.Path.{◌≡◌}
use Rattle.store.specs.Chain.{newest}
use Rattle.chain.proofs.newest.find.Given as goal

abbrev pub invariant-loop-i : goal.invariant-loop-i
invariant-loop-i l = newest l.cache l.key l.i ≡ newest l.cache l.key l.n
