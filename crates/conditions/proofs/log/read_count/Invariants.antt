-- The blocks passed and those that match behind them are together the blocks that match.
use mathlib.Core.Path.{◌≡◌}
use Prim.Native.Nat.{◌+◌, ◌-◌}
use Rattle.store.specs.OpenLog.{matching}
use Rattle.conditions.proofs.log.read_count.Given as goal

abbrev pub invariant-loop-k : goal.invariant-loop-k
invariant-loop-k l = l.k + matching l.medium l.blocks (l.oldest + l.k) (l.blocks - l.k) ≡ matching l.medium l.blocks l.oldest l.blocks
