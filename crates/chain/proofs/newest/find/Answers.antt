-- Where no slot from i on holds a version, the newest below i is the newest below n.
use mathlib.Core.Path.{sym, ◌∙◌}
use native.Mathlib.Omega.{arith}
use Rattle.chain.proofs.NewestLaws.{newest_hit, newest_miss, newest_end}
use Rattle.chain.proofs.newest.find.Goals as goal

pub returns-then-holds : goal.returns-then-holds
returns-then-holds c =
    sym (newest_hit _ _ _ _ c.loop-i-test.true c.holds.ensures c.if-holds.true) ∙ c.loop-i.invariant

pub loop-i-preserved : goal.loop-i-preserved
loop-i-preserved c =
    newest_miss _ _ _ _ c.loop-i-test.true c.holds.ensures c.if-holds.false ∙ c.loop-i.invariant

pub returns : goal.returns
returns c = newest_end _ _ _ (omega arith) ∙ c.loop-i.invariant
