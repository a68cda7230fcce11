-- The table's places, and then those of the numbers that wait, taken in turn: from the next number on they give the places of
-- all live transactions.
use mathlib.Core.Path.{◌∙◌}
use native.Mathlib.Omega.{arith}
use borrow.Author.Rules.{rules}
use Rattle.opening.proofs.WaitLaws.{few_numbers}
use Rattle.opening.proofs.PlacesLaws.{taken_start, taken_turn, taken_end}
use Rattle.opening.proofs.places.lay.Goals as goal

pub loop-waiting-init : goal.loop-waiting-init
loop-waiting-init c =
    rw c.deref-waiting-items.ensures.0
    (taken_start _ _ _ _ c.from_fn.result c.in_ok-list.list.items c.in_ok-list.ensures c.from_fn.ensures.items (λ i y q k. search rules))

pub loop-waiting-preserved : goal.loop-waiting-preserved
loop-waiting-preserved c =
    taken_turn _ _ c.loop-waiting.places _ c.deref-waiting-items.result.now c.loop-waiting.waiting-index _ c.loop-waiting-test.true c.take_log.ensures
    ∙ c.loop-waiting.invariant

pub returns-clause-verdict : goal.returns-clause-verdict
returns-clause-verdict c =
    few_numbers _ _ _ c.deref-waiting-items.result.now (c.deref-waiting-items.ensures.0 ∙ c.in_ok-list.ensures) c.deref-waiting-items.ensures.1

pub returns-clause-value : goal.returns-clause-value
returns-clause-value c = taken_end _ _ _ _ c.loop-waiting.waiting-index (omega arith) ∙ c.loop-waiting.invariant
