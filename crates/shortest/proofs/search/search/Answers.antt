-- A turn keeps the better of the best so far and the next choice.
use native.Mathlib.Omega.{arith}
use Rattle.shortest.proofs.ChoiceLaws.{some}
use Rattle.shortest.proofs.SearchLaws.{better_yes, better_no, best_turn, best_end, best_start}
use Rattle.shortest.proofs.search.search.Goals as goal
use Rattle.shortest.proofs.search.search.Goals.{then-is_better, else-is_better}

pub loop-j-init : goal.loop-j-init
loop-j-init c = let a = c.args in (some a.m, best_start _ a.m a.number)

pub loop-j-preserved : goal.loop-j-preserved
loop-j-preserved c =
    let h = c.loop-j.invariant in
    elim c.if-is_better.branch [
      | then-is_better w ↦ (
        rw w.best-is (omega arith),
        rw w.best-is (best_turn _ _ _ _ c.loop-j.j _ _ (omega arith)
            (better_yes _ _ c.loop-j.best c.loop-j.j c.is_better.ensures w.if-is_better.true) h.1),
      )
      | else-is_better w ↦ (
        rw w.best-is h.0,
        rw w.best-is (best_turn _ _ _ _ c.loop-j.j _ _ (omega arith)
            (better_no _ _ c.loop-j.best c.loop-j.j c.is_better.ensures w.if-is_better.false) h.1),
      )
    ]

pub returns-clause-value : goal.returns-clause-value
returns-clause-value c = best_end _ _ _ c.loop-j.j _ _ (omega arith) c.loop-j.invariant.1
