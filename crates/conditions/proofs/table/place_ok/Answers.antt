-- The tests in the order of the definition; then the search below the place.
use Rattle.std.proofs.Common.{arith}
use Rattle.std.proofs.lemmas.Grind.{common_steps}
use borrow.Author.Tests.{eq-eqb, ne_eqb, lt-ltb, le-leb}
use Rattle.conditions.proofs.AllOfLaws.{none_at}
use Rattle.conditions.specs.Passes.{place_ok}
use Rattle.conditions.proofs.table.place_ok.Goals as goal

pub returns-then-number-eq0 : goal.returns-then-number-eq0
unfolding place_ok
returns-then-number-eq0 c = simp (← c.read-pair.ensures, eq-eqb _ _ c.if-number-eq0.true)

pub returns-then-time-ne0 : goal.returns-then-time-ne0
unfolding place_ok
returns-then-time-ne0 c =
    let t = c.if-time-ne0.true in
    simp (← c.read-pair.ensures, ne_eqb _ _ c.if-number-eq0.false, lt-ltb _ _ t.0, le-leb _ _ t.1, ne_eqb _ _ t.2, ← c.find_below.ensures)
    (none_at c.find_below.result c.is_none.result c.is_none.ensures)

pub returns-else-time-ne0 : goal.returns-else-time-ne0
unfolding place_ok
returns-else-time-ne0 c = simp (← c.read-pair.ensures, ne_eqb _ _ c.if-number-eq0.false) (grind (arith, common_steps))
