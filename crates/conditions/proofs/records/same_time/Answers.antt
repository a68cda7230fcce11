-- The time at the table's place, where there is one.
use mathlib.Core.Path.{sym, ◌∙◌}
use Rattle.conditions.proofs.TableLaws.{found_below}
use Rattle.conditions.proofs.records.same_time.Goals as goal

pub read-requires-clause-i_bound : goal.read-requires-clause-i_bound
read-requires-clause-i_bound c = found_below _ _ _ (sym c.place.ensures ∙ c.in-Some.is)

pub returns-in-Some : goal.returns-in-Some
returns-in-Some c = simp (c.eq.ensures, ← c.place.ensures, c.in-Some.is, c.read.ensures)

pub returns-in-None : goal.returns-in-None
returns-in-None c = simp (← c.place.ensures, c.in-None.is)
