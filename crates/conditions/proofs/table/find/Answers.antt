-- Number 0 has no place; any other is searched for up to the table's extent, behind which all places are empty.
use mathlib.Core.Path.{sym, ◌∙◌}
use Rattle.conditions.proofs.TableLaws.{find_none, find_used}
use Rattle.conditions.proofs.table.find.Goals as goal

pub returns-then-number-eq0 : goal.returns-then-number-eq0
returns-then-number-eq0 c = sym (find_none _ _ c.if-number-eq0.true)

pub find_below-requires-clause-count_bound : goal.find_below-requires-clause-count_bound
find_below-requires-clause-count_bound c = c.requires.extent.few

pub returns : goal.returns
returns c = c.find_below.ensures ∙ sym (find_used _ _ _ c.requires.extent c.if-number-eq0.false)
