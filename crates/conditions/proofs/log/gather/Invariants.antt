-- The commits gathered so far, and those of the records that are left, are those of all records. A commit record takes 19
-- bytes of a block, so that there is room for all of them.
use Rattle.conditions.proofs.CursorLaws.{measure}
use Rattle.conditions.proofs.GatherLaws.{Gathering}
use Rattle.conditions.proofs.log.gather.Given as goal

abbrev pub invariant-loop-next : goal.invariant-loop-next
invariant-loop-next l = Gathering l.medium l.blocks l.initial.cursor l.cursor l.commits.items

abbrev pub decreases-loop-next : goal.decreases-loop-next
decreases-loop-next l = measure l.cursor
