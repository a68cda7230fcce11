-- Each turn takes one record of the log; what is left, applied to the present cache and first changes, is the whole.
use Rattle.conditions.specs.Cursor.{rest_of}
use Rattle.conditions.proofs.CursorLaws.{measure}
use Rattle.opening.proofs.RedoLaws.{Going}
use Rattle.opening.proofs.redo.run.Given as goal

abbrev pub invariant-loop-next : goal.invariant-loop-next
invariant-loop-next l = Going l.medium l.blocks l.pages l.cursor (record { cache = l.cache; first = l.first }) (record { cache = l.initial.cache; first = l.initial.first }) (rest_of l.medium l.blocks l.initial.cursor)

abbrev pub decreases-loop-next : goal.decreases-loop-next
decreases-loop-next l = measure l.cursor
