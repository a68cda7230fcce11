-- Invariant: the chosen lines that are left, played from here, end as all of them do from a fresh store on.
use mathlib.Core.Path.{◌≡◌}
use Rattle.book.specs.Steps.{world}
use Rattle.shortest.specs.Script.{end_from, end_of}
use Rattle.shortest.specs.Choice.{picked}
use Rattle.shortest.proofs.play.play.Given as goal

abbrev pub invariant-loop-chosen : goal.invariant-loop-chosen
invariant-loop-chosen l =
    end_from (world l.state l.medium l.cache) l.number
    (picked l.chosen-iterator.a.rest.now l.chosen-iterator.b.rest.now) ≡ end_of (picked l.fn.flags l.fn.calls)
