-- A line that was begun ends with the input.
use borrow.Author.Tests.{eq-eqb}
use Rattle.script.specs.Run.{finished}
use Rattle.script.proofs.TakeLaws.{end_line}
use Rattle.rooms.specs.Steps.{does}
use Rattle.rooms.proofs.PlayLaws.{last_byte}
use Rattle.replay.proofs.finish.Goals as goal

pub returns-then-run-eq0-clause-out_after : goal.returns-then-run-eq0-clause-out_after
unfolding finished
returns-then-run-eq0-clause-out_after g c = simp (eq-eqb _ _ c.if-run-eq0.true)

pub returns-clause-out_after : goal.returns-clause-out_after
returns-clause-out_after g c =
    end_line does _ _ _ c.if-run-eq0.false (last_byte _ _ _ c.play_out-last.ensures.taken_nonzero c.play_out-last.ensures.out_after)
