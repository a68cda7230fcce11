-- A line that is taken ends within the bytes, and the room plays it where its stage is reached.
use mathlib.Core.Path.{refl}
use mathlib.Core.Bool.{true}
use mathlib.Core.List.{[]}
use borrow.Author.Tests.{not-true, not-false}
use Rattle.script.specs.Run.{stand}
use Rattle.script.proofs.TakeLaws.{step_on}
use Rattle.rooms.specs.Parts.{room_of}
use Rattle.rooms.specs.Room.{turn_of}
use Rattle.rooms.proofs.PlayLaws.{play_stop, play_over, play_goes, not_played, is_played}
use Rattle.striproom.proofs.PlayLaws.{at_first, leads, IfOk-at}
use Rattle.striproom.proofs.play.play.Goals as goal

pub returns-then-not-taken-clause-leads : goal.returns-then-not-taken-clause-leads
returns-then-not-taken-clause-leads g c =
    let k = c.args in
    let room = room_of k.run.standing k.medium.now k.cache.now k.state.now in
    λ o. rw o
    (leads _ _ _ _ [] _
    (play_stop (stand k.run.line room true []) k.bytes.now _ _ _ 0 c.take-taken.result c.requires.bytes_nonzero c.take-taken.ensures
    (at_first k.run.line room k.bytes.now)
    (not-true c.take-taken.result.ended c.if-not-taken.true))
    refl)

pub returns-then-reached-p-clause-next_nonzero : goal.returns-then-reached-p-clause-next_nonzero
returns-then-reached-p-clause-next_nonzero g c =
    step_on c.args.bytes.now _ 0 _ c.requires.bytes_nonzero c.take-taken.ensures

pub returns-then-reached-p-clause-leads : goal.returns-then-reached-p-clause-leads
returns-then-reached-p-clause-leads g c =
    let k = c.args in
    let room = room_of k.run.standing k.medium.now k.cache.now k.state.now in
    λ o. leads _ _ _ _ [] _
    (play_over (stand k.run.line room true []) k.bytes.now _ _ _ 0 c.take-taken.result c.requires.bytes_nonzero c.take-taken.ensures
    (at_first k.run.line room k.bytes.now)
    (not-false c.take-taken.result.ended c.if-not-taken.false)
    c.meaning-asked.result c.empty-run.result c.meaning-asked.ensures c.empty-run.ensures
    (not_played c.meaning-asked.result c.of-p.result _ _ _ _ c.of-p.ensures (rw c.reached.ensures at c.if-reached-p.true)))
    refl

pub returns-clause-next_nonzero : goal.returns-clause-next_nonzero
returns-clause-next_nonzero g c =
    IfOk-at c.turn.result c.turn.ensures.answered
    (λ after q. rw q.2 (step_on c.args.bytes.now _ 0 _ c.requires.bytes_nonzero c.take-taken.ensures))

pub returns-clause-leads : goal.returns-clause-leads
returns-clause-leads g c =
    let k = c.args in
    let room = room_of k.run.standing k.medium.now k.cache.now k.state.now in
    λ o. IfOk-at c.turn.result c.turn.ensures.answered
    (λ after q. rw (q.0, q.1, q.2, o)
    (leads _ _ _ _ (turn_of c.meaning-asked.result room).text _
    (play_goes (stand k.run.line room true []) k.bytes.now _ _ _ 0 c.take-taken.result c.requires.bytes_nonzero c.take-taken.ensures
    (at_first k.run.line room k.bytes.now)
    (not-false c.take-taken.result.ended c.if-not-taken.false)
    c.meaning-asked.result c.empty-run.result c.meaning-asked.ensures c.empty-run.ensures _ _
    (is_played c.meaning-asked.result c.of-p.result _ _ _ _ c.of-p.ensures (rw c.reached.ensures at c.if-reached-p.false))
    refl q.3.0)
    q.3.1))
