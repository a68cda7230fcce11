-- A refused opening leaves the room; an accepted one is given its cache.
use native.Mathlib.Omega.{arith}
use Rattle.std.proofs.lemmas.Result.{err_from_is_err_and}
use Rattle.store.specs.Answer.{answer_number}
use Rattle.answers.proofs.TextLaws.{no_number}
use Rattle.turns.proofs.TurnLaws.{refused_number, open_refused, open_taken}
use Rattle.turns.proofs.turn.open.Goals as goal

pub returns-in_err-answer : goal.returns-in_err-answer
unfolding answer_number
returns-in_err-answer c letter =
    let p = err_from_is_err_and c.from_residual.result c.from_residual.ensures.1 in
    rw (p.1, p.2)
    (open_refused c.args.standing.now c.args.medium.now c.args.cache.now c.args.buffer.now c.args.state.now letter c.args.byte
    c.medium_part.result c.args.bytes c.requires.bound c.medium_part.ensures.value (omega arith) _ _ _
    (rw (c.fill.ensures.after (λ y e. e)) at c.in_err-answer.ensures) (refused_number _))

pub returns : goal.returns
returns c letter =
    open_taken c.args.standing.now c.args.medium.now c.args.cache.now c.args.buffer.now c.args.state.now letter c.args.byte
    c.medium_part.result c.args.bytes c.requires.bound c.medium_part.ensures.value (omega arith) _ _ _
    (rw (c.fill.ensures.after (λ y e. e)) at c.in_ok-answer.ensures) _ _ (no_number _) c.right_length-n.ensures.value
    c.copy_from_slice.ensures.after (omega arith)
