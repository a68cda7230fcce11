-- What is not read or not applied is not well formed; of what is, `judge` says the rest.
use Rattle.std.proofs.lemmas.Option.{IfSome_then}
use mathlib.Core.Path.{refl}
use Rattle.store.specs.OpenRedo.{untouched}
use Rattle.opening.proofs.SurveyedLaws.{not_read, read_valid, read_slots, not_redone, applied}
use Rattle.opening.proofs.survey.open_state.Goals as goal

pub returns-in_err-log-clause-found : goal.returns-in_err-log-clause-found
returns-in_err-log-clause-found c = rw c.from_residual.ensures (not_read _ _ _ c.in_err-log.ensures)

pub run-requires-clause-valid : goal.run-requires-clause-valid
run-requires-clause-valid c = read_valid _ _ _ _ _ c.in_ok-log.ensures c.requires.ready.high

pub run-requires-clause-from_value : goal.run-requires-clause-from_value
run-requires-clause-from_value c = read_slots _ _ _ _ _ c.in_ok-log.ensures

pub returns-then-not-run-clause-found : goal.returns-then-not-run-clause-found
unfolding untouched
returns-then-not-run-clause-found c = not_redone _ _ _ _ _ c.in_ok-log.ensures _ _ _ _ c.copy_pages.ensures refl _ c.run.ensures c.if-not-run.true

pub judge-requires-clause-applied : goal.judge-requires-clause-applied
unfolding untouched
judge-requires-clause-applied c = applied _ _ _ _ _ c.in_ok-log.ensures _ _ _ _ c.copy_pages.ensures refl _ c.run.ensures c.if-not-run.false

pub returns-clause-opened : goal.returns-clause-opened
unfolding untouched
returns-clause-opened c =
    let a = applied _ _ _ _ _ c.in_ok-log.ensures _ _ _ _ c.copy_pages.ensures refl _ c.run.ensures c.if-not-run.false in
    IfSome_then c.judge.result c.judge.ensures.value (λ time judged. (a.cache, judged.0, judged.1))
