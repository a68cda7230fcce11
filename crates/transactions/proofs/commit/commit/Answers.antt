-- A refusal is that of the questions; else all of them are passed, and the count of versions tells whether the transaction
-- ends at once or by the step.
use native.Mathlib.Omega.{arith}
use Rattle.std.proofs.lemmas.Result.{err_from_is_err_and}
use mathlib.Core.Path.{refl}
use Rattle.live.proofs.FirstLaws.{active_below}
use Rattle.store.specs.Commit.{commit_of, commit_if}
use Rattle.store.specs.Places.{place_at}
use Rattle.store.specs.State.{with_place}
use Rattle.transactions.proofs.CommitLaws.{commit_empty, commit_asked, commit_passed}
use Rattle.transactions.proofs.commit.commit.Goals as goal

pub returns-in_err-place : goal.returns-in_err-place
unfolding commit_of commit_if
returns-in_err-place c = simp (c.in_err-place.ensures.no) (let p = err_from_is_err_and c.from_residual.result c.from_residual.ensures.1 in rw (p.1, p.2) refl)

pub offset_bounds-state-place : goal.offset_bounds-state-place
offset_bounds-state-place c = let h = active_below _ _ _ c.in_ok-place.ensures.yes.1 in omega arith

pub bounds-state-place : goal.bounds-state-place
bounds-state-place c = active_below _ _ _ c.in_ok-place.ensures.yes.1

pub offset_bounds-state-place-then-state-place-eq0 : goal.offset_bounds-state-place-then-state-place-eq0
offset_bounds-state-place-then-state-place-eq0 c = let h = active_below _ _ _ c.in_ok-place.ensures.yes.1 in omega arith

pub bounds-state-place-then-state-place-eq0 : goal.bounds-state-place-then-state-place-eq0
bounds-state-place-then-state-place-eq0 c = active_below _ _ _ c.in_ok-place.ensures.yes.1

pub returns-then-state-place-eq0 : goal.returns-then-state-place-eq0
unfolding place_at with_place
returns-then-state-place-eq0 c =
    let g = c.in_ok-place.ensures.yes in
    commit_empty c.args.state.now c.args.medium.now c.args.cache.now c.args.number _ g.0 g.1 _ _ c.if-state-place-eq0.true (rw c.free.ensures refl)

pub time_for-time-requires-clause-last_bound : goal.time_for-time-requires-clause-last_bound
unfolding place_at
time_for-time-requires-clause-last_bound c =
    let g = c.in_ok-place.ensures.yes in
    (commit_asked c.args.state.now c.args.medium.now c.args.cache.now c.args.number _ g.0 g.1 c.if-state-place-eq0.false).last

pub step-requires-clause-waits : goal.step-requires-clause-waits
unfolding place_at
step-requires-clause-waits c = c.if-state-place-eq0.false

pub returns : goal.returns
unfolding place_at
returns c =
    let g = c.in_ok-place.ensures.yes in
    commit_passed c.args.state.now c.args.medium.now c.args.cache.now c.args.number _ g.0 g.1 c.if-state-place-eq0.false _ _ _ c.time_for-time.ensures c.step.ensures
