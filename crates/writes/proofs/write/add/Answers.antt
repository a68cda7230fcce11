-- A refusal is that of the questions; else all of them are passed, and the step is the definition's.
use mathlib.Core.Path.{refl}
use Rattle.std.proofs.lemmas.Result.{err_from_is_err_and}
use Rattle.store.specs.Write.{add_of, write_if, new_head}
use Rattle.writes.proofs.WriteLaws.{write_passed}
use Rattle.writes.proofs.write.add.Goals as goal

pub returns-in_err-place : goal.returns-in_err-place
unfolding add_of write_if
returns-in_err-place c =
    simp c.in_err-place.ensures.no (let p = err_from_is_err_and c.from_residual.result c.from_residual.ensures.1 in rw (p.1, p.2) refl)

pub returns : goal.returns
unfolding new_head
returns c =
    let g = c.in_ok-place.ensures.yes in
    write_passed c.args.state.now c.args.medium.now c.args.cache.now c.args.number c.args.key c.args.kind _ _ _ _ g.0 g.1 (rw g.2 refl) c.step.ensures
