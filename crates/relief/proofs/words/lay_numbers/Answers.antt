-- The numbers, the phase and the first changes are read again from where they are laid.
use native.Mathlib.Omega.{arith}
use Rattle.relief.specs.Words.{first_of, state_by, with_places}
use Rattle.relief.proofs.WordLaws.{first_laid}
use Rattle.relief.proofs.words.lay_numbers.Goals as goal

pub returns : goal.returns
unfolding state_by with_places first_of
returns c =
    let a = c.args in
    λ places. rw (c.copy_from_slice-2.ensures.after, c.copy_from_slice.ensures.after, first_laid a.words.now a.state.now.first (omega arith) (omega arith), c.phase_words.ensures)
