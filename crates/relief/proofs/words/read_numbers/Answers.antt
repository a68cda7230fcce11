-- The numbers, the phase and the first changes are those of the words.
use Rattle.relief.specs.Words.{first_of, state_by}
use Rattle.relief.proofs.words.read_numbers.Goals as goal

pub returns-clause-numbers : goal.returns-clause-numbers
unfolding state_by first_of
returns-clause-numbers c = rw (c.copy_from_slice.ensures.after, c.phase_by-state.ensures)
