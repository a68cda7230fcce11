-- The room as the calls left it stands behind their lines, and no call changes the tail.
use mathlib.Core.Path.{refl}
use Rattle.relief.specs.Words.{state_of, state_by}
use Rattle.relief.proofs.FreeLaws.{freed_tail, left_as}
use Rattle.relief.proofs.free.freed_room.Goals as goal

pub returns-clause-left_as : goal.returns-clause-left_as
unfolding state_of state_by
returns-clause-left_as c = left_as c.free-n.ensures.value _ _ (freed_tail 70 _ _ _) refl
