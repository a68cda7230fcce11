-- The three cases of the definition.
use Rattle.store.specs.Chain.{version_time}
use Rattle.conditions.proofs.slots.time_of.Goals as goal

pub returns-in-Empty : goal.returns-in-Empty
unfolding version_time
returns-in-Empty c = simp c.in-Empty.is

pub returns-in-Waiting : goal.returns-in-Waiting
unfolding version_time
returns-in-Waiting c = simp (c.in-Waiting.is, c.time.ensures)

pub returns-in-Stamped : goal.returns-in-Stamped
unfolding version_time
returns-in-Stamped c = simp c.in-Stamped.is
