-- Each arm of the match is a case of `checkpoint_step`. Assumes nothing.
use Rattle.store.specs.State.{with_phase}
use Rattle.store.specs.Checkpoint.{checkpoint_step}
use Rattle.checkpoints.proofs.step.Goals as goal

pub returns-in-Idle : goal.returns-in-Idle
unfolding checkpoint_step with_phase
returns-in-Idle c = λ cache. simp (c.in-Idle.is, c.store_table.ensures, c.new_oldest-oldest.ensures)

pub returns-in-FirstStored : goal.returns-in-FirstStored
unfolding checkpoint_step with_phase
returns-in-FirstStored c = λ cache. simp (c.in-FirstStored.is, c.store_table-in-FirstStored.ensures)

pub returns-in-SecondStored : goal.returns-in-SecondStored
unfolding checkpoint_step with_phase
returns-in-SecondStored c = λ cache. simp (c.in-SecondStored.is, c.store_master.ensures)
