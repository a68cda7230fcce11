-- Where a checkpoint is under way its phase says so; where none is, the two numbers are compared. Assumes nothing.
use mathlib.Core.Logic.{inl, inr}
use Rattle.store.specs.Relief.{checkpoint_left}
use Rattle.checkpoints.proofs.is_left.Goals as goal

pub returns-in-Idle : goal.returns-in-Idle
unfolding checkpoint_left
returns-in-Idle c = simp (c.in-Idle.is, c.new_oldest.ensures, c.oldest.ensures)

pub returns-in-FirstStored : goal.returns-in-FirstStored
unfolding checkpoint_left
returns-in-FirstStored c = elim c.in-FirstStored.is [ inl w ↦ simp w.2 | inr w ↦ simp w.2 ]
