-- The end place of the tail and the last time given are the two fields set. Assumes nothing.
use Rattle.store.specs.StoreLog.{log_stored}
use Rattle.tail.proofs.all_stored.Goals as goal

pub returns : goal.returns
unfolding log_stored
returns c = simp c.end_of-state.ensures
