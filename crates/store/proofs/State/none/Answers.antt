-- Every field is the one that `no_state` has.
use mathlib.Core.Path.{refl}
use Rattle.store.specs.State.{no_state}
use Rattle.store.proofs.State.none.Goals as goal

pub returns : goal.returns
unfolding no_state
returns c = rw c.free.ensures refl
