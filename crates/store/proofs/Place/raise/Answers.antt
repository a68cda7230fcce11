-- The sum saturates where `raised` takes the lesser.
use mathlib.Core.Path.{refl}
use Rattle.store.specs.Places.{raised}
use Rattle.store.proofs.Place.raise.Goals as goal

pub returns : goal.returns
unfolding raised
returns c = rw c.saturating_add-self.ensures refl
