-- The low byte of a key of two bytes is its first.
use native.Mathlib.Omega.{arith}
use Rattle.layout.specs.Slot.{cell_of, slot_key}
use Rattle.store.specs.Chain.{cell_at}
use Rattle.cached.proofs.low_at.Goals as goal

pub returns : goal.returns
unfolding cell_at cell_of slot_key
returns c = rw (← c.slot.ensures.bytes) (omega arith)
