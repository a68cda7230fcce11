-- The slot lies within the cache.
use native.Mathlib.Omega.{arith}
use Rattle.layout.specs.Page.{cache_slot}
use Rattle.fields.proofs.PartLaws.{lent_part}
use Rattle.cached.proofs.RoomLaws.{slot_room}
use Rattle.cached.proofs.slot.Goals as goal

pub overflow_add-result : goal.overflow_add-result
overflow_add-result c = omega (arith, slot_room _ _ c.requires)

pub slice_bounds-result-end : goal.slice_bounds-result-end
slice_bounds-result-end c = omega (arith, slot_room _ _ c.requires)

pub returns-clause-bytes : goal.returns-clause-bytes
unfolding cache_slot
returns-clause-bytes c = rw (lent_part c.args.cache.now c.slot_at-a.result 32, c.slot_at-a.ensures)
