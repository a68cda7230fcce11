-- Kind and value lie at their places in the slot.
use native.Mathlib.Omega.{arith}
use Rattle.cached.proofs.RoomLaws.{slot_room}
use Rattle.reads.proofs.ReadLaws.{says_erased, says_present}
use Rattle.reads.proofs.current_read.read_slot.Goals as goal

pub overflow_add-a : goal.overflow_add-a
overflow_add-a c = omega (arith, slot_room _ _ c.requires)

pub bounds-cache-a : goal.bounds-cache-a
bounds-cache-a c = omega (arith, slot_room _ _ c.requires)

pub returns-then-cache-a-eq1 : goal.returns-then-cache-a-eq1
returns-then-cache-a-eq1 c = says_erased _ _ _ c.slot_at-a.ensures c.if-cache-a-eq1.true

pub overflow_add-a-2 : goal.overflow_add-a-2
overflow_add-a-2 c = omega (arith, slot_room _ _ c.requires)

pub overflow_add-a-3 : goal.overflow_add-a-3
overflow_add-a-3 c = omega (arith, slot_room _ _ c.requires)

pub slice_bounds-copy_from_slice-end-2 : goal.slice_bounds-copy_from_slice-end-2
slice_bounds-copy_from_slice-end-2 c = omega (arith, slot_room _ _ c.requires)

pub returns : goal.returns
returns c = says_present _ _ _ _ c.slot_at-a.ensures c.if-cache-a-eq1.false c.copy_from_slice.ensures.after
