-- Where there is no room all of the tail is stored, the sequence is one more, and the block is empty. Assumes nothing.
use mathlib.Core.Path.{sym, ◌∙◌}
use native.Mathlib.Omega.{arith}
use Rattle.store.specs.StoreLog.{log_stored}
use Rattle.tail.specs.Taken.{taken, begun}
use Rattle.tail.proofs.TailLaws.{may_begin}
use Rattle.tail.proofs.make_room.Goals as goal

pub overflow_add-next : goal.overflow_add-next
unfolding log_stored
overflow_add-next c =
    let a = c.args in
    let l = may_begin a.state.now a.medium.now a.size c.requires.log (sym c.has_room.ensures ∙ c.if-not-has_room.true) in
    simp (c.sequence-next.ensures, c.all_stored.ensures) (omega arith)

pub returns-then-not-has_room-clause-made : goal.returns-then-not-has_room-clause-made
unfolding log_stored begun taken
returns-then-not-has_room-clause-made c =
    simp (← c.has_room.ensures, c.if-not-has_room.true, c.begin.ensures, c.sequence-next.ensures, c.all_stored.ensures)
