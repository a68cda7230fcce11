-- The tests are those of `may_log`, and a sum that stays at the highest number is above every sequence. Assumes nothing.
use mathlib.Core.Path.{◌≡◌}
use mathlib.Core.Bool.{true, false}
use Prim.Native.Nat.{◌+◌}
use native.Mathlib.Omega.{arith}
use lib.Dec.{ltb}
use borrow.Author.Tests.{lt-ltb, le-ltb}
use Rattle.fields.specs.Block.{medium_length}
use Rattle.layout.specs.Journal.{sequence_of}
use Rattle.layout.specs.Master.{oldest_on}
use Rattle.store.specs.Tail.{may_log}
use Rattle.tail.proofs.may_log.Goals as goal

pub returns-then-has_room : goal.returns-then-has_room
unfolding may_log
returns-then-has_room c = simp (← c.has_room.ensures, c.if-has_room.true)

pub oldest-requires : goal.oldest-requires
unfolding medium_length
oldest-requires c = let h = c.requires.ready in omega arith

pub returns-then-next-saturating_add : goal.returns-then-next-saturating_add
unfolding may_log
returns-then-next-saturating_add c =
    let s = c.args.state.now in
    let low : ltb (sequence_of s.tail + 1) (oldest_on c.args.medium.now + s.blocks) ≡ true = lt-ltb _ _ (omega arith) in
    simp (← c.has_room.ensures, c.if-has_room.false, low, c.sequence-next.ensures)

pub returns-else-next-saturating_add : goal.returns-else-next-saturating_add
unfolding may_log
returns-else-next-saturating_add c =
    let s = c.args.state.now in
    let high : ltb (sequence_of s.tail + 1) (oldest_on c.args.medium.now + s.blocks) ≡ false = le-ltb _ _ (omega arith) in
    simp (← c.has_room.ensures, c.if-has_room.false, high, le-ltb _ _ c.if-next-saturating_add.false)
