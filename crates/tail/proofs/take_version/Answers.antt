-- Room is made for the record, and it goes behind what the tail then has. A record number has at most two bytes. Assumes nothing.
use Prim.Native.Nat.{◌+◌}
use native.Mathlib.Omega.{arith}
use Rattle.layout.specs.Journal.{record_size}
use Rattle.layout.proofs.RecordLaws.{bytes_few}
use Rattle.tail.proofs.TailLaws.{room_made, took}
use Rattle.tail.proofs.take_version.Goals as goal

pub overflow_add-bytes : goal.overflow_add-bytes
overflow_add-bytes c = omega (arith, bytes_few c.args.head.width)

pub make_room-requires-clause-size_bound : goal.make_room-requires-clause-size_bound
make_room-requires-clause-size_bound c = omega (arith, bytes_few c.args.head.width)

pub add_version-requires-clause-bound : goal.add_version-requires-clause-bound
add_version-requires-clause-bound c =
    let l = bytes_few c.args.head.width in
    let r = room_made c.args.state.now c.make_room.new.state (32 + c.bytes.result) _ c.requires.ready (omega arith) c.make_room.ensures.made in
    (omega arith, omega arith)

pub returns : goal.returns
unfolding record_size
returns c =
    let made = rw c.bytes.ensures at c.make_room.ensures.made in
    let stored = rw c.bytes.ensures at c.make_room.ensures.stored in
    took c.args.state.now c.make_room.new.state c.args.medium.now _ _ _ made stored c.add_version.ensures
