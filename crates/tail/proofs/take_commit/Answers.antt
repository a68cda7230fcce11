-- Room is made for the record, and it goes behind what the tail then has. Assumes nothing.
use Rattle.layout.specs.Journal.{record_size}
use Rattle.tail.proofs.TailLaws.{room_made, took}
use native.Mathlib.Omega.{arith}
use Rattle.tail.proofs.take_commit.Goals as goal

pub add_commit-requires-clause-bound : goal.add_commit-requires-clause-bound
add_commit-requires-clause-bound c =
    room_made c.args.state.now c.make_room.new.state 19 _ c.requires.ready (omega arith) c.make_room.ensures.made

pub returns : goal.returns
unfolding record_size
returns c =
    took c.args.state.now c.make_room.new.state c.args.medium.now _ _ _ c.make_room.ensures.made c.make_room.ensures.stored c.add_commit.ensures
