-- Each part stands behind the one before.
use mathlib.Core.List.{append_assoc}
use Rattle.book.specs.Room.{line_text}
use Rattle.book.proofs.room.put.Goals as goal

pub returns-clause-out_after : goal.returns-clause-out_after
unfolding line_text
returns-clause-out_after c =
    simp (
      c.byte.ensures.out_after,
      c.put_result-n.ensures.out_after,
      c.byte-n-3.ensures.out_after,
      c.number-n.ensures.out_after,
      c.number.ensures,
      c.byte-n-2.ensures.out_after,
      c.byte-n.ensures.out_after,
      append_assoc,
    )
