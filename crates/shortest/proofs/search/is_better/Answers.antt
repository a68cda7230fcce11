-- The sizes are compared first.
use borrow.Author.Tests.{lt-ltb, le-ltb}
use Rattle.shortest.specs.Kept.{size_in, ends_in}
use Rattle.shortest.proofs.search.is_better.Goals as goal

pub returns-then-size : goal.returns-then-size
unfolding size_in ends_in
returns-then-size c =
    simp (
      ← c.chosen-flags.ensures,
      ← c.chosen.ensures,
      ← c.size.ensures,
      ← c.size-2.ensures,
      lt-ltb _ _ c.if-size.true,
      ← c.play.ensures,
    )

pub returns-else-size : goal.returns-else-size
unfolding size_in ends_in
returns-else-size c =
    simp (
      ← c.chosen-flags.ensures,
      ← c.chosen.ensures,
      ← c.size.ensures,
      ← c.size-2.ensures,
      le-ltb _ _ c.if-size.false,
    )
