-- At a count of 1 or 0 the place is free; else the count is one less.
use borrow.Author.Tests.{le-leb, lt-leb}
use Rattle.store.specs.Places.{lowered}
use Rattle.store.proofs.Place.lower.Goals as goal

pub returns-then-self-le1 : goal.returns-then-self-le1
unfolding lowered
returns-then-self-le1 c = simp (c.free.ensures, le-leb _ _ c.if-self-le1.true)

pub returns-else-self-le1 : goal.returns-else-self-le1
unfolding lowered
returns-else-self-le1 c = simp (lt-leb _ _ c.if-self-le1.false)
