-- The tests are those of the definition, in their order. Assumes nothing.
use borrow.Author.Tests.{le-leb, lt-leb}
use Rattle.memory.specs.Tail.{tail_in_range}
use Rattle.memory.proofs.fit.tail_fits.Goals as goal

pub returns-then-used-lt10 : goal.returns-then-used-lt10
unfolding tail_in_range
returns-then-used-lt10 c = simp (← c.used-used.ensures, lt-leb _ _ c.if-used-lt10.true)

pub returns-then-used-gt512 : goal.returns-then-used-gt512
unfolding tail_in_range
returns-then-used-gt512 c =
    simp (← c.used-used.ensures, le-leb _ _ c.if-used-lt10.false, lt-leb _ _ c.if-used-gt512.true)

pub returns-then-sequence-lt1 : goal.returns-then-sequence-lt1
unfolding tail_in_range
returns-then-sequence-lt1 c =
    simp (← c.used-used.ensures, le-leb _ _ c.if-used-lt10.false, le-leb _ _ c.if-used-gt512.false, ← c.sequence-sequence.ensures, lt-leb _ _ c.if-sequence-lt1.true)

pub returns : goal.returns
unfolding tail_in_range
returns c =
    simp (← c.used-used.ensures, le-leb _ _ c.if-used-lt10.false, le-leb _ _ c.if-used-gt512.false, ← c.sequence-sequence.ensures, le-leb _ _ c.if-sequence-lt1.false)
