-- All lines are played first, and the search goes by the number that they end in.
use Rattle.shortest.proofs.SearchLaws.{no_flags, best_flags}
use Rattle.shortest.proofs.search.shortest.Goals as goal

pub returns-then-number-eq0 : goal.returns-then-number-eq0
returns-then-number-eq0 c =
    no_flags _ c.args.m c.chosen.ensures c.play-number.ensures c.if-number-eq0.true

pub returns : goal.returns
returns c =
    best_flags _ c.args.m c.chosen.ensures c.play-number.ensures c.if-number-eq0.false c.search.ensures.value
    c.chosen-2.ensures
