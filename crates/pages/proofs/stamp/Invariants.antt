-- Before each turn the slots from slot i on are as they came, and stamping them yields the stamped page.
use Rattle.pages.proofs.StampLaws.{Stamping}
use Rattle.pages.proofs.stamp.Given as goal

abbrev pub invariant-loop-i : goal.invariant-loop-i
invariant-loop-i l = Stamping l.places l.end.0 l.initial.page l.page l.found l.i
