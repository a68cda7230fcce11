-- A place that was found takes the number, with time and end place of its commit record, or 0; without one nothing is changed.
use mathlib.Core.Path.{sym, ◌∙◌}
use native.Mathlib.Omega.{arith}
use Rattle.live.proofs.FirstLaws.{free_below}
use Rattle.opening.proofs.PlacesLaws.{taken_tabled, taken_none, taken_at}
use Rattle.opening.proofs.places.take_log.Goals as goal

pub returns-then-is_some : goal.returns-then-is_some
returns-then-is_some c = taken_tabled _ _ _ _ c.place.result c.place.ensures (sym c.is_some.ensures ∙ c.if-is_some.true)

pub returns-in_default : goal.returns-in_default
returns-in_default c =
    taken_none _ _ _ _ c.place.result c.place.ensures (sym c.is_some.ensures ∙ c.if-is_some.false) c.find_free.result c.find_free.ensures c.in_default.is

pub offset_bounds-places-i : goal.offset_bounds-places-i
offset_bounds-places-i c = omega (arith, free_below c.args.places.now 0 c.in-Some.i (sym c.find_free.ensures ∙ c.in-Some.is))

pub bounds-places-i : goal.bounds-places-i
bounds-places-i c = free_below c.args.places.now 0 c.in-Some.i (sym c.find_free.ensures ∙ c.in-Some.is)

pub returns : goal.returns
returns c =
    taken_at _ _ _ _ c.place.result c.place.ensures (sym c.is_some.ensures ∙ c.if-is_some.false) c.find_free.result c.find_free.ensures _ c.in-Some.is _
    c.args.pairs.now.known.log c.unwrap_or.result (rw c.commit_under.ensures at c.unwrap_or.ensures)
