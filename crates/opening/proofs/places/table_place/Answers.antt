-- The place stays free where the table place is behind the last one in use or empty, or no version waits under its number;
-- else it is live.
use mathlib.Core.Path.{refl, ◌∙◌}
use Rattle.opening.proofs.PlacesLaws.{place_vacant, place_dead, place_live}
use Rattle.opening.proofs.places.table_place.Goals as goal

pub returns-then-pairs-i : goal.returns-then-pairs-i
returns-then-pairs-i c =
    c.free.ensures ∙ place_vacant _ _ _ _ _ refl (c.args.pairs.now.known.table.empty _ c.if-pairs-i.true c.requires)

pub returns-then-pair-eq0 : goal.returns-then-pair-eq0
returns-then-pair-eq0 c = c.free-then-pair-eq0.ensures ∙ place_vacant _ _ _ _ _ c.read-pair.ensures c.if-pair-eq0.true

pub returns-then-waiting-eq0 : goal.returns-then-waiting-eq0
returns-then-waiting-eq0 c =
    c.free-then-waiting-eq0.ensures
    ∙ place_dead _ _ _ _ _ c.read-pair.ensures c.waiting_under-waiting.result c.if-pair-eq0.false c.waiting_under-waiting.ensures c.if-waiting-eq0.true

pub returns : goal.returns
returns c =
    place_live _ _ _ _ _ c.read-pair.ensures c.waiting_under-waiting.result c.if-pair-eq0.false c.waiting_under-waiting.ensures c.if-waiting-eq0.false _ _
    c.args.pairs.now.known.log c.end_under-end.ensures
