-- What was found for the slots is found before any place is counted down, as the definitions say.
use Rattle.std.proofs.Common.{rules}
use mathlib.Core.Path.{◌∙◌}
use Rattle.pages.proofs.StampLaws.{all_below, settled_is}
use Rattle.pages.proofs.store.Goals as goal

pub settle-requires : goal.settle-requires
settle-requires c = all_below _ _ _ _ (search rules) (rw c.copy_from_slice.ensures.after at c.stamp-found.ensures.found)

pub returns-clause-places_after : goal.returns-clause-places_after
returns-clause-places_after c = c.settle.ensures ∙ settled_is _ _ _ _ (search rules) (rw c.copy_from_slice.ensures.after at c.stamp-found.ensures.found)
