-- The definition itself.
use mathlib.Core.Path.{refl}
use Rattle.fields.specs.Block.{end_place}
use Rattle.conditions.proofs.cursor.end_behind.Goals as goal

pub returns : goal.returns
unfolding end_place
returns c = refl
