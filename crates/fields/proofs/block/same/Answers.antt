-- `block::same` meets its contract: `==` asks of each pair what `eq_list` asks.
use mathlib.Core.Path.{◌∙◌}
use Rattle.fields.proofs.EqualLaws.{eq_pointwise}
use Rattle.fields.proofs.block.same.Goals as goal

pub returns : goal.returns
returns c = c.eq.ensures ∙ eq_pointwise _ _
