-- The three tests, those of the form first.
use Rattle.std.proofs.Common.{arith}
use Rattle.std.proofs.lemmas.Grind.{common_steps}
use Rattle.layout.specs.Slot.{key_form}
use Rattle.conditions.proofs.blocks.version_ok.Goals as goal

pub returns-then-kind_in_form : goal.returns-then-kind_in_form
unfolding key_form
returns-then-kind_in_form c = grind (arith, common_steps)

pub returns-else-kind_in_form : goal.returns-else-kind_in_form
unfolding key_form
returns-else-kind_in_form c = grind (arith, common_steps)
