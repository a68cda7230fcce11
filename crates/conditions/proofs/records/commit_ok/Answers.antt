-- The tests in the order of the definition, each by its function.
use Rattle.std.proofs.Common.{arith}
use Rattle.std.proofs.lemmas.Grind.{common_steps}
use Rattle.conditions.specs.Passes.{commit_ok}
use Rattle.conditions.proofs.records.commit_ok.Goals as goal

pub returns-then-same_time : goal.returns-then-same_time
unfolding commit_ok
returns-then-same_time c = grind (arith, common_steps)

pub returns-else-same_time : goal.returns-else-same_time
unfolding commit_ok
returns-else-same_time c = grind (arith, common_steps)
