-- The three tests, in the order of the definition.
use Rattle.std.proofs.Common.{arith}
use Rattle.std.proofs.lemmas.Grind.{common_steps}
use Rattle.opening.proofs.SurveyLaws.{kept_is}
use Rattle.opening.proofs.survey.cache_ok.Goals as goal

pub returns-then-pages_full : goal.returns-then-pages_full
returns-then-pages_full c =
    let a = c.requires.next_value in
    rw (kept_is _ _ _ _ _ _ a.0 a.1 c.all_ok.result c.all_ok.ensures) (grind (arith, common_steps))

pub returns-else-pages_full : goal.returns-else-pages_full
returns-else-pages_full c =
    let a = c.requires.next_value in
    rw (kept_is _ _ _ _ _ _ a.0 a.1 c.all_ok.result c.all_ok.ensures) (grind (arith, common_steps))
