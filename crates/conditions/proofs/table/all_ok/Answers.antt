-- The places are tested one after the other.
use borrow.Author.Rules.{rules}
use borrow.Author.Tests.{tests}
use Rattle.conditions.specs.Passes.{place_ok}
use Rattle.conditions.proofs.AllOfLaws.{all_ranged}
use Rattle.conditions.proofs.table.all_ok.Goals as goal

pub returns : goal.returns
returns c = all_ranged (place_ok c.args.medium.now c.args.next c.args.last) _ _ _ _ c.all.ensures.ran (λ x b q k. search (rules, tests))
