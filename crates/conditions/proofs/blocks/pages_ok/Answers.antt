-- The pages are tested one after the other.
use borrow.Author.Rules.{rules}
use borrow.Author.Tests.{tests}
use Rattle.conditions.specs.Passes.{page_ok}
use Rattle.conditions.proofs.AllOfLaws.{all_ranged}
use Rattle.conditions.proofs.blocks.pages_ok.Goals as goal

pub returns : goal.returns
unfolding page_ok
returns c = all_ranged (page_ok c.args.medium.now c.args.blocks c.args.pages) _ _ _ _ c.all.ensures.ran (λ x b q k. search (rules, tests))
