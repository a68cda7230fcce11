-- The places are tested one after the other.
use borrow.Author.Rules.{rules}
use borrow.Author.Tests.{tests}
use Rattle.conditions.proofs.AllOfLaws.{first_ranged}
use Rattle.conditions.proofs.TableLaws.{numbered}
use Rattle.conditions.proofs.table.find_below.Goals as goal

pub returns : goal.returns
returns c = first_ranged (numbered c.args.medium.now c.args.number) _ _ _ _ c.find.ensures.ran (λ x b q k. search (rules, tests))
