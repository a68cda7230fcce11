-- The pages are tested one after the other.
use mathlib.Core.List.{[]}
use borrow.Author.Rules.{rules}
use borrow.Author.Tests.{tests}
use Rattle.store.specs.OpenConditions.{full_before}
use Rattle.conditions.proofs.AllOfLaws.{all_ranged}
use Rattle.conditions.proofs.slots.pages_full.Goals as goal

pub returns : goal.returns
returns c = all_ranged (full_before [] 0 c.args.pages c.args.cache.now) _ _ _ _ c.all.ensures.ran (λ x b q k. search (rules, tests))
