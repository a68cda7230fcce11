-- The search goes through the commits one after the other, as the definition does.
use Rattle.std.proofs.Common.{◌∙◌, sym, ap}
use borrow.Author.Rules.{rules}
use borrow.Author.Tests.{tests}
use lib.Dec.{eqb}
use Rattle.std.specs.Option.{option_map}
use Rattle.std.proofs.lemmas.Iterator.{YieldsList-from_slice}
use Rattle.std.proofs.lemmas.Iterator.Search.{find_from_yields_List}
use Rattle.conditions.proofs.AllOfLaws.{option_mapped, option_twice}
use Rattle.conditions.proofs.GatherLaws.{among_listed}
use Rattle.conditions.proofs.log.commit_under.Goals as goal

pub returns : goal.returns
returns c =
    let a = c.args in
    option_mapped (λ x. (x.now.time, x.now.end)) _ c.find.result c.map.result c.map.ensures.cases (λ x y p. search rules)
    ∙ sym (option_twice (λ x. (x.time, x.end)) (λ x. x.now) c.find.result)
    ∙ ap (option_map (λ x. (x.time, x.end)))
    (find_from_yields_List (λ x. eqb x.number.0 a.number) _ _ _ c.find.ensures.ran (YieldsList-from_slice a.commits.now cc) (λ x b q k. search (rules, tests)))
    ∙ among_listed a.commits.now a.number
