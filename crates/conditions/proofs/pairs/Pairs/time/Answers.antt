-- The table's pair is asked first, then the log's commits.
use mathlib.Core.Path.{sym, ap, ◌∙◌}
use borrow.Author.Rules.{rules}
use Rattle.std.specs.Option.{option_map}
use Rattle.conditions.specs.Lookup.{match_of}
use Rattle.conditions.proofs.AllOfLaws.{option_mapped}
use Rattle.conditions.proofs.GatherLaws.{known_commit}
use Rattle.conditions.proofs.TableLaws.{found_below, time_found, time_logged}
use Rattle.conditions.proofs.pairs.Pairs.time.Goals as goal

pub read-requires-clause-i_bound : goal.read-requires-clause-i_bound
read-requires-clause-i_bound c = found_below _ _ _ (sym c.place.ensures ∙ c.in-Some.is)

pub returns-in-Some : goal.returns-in-Some
returns-in-Some c = rw c.read.ensures (time_found _ _ _ _ (sym c.in-Some.is ∙ c.place.ensures))

pub returns-in-None : goal.returns-in-None
returns-in-None c =
    let a = c.args in
    option_mapped (λ x. x.0) _ c.commit_under.result c.map.result c.map.ensures.cases (λ x y p. search rules)
    ∙ ap (option_map (λ x. x.0)) (c.commit_under.ensures ∙ ap match_of (known_commit _ _ _ _ a.self.now.known a.number))
    ∙ time_logged _ _ _ (sym c.in-None.is ∙ c.place.ensures)
