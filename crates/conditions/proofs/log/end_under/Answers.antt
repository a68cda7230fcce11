-- The end place of the commit record that was found; 0 where none was.
use borrow.Author.Rules.{rules}
use Rattle.conditions.specs.Lookup.{commit_among}
use Rattle.conditions.proofs.GatherLaws.{end_found}
use Rattle.conditions.proofs.log.end_under.Goals as goal

pub returns : goal.returns
returns c = end_found (commit_among c.args.commits.now c.args.number) _ _ (rw c.commit_under.ensures at c.map_or.ensures) (λ x p. search rules)
