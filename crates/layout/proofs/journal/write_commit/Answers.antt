-- `journal::write_commit` meets its contract: the two fields fill the body.
use mathlib.Core.Path.{◌∙◌}
use Rattle.layout.proofs.RecordLaws.{commit_written}
use Rattle.layout.proofs.journal.write_commit.Goals as goal

pub returns : goal.returns
returns c = c.put8-2.ensures ∙ commit_written _ _ _ c.requires c.put8.ensures
