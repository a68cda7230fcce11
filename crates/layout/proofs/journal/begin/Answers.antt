-- `journal::begin` meets its contract: zeros, and then the two fields of an empty block.
use borrow.Author.Rules.{rules}
use Rattle.layout.proofs.RecordLaws.{begin_is}
use Rattle.layout.proofs.journal.begin.Goals as goal

pub returns : goal.returns
returns c = begin_is _ _ _ _ (search rules) c.put8.ensures c.put2.ensures
