-- The slash that is found from the end is the last one.
use borrow.Author.Rules.{rules}
use Rattle.files.proofs.FolderLaws.{folder_here, folder_none}
use Rattle.files.proofs.folder.length.Goals as goal

pub returns-in-Some-clause-value : goal.returns-in-Some-clause-value
returns-in-Some-clause-value c = folder_here c.args.name.now c.in-Some.slash (search rules) (search rules) (search rules)

pub returns-in-None-clause-value : goal.returns-in-None-clause-value
returns-in-None-clause-value c = folder_none c.args.name.now (search rules)
