-- The cell that the version's fields make.
use Rattle.store.specs.Write.{cell_for}
use Rattle.opening.proofs.redo.apply.Goals as goal

pub returns : goal.returns
unfolding cell_for
returns c = c.put_version.ensures
