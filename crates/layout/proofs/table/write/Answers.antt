-- `table::write` meets its contract: the two fields lie one behind the other, and so are the bytes of the pair.
use mathlib.Core.Path.{◌∙◌}
use Rattle.layout.specs.Table.{pair_bytes, put_pair}
use Rattle.layout.proofs.TableLaws.{pair_laid}
use Rattle.layout.proofs.table.write.Goals as goal

pub returns : goal.returns
unfolding pair_bytes put_pair
returns c = rw c.put8.ensures at c.put8-2.ensures ∙ pair_laid _ _ _ _
