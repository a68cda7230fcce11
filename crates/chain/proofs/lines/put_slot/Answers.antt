-- The line is written in the lent part.
use mathlib.Core.Path.{ap, ◌∙◌}
use Prim.Native.Nat.{◌*◌}
use Rattle.layout.specs.Slot.{cell_of}
use Rattle.store.specs.Chain.{cell_at}
use Rattle.fields.specs.Part.{splice}
use Rattle.fields.proofs.PartLaws.{lent_back}
use Rattle.chain.proofs.lines.put_slot.Goals as goal

pub returns : goal.returns
unfolding cell_at cell_of
returns c =
    lent_back _ _ (32 * c.args.i) 32 c.requires.i_in_bounds c.put_line.auto.line
    ∙ ap (splice _ (32 * c.args.i)) (rw (c.slot-slot.ensures.len, c.slot-slot.ensures.bytes) at c.put_line.ensures)
