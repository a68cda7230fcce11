-- The bytes that are lent are those of the slot.
use mathlib.Core.Path.{ap, ◌∙◌}
use Prim.Native.Nat.{◌+◌, ◌*◌}
use Rattle.layout.specs.Slot.{slot_state}
use Rattle.layout.specs.Page.{page_slot}
use Rattle.fields.specs.Block.{slot_in}
use Rattle.fields.proofs.PartLaws.{lent_part}
use Rattle.pages.proofs.slot.Goals as goal

pub returns : goal.returns
unfolding page_slot slot_in
returns c = c.read.ensures ∙ ap slot_state (lent_part c.args.page.now (32 + 32 * c.args.i) 32)
