-- `page::stamp` meets its contract: the slot is stamped in the lent part.
use native.Mathlib.Omega.{arith}
use Rattle.fields.specs.Block.{slot_in}
use Rattle.fields.proofs.PartLaws.{lent_copy, lent_part}
use Rattle.layout.specs.Page.{stamp_cell, page_slot}
use Rattle.layout.proofs.page.stamp.Goals as goal

pub returns : goal.returns
unfolding stamp_cell page_slot slot_in
returns c =
    let a = c.slot_in-a.result in
    rw (← c.slot_in-a.ensures) (lent_copy _ _ _ a 32 (omega (arith, c.slot_in-a.ensures)) c.stamp.auto.slot (rw (lent_part _ a 32) at c.stamp.ensures))
