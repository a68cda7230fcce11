-- `page::put_waiting` meets its contract: the header's two stores, then the slot in the lent part.
use mathlib.Core.Path.{◌∙◌}
use Prim.Native.Nat.{◌+◌}
use native.Mathlib.Omega.{arith}
use lib.ListN.{set, length-set}
use Rattle.fields.specs.Block.{slot_in}
use Rattle.fields.proofs.PartLaws.{lent_copy}
use Rattle.layout.specs.Page.{put_cell}
use Rattle.layout.proofs.page.put_waiting.Goals as goal

pub returns : goal.returns
unfolding put_cell slot_in
returns c =
    lent_copy (set c.put8.new.s 8 (c.args.i + 1)) _ _ _ 32 (simp length-set (omega (arith, c.put8.auto.s, c.slot_in-a.ensures))) c.write_waiting.auto.slot c.write_waiting.ensures
    ∙ rw (c.slot_in-a.ensures, c.put8.ensures)
