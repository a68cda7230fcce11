-- `master::put_field` meets its contract: tag, length and content lie one behind the other.
use mathlib.Core.Path.{refl, ◌∙◌}
use Prim.Native.Nat.{◌+◌}
use native.Mathlib.Omega.{arith}
use lib.ListN.{length}
use Rattle.fields.proofs.PartLaws.{lent_copy}
use Rattle.layout.proofs.RecordLaws.{item_written}
use Rattle.layout.proofs.master.put_field.Goals as goal

pub returns : goal.returns
returns c =
    lent_copy _ _ _ (c.args.at + 3) (length c.args.content.now) (omega (arith, c.put_head.auto.bytes, c.requires)) c.copy_from_slice.ensures.len c.copy_from_slice.ensures.after
    ∙ item_written _ _ _ _ _ _ refl c.put_head.ensures
