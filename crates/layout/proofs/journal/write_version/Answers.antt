-- `journal::write_version` meets its contract: the fields, one behind the other, fill the body.
use mathlib.Core.Path.{◌∙◌}
use Prim.Native.Nat.{◌+◌}
use native.Mathlib.Omega.{arith}
use lib.ListN.{length-set}
use Rattle.fields.proofs.PartLaws.{lent_copy}
use Rattle.layout.proofs.RecordLaws.{version_written}
use Rattle.layout.proofs.journal.write_version.Goals as goal

pub returns : goal.returns
returns c =
    let n = c.bytes-n.result in
    let h = simp length-set at c.put2-2.auto.s in
    lent_copy _ _ _ (13 + n) 16 (omega (arith, c.put8.auto.s, h, c.write_key.auto.body, c.put2.auto.s, c.requires.body_len, c.bytes-n.ensures)) c.copy_from_slice.ensures.len c.copy_from_slice.ensures.after
    ∙ version_written _ _ _ _ _ _ c.args.head n c.bytes-n.ensures (rw c.bytes-n.ensures c.requires.body_len) c.requires.value_len c.put2.ensures c.write_key.ensures c.put2-2.ensures c.put8.ensures
