-- `item::version_head` meets its contract: the record number is that of one byte or two, so it fits.
use Prim.Native.Nat.{◌+◌, ◌-◌, ◌≤◌, ◌<◌, ◌^◌}
use native.Mathlib.Omega.{arith}
use lib.ListN.{length, take, drop, length-take}
use Rattle.fields.specs.Field.{dec}
use Rattle.fields.proofs.FieldLaws.{dec_lt, bytes_take, bytes_drop}
use Rattle.layout.proofs.RecordLaws.{bytes_few}
use Rattle.layout.proofs.item.version_head.Goals as goal

pub overflow_cast-result : goal.overflow_cast-result
overflow_cast-result c =
    let body = c.args.body.now in
    let n = 2 + c.bytes-n.result - 2 in
    let long : length (take n (drop 2 body)) ≤ 2 = simp length-take (omega (arith, c.bytes-n.ensures, bytes_few c.args.width)) in
    let h : dec (take n (drop 2 body)) < 256 ^ 2 = dec_lt 2 (take n (drop 2 body)) (bytes_take n (drop 2 body) (bytes_drop 2 body c.type_inv.body)) long in
    record { fits = omega (arith, c.get.ensures, h) }
