-- The bytes up to b, and then the bytes of v that are still to come, are those of n.
use Rattle.std.proofs.Common.{◌≡◌, ◌-◌, ◌++◌, take, length}
use Rattle.fields.specs.Field.{enc}
use Rattle.fields.proofs.field.put.Given as goal

abbrev pub invariant-loop-b : goal.invariant-loop-b
invariant-loop-b l = take l.b-index l.s ++ enc (length l.s - l.b-index) l.v ≡ enc (length l.initial.s) l.n
