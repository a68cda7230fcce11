-- v is the number of the bytes behind those that are left.
use Rattle.std.proofs.Common.{◌≡◌, ◌++◌, length, drop}
use Rattle.fields.specs.Field.{dec}
use Rattle.fields.proofs.field.get.Given as goal

abbrev pub invariant-loop-b : goal.invariant-loop-b
invariant-loop-b l =
    let left = l.b-iterator.iter.rest.now in
    (left ++ drop (length left) l.s ≡ l.s) × (l.v ≡ dec (drop (length left) l.s))
