-- `field::get` meets its contract: v is the number of the bytes behind those that are left.
use native.Mathlib.Omega.{arith}
use borrow.Author.Rules.{rules}
use Rattle.fields.proofs.FieldLaws.{dec_start, dec_turn, dec_room, dec_done}
use Rattle.fields.proofs.field.get.Goals as goal

pub loop-b-init : goal.loop-b-init
loop-b-init c = dec_start _ _ (search rules)

pub overflow_mul-v : goal.overflow_mul-v
overflow_mul-v c =
    omega (arith, dec_room _ _ _ _ _ c.type_inv.s c.requires c.in-Some.ensures.steps c.loop-b.invariant.0 c.loop-b.invariant.1)

pub overflow_add-v : goal.overflow_add-v
overflow_add-v c =
    omega (arith, c.from.ensures, dec_room _ _ _ _ _ c.type_inv.s c.requires c.in-Some.ensures.steps c.loop-b.invariant.0 c.loop-b.invariant.1)

pub loop-b-preserved : goal.loop-b-preserved
loop-b-preserved c =
    rw c.from.ensures (dec_turn _ _ _ _ _ c.in-Some.ensures.steps c.loop-b.invariant.0 c.loop-b.invariant.1)

pub returns : goal.returns
returns c = dec_done _ _ _ c.in-None.ensures.steps.0 c.loop-b.invariant.1
