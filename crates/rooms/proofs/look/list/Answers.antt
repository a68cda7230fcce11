-- A list leaves the room as it is, and lies within its buffer.
use mathlib.Core.Path.{ap}
use mathlib.Core.List.{List}
use Prim.Native.Nat.{ℕ}
use native.Mathlib.Omega.{arith}
use lib.ListN.{length, take, replicate, length-replicate}
use Rattle.store.specs.Answer.{Outcome}
use Rattle.rooms.proofs.LookLaws.{list_prints, list_fits}
use Rattle.rooms.proofs.look.list.Goals as goal

pub put_list-requires-clause-by_index : goal.put_list-requires-clause-by_index
put_list-requires-clause-by_index c k e =
    let b : List ℕ = replicate (length c.args.buffer.now) 170 in
    let a = rw (c.fill.ensures.after (λ y e. e)) at c.changes-answer.ensures in
    let f = rw length-replicate at (list_fits _ _ _ b _ _ _ k _ (ap (λ (o : Outcome). o.answer) a) e) in
    omega arith

pub returns-clause-by_index : goal.returns-clause-by_index
returns-clause-by_index c l d =
    list_prints (take c.args.n c.args.out.now) _ _ _ _ _ _ _ _ l d c.put_answer-n.ensures.out_after c.put_list.ensures.out_after
    (rw (c.fill.ensures.after (λ y e. e)) at c.changes-answer.ensures)
