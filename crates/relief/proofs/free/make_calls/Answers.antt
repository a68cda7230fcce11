-- What was printed, and what the definition still does with the room as it is, make up the whole.
use mathlib.Core.Path.{sym, ◌∙◌}
use lib.ListN.{take}
use native.Mathlib.Omega.{arith}
use Rattle.relief.proofs.FreeLaws.{free_turn, free_none, free_last}
use Rattle.relief.proofs.free.make_calls.Goals as goal

pub returns-in_default-clause-value : goal.returns-in_default-clause-value
returns-in_default-clause-value c =
    let k = c.loop in
    free_none k.state k.medium k.cache (take k.n k.out) k.counter _ k.invariant.4 (sym c.in_default.is ∙ k.invariant.5) _ c.put_end.ensures.out_after

pub loop-preserved : goal.loop-preserved
loop-preserved c =
    let k = c.loop in (
      omega arith,
      omega arith,
      omega arith,
      omega arith,
      free_turn k.state k.medium k.cache (take k.n k.out) k.counter _ k.invariant.4 _ (sym c.in-Some.is ∙ k.invariant.5) _ _ _ _ _ c.loop-test.true
          c.make-answer.ensures c.put_call-n.ensures.out_after,
      c.relief-next.ensures,
    )

pub returns-clause-value : goal.returns-clause-value
returns-clause-value c =
    let k = c.loop in
    free_last k.state k.medium k.cache (take k.n k.out) k.counter _ k.invariant.4 c.loop-test.false _ k.invariant.5 _ c.put_end-2.ensures.out_after
