-- With the lines that are left, out is what it is to become.
use mathlib.Core.Path.{sym, ◌∙◌}
use Rattle.chain.proofs.PickLaws.{laid, slots_behind, laid_end, laid_turn}
use Rattle.chain.proofs.lines.write.Goals as goal

pub loop-i-preserved : goal.loop-i-preserved
loop-i-preserved c =
    let k = c.loop-i.invariant in
    let h = c.loop-i-test.true in record {
      size = c.put_slot.auto.out ∙ k.size;
      slots = slots_behind _ c.loop-i.i (record { time = record { 0 = 0 }; slot = 0 }) _ h k.slots;
      same = laid_turn _ _ _ _ c.loop-i.i _ h k.slots c.put_slot.ensures ∙ k.same;
    }

pub returns : goal.returns
unfolding laid
returns c = sym (laid_end _ _ _ c.loop-i.i c.loop-i-test.false) ∙ c.loop-i.invariant.same
