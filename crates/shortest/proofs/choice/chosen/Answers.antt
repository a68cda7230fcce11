-- A turn takes the highest bit that is left; behind the last one stands the line that is always chosen.
use mathlib.Core.Path.{◌≡◌, refl}
use Prim.Native.Nat.{◌-◌, ◌%◌, ◌^◌}
use native.Mathlib.Omega.{arith}
use native.Mathlib.Nat.{mod-eq_of_lt}
use lib.ListN.{length-set}
use Rattle.shortest.proofs.ChoiceLaws.{next_chosen, next_false, last_in}
use Rattle.shortest.proofs.choice.chosen.Goals as goal

pub loop-i-init : goal.loop-i-init
loop-i-init c =
    let a = c.args in
    let z : a.m - 0 ≡ a.m = omega arith in
    let e : a.j % 2 ^ a.m ≡ a.j = mod-eq_of_lt c.requires.j_bound in
    record {
      places = refl;
      behind = refl;
      same = rw (z, e);
    }

pub loop-i-preserved : goal.loop-i-preserved
loop-i-preserved c =
    let a = c.args in
    let n = c.requires.m_bound in
    let t = c.loop-i-test.true in
    let h = c.loop-i.invariant in
    record {
      places = simp length-set h.places;
      behind = next_false a.m c.loop-i.i a.j c.loop-i.flags t n h.places _ h.behind;
      same = next_chosen a.m c.loop-i.i a.j c.loop-i.flags t n h.places h.same;
    }

pub returns : goal.returns
returns c =
    let h = c.loop-i.invariant in
    last_in c.args.m c.loop-i.i c.args.j c.loop-i.flags c.requires.m_bound (omega arith) h.places h.behind h.same
