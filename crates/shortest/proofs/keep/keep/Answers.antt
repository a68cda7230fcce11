-- A turn takes one line, which is the script's next.
use native.Mathlib.Omega.{arith}
use lib.ListN.{length-set}
use Rattle.script.proofs.TakeLaws.{step_on}
use Rattle.shortest.proofs.KeepLaws.{keep_short, keep_other, keep_many, keep_next, keep_left}
use Rattle.shortest.proofs.keep.keep.Goals as goal

pub returns-in_default : goal.returns-in_default
returns-in_default c =
    let h = c.loop-at.invariant in
    let w = keep_other c.args.bytes.now c.loop-at.calls c.loop-at.n c.loop-at.at h.count h.places h.behind h.same _
    c.take-taken.result c.meaning.result c.loop-at-test.true c.empty.ensures c.take-taken.ensures c.meaning.ensures
    c.in_default.is in
    record {
      kept = w.places;
      long = w.few;
    }

pub returns-then-n-eq12-clause-long : goal.returns-then-n-eq12-clause-long
returns-then-n-eq12-clause-long c =
    let h = c.loop-at.invariant in
    keep_many c.args.bytes.now c.loop-at.calls c.loop-at.n c.loop-at.at h.count h.places h.behind h.same _
    c.take-taken.result c.meaning.result c.loop-at-test.true c.empty.ensures c.take-taken.ensures c.meaning.ensures
    c.in-Some.call c.in-Some.is c.if-n-eq12.true

pub loop-at-smaller : goal.loop-at-smaller
loop-at-smaller c =
    let s = step_on c.args.bytes.now _ c.loop-at.at c.take-taken.result c.loop-at-test.true c.take-taken.ensures in
    omega arith

pub loop-at-preserved : goal.loop-at-preserved
loop-at-preserved c =
    let b = c.args.bytes.now in
    let h = c.loop-at.invariant in
    let s = step_on b _ c.loop-at.at c.take-taken.result c.loop-at-test.true c.take-taken.ensures in
    record {
      count = omega arith;
      place = s.1;
      places = simp length-set h.places;
      behind = keep_left b c.loop-at.calls c.loop-at.n c.loop-at.at h.count h.places h.behind h.same _ (omega arith);
      same =
          keep_next b c.loop-at.calls c.loop-at.n c.loop-at.at h.count h.places h.behind h.same _ c.take-taken.result
          c.meaning.result c.loop-at-test.true c.empty.ensures c.take-taken.ensures c.meaning.ensures c.in-Some.call
          c.in-Some.is (omega arith);
    }

pub returns : goal.returns
returns c =
    let h = c.loop-at.invariant in
    let w = keep_short c.args.bytes.now c.loop-at.calls c.loop-at.n c.loop-at.at h.count h.places h.behind h.same
    c.loop-at-test.false in
    record {
      kept = w.places;
      long = w.few;
    }
