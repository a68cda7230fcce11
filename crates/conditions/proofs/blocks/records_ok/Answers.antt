-- Each turn judges one record; what is left of the block, judged from there on, is the whole judgement.
use native.Mathlib.Omega.{arith}
use Rattle.fields.proofs.Choose.{no}
use Rattle.conditions.proofs.BlockPasses.{left_end, left_cut, version_in, commit_in, same_begin, same_end, same_cut, version_turn, version_stop, commit_turn, commit_stop}
use Rattle.conditions.proofs.blocks.records_ok.Goals as goal

pub loop-head-init : goal.loop-head-init
loop-head-init c = record { from = omega arith; up_to = omega arith; same = same_begin _ _ _ }

pub returns-in-End : goal.returns-in-End
returns-in-End c =
    let v = c.loop-head.invariant in
    let w = same_end v.same (left_end c.args.block.now c.loop-head.at v.from _ c.item_at.ensures c.in-End.is) in
    (w.0, λ _. w.1)

pub overflow_add-end-in-Version : goal.overflow_add-end-in-Version
overflow_add-end-in-Version c =
    omega (arith, version_in _ _ c.loop-head.invariant.from _ c.item_at.ensures _ _ (omega arith) c.in-Version.is c.bytes.ensures)

pub slice_bounds-version_ok-end : goal.slice_bounds-version_ok-end
slice_bounds-version_ok-end c =
    omega (arith, version_in _ _ c.loop-head.invariant.from _ c.item_at.ensures _ _ (omega arith) c.in-Version.is c.bytes.ensures)

pub returns-then-not-version_ok : goal.returns-then-not-version_ok
returns-then-not-version_ok c =
    let v = c.loop-head.invariant in
    (version_stop c.args.block.now _ v.from _ c.item_at.ensures v.same _ _ _ c.in-Version.is c.bytes.ensures c.version_ok.ensures c.if-not-version_ok.true, no)

pub loop-head-preserved-in-Version : goal.loop-head-preserved-in-Version
loop-head-preserved-in-Version c =
    let v = c.loop-head.invariant in
    record {
      from = omega arith;
      up_to = version_in _ _ v.from _ c.item_at.ensures _ _ (omega arith) c.in-Version.is c.bytes.ensures;
      same = version_turn c.args.block.now _ v.from _ c.item_at.ensures v.same _ _ _ c.in-Version.is c.bytes.ensures c.version_ok.ensures c.if-not-version_ok.false;
    }

pub returns-then-not-rises : goal.returns-then-not-rises
returns-then-not-rises c =
    let v = c.loop-head.invariant in
    (commit_stop c.args.block.now _ v.from _ c.item_at.ensures v.same _ _ c.in-Commit.is c.rises.ensures c.if-not-rises.true, no)

pub loop-head-smaller : goal.loop-head-smaller
loop-head-smaller c = omega (arith, commit_in _ _ c.loop-head.invariant.from _ c.item_at.ensures _ (omega arith) c.in-Commit.is)

pub loop-head-preserved : goal.loop-head-preserved
loop-head-preserved c =
    let v = c.loop-head.invariant in
    record {
      from = omega arith;
      up_to = commit_in _ _ v.from _ c.item_at.ensures _ (omega arith) c.in-Commit.is;
      same = commit_turn c.args.block.now _ v.from _ c.item_at.ensures v.same _ _ c.in-Commit.is c.rises.ensures c.if-not-rises.false;
    }

pub returns-in-Number : goal.returns-in-Number
returns-in-Number c =
    let v = c.loop-head.invariant in
    (same_cut v.same (left_cut c.args.block.now c.loop-head.at v.from _ c.item_at.ensures c.in-Number.is), no)
