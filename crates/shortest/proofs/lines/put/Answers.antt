-- A turn puts the line's own text, if it is chosen, and goes past it.
use mathlib.Core.Path.{sym}
use mathlib.Core.Bool.{true, false}
use mathlib.Core.List.{append-nil}
use native.Mathlib.Omega.{arith}
use lib.ListN.{take, length-take, length-drop}
use Rattle.shortest.proofs.PutLaws.{put_turn, put_short, put_all}
use Rattle.shortest.proofs.lines.put.Goals as goal
use Rattle.shortest.proofs.lines.put.Goals.{then-chosen, else-chosen}

pub loop-chosen-preserved : goal.loop-chosen-preserved
loop-chosen-preserved c =
    let a = c.args in
    let h = c.loop-chosen.invariant in
    let i = c.loop-chosen.chosen-index in
    let e = c.line_end-end.ensures.value in
    elim c.if-chosen.branch [
      | then-chosen w ↦
          let u = simp (length-take, length-drop) at w.put_line-n.ensures.value in
          record {
            put = rw w.n-is (omega arith);
            place = omega arith;
            same =
                put_turn a.flags a.bytes.now _ i c.loop-chosen.at c.line_end-end.result (omega arith)
                c.if-bytes-at.false e true (take c.loop-chosen.n c.loop-chosen.out) _ (sym w.if-chosen.true)
                (rw (w.n-is, w.out-is) w.put_line-n.ensures.out_after) h.same;
          }
      | else-chosen w ↦ record {
        put = rw w.n-is (omega arith);
        place = omega arith;
        same =
            put_turn a.flags a.bytes.now _ i c.loop-chosen.at c.line_end-end.result (omega arith) c.if-bytes-at.false e
            false (take c.loop-chosen.n c.loop-chosen.out) _ (sym w.if-chosen.false)
            (rw (w.n-is, w.out-is) (sym (append-nil _))) h.same;
      }
    ]

pub returns-then-bytes-at-clause-out_after : goal.returns-then-bytes-at-clause-out_after
returns-then-bytes-at-clause-out_after c =
    put_short c.args.flags c.args.bytes.now _ _ c.loop-chosen.chosen-index c.loop-chosen.at c.if-bytes-at.true
    c.loop-chosen.invariant.same

pub returns-after-loop-chosen-clause-out_after : goal.returns-after-loop-chosen-clause-out_after
returns-after-loop-chosen-clause-out_after c =
    put_all c.args.flags c.args.bytes.now _ _ c.loop-chosen.chosen-index c.loop-chosen.at (omega arith)
    c.loop-chosen.invariant.same
