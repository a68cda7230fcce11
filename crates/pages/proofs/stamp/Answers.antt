-- Before each turn the slots from slot i on are as they came, and stamping them yields the stamped page.
use Rattle.std.specs.Prelude.{ℕ, List}
use Rattle.layout.specs.Slot.{slot_state}
use native.Mathlib.Omega.{arith}
use mathlib.Core.Path.{ap, sym, ◌∙◌}
use Rattle.pages.specs.Stamped.{stamp_for}
use Rattle.pages.proofs.StampLaws.{stamp_starts, stamp_hit, stamp_miss, stamp_ends}
use Rattle.pages.proofs.stamp.Goals as goal
use Rattle.pages.proofs.stamp.Goals.{in-Some, in_default}

pub loop-i-init : goal.loop-i-init
loop-i-init c = stamp_starts _ _ _

pub loop-i-preserved : goal.loop-i-preserved
loop-i-preserved c =
    let a = c.args in
    let found = λ (slot : List ℕ). stamp_for a.places.now a.end.0 (slot_state slot) in
    let e = c.stamp_for.ensures ∙ ap (stamp_for a.places.now a.end.0) c.slot.ensures ∙ ap found (c.loop-i.invariant.ahead c.loop-i.i (omega arith)) in
    let s = c.loop-i.invariant in
    let h = c.loop-i-test.true in
    elim c.match-stamp_for.branch [
      | in-Some w ↦ rw (w.page-is, w.found-is) (stamp_hit _ _ _ _ _ _ s h _ _ _ (sym w.in-Some.is ∙ e) w.stamp.ensures)
      | in_default w ↦ rw (w.page-is, w.found-is) (stamp_miss _ _ _ _ _ _ s h (sym w.in_default.is ∙ e))
    ]

pub returns-clause-page_after : goal.returns-clause-page_after
returns-clause-page_after c = stamp_ends _ _ _ _ _ _ c.loop-i.invariant c.loop-i-test.false
