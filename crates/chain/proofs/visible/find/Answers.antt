-- In each turn what is seen from the present slot on is what is seen from the head on.
use mathlib.Core.Path.{sym, ◌∙◌}
use native.Mathlib.Omega.{arith}
use Rattle.store.specs.Chain.{visible_of}
use Rattle.cached.proofs.RoomLaws.{head_at, room_lower}
use Rattle.chain.proofs.VisibleLaws.{visible_none, visible_here, visible_end, visible_down}
use Rattle.chain.proofs.visible.find.Goals as goal

pub returns-in_err-at : goal.returns-in_err-at
unfolding visible_of
returns-in_err-at c = simp (c.in_err-at.was, c.from_residual.ensures)

pub loop-slot-init : goal.loop-slot-init
unfolding visible_of
loop-slot-init c = record { room = head_at _ _ _ c.in_ok-at.was c.requires; same = simp c.in_ok-at.was }

pub returns-then-not-is_version : goal.returns-then-not-is_version
returns-then-not-is_version c =
    visible_none _ _ _ _ _ c.state_at-slot.ensures (sym c.if-not-is_version.ensures) ∙ c.loop-slot.invariant.same

pub returns-then-sees : goal.returns-then-sees
returns-then-sees c =
    visible_here _ _ _ _ _ _ c.state_at-slot.ensures (sym c.if-not-is_version.ensures) c.sees.ensures c.if-sees.true
    ∙ c.loop-slot.invariant.same

pub returns-then-at-earlier : goal.returns-then-at-earlier
returns-then-at-earlier c =
    visible_end _ _ _ _ _ _ _ c.state_at-slot.ensures (sym c.if-not-is_version.ensures) c.sees.ensures c.if-sees.false c.earlier_at-earlier.ensures c.if-at-earlier.true
    ∙ c.loop-slot.invariant.same

pub loop-slot-preserved : goal.loop-slot-preserved
loop-slot-preserved c = record {
  room = room_lower _ _ _ c.loop-slot.invariant.room (omega arith);
  same =
      visible_down _ _ _ _ _ _ _ c.state_at-slot.ensures (sym c.if-not-is_version.ensures) c.sees.ensures c.if-sees.false c.earlier_at-earlier.ensures c.if-at-earlier.false
      ∙ c.loop-slot.invariant.same;
}
