-- In each turn the best so far against the best from the present slot on is the best from the head on.
use mathlib.Core.Path.{sym, ◌∙◌}
use native.Mathlib.Omega.{arith}
use Rattle.store.specs.Chain.{best_of}
use Rattle.cached.proofs.RoomLaws.{head_at, room_lower}
use Rattle.chain.specs.Later.{or_later}
use Rattle.chain.proofs.BestLaws.{best_none, best_end, best_down}
use Rattle.chain.proofs.best.find.Goals as goal

pub returns-in_err-at : goal.returns-in_err-at
unfolding best_of
returns-in_err-at c = simp (c.in_err-at.was, c.from_residual.ensures)

pub loop-slot-init : goal.loop-slot-init
unfolding best_of or_later
loop-slot-init c = record { room = head_at _ _ _ c.in_ok-at.was c.requires; same = simp c.in_ok-at.was }

pub returns-then-not-is_version : goal.returns-then-not-is_version
returns-then-not-is_version c =
    best_none _ _ _ _ _ _ c.state_at-slot.ensures (sym c.if-not-is_version.ensures) ∙ c.loop-slot.invariant.same

pub returns-then-at-earlier : goal.returns-then-at-earlier
returns-then-at-earlier c =
    best_end _ _ _ _ _ _ _ _ _ _ c.state_at-slot.ensures (sym c.if-not-is_version.ensures) c.version_time.ensures c.fitting.ensures c.later-next.ensures c.earlier_at-earlier.ensures c.if-at-earlier.true
    ∙ c.loop-slot.invariant.same

pub loop-slot-preserved : goal.loop-slot-preserved
loop-slot-preserved c = record {
  room = room_lower _ _ _ c.loop-slot.invariant.room (omega arith);
  same =
      best_down _ _ _ _ _ _ _ _ _ _ c.state_at-slot.ensures (sym c.if-not-is_version.ensures) c.version_time.ensures c.fitting.ensures c.later-next.ensures c.earlier_at-earlier.ensures c.if-at-earlier.false
      ∙ c.loop-slot.invariant.same;
}
