-- A look leaves the room; a handover has its own line; any other line is a turn, and its answer is printed.
use mathlib.Core.Path.{sym, ap, ◌∙◌}
use mathlib.Core.List.{◌++◌}
use lib.ListN.{take}
use Rattle.rooms.specs.declared.plan.Plan.{Plan}
use Rattle.rooms.specs.Room.{Turn, plan_of}
use Rattle.rooms.specs.Parts.{room_of}
use Rattle.rooms.proofs.PlanLaws.{plan_stage}
use Rattle.turns.proofs.TurnLaws.{not_hand, hand_turn}
use Rattle.turns.proofs.step.step.Goals as goal

pub hand-handed-requires-clause-bound : goal.hand-handed-requires-clause-bound
unfolding plan_of
hand-handed-requires-clause-bound c = plan_stage _ _ _ _ c.requires.plan_value c.in-Hand.is c.requires.stage_bound

pub returns-in-Hand-clause-out_after : goal.returns-in-Hand-clause-out_after
returns-in-Hand-clause-out_after c =
    let k = c.args in
    let e = hand_turn k.asked (room_of k.standing.now k.medium.now k.cache.now k.state.now) _ _ _ _ _ _ c.in-Hand.is
    c.hand-handed.ensures in
    c.put_handed.ensures.out_after ∙ ap (λ (u : Turn). take k.n k.out.now ++ u.text) e

pub returns-in-Hand-clause-room_after : goal.returns-in-Hand-clause-room_after
returns-in-Hand-clause-room_after c =
    let k = c.args in
    ap (λ (u : Turn). u.room)
    (hand_turn k.asked (room_of k.standing.now k.medium.now k.cache.now k.state.now) _ _ _ _ _ _ c.in-Hand.is c.hand-handed.ensures)

pub turn-answer-requires : goal.turn-answer-requires
turn-answer-requires c =
    let q = c.requires.plan_value in
    record {
      medium_len = c.requires.medium_len;
      cache_len = c.requires.cache_len;
      buffer_len = c.requires.buffer_len;
      looks_value = ap (λ (x : Plan). x.looks) (sym q) ∙ c.if-plan.false;
      letter_value = not_hand c.args.asked.call c.in_default.not-Hand;
      stage_bound = rw q at c.requires.stage_bound;
    }
