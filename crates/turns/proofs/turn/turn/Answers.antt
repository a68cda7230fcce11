-- The lines that no call makes go by their letter; any other is a call from stage 3 on, as no handover comes here.
use mathlib.Core.Path.{refl, ◌∙◌}
use native.Mathlib.Omega.{arith}
use Rattle.rooms.specs.Room.{plan_of, turn_by, turn_of}
use Rattle.rooms.specs.Parts.{stage_of}
use Rattle.rooms.proofs.RoomLaws.{stage_most}
use Rattle.rooms.proofs.PlanLaws.{plan_stage, within_fits, turn_calls, rest_stage, open_right}
use Rattle.turns.proofs.turn.turn.Goals as goal

pub open-requires-clause-bound : goal.open-requires-clause-bound
unfolding plan_of
open-requires-clause-bound c = plan_stage _ _ _ _ refl c.in-Open.is c.requires.stage_bound

pub open-requires-in-OpenSized-clause-bytes_bound : goal.open-requires-in-OpenSized-clause-bytes_bound
unfolding plan_of
open-requires-in-OpenSized-clause-bytes_bound c =
    (within_fits _ 2 _ (plan_stage _ _ _ _ refl c.in-OpenSized.is c.requires.stage_bound) (stage_most c.args.standing.now)).0

pub open-requires-in-OpenSized-clause-bound : goal.open-requires-in-OpenSized-clause-bound
unfolding plan_of
open-requires-in-OpenSized-clause-bound c =
    (within_fits _ 2 _ (plan_stage _ _ _ _ refl c.in-OpenSized.is c.requires.stage_bound) (stage_most c.args.standing.now)).1

pub cut-requires : goal.cut-requires
unfolding plan_of
cut-requires c = plan_stage _ _ _ _ refl c.in-Cut.is c.requires.stage_bound

pub make-requires : goal.make-requires
make-requires c =
    let k = c.in_default in
    let s = rest_stage c.args.asked.call (stage_of c.args.standing.now) k.not-Format k.not-Open k.not-OpenSized k.not-Cut k.not-Poke
    c.requires.looks_value c.requires.stage_bound (stage_most c.args.standing.now) in
    record {
      medium_len = c.requires.medium_len;
      cache_len = c.requires.cache_len;
      call_value = c.requires.looks_value;
      bound = omega arith;
    }

pub returns-in-Format : goal.returns-in-Format
unfolding turn_of turn_by plan_of
returns-in-Format c = simp c.in-Format.is (c.format.ensures c.args.cache.now c.args.state.now)

pub returns-in-Open : goal.returns-in-Open
unfolding turn_of turn_by plan_of
returns-in-Open c =
    simp c.in-Open.is
    (open_right c.args.standing.now c.args.medium.now c.args.cache.now c.args.state.now _ _ _
    (plan_stage _ _ _ _ refl c.in-Open.is c.requires.stage_bound) c.right_length-bytes.ensures.value (c.«open».ensures 79))

pub returns-in-OpenSized : goal.returns-in-OpenSized
unfolding turn_of turn_by plan_of
returns-in-OpenSized c = simp c.in-OpenSized.is (c.open-in-OpenSized.ensures 111)

pub returns-in-Cut : goal.returns-in-Cut
unfolding turn_of turn_by plan_of
returns-in-Cut c = simp c.in-Cut.is (c.cut.ensures c.args.medium.now c.args.cache.now c.args.state.now)

pub returns-in-Poke : goal.returns-in-Poke
unfolding turn_of turn_by plan_of
returns-in-Poke c = simp c.in-Poke.is (c.poke.ensures c.args.cache.now c.args.state.now)

pub returns-in_default : goal.returns-in_default
unfolding turn_of
returns-in_default c =
    let k = c.in_default in
    c.make.ensures
    ∙ turn_calls _ _ _
    (rest_stage c.args.asked.call (stage_of c.args.standing.now) k.not-Format k.not-Open k.not-OpenSized k.not-Cut k.not-Poke
    c.requires.looks_value c.requires.stage_bound (stage_most c.args.standing.now))
    c.requires.letter_value
