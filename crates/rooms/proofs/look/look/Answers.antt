-- Each look reads the room where it lies in the buffers; no other line comes here.
use mathlib.Core.Path.{refl}
use native.Mathlib.Omega.{arith}
use lib.ListN.{take}
use Rattle.rooms.specs.Room.{plan_of, outcome_of, turn_by, turn_of}
use Rattle.rooms.proofs.RoomLaws.{stage_most, medium_in_law, cache_in_law, first_length}
use Rattle.rooms.proofs.PlanLaws.{plan_stage, within_fits}
use Rattle.rooms.proofs.LookLaws.{read_prints, look_call, look_list, look_rest}
use Rattle.rooms.proofs.look.look.Goals as goal

pub slice_bounds-buffer-end : goal.slice_bounds-buffer-end
unfolding plan_of
slice_bounds-buffer-end c =
    let f = within_fits _ 3 _ (plan_stage _ _ _ _ refl c.in-Changes.is c.requires.call_bound) (stage_most c.args.standing) in
    omega arith

pub slice_bounds-buffer-end-in-Changes : goal.slice_bounds-buffer-end-in-Changes
unfolding plan_of
slice_bounds-buffer-end-in-Changes c =
    let f = within_fits _ 3 _ (plan_stage _ _ _ _ refl c.in-Changes.is c.requires.call_bound) (stage_most c.args.standing) in
    first_length c.args.buffer.now _ (omega arith)

pub unreachable-requires : goal.unreachable-requires
unreachable-requires c =
    let k = c.in_default in
    look_rest c.args.asked.call k.not-Read k.not-AsOf k.not-Changes k.not-Block k.not-Page c.requires.call_value

pub returns-in-Read-clause-prints : goal.returns-in-Read-clause-prints
unfolding turn_of turn_by plan_of outcome_of
returns-in-Read-clause-prints c =
    let k = c.args in
    simp c.in-Read.is
    (look_call k.standing k.medium.now k.cache.now k.state.now _ _ (take k.n k.out.now) _ _ _ (plan_stage _ _ _ _ refl c.in-Read.is c.requires.call_bound)
    c.medium_part.ensures.value c.cache_part.ensures.value
    (read_prints _ _ _ _ _ _ _ _ _ _ _ refl c.put_reading.ensures.out_after c.current_read-reading.ensures))

pub returns-in-AsOf-clause-prints : goal.returns-in-AsOf-clause-prints
unfolding turn_of turn_by plan_of outcome_of
returns-in-AsOf-clause-prints c =
    let k = c.args in
    simp c.in-AsOf.is
    (look_call k.standing k.medium.now k.cache.now k.state.now _ _ (take k.n k.out.now) _ _ _ (plan_stage _ _ _ _ refl c.in-AsOf.is c.requires.call_bound)
    c.medium_part.ensures.value c.cache_part.ensures.value
    (read_prints _ _ _ _ _ _ _ _ _ _ _ refl c.put_reading-in-AsOf.ensures.out_after c.as_of-reading.ensures))

pub returns-in-Changes-clause-prints : goal.returns-in-Changes-clause-prints
unfolding turn_of turn_by plan_of outcome_of
returns-in-Changes-clause-prints c =
    let k = c.args in
    let f = within_fits _ 3 _ (plan_stage _ _ _ _ refl c.in-Changes.is c.requires.call_bound) (stage_most k.standing) in
    simp c.in-Changes.is
    (look_call k.standing k.medium.now k.cache.now k.state.now _ _ (take k.n k.out.now) _ _ _ f.1 c.medium_part.ensures.value c.cache_part.ensures.value
    (look_list k.buffer.now (take k.n k.out.now) _ _ _ _ _ _ _ _ _ _ c.requires.buffer_len f.0 (c.list.ensures.by_index _ _)))

pub returns-in-Block-clause-prints : goal.returns-in-Block-clause-prints
unfolding turn_of turn_by
returns-in-Block-clause-prints c = simp (c.in-Block.is, medium_in_law) (rw c.medium_part.ensures.value at c.put_shown.ensures.out_after, refl)

pub returns-in-Page-clause-prints : goal.returns-in-Page-clause-prints
unfolding turn_of turn_by
returns-in-Page-clause-prints c = simp (c.in-Page.is, cache_in_law) (rw c.cache_part.ensures.value at c.put_shown-in-Page.ensures.out_after, refl)
