-- An empty slot changes nothing; of a version the earlier slot, the time and the bounds are judged in turn, and it is then
-- its record's newest.
use mathlib.Core.Path.{sym, ap, ◌∙◌}
use native.Mathlib.Omega.{arith}
use Rattle.store.specs.Chain.{is_version}
use Rattle.conditions.proofs.SlotsLaws.{held, timed, tracks_empty, tracks_version, ok_empty, ok_earlier, ok_falls, ok_bounds}
use Rattle.conditions.proofs.slots.slot_ok.Goals as goal

pub returns-then-not-is_version-clause-value : goal.returns-then-not-is_version-clause-value
returns-then-not-is_version-clause-value c =
    ok_empty _ _ _ _ (ap is_version (sym c.state_at-slot.ensures) ∙ sym c.is_version.ensures ∙ c.if-not-is_version.true)

pub returns-then-not-is_version-clause-tracks : goal.returns-then-not-is_version-clause-tracks
returns-then-not-is_version-clause-tracks c = λ q.
    tracks_empty _ _ _ _ _ _ (ap is_version (sym c.state_at-slot.ensures) ∙ sym c.is_version.ensures ∙ c.if-not-is_version.true) c.requires.tracks

pub returns-then-from-earlier_at-clause-value : goal.returns-then-from-earlier_at-clause-value
returns-then-from-earlier_at-clause-value c =
    let v = held c.args.cache.now _ _ _ c.state_at-slot.ensures c.is_version.ensures c.if-not-is_version.false in
    ok_earlier _ _ _ _ c.key_at-key.result _ _ _ v c.key_at-key.ensures c.earlier_at.ensures (omega arith) c.requires.tracks (rw c.from.ensures at c.if-from-earlier_at.true)

pub returns-then-follows-clause-value : goal.returns-then-follows-clause-value
returns-then-follows-clause-value c =
    let v = held c.args.cache.now _ _ _ c.state_at-slot.ensures c.is_version.ensures c.if-not-is_version.false in
    let t = timed c.args.cache.now _ _ _ _ c.state_at-slot.ensures c.time_of-time.ensures in
    ok_bounds _ _ _ _ c.key_at-key.result _ c.time_of-time.result _ _ _ v c.key_at-key.ensures c.earlier_at.ensures t (omega arith) c.requires.tracks
    (rw c.from.ensures at c.if-from-earlier_at.false) c.follows.ensures.0 _ _ _ _ c.if-follows.true c.state_at-slot.ensures c.requires.next_value.0 c.requires.next_value.1
    c.in_bounds.ensures

pub returns-then-follows-clause-tracks : goal.returns-then-follows-clause-tracks
returns-then-follows-clause-tracks c = λ q.
    let v = held c.args.cache.now _ _ _ c.state_at-slot.ensures c.is_version.ensures c.if-not-is_version.false in
    let t = timed c.args.cache.now _ _ _ _ c.state_at-slot.ensures c.time_of-time.ensures in
    rw c.follows.ensures.1
    (tracks_version _ _ _ _ c.key_at-key.result c.time_of-time.result c.args.newest.now.slots c.args.newest.now.times v c.key_at-key.ensures t (omega arith) (omega arith) (omega arith) c.requires.tracks)

pub returns-else-follows-clause-value : goal.returns-else-follows-clause-value
returns-else-follows-clause-value c =
    let v = held c.args.cache.now _ _ _ c.state_at-slot.ensures c.is_version.ensures c.if-not-is_version.false in
    let t = timed c.args.cache.now _ _ _ _ c.state_at-slot.ensures c.time_of-time.ensures in
    c.if-follows.false
    ∙ ok_falls _ _ _ _ c.key_at-key.result _ c.time_of-time.result _ _ _ v c.key_at-key.ensures c.earlier_at.ensures t (omega arith) c.requires.tracks
    (rw c.from.ensures at c.if-from-earlier_at.false) c.follows.ensures.0 c.if-follows.false
