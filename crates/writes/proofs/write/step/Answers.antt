-- All questions are passed, so the log takes the record and the slot lies in the cache; what is left is the definition's
-- once the state that took the record is put for itself.
use native.Mathlib.Omega.{arith}
use Rattle.layout.specs.Item.{bytes_of}
use Rattle.layout.specs.Journal.{record_size}
use Rattle.live.proofs.FirstLaws.{active_below}
use Rattle.tail.proofs.TailLaws.{ready, sequence_logged}
use Rattle.writes.proofs.WriteLaws.{write_asked, slot_in_cache, slots_taken, write_done}
use Rattle.writes.proofs.write.step.Goals as goal

pub take_version-requires : goal.take_version-requires
unfolding bytes_of
take_version-requires c =
    let y = write_asked _ _ _ _ _ c.requires.passed in
    record { ready = ready _ _ _ y.fit; width_value = rw c.requires.width_value y.log }

pub end_of-end-requires : goal.end_of-end-requires
unfolding record_size bytes_of
end_of-end-requires c =
    let y = write_asked _ _ _ _ _ c.requires.passed in
    sequence_logged _ c.take_version.new.state _ _ _ _ y.fit (rw c.requires.width_value y.log) c.take_version.ensures.0

pub put_version-requires : goal.put_version-requires
put_version-requires c =
    let y = write_asked _ _ _ _ _ c.requires.passed in
    let h = slot_in_cache _ _ _ y.fit y.slot in
    record { n_bound = rw c.requires.slot_value h.0; n_in_bounds = rw c.requires.slot_value h.1; value_len = omega arith }

pub count_version-requires : goal.count_version-requires
count_version-requires c =
    let y = write_asked _ _ _ _ _ c.requires.passed in
    let h = slot_in_cache _ _ _ y.fit y.slot in
    let e = slots_taken _ c.take_version.new.state _ _ _ c.take_version.ensures.0 in
    record {
      place_bound = active_below _ _ _ c.requires.place_value;
      slots_bound = omega (arith, e, h.0);
    }

pub returns : goal.returns
returns c =
    write_done c.args.state.now c.take_version.new.state _ _ _ _ _ c.args.place c.args.head _ _ c.requires.slot_value c.take_version.ensures.0 c.take_version.ensures.1
    c.end_of-end.ensures c.put_version.ensures c.count_version.ensures
