-- All questions are passed, so the log takes the record; what is left is the definition's once the state that took the
-- record is put for itself.
use mathlib.Core.Path.{refl}
use native.Mathlib.Omega.{arith}
use Rattle.layout.specs.Journal.{record_size}
use Rattle.live.proofs.FirstLaws.{active_below}
use Rattle.store.specs.Commit.{committed}
use Rattle.store.specs.Places.{place_at}
use Rattle.tail.proofs.TailLaws.{ready, sequence_logged}
use Rattle.transactions.proofs.CommitLaws.{commit_asked, commit_done}
use Rattle.transactions.proofs.commit.step.Goals as goal

pub take_commit-requires : goal.take_commit-requires
take_commit-requires c =
    let y = commit_asked _ _ _ _ _ c.requires.passed c.requires.place_value c.requires.waits in
    record {
      ready = ready _ _ _ y.fit;
      medium_value = y.log;
    }

pub end_of-end-requires : goal.end_of-end-requires
unfolding record_size
end_of-end-requires c =
    let y = commit_asked _ _ _ _ _ c.requires.passed c.requires.place_value c.requires.waits in
    sequence_logged _ c.take_commit.new.state _ _ _ _ y.fit y.log c.take_commit.ensures.0

pub offset_bounds-state-place : goal.offset_bounds-state-place
offset_bounds-state-place c = let h = active_below _ _ _ c.requires.place_value in omega arith

pub bounds-state-place : goal.bounds-state-place
bounds-state-place c = active_below _ _ _ c.requires.place_value

pub returns : goal.returns
unfolding committed place_at
returns c =
    commit_done _ c.take_commit.new.state _ _ _ _ _ _ _ c.take_commit.ensures.0 c.take_commit.ensures.1 (rw c.end_of-end.ensures refl)
