-- Each answer is the one that the definition gives once the questions before it are answered.
use Rattle.cached.proofs.RoomLaws.{fit_room}
use Rattle.chain.proofs.NewestLaws.{newest_head}
use Rattle.reads.proofs.ReadLaws.{changes_listed, changes_short}
use Rattle.reads.proofs.changes.changes.Goals as goal

pub find-newest-requires : goal.find-newest-requires
find-newest-requires c = fit_room _ _ _ c.in_ok-fit.ensures.yes

pub list-requires : goal.list-requires
list-requires c = newest_head _ _ _ _ _ c.find-newest.ensures (fit_room _ _ _ c.in_ok-fit.ensures.yes)

pub returns-in-Some : goal.returns-in-Some
returns-in-Some c =
    let a = c.args in
    changes_listed a.state.now a.medium.now a.cache.now a.buffer.now _ a.key a.t1 a.t2 _ _ c.in_ok-fit.ensures.yes c.in_ok-record.ensures.yes c.if-state-t2.false c.find-newest.ensures
    c.list.ensures.result_value c.list.ensures.buffer_after _ c.in-Some.is

pub returns-in-None : goal.returns-in-None
returns-in-None c =
    let a = c.args in
    changes_short a.state.now a.medium.now a.cache.now a.buffer.now _ a.key a.t1 a.t2 _ _ c.in_ok-fit.ensures.yes c.in_ok-record.ensures.yes c.if-state-t2.false c.find-newest.ensures
    c.list.ensures.result_value c.list.ensures.buffer_after c.in-None.is
