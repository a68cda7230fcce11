-- Each answer is the one that the definition gives once the questions before it are answered; the searches stay in the
-- cache, which the first question has room for.
use mathlib.Core.Path.{refl, sym, ◌∙◌}
use Rattle.cached.proofs.RoomLaws.{fit_room}
use Rattle.chain.proofs.NewestLaws.{newest_head}
use Rattle.chain.proofs.BestLaws.{best_within, within_at}
use Rattle.reads.proofs.ReadLaws.{read_cell_law, as_of_done}
use Rattle.reads.proofs.as_of.as_of.Goals as goal

pub find-newest-requires : goal.find-newest-requires
find-newest-requires c = fit_room _ _ _ c.in_ok-fit.ensures.yes

pub find-requires : goal.find-requires
find-requires c = newest_head _ _ _ _ _ c.find-newest.ensures (fit_room _ _ _ c.in_ok-fit.ensures.yes)

pub read_slot-requires : goal.read_slot-requires
read_slot-requires c =
    within_at _ _ _ _ c.in-Some.is (best_within _ _ _ _ _ _ c.find.ensures (newest_head _ _ _ _ _ c.find-newest.ensures (fit_room _ _ _ c.in_ok-fit.ensures.yes)))

pub returns-in-Some : goal.returns-in-Some
returns-in-Some c =
    let a = c.args in
    read_cell_law _ _ a.state.now a.medium.now a.cache.now c.read_slot.ensures
    ∙ sym (as_of_done a.state.now a.medium.now a.cache.now a.key a.time _ _ c.in_ok-fit.ensures.yes c.in_ok-record.ensures.yes c.if-state-time.false c.find-newest.ensures c.find.ensures
    ∙ rw c.in-Some.is refl)
