-- Each answer is the one that the definition gives once the questions before it are answered; the searches stay in the
-- cache, which the first question has room for.
use mathlib.Core.Path.{refl, sym, ap, ◌∙◌}
use Rattle.std.specs.Prelude.{ℕ, Option}
use Rattle.cached.proofs.RoomLaws.{fit_room, head_at}
use Rattle.chain.proofs.NewestLaws.{newest_head}
use Rattle.reads.proofs.ReadLaws.{visible_head, read_cell_law, current_done}
use Rattle.store.specs.Chain.{held, held_at}
use Rattle.reads.proofs.current_read.current_read.Goals as goal

pub find-newest-requires : goal.find-newest-requires
find-newest-requires c = fit_room _ _ _ c.in_ok-fit.ensures.yes

pub is_held-requires : goal.is_held-requires
is_held-requires c = newest_head _ _ _ _ _ c.find-newest.ensures (fit_room _ _ _ c.in_ok-fit.ensures.yes)

pub find-requires : goal.find-requires
find-requires c = newest_head _ _ _ _ _ c.find-newest.ensures (fit_room _ _ _ c.in_ok-fit.ensures.yes)

pub read_slot-requires : goal.read_slot-requires
read_slot-requires c =
    head_at _ _ _ c.in-Some.is (visible_head _ _ _ _ _ _ c.find.ensures (newest_head _ _ _ _ _ c.find-newest.ensures (fit_room _ _ _ c.in_ok-fit.ensures.yes)))

pub returns-in-Some : goal.returns-in-Some
unfolding held
returns-in-Some c =
    let a = c.args in
    let h = sym (c.is_held.ensures ∙ ap (λ (f : Option ℕ). held_at f a.cache.now a.state.now.places a.number) c.find-newest.ensures) ∙ c.if-is_held.false in
    read_cell_law _ _ a.state.now a.medium.now a.cache.now c.read_slot.ensures
    ∙ sym (current_done a.state.now a.medium.now a.cache.now a.number a.key _ _ _ c.in_ok-fit.ensures.yes c.in_ok-record.ensures.yes c.in_ok-active.ensures.yes h c.find-newest.ensures c.find.ensures
    ∙ rw c.in-Some.is refl)
