-- A chosen line's call is a step of the play, and another line is none.
use mathlib.Core.Path.{◌≡◌, ap, ◌∙◌}
use mathlib.Core.Logic.{⊎_elim}
use Rattle.shortest.proofs.PlayLaws.{play_start, play_yes, play_no, no_flag, no_place, play_end}
use Rattle.shortest.proofs.play.play.Goals as goal

pub loop-chosen-init : goal.loop-chosen-init
loop-chosen-init c =
    let s = c.into_iter-chosen-iterator.result in
    let i : s ≡ c.zip-chosen-items.result = c.into_iter-chosen-iterator.ensures.into_iter_gives in
    let z = c.zip-chosen-items.ensures in
    let f : s.a.rest.now ≡ c.args.flags = ap (λ y. y.a.rest.now) i ∙ ap (λ y. y.rest.now) z.first ∙ c.iter.ensures.rest in
    let p : s.b.rest.now ≡ c.args.calls.now = ap (λ y. y.b.rest.now) i ∙ z.second.0 in
    rw (f, p) (play_start c.args.flags c.args.calls.now _ _ c.format.ensures c.«open».ensures)

pub loop-chosen-preserved-then-chosen : goal.loop-chosen-preserved-then-chosen
loop-chosen-preserved-then-chosen c =
    let t = c.in-Some.ensures.steps in
    play_yes _ c.loop-chosen.number _ _ _ _ _ _ t.0 t.1 _ _ c.if-chosen.true c.make-number.ensures
    ∙ c.loop-chosen.invariant

pub loop-chosen-preserved : goal.loop-chosen-preserved
loop-chosen-preserved c =
    let t = c.in-Some.ensures.steps in
    play_no _ _ _ _ _ _ _ _ t.0 t.1 c.if-chosen.false ∙ c.loop-chosen.invariant

pub returns : goal.returns
returns c =
    play_end _ _ _ _
    (⊎_elim (λ p. no_flag c.loop-chosen.chosen-iterator.a.rest.now c.loop-chosen.chosen-iterator.b.rest.now p.1.0)
    (λ p. no_place c.loop-chosen.chosen-iterator.a.rest.now c.loop-chosen.chosen-iterator.b.rest.now p.1.0)
    c.in-None.ensures.steps)
    c.loop-chosen.invariant
