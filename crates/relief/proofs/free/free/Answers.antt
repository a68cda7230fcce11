-- Where the numbers do not fit, and where no call comes next, the words stay as they are; else the state is laid over them.
use mathlib.Core.Path.{refl, sym, ◌∙◌}
use mathlib.Core.List.{[]}
use Rattle.relief.specs.Words.{places_of, state_of, state_by, with_places}
use Rattle.relief.proofs.WordLaws.{length_places}
use Rattle.relief.proofs.FreeLaws.{free_none, fit_alike, unfit, freed_tail, held}
use Rattle.relief.proofs.free.free.Goals as goal

pub returns-then-not-is_fit-clause-value : goal.returns-then-not-is_fit-clause-value
unfolding state_of state_by with_places
returns-then-not-is_fit-clause-value c =
    let w = c.args.words.now in
    let r = c.read_numbers in
    let f = sym (fit_alike r.new.state (places_of w) _ _ (r.ensures.places_len ∙ sym (length_places w))) ∙ sym c.is_fit.ensures ∙ c.if-not-is_fit.true in
    free_none _ _ _ [] 0 _ refl (unfit _ _ _ (rw r.ensures.numbers at f)) _ c.put_end.ensures.out_after

pub returns-in_default-clause-value : goal.returns-in_default-clause-value
unfolding state_of state_by
returns-in_default-clause-value c =
    let f = rw (c.read_places.ensures, c.read_numbers.ensures.numbers) at c.relief.ensures in
    free_none _ _ _ [] 0 _ refl (sym c.in_default.is ∙ f) _ c.put_end-in_default.ensures.out_after

pub returns-clause-value : goal.returns-clause-value
unfolding state_of state_by
returns-clause-value c =
    let e = rw (c.read_places.ensures, c.read_numbers.ensures.numbers) at c.make_calls-n.ensures.value in
    held e _ _ (freed_tail 70 _ _ _) c.lay.ensures
