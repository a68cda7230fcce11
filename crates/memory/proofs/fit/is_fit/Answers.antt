-- The tests are those of `fits` in their order; the lengths of the state's arrays are those of its type.
use mathlib.Core.Path.{◌≡◌, sym, ◌∙◌}
use mathlib.Core.Bool.{true, and-true}
use native.Mathlib.Omega.{arith}
use lib.ListN.{length}
use borrow.Author.Tests.{eq-eqb, ne_eqb, le-leb, lt-leb}
use Rattle.store.specs.State.{in_range, fits}
use Rattle.store.proofs.FitLaws.{InRange, range_of}
use Rattle.memory.specs.Tail.{tail_in_range}
use Rattle.memory.proofs.fit.is_fit.Goals as goal

pub returns-then-not-in_range : goal.returns-then-not-in_range
unfolding fits
returns-then-not-in_range c = simp (← c.in_range.ensures, c.if-not-in_range.true)

pub medium_length-requires : goal.medium_length-requires
medium_length-requires c = let h = range_of _ _ (sym c.in_range.ensures ∙ c.if-not-in_range.false) in (h.blocks_high, h.pages_high)

pub returns-then-medium-medium_length : goal.returns-then-medium-medium_length
unfolding fits
returns-then-medium-medium_length c =
    simp ((sym c.in_range.ensures ∙ c.if-not-in_range.false), ← c.medium_length.ensures, ne_eqb _ _ c.if-medium-medium_length.true)

pub cache_length-requires : goal.cache_length-requires
cache_length-requires c = (range_of _ _ (sym c.in_range.ensures ∙ c.if-not-in_range.false)).pages_high

pub returns-then-cache-cache_length : goal.returns-then-cache-cache_length
unfolding fits
returns-then-cache-cache_length c =
    simp ((sym c.in_range.ensures ∙ c.if-not-in_range.false), eq-eqb _ _ (c.if-medium-medium_length.false ∙ c.medium_length.ensures), ← c.cache_length.ensures, ne_eqb _ _ c.if-cache-cache_length.true)

pub overflow_mul-state : goal.overflow_mul-state
overflow_mul-state c = let h = range_of _ _ (sym c.in_range.ensures ∙ c.if-not-in_range.false) in omega arith

pub returns-then-state : goal.returns-then-state
unfolding fits
returns-then-state c =
    simp ((sym c.in_range.ensures ∙ c.if-not-in_range.false), eq-eqb _ _ (c.if-medium-medium_length.false ∙ c.medium_length.ensures), eq-eqb _ _ (c.if-cache-cache_length.false ∙ c.cache_length.ensures), lt-leb _ _ c.if-state.true)

pub returns : goal.returns
unfolding fits tail_in_range
returns c =
    let p : length c.args.state.now.places ≡ 64 = omega arith in
    let f : length c.args.state.now.first ≡ 64 = omega arith in
    let t : length c.args.state.now.tail ≡ 512 = omega arith in
    c.tail_fits.ensures
    ∙ sym (simp ((sym c.in_range.ensures ∙ c.if-not-in_range.false), eq-eqb _ _ (c.if-medium-medium_length.false ∙ c.medium_length.ensures), eq-eqb _ _ (c.if-cache-cache_length.false ∙ c.cache_length.ensures), le-leb _ _ c.if-state.false, p, f, t, and-true))
