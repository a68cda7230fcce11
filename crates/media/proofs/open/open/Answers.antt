-- The questions are put in the order of the definition; the survey answers the last and makes the state.
use mathlib.Core.Path.{sym, ap, ◌∙◌}
use Rattle.fields.specs.Block.{zeros}
use Rattle.media.proofs.OpenLaws.{refused_is, range, medium_is, cache_is, ready, bad_sizes, bad_cache, bad_medium, opens}
use Rattle.media.proofs.open.open.Goals as goal

pub returns-then-not-sizes_fit : goal.returns-then-not-sizes_fit
returns-then-not-sizes_fit c =
    refused_is _ _ _ _ c.none.ensures ∙ bad_sizes _ _ _ _ _ c.sizes_fit.ensures c.if-not-sizes_fit.true

pub cache_length-requires : goal.cache_length-requires
cache_length-requires c =
    let a = c.args in (range a.medium.now a.cache.now _ _ _ c.sizes_fit.ensures c.if-not-sizes_fit.false).pages_high

pub returns-then-cache-cache_length : goal.returns-then-cache-cache_length
returns-then-cache-cache_length c =
    refused_is _ _ _ _ c.none-then-cache-cache_length.ensures
    ∙ bad_cache _ _ _ _ _ c.sizes_fit.ensures c.if-not-sizes_fit.false (λ e. c.if-cache-cache_length.true (e ∙ sym c.cache_length.ensures))

pub open_state-requires : goal.open_state-requires
open_state-requires c =
    let a = c.args in
    let m = a.medium.now in
    let k = a.cache.now in
    let e = c.sizes_fit.ensures in
    let r = c.if-not-sizes_fit.false in
    record {
      ready = ready m k _ _ _ e r;
      pages_bound = ((range m k _ _ _ e r).pages_high, medium_is m k _ _ _ e r);
      cache_len = cache_is m k _ _ _ e r (c.if-cache-cache_length.false ∙ c.cache_length.ensures);
    }

pub returns-in-None : goal.returns-in-None
returns-in-None c =
    refused_is _ _ _ _ c.none-in-None.ensures
    ∙ bad_medium _ _ _ _ _ c.sizes_fit.ensures c.if-not-sizes_fit.false (c.if-cache-cache_length.false ∙ c.cache_length.ensures)
    (sym c.in-None.ensures.found) _ (c.fill.ensures.after (λ y e. e) ∙ ap zeros c.cache-1.given)

pub returns-in-Some : goal.returns-in-Some
returns-in-Some c =
    let h = c.in-Some.ensures.opened in
    opens _ _ _ _ _ c.sizes_fit.ensures c.if-not-sizes_fit.false (c.if-cache-cache_length.false ∙ c.cache_length.ensures)
    (sym c.in-Some.ensures.found) _ _ _ h.1 h.2 h.0
