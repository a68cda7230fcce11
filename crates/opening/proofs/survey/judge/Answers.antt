-- Each test is one part of "well formed", and where none refuses, they give the opened state. The commits gathered are those
-- of the log that was read, so with the table's extent they tell every pair.
use mathlib.Core.Path.{sym, ◌∙◌}
use Rattle.conditions.proofs.TableLaws.{ready_table}
use Rattle.opening.proofs.SurveyedLaws.{read_rest, read_valid, applied_known, applied_keys, next_found, last_found, not_logged, not_kept, few_is, opened_is}
use Rattle.opening.proofs.survey.judge.Goals as goal

pub gather-requires-clause-valid : goal.gather-requires-clause-valid
gather-requires-clause-valid c = read_valid _ _ _ _ _ c.requires.applied.read c.requires.ready.high

pub extent-requires : goal.extent-requires
extent-requires c = ready_table _ _ c.requires.ready

pub invariant_of-pairs : goal.invariant_of-pairs
invariant_of-pairs c =
    record { table = ready_table _ _ c.requires.ready; known = applied_known _ _ _ _ _ _ _ c.requires.applied _ _ c.extent.ensures (c.deref.ensures.0 ∙ c.gather.ensures) }

pub all_ok-requires-clause-valid : goal.all_ok-requires-clause-valid
all_ok-requires-clause-valid c = read_valid _ _ _ _ _ c.requires.applied.read c.requires.ready.high

pub all_ok-requires-clause-commits_value : goal.all_ok-requires-clause-commits_value
all_ok-requires-clause-commits_value c = c.deref.ensures.0 ∙ c.gather.ensures

pub returns-in_err-tally-clause-verdict : goal.returns-in_err-tally-clause-verdict
returns-in_err-tally-clause-verdict c = rw c.from_residual.ensures (not_logged _ _ _ _ _ _ _ c.requires.applied (rw (read_rest _ _ _ _ _ c.requires.applied.read) at c.in_err-tally.ensures.verdict))

pub cache_ok-requires-clause-keys_below : goal.cache_ok-requires-clause-keys_below
cache_ok-requires-clause-keys_below c = applied_keys _ _ _ _ _ _ _ c.requires.applied c.requires.medium_len c.type_inv.medium

pub cache_ok-requires-clause-next_value : goal.cache_ok-requires-clause-next_value
cache_ok-requires-clause-next_value c =
    let t = rw (read_rest _ _ _ _ _ c.requires.applied.read) at c.in_ok-tally.ensures.value in
    (next_found _ _ _ _ _ t.0 c.get8-given.ensures c.max-next.ensures, last_found _ _ _ _ _ t.1 c.get8-stored.ensures c.max-last.ensures)

pub returns-then-not-cache_ok-clause-verdict : goal.returns-then-not-cache_ok-clause-verdict
returns-then-not-cache_ok-clause-verdict c =
    not_kept _ _ _ _ _ _ _ c.requires.applied (rw (read_rest _ _ _ _ _ c.requires.applied.read) at c.in_ok-tally.ensures.verdict) (sym c.if-not-cache_ok.true ∙ c.cache_ok.ensures)

pub returns-in_err-lay-clause-verdict : goal.returns-in_err-lay-clause-verdict
returns-in_err-lay-clause-verdict c =
    rw c.from_residual-in_err-lay.ensures
    (few_is _ _ _ _ _ _ _ c.requires.applied (rw (read_rest _ _ _ _ _ c.requires.applied.read) at c.in_ok-tally.ensures.verdict) (sym c.if-not-cache_ok.false ∙ c.cache_ok.ensures) _ c.in_err-lay.ensures.verdict)

pub lay_tail-requires-clause-valid : goal.lay_tail-requires-clause-valid
lay_tail-requires-clause-valid c = read_valid _ _ _ _ _ c.requires.applied.read c.requires.ready.high

pub returns-clause-verdict : goal.returns-clause-verdict
returns-clause-verdict c =
    few_is _ _ _ _ _ _ _ c.requires.applied (rw (read_rest _ _ _ _ _ c.requires.applied.read) at c.in_ok-tally.ensures.verdict) (sym c.if-not-cache_ok.false ∙ c.cache_ok.ensures) _ c.in_ok-lay.ensures.verdict

pub returns-clause-value : goal.returns-clause-value
returns-clause-value c =
    let t = rw (read_rest _ _ _ _ _ c.requires.applied.read) at c.in_ok-tally.ensures.value in
    let last = last_found _ _ _ _ _ t.1 c.get8-stored.ensures c.max-last.ensures in (
      opened_is _ _ _ _ _ _ _ c.requires.applied _ _ _ _ _ c.used_slots-state.ensures
          (next_found _ _ _ _ _ t.0 c.get8-given.ensures c.max-next.ensures) last c.lay_tail.ensures c.in_ok-lay.ensures.value,
      last,
    )
