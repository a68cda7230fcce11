-- Each refusal is that of the first question that is not passed.
use native.Mathlib.Omega.{arith}
use borrow.Author.Tests.{lt-ltb, le-ltb}
use Rattle.std.specs.Prelude.{ℕ, ◌≡◌, Option, Some, None}
use Rattle.std.specs.Option.{unwrap_or}
use mathlib.Core.Path.{refl, ap, ◌∙◌}
use Rattle.store.specs.Write.{or_none}
use Rattle.store.specs.Chain.{held}
use Rattle.store.proofs.FitLaws.{fit_of}
use Rattle.cached.proofs.RoomLaws.{fit_room}
use Rattle.chain.proofs.NewestLaws.{newest_head}
use Rattle.tail.proofs.TailLaws.{ready}
use Rattle.writes.proofs.write.asks.Goals as goal

none_is : (f : Option ℕ) → unwrap_or f 65535 ≡ or_none f
none_is None = refl
none_is (Some n) = refl

pub find-newest-requires : goal.find-newest-requires
find-newest-requires c = fit_room _ _ _ c.in_ok-fit.ensures.yes

pub is_held-requires : goal.is_held-requires
is_held-requires c = newest_head _ _ _ _ _ c.find-newest.ensures (fit_room _ _ _ c.in_ok-fit.ensures.yes)

pub overflow_mul-state : goal.overflow_mul-state
overflow_mul-state c = let h = (fit_of _ _ _ c.in_ok-fit.ensures.yes).range.pages_high in omega arith

pub may_log-requires-clause-ready : goal.may_log-requires-clause-ready
may_log-requires-clause-ready c = ready _ _ _ c.in_ok-fit.ensures.yes

pub returns-then-is_held : goal.returns-then-is_held
unfolding held
returns-then-is_held c = record {
  yes = tt;
  no = simp (c.in_ok-fit.ensures.yes, c.in_ok-record.ensures.yes, c.in_ok-place.ensures.yes, ← c.find-newest.ensures, ← c.is_held.ensures, c.if-is_held.true);
}

pub returns-then-state : goal.returns-then-state
unfolding held
returns-then-state c = record {
  yes = tt;
  no = simp (c.in_ok-fit.ensures.yes, c.in_ok-record.ensures.yes, c.in_ok-place.ensures.yes, ← c.find-newest.ensures, ← c.is_held.ensures, c.if-is_held.false, le-ltb _ _ c.if-state.true);
}

pub returns-then-not-may_log : goal.returns-then-not-may_log
unfolding held
returns-then-not-may_log c = record {
  yes = tt;
  no = simp (c.in_ok-fit.ensures.yes, c.in_ok-record.ensures.yes, c.in_ok-place.ensures.yes, ← c.find-newest.ensures, ← c.is_held.ensures, c.if-is_held.false, lt-ltb _ _ c.if-state.false, ← c.may_log.ensures, c.if-not-may_log.true);
}

pub returns : goal.returns
unfolding held
returns c = record {
  yes = (simp (c.in_ok-fit.ensures.yes, c.in_ok-record.ensures.yes, c.in_ok-place.ensures.yes, ← c.find-newest.ensures, ← c.is_held.ensures, c.if-is_held.false, lt-ltb _ _ c.if-state.false, ← c.may_log.ensures, c.if-not-may_log.false), c.in_ok-place.ensures.yes, c.unwrap_or.ensures ∙ none_is c.find-newest.result ∙ ap or_none c.find-newest.ensures);
  no = tt;
}
