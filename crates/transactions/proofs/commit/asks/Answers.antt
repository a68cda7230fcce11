-- Each refusal is that of the first question that is not passed; without versions the last two are.
use native.Mathlib.Omega.{arith}
use borrow.Author.Tests.{eq-eqb, ne_eqb, lt-ltb, le-ltb}
use Rattle.store.specs.Places.{place_at}
use Rattle.transactions.proofs.commit.asks.Goals as goal

pub returns-then-state-place-eq0 : goal.returns-then-state-place-eq0
unfolding place_at
returns-then-state-place-eq0 c = record {
  yes = (simp (c.in_ok-fit.ensures.yes, c.in_ok-place.ensures.yes, eq-eqb _ _ c.if-state-place-eq0.true), c.in_ok-place.ensures.yes);
  no = tt;
}

pub returns-then-state : goal.returns-then-state
unfolding place_at
returns-then-state c = record {
  yes = tt;
  no = simp (c.in_ok-fit.ensures.yes, c.in_ok-place.ensures.yes, ne_eqb _ _ c.if-state-place-eq0.false, le-ltb c.args.state.now.last.0 18446744073709551615 (omega arith));
}

pub returns-then-not-may_log : goal.returns-then-not-may_log
unfolding place_at
returns-then-not-may_log c = record {
  yes = tt;
  no = simp (c.in_ok-fit.ensures.yes, c.in_ok-place.ensures.yes, ne_eqb _ _ c.if-state-place-eq0.false, lt-ltb c.args.state.now.last.0 18446744073709551615 (omega arith), ← c.may_log.ensures, c.if-not-may_log.true);
}

pub returns : goal.returns
unfolding place_at
returns c = record {
  yes = (simp (c.in_ok-fit.ensures.yes, c.in_ok-place.ensures.yes, ne_eqb _ _ c.if-state-place-eq0.false, lt-ltb c.args.state.now.last.0 18446744073709551615 (omega arith), ← c.may_log.ensures, c.if-not-may_log.false), c.in_ok-place.ensures.yes);
  no = tt;
}
