-- The abort of a handover is not refused, for every state, medium and cache: begin asks whether they fit and gives its number a
-- place, and read, write and a refused commit leave a store that fits with the number active.
use Rattle.std.specs.Prelude.{Option, None, Some, Ok}
use Prim.Native.Nat.{ℕ}
use mathlib.Core.Path.{◌≡◌, refl, ap, ◌∙◌}
use mathlib.Core.Bool.{true}
use mathlib.Core.List.{List}
use lib.ListN.{length}
use Rattle.store.specs.declared.Answer.TheVariants.{Done}
use Rattle.store.specs.declared.Refusal.{Refusal}
use Rattle.store.specs.declared.Refusal.TheVariants.{Unfit}
use Rattle.store.specs.declared.State.{State}
use Rattle.store.specs.Answer.{Outcome, answer_value}
use Rattle.store.specs.Places.{is_at, find_active}
use Rattle.store.specs.State.{fits}
use Rattle.store.specs.Abort.{abort_at, abort_if, abort_of}
use Rattle.runs.specs.Event.{Call, begin, write, current_read, commit}
use Rattle.runs.specs.Machine.{called}
use Rattle.runs.proofs.Asks.{found, way}
use Rattle.runs.proofs.Refusals.{quiet_leaves, reading_leaves, refusal_leaves}
use Rattle.runs.proofs.Fitting.{call_fits}
use Rattle.handover.specs.declared.Transfer.{Transfer}
use Rattle.handover.specs.Hand.{refusal_in, with_owner, begins, reads, writes, commits, aborts}
use Rattle.handover.specs.EveryInput.{AbortsDone}
use Rattle.handover.proofs.calls.Answers.{in_refusal, no_refusal}
use Rattle.handover.proofs.calls.Ways.{begin_way, written_active}

-- state and buffers fit, and the number n is active: abort passes its questions
pub record Abortable (o : Outcome) (n : ℕ) : Type 0 where
  pub fit : fits o.state (length o.medium) (length o.cache) ≡ true
  pub active : is_at (find_active o.state.places n) ≡ true

pub abort_done : (o : Outcome) (n : ℕ) → Abortable o n → (aborts o n).answer ≡ Ok Done
unfolding abort_of abort_if
abort_done o n a =
    rw (a.fit, a.active)
    (found (λ (f : Option ℕ). (abort_at f o.state o.medium o.cache).answer ≡ Ok Done) (find_active o.state.places n) a.active (λ i e. refl))

-- what fits goes on fitting
fits_on : (m c : List ℕ) (s : State) (k : Call) → fits s (length m) (length c) ≡ true
    → fits (called m c s k).state (length (called m c s k).medium) (length (called m c s k).cache) ≡ true
fits_on m c s k h = go (refusal_in (called m c s k).answer) refl
  where
    go : (a : Option Refusal) → refusal_in (called m c s k).answer ≡ a
        → fits (called m c s k).state (length (called m c s k).medium) (length (called m c s k).cache) ≡ true
    go (Some r) e = let u = refusal_leaves m c s k r (in_refusal (called m c s k).answer r e) in rw (u.state, u.medium, u.cache) h
    go None e = call_fits m c s k (λ q. no_refusal (called m c s k).answer Unfit e q)

kept : (o x : Outcome) (n : ℕ) → x.state ≡ o.state → x.medium ≡ o.medium → x.cache ≡ o.cache → Abortable o n → Abortable x n
kept o x n e f g a = record { fit = rw (e, f, g) a.fit; active = rw e a.active }

-- ---- each call

pub begin_abortable : (m c : List ℕ) (s : State) (h : Transfer) → refusal_in (begins s m c h).answer ≡ None → Abortable (begins s m c h) (answer_value (begins s m c h).answer)
unfolding called
begin_abortable m c s h given = record {
  fit = call_fits m c s (begin h.began) (λ q. no_refusal (begins s m c h).answer Unfit given q);
  active = (begin_way (way m c s (begin h.began)) given).active;
}

module _ (o : Outcome) (n : ℕ) (h : Transfer) (a : Abortable o n) where
  pub read_abortable : Abortable (reads o n h) n
  unfolding called
  read_abortable =
      let q = quiet_leaves o.medium o.cache o.state (current_read n h.flight) refl in
      kept o (reads o n h) n (reading_leaves o.medium o.cache o.state (current_read n h.flight) refl) q.medium q.cache a

  pub write_abortable : Abortable (writes o n h) n
  unfolding called
  write_abortable =
      let k : Call = write n h.flight (with_owner o.value h.to) in
      record {
        fit = fits_on o.medium o.cache o.state k a.fit;
        active = ap is_at (written_active (way o.medium o.cache o.state k) n) ∙ a.active;
      }

  pub commit_abortable : (r : Refusal) → refusal_in (commits o n h).answer ≡ Some r → Abortable (commits o n h) n
  unfolding called
  commit_abortable r e =
      let u = refusal_leaves o.medium o.cache o.state (commit n h.ended) r (in_refusal (commits o n h).answer r e) in
      kept o (commits o n h) n u.state u.medium u.cache a

pub aborts_done : (s : State) (m c : List ℕ) (h : Transfer) → AbortsDone s m c h
aborts_done s m c h =
    let n = answer_value (begins s m c h).answer in
    let o1 = reads (begins s m c h) n h in
    let o2 = writes o1 n h in
    let read : refusal_in (begins s m c h).answer ≡ None → Abortable o1 n = λ g. read_abortable (begins s m c h) n h (begin_abortable m c s h g) in
    let written : refusal_in (begins s m c h).answer ≡ None → Abortable o2 n = λ g. write_abortable o1 n h (read g) in
    record {
      read = λ g. abort_done o1 n (read g);
      written = λ g. abort_done o2 n (written g);
      committed = λ g r e. abort_done (commits o2 n h) n (commit_abortable o2 n h (written g) r e);
    }
