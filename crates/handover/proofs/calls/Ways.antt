-- What the calls of a handover do to the active numbers and to the time stored, by the ways in which a call ends (Asks): each replaces
-- the place of its own number alone, and taking a record in the log never lowers the time stored.
use Rattle.std.specs.Prelude.{None}
use Prim.Native.Nat.{ℕ, ◌≤◌}
use native.Mathlib.Omega.{arith}
use mathlib.Core.Path.{◌≡◌, refl, sym, ap, ◌∙◌}
use mathlib.Core.Logic.{◌≢◌}
use mathlib.Core.Bool.{Bool, true, false, false≢true}
use mathlib.Core.List.{List}
use borrow.Author.Tests.{eq-eqb, ne_eqb}
use Rattle.layout.specs.Journal.{Record, record_size}
use Rattle.store.specs.declared.State.{State}
use Rattle.store.specs.Answer.{Outcome, answer_value}
use Rattle.store.specs.Places.{is_at, find_active, place_at, raised, free_place}
use Rattle.store.specs.State.{with_place}
use Rattle.store.specs.Tail.{tail_fits, logged_if, logged}
use Rattle.store.specs.Begin.{begun}
use Rattle.store.specs.Write.{written, write_step}
use Rattle.store.specs.Commit.{committed, commit_step}
use Rattle.store.proofs.FitLaws.{fit_of}
use Rattle.runs.specs.Event.{begin, write, commit, abort}
use Rattle.runs.specs.Book.{Book}
use Rattle.runs.proofs.Asks.{Way, refused, begins, writes, looks, commits, ends, aborts}
use Rattle.agreement.proofs.history.Ghost.{Disk}
use Rattle.agreement.proofs.invariant.Invariant.{Up}
use Rattle.agreement.proofs.transactions.ActiveLaws.{active_place, elsewhere}
use Rattle.handover.specs.Hand.{refusal_in}
use Rattle.handover.proofs.calls.Active.{active_set, active_put, active_gone, active_others, found_active, free_found}
use Rattle.handover.proofs.calls.Answers.{none_some}

-- from s to t: numbers other than x are active as before, and what is stored stays so
pub record Beside (x : ℕ) (s t : State) : Type 0 where
  pub others : (n : ℕ) → x ≢ n → is_at (find_active t.places n) ≡ is_at (find_active s.places n)
  pub stored : s.saved.0 ≤ t.saved.0

beside_same : (x : ℕ) (s t : State) → t ≡ s → Beside x s t
beside_same x s t e = rw e (record { others = λ n z. refl; stored = omega arith })

pub beside_then : (x : ℕ) (r s t : State) → Beside x r s → Beside x s t → Beside x r t
beside_then x r s t a b = record { others = λ n z. b.others n z ∙ a.others n z; stored = omega (arith, a.stored, b.stored) }

-- ---- begin

-- its number is the next one, and active
pub record Begins (s : State) (o : Outcome) : Type 0 where
  pub number : answer_value o.answer ≡ s.next.0
  pub active : is_at (find_active o.state.places (answer_value o.answer)) ≡ true
  pub beside : Beside (answer_value o.answer) s o.state

pub begin_way : {m c : List ℕ} {s : State} {clock : ℕ} {o : Outcome} → Way m c s (begin clock) o → refusal_in o.answer ≡ None → Begins s o
unfolding begun answer_value
begin_way (refused x r w) e = none_some (sym e)
begin_way {s = s} (begins clock i p w) e =
    let g = free_found s.places s.ring i w in
    let size = (fit_of s _ _ p.0).places in
    record {
      number = refl;
      active = active_put s.places _ _ size g.0 s.next.0 (eq-eqb s.next.0 s.next.0 refl);
      beside = record {
        others = λ n z. ap is_at (active_set s.places _ _ size g.0 n (ne_eqb s.next.0 n z ∙ sym (g.1 n)));
        stored = omega arith;
      };
    }
begin_way (looks x a v b h p n w) e = absurd (false≢true h)

-- ---- write, commit and abort

-- a write replaces its number's place by one that is as active
pub written_active : {m c : List ℕ} {s : State} {x key : ℕ} {v : List ℕ} {o : Outcome} → Way m c s (write x key v) o
    → (n : ℕ) → find_active o.state.places n ≡ find_active s.places n
unfolding write_step written raised
written_active (refused y r w) n = refl
written_active {s = s} (writes x key i v p w) n =
    active_set s.places i (raised (place_at s.places i)) (fit_of s _ _ p.0).places (found_active s.places x i w).0 n refl
written_active (looks y a v b h p k w) n = refl

logged_saved : (s : State) (m : List ℕ) (r : Record) → s.saved.0 ≤ s.last.0 → s.saved.0 ≤ (logged s m r).saved.0
unfolding logged logged_if
logged_saved s m r h = go (tail_fits s.tail (record_size r))
  where
    go : (t : Bool) → s.saved.0 ≤ (logged_if t s m r).saved.0
    go true = omega arith
    go false = h

module _ {m c : List ℕ} {s : State} (low : s.saved.0 ≤ s.last.0) where
  write_saved : {x key : ℕ} {v : List ℕ} {o : Outcome} → Way m c s (write x key v) o → s.saved.0 ≤ o.state.saved.0
  unfolding write_step written
  write_saved (refused y r w) = omega arith
  write_saved (writes x key i v p w) = logged_saved s m _ low
  write_saved (looks y a v b h p n w) = omega arith

  pub write_beside : {x key : ℕ} {v : List ℕ} {o : Outcome} → Way m c s (write x key v) o → Beside x s o.state
  write_beside w = record { others = λ n z. ap is_at (written_active w n); stored = write_saved w }

  pub commit_beside : {x clock : ℕ} {o : Outcome} → Way m c s (commit x clock) o → Beside x s o.state
  unfolding commit_step committed with_place
  commit_beside {x = x} (refused y r w) = beside_same x s s refl
  commit_beside (commits x clock i p w q) = record {
    others = λ n z. ap is_at (active_others s.places x i _ (fit_of s _ _ p.0).places w (λ k. refl) n z);
    stored = logged_saved s m _ low;
  }
  commit_beside (ends x clock i p w q) = record {
    others = λ n z. ap is_at (active_others s.places x i free_place (fit_of s _ _ p.0).places w (λ k. refl) n z);
    stored = omega arith;
  }
  commit_beside {x = x} (looks y a v b h p n w) = beside_same x s s refl

pub abort_beside : {m c : List ℕ} {s : State} {x : ℕ} {o : Outcome} → Way m c s (abort x) o → Beside x s o.state
unfolding with_place
abort_beside {s = s} {x} (refused y r w) = beside_same x s s refl
abort_beside {s = s} (aborts x i p w) = record {
  others = λ n z. ap is_at (active_others s.places x i free_place (fit_of s _ _ p.0).places w (λ k. refl) n z);
  stored = omega arith;
}
abort_beside {s = s} {x} (looks y a v b h p n w) = beside_same x s s refl

-- ---- commit and abort end the number's activity, for in a run it has one place

module _ {l d : ℕ} {m c : List ℕ} {s : State} {b : Book} {disk : Disk} {closed : List (List Record)} {tail : List Record} (u : Up l d m c s b disk closed tail) where
  pub commit_own : {x clock : ℕ} {o : Outcome} → Way m c s (commit x clock) o → refusal_in o.answer ≡ None → is_at (find_active o.state.places x) ≡ false
  unfolding commit_step committed with_place
  commit_own (refused y r w) e = none_some (sym e)
  commit_own (commits x clock i p w q) e = active_gone s.places i _ u.living.size (active_place u x i w) x refl (elsewhere u x i w)
  commit_own (ends x clock i p w q) e = active_gone s.places i free_place u.living.size (active_place u x i w) x refl (elsewhere u x i w)
  commit_own (looks y a v b h p n w) e = absurd (false≢true h)

  pub abort_own : {x : ℕ} {o : Outcome} → Way m c s (abort x) o → refusal_in o.answer ≡ None → is_at (find_active o.state.places x) ≡ false
  unfolding with_place
  abort_own (refused y r w) e = none_some (sym e)
  abort_own (aborts x i p w) e = active_gone s.places i free_place u.living.size (active_place u x i w) x refl (elsewhere u x i w)
  abort_own (looks y a v b h p n w) e = absurd (false≢true h)
