-- The book fed with a call on what a call before left: a refused call and a read leave it as it is, any other is entered. The
-- invariant goes on by the lemma for each event (keeps).
use Rattle.std.specs.Prelude.{None, Some}
use Prim.Native.Nat.{ℕ}
use mathlib.Core.Path.{◌≡◌, refl}
use mathlib.Core.Bool.{true}
use mathlib.Core.List.{List, []}
use Rattle.layout.specs.Journal.{Record}
use Rattle.store.specs.declared.Refusal.{Refusal}
use Rattle.store.specs.declared.State.{State}
use Rattle.store.specs.Answer.{Outcome, answer_value}
use Rattle.runs.specs.Event.{Call, call, current_read, call_typed, typed}
use Rattle.runs.specs.Book.{Book, entered, feed, Fits}
use Rattle.runs.specs.Machine.{up, called, seen_of, after, step, log_changed}
use Rattle.agreement.proofs.history.Ghost.{Disk}
use Rattle.agreement.proofs.invariant.Invariant.{Up, Inv, running}
use Rattle.agreement.proofs.Main.{old_book_law, same_book, keeps}
use Rattle.handover.specs.Hand.{refusal_in}
use Rattle.handover.proofs.calls.Answers.{number_none, number_some}

-- what a call leaves of what the call before it left
abbrev pub next : Outcome → Call → Outcome
next o k = called o.medium o.cache o.state k

-- the book then
abbrev pub fed : ℕ → Outcome → Book → Call → Book
fed l o b k = feed b (call k) (seen_of l o.medium (next o k) [])

module _ (l : ℕ) (o : Outcome) (b : Book) where
  pub fed_some : (k : Call) (r : Refusal) → refusal_in (next o k).answer ≡ Some r → fed l o b k ≡ b
  unfolding feed seen_of
  fed_some k r e = old_book_law _ b _ (number_some (next o k).answer r e)

  pub fed_none : (k : Call) → refusal_in (next o k).answer ≡ None
      → fed l o b k ≡ entered b k (answer_value (next o k).answer) (log_changed l o.medium (next o k).medium)
  unfolding feed seen_of
  fed_none k e = rw (number_none (next o k).answer e)

  pub fed_read : (n key : ℕ) → fed l o b (current_read n key) ≡ b
  unfolding feed entered
  fed_read n key = same_book (seen_of l o.medium (next o (current_read n key)) []).refusal b

-- the lemma for an event, of a call
pub goes : (l d : ℕ) (o : Outcome) (b : Book) (k : Call) → Inv l d (after o) b → call_typed k ≡ true
    → Fits d b (call k) (seen_of l o.medium (next o k) []) × Inv l d (after (next o k)) (fed l o b k)
goes l d o b k i t = unfold step in keeps l d (after o) b (call k) i refl (unfold typed in t)

-- an open store with the invariant is a running one
pub with_up : {A : Type 0} {l d : ℕ} {m c : List ℕ} {s : State} {b : Book} → Inv l d (up m c s) b
    → ((disk : Disk) (closed : List (List Record)) (tail : List Record) → Up l d m c s b disk closed tail → A) → A
with_up (running u) f = f _ _ _ u
