-- Current read, read as of and list of changes answer as the book's rows say. A record's versions are found by
-- following earlier slots from its newest: these are all of them (PagesOn.chain). Each call that is not refused passed
-- its questions.
use Rattle.std.specs.Prelude.{Option}
use Prim.Native.Nat.{ℕ, suc, ◌*◌}
use native.Mathlib.Omega.{arith}
use mathlib.Core.List.{List, []}
use mathlib.Core.Path.{◌≡◌, ◌∙◌}
use lib.ListN.{length}
use borrow.Author.Tests.{leb-true}
use Rattle.layout.specs.Journal.{Record}
use Rattle.store.specs.declared.Refusal.{Refusal}
use Rattle.store.specs.declared.State.{State}
use Rattle.store.specs.Answer.{answer_number, answer_value}
use Rattle.store.specs.Places.{time_under}
use Rattle.store.specs.Chain.{newest, visible_of, best_of}
use Rattle.store.specs.CurrentRead.{current_asks, current_if, current_of}
use Rattle.store.specs.AsOf.{as_of_asks, as_of_if, as_of_of}
use Rattle.store.specs.Changes.{changes_asks, change_lines, changes_if, changes_of}
use Rattle.runs.specs.Event.{missing}
use Rattle.runs.specs.Book.{Book, versions, last_below, strip_as_of, lines_of, ListsAs, current_of as rows_current}
use Rattle.runs.specs.Machine.{strip_of, seen_of}
use Rattle.runs.proofs.Asks.{asked}
use Rattle.agreement.proofs.history.Ghost.{Disk}
use Rattle.agreement.proofs.invariant.Invariant.{Up}
use Rattle.agreement.proofs.reads.ReadFacts.{positive}
use Rattle.agreement.proofs.reads.CurrentRead.{current_found, current_strip}
use Rattle.agreement.proofs.reads.AsOf.{best_found, best_strip}
use Rattle.agreement.proofs.reads.Changes.{alike_length, alike_laid, lines_are}

module _ {l d : ℕ} {m c : List ℕ} {s : State} {b : Book} {disk : Disk} {closed : List (List Record)}
    {tail : List Record} (u : Up l d m c s b disk closed tail) where
  pub current_answers : (n key : ℕ) → answer_number (current_of s m c n key).answer ≡ 0
      → strip_of (current_of s m c n key).answer (current_of s m c n key).value
      ≡ rows_current b.rows n key missing (versions b.rows)
  unfolding current_of current_if answer_number
  current_answers n key =
      asked (λ (a : Option Refusal). answer_number (current_if a s m c n key).answer ≡ 0
      → strip_of (current_if a s m c n key).answer (current_if a s m c n key).value
      ≡ rows_current b.rows n key missing (versions b.rows))
      (current_asks s m c n key) (λ r q e. absurd (omega (arith, positive r)))
      (λ p e. current_strip (visible_of (newest c key s.slots) c (time_under s.places) n) s m c ∙ current_found u n key)

  pub as_of_answers : (key t : ℕ) → answer_number (as_of_of s m c key t).answer ≡ 0
      → strip_of (as_of_of s m c key t).answer (as_of_of s m c key t).value ≡ strip_as_of b.rows key t
  unfolding as_of_of as_of_if answer_number strip_as_of
  as_of_answers key t =
      asked (λ (a : Option Refusal). answer_number (as_of_if a s m c key t).answer ≡ 0
      → strip_of (as_of_if a s m c key t).answer (as_of_if a s m c key t).value ≡ strip_as_of b.rows key t)
      (as_of_asks s m c key t) (λ r q e. absurd (omega (arith, positive r)))
      (λ p e. best_strip u (best_of (newest c key s.slots) c (time_under s.places) t) (last_below b.rows key (suc t))
      (best_found u key t))

  -- question 14: the lines fit the buffer
  pub lists_answer : (key t1 t2 : ℕ) (buffer : List ℕ) → answer_number (changes_of s m c buffer key t1 t2).answer ≡ 0
      → ListsAs (lines_of b.rows key t1 t2) buffer (seen_of l m (changes_of s m c buffer key t1 t2) [])
  unfolding changes_of changes_if answer_number answer_value seen_of
  lists_answer key t1 t2 buffer =
      asked (λ (a : Option Refusal). answer_number (changes_if a s m c buffer (change_lines s c key t1 t2)).answer ≡ 0
      → ListsAs (lines_of b.rows key t1 t2) buffer
      (seen_of l m (changes_if a s m c buffer (change_lines s c key t1 t2)) []))
      (changes_asks s m c key t1 t2 (length buffer)) (λ r q e. absurd (omega (arith, positive r)))
      (λ p e. record {
        count = alike_length (lines_are u key t1 t2);
        bytes =
            alike_laid buffer (lines_are u key t1 t2)
            (leb-true (32 * length (change_lines s c key t1 t2)) (length buffer) p.1.1.1.0);
      })
