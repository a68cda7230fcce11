-- Reads by a number that has just begun: it is active and no version is its own, so its read is refused just if there is no such
-- record or the key's newest version is of an active number, and gives what the rows have for a number without any.
use Rattle.std.specs.Prelude.{Option, None, Ok}
use Prim.Native.Nat.{ℕ, ◌^◌}
use mathlib.Core.Path.{◌≡◌, refl, sym, ap, ◌∙◌}
use mathlib.Core.Logic.{◌≢◌}
use mathlib.Core.Bool.{true, false, not, and-false}
use mathlib.Core.List.{List}
use lib.Dec.{eqb}
use borrow.Author.Tests.{ne_eqb, lt-ltb}
use Rattle.layout.specs.Journal.{Record}
use Rattle.layout.specs.Slot.{key_form}
use Rattle.store.specs.declared.Answer.TheVariants.{Done}
use Rattle.store.specs.declared.Place.{Place}
use Rattle.store.specs.declared.State.{State}
use Rattle.store.specs.Answer.{leaves, answer_value}
use Rattle.store.specs.Places.{is_at, find_active}
use Rattle.store.specs.Begin.{begin_of}
use Rattle.runs.specs.Event.{begin, current_read, call_typed}
use Rattle.runs.specs.Book.{Book, versions, has_row, entered}
use Rattle.runs.specs.Machine.{up, step, called, seen_of, after}
use Rattle.runs.proofs.Asks.{way}
use Rattle.agreement.proofs.history.Ghost.{Disk}
use Rattle.agreement.proofs.invariant.Invariant.{Up, Inv, running}
use Rattle.agreement.proofs.transactions.BeginAbort.{not_used}
use Rattle.handover.specs.Hand.{refusal_in}
use Rattle.handover.specs.Promise.{read_by, look, new_read, CanBegin}
use Rattle.handover.proofs.calls.Answers.{zero_none}
use Rattle.handover.proofs.calls.Fed.{next, fed, fed_none, goes, with_up}
use Rattle.handover.proofs.calls.Ways.{Begins, begin_way}
use Rattle.handover.proofs.rows.Rows.{foreign}
use Rattle.handover.proofs.rows.Held.{newest_under, newest_another, Another, nobody, another, held_row}
use Rattle.handover.proofs.run.Looks.{Shows, read_number, taken, current_shows}

-- ---- who holds a key whose newest version is another's

-- where other numbers are as active, it is held against n alike
pub held_others : {y : Option ℕ} {n : ℕ} (ps qs : List Place) → Another n y → ((k : ℕ) → n ≢ k → is_at (find_active ps k) ≡ is_at (find_active qs k))
    → held_row y ps n ≡ held_row y qs n
held_others ps qs nobody f = refl
held_others ps qs (another k z) f = rw (f k (λ q. z (sym q)))

-- against a second such number too
pub held_fresh : {y : Option ℕ} {n k : ℕ} (ps : List Place) → Another n y → Another k y → held_row y ps n ≡ held_row y ps k
held_fresh ps nobody b = refl
held_fresh {n = n} {k = k} ps (another x z) (another w q) = rw (ne_eqb x n z, ne_eqb x k q)

-- and against nobody if not against n
pub held_nobody : {y : Option ℕ} {n : ℕ} (ps : List Place) → Another n y → held_row y ps n ≡ false → (k : ℕ) → held_row y ps k ≡ false
held_nobody ps nobody e k = refl
held_nobody {n = n} ps (another x z) e k =
    let idle : is_at (find_active ps x) ≡ false = rw (ne_eqb x n z) at e in
    rw idle (and-false (not (eqb x k)))

-- a number without rows is such a number
pub newest_of_others : (b : Book) (n key : ℕ) → has_row b.rows n ≡ false → Another n (newest_under key None (versions b.rows))
newest_of_others b n key e = newest_another n key None (versions b.rows) (foreign b.rows n e) nobody

-- ---- a number begun at a clock

module _ {l d : ℕ} {m c : List ℕ} {s : State} {b : Book} {disk : Disk} {closed : List (List Record)} {tail : List Record} (u : Up l d m c s b disk closed tail)
    (clock : ℕ) (can : CanBegin l d (up m c s) clock) where
  given : refusal_in (begin_of s m c clock).answer ≡ None
  unfolding look step seen_of called
  given = zero_none (begin_of s m c clock).answer can.1

  begun : Begins s (begin_of s m c clock)
  unfolding called
  begun = begin_way (way m c s (begin clock)) given

  abbrev pub number : ℕ
  number = answer_value (begin_of s m c clock).answer

  pub rowless : has_row b.rows number ≡ false
  rowless = ap (has_row b.rows) begun.number ∙ not_used u

  -- the book then
  abbrev book : Book
  book = fed l (leaves (Ok Done) s m c) b (begin clock)

  same_rows : book.rows ≡ b.rows
  unfolding entered called
  same_rows = ap (λ (y : Book). y.rows) (fed_none l (leaves (Ok Done) s m c) b (begin clock) given)

  inv : Inv l d (after (next (leaves (Ok Done) s m c) (begin clock))) book
  unfolding call_typed
  inv = (goes l d (leaves (Ok Done) s m c) b (begin clock) (running u) (lt-ltb clock (2 ^ 64) can.0)).1

  same_held : (key : ℕ) → held_row (newest_under key None (versions b.rows)) (begin_of s m c clock).state.places number ≡ taken u number key
  same_held key = held_others (begin_of s m c clock).state.places s.places (newest_of_others b number key rowless) begun.beside.others

  begun_shows : (key : ℕ) → Shows (read_number (key_form key) true (taken u number key)) (read_by b number key) (look l d (after (begin_of s m c clock)) (current_read number key))
  unfolding called read_by
  begun_shows key = with_up inv (λ disk' closed' tail' u'. rw (begun.active, same_rows, same_held key) at (current_shows u' number key))

  pub new_shows : (key : ℕ) → Shows (read_number (key_form key) true (taken u number key)) (read_by b number key) (new_read l d (up m c s) clock key)
  unfolding new_read look step seen_of called
  new_shows key = unfold look step seen_of called in begun_shows key
