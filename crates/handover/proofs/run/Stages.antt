-- The stages of a handover in a run, from its last call back. Between begin and its end its number x is active and nothing else has
-- changed but the rows (`Under`); each call keeps this or ends it, by the lemma for each event and by what the call does (Ways).
use Rattle.layout.specs.declared.CommitTime.{CommitTime}
use Rattle.std.specs.Prelude.{Err, Option, None, Some, Result}
use Prim.Native.Nat.{ℕ, ◌+◌, max}
use mathlib.Core.Path.{◌≡◌, refl, sym, ap, ◌∙◌}
use mathlib.Core.Logic.{◌⊎◌, inl, inr, ◌≢◌}
use mathlib.Core.Bool.{true, false}
use mathlib.Core.List.{List, [], ◌∷◌, ◌++◌}
use lib.ListN.{length, length-set}
use lib.Dec.{ltb}
use borrow.Author.Tests.{eq-eqb, ltb-true}
use Rattle.fields.proofs.Choose.{and_0, and_1}
use Rattle.store.specs.declared.Refusal.{Refusal}
use Rattle.store.specs.declared.State.{State}
use Rattle.store.specs.Answer.{Outcome, answer_value}
use Rattle.store.specs.Places.{is_at, find_active}
use Rattle.runs.specs.Event.{Call, write, commit, abort, call_typed, typed, are_bytes, is_word, is_record}
use Rattle.runs.specs.Book.{Book, Row, committed, last_time, has_row, clock_of, add, commit_time, entered}
use Rattle.runs.specs.Machine.{called, seen_of, after, step, is_run}
use Rattle.runs.specs.Moments.{book_after}
use Rattle.runs.specs.Unstuck.{events_of}
use Rattle.runs.proofs.Asks.{Way, way}
use Rattle.runs.proofs.Refusals.{refusal_leaves}
use Rattle.agreement.proofs.history.ListLaws.{same?}
use Rattle.agreement.proofs.invariant.Invariant.{Inv}
use Rattle.agreement.proofs.logging.GrowthLaws.{fits_up}
use Rattle.agreement.proofs.reads.ReadFacts.{positive}
use Rattle.handover.specs.declared.Transfer.{Transfer}
use Rattle.handover.specs.declared.HandRefusal.{HandRefusal}
use Rattle.handover.specs.declared.HandRefusal.TheVariants.{Denied}
use Rattle.handover.specs.Hand.{HandOutcome, hand_number, refusal_in, with_owner, writes, commits, aborts, gives_up, after_commit, after_write}
use Rattle.handover.specs.Calls.{hand_typed, commit_calls, write_calls}
use Rattle.handover.proofs.calls.Answers.{number_none, in_refusal}
use Rattle.handover.proofs.calls.Ways.{Beside, beside_then, written_active, write_beside, commit_beside, abort_beside, commit_own, abort_own}
use Rattle.handover.proofs.calls.Aborting.{abort_done}
use Rattle.handover.proofs.calls.Fed.{next, fed, fed_some, fed_none, goes, with_up}
use Rattle.handover.proofs.rows.Rows.{last_version, row_last}
use Rattle.handover.proofs.rows.Ended.{New, Checked, new_version, new_row, RowsEnd, unwritten, aborted, handed, Ended}
use Rattle.handover.proofs.run.Looks.{saved_low}
use Rattle.handover.proofs.run.Typed.{owner_bytes}

-- b and s are the book and the state before the handover, o and book what its last call left and the book then
pub record Under (l d : ℕ) (b : Book) (s : State) (h : Transfer) (x : ℕ) (o : Outcome) (book : Book) : Type 0 where
  pub inv : Inv l d (after o) book
  pub active : is_at (find_active o.state.places x) ≡ true
  pub beside : Beside x s o.state
  pub clock : clock_of book.opened x ≡ h.began
  pub word : is_word x ≡ true
  pub new : New b s x

-- the calls ks go on with the run, and after them the handover has ended as it leaves things
pub record Stage (l d : ℕ) (b : Book) (s : State) (h : Transfer) (ks : List Call) (o : Outcome) (book : Book) (end : HandOutcome) : Type 0 where
  pub run : is_run l d (after o) (events_of ks) ≡ true
  pub ended : Ended l d b s h end (book_after l d (after o) book (events_of ks))

-- what is asked for has the right sizes
pub record Sizes (h : Transfer) : Type 0 where
  pub flight : is_record h.flight ≡ true
  pub to : ltb h.to 256 ≡ true
  pub began : is_word h.began ≡ true
  pub ended : is_word h.ended ≡ true

pub sizes_of : (h : Transfer) → hand_typed h ≡ true → Sizes h
unfolding hand_typed
sizes_of h t =
    let behind-flight = and_1 (is_record h.flight) _ t in
    let behind-from = and_1 (ltb h.from 256) _ behind-flight in
    let clocks = and_1 (ltb h.to 256) _ behind-from in
    record {
      flight = and_0 (is_record h.flight) _ t;
      to = and_0 (ltb h.to 256) _ behind-from;
      began = and_0 (is_word h.began) (is_word h.ended) clocks;
      ended = and_1 (is_word h.began) (is_word h.ended) clocks;
    }

-- its write, after the read o
abbrev pub write_call : ℕ → Outcome → Transfer → Call
write_call x o h = write x h.flight (with_owner o.value h.to)

-- the time that its commit gets
commit_time_law : (book : Book) (x : ℕ) (h : Transfer) {last : ℕ} → clock_of book.opened x ≡ h.began → last_time book.rows ≡ last
    → commit_time book x h.ended ≡ max h.began (max h.ended (last + 1))
unfolding commit_time
commit_time_law book x h e f = rw (e, f)

module _ (l d : ℕ) (b : Book) (s : State) (h : Transfer) where
  pub stage_none : {o : Outcome} {book : Book} {end : HandOutcome} → Ended l d b s h end book → Stage l d b s h [] o book end
  unfolding is_run book_after events_of
  stage_none e = record { run = refl; ended = e }

  pub stage_call : {o : Outcome} {book : Book} {ks : List Call} {end : HandOutcome} (k : Call) → call_typed k ≡ true
      → Stage l d b s h ks (next o k) (fed l o book k) end → Stage l d b s h (k ∷ ks) o book end
  unfolding is_run typed book_after events_of step
  stage_call k t rest = record { run = rw t rest.run; ended = rest.ended }

  -- a refused call changes nothing
  under_refused : {x : ℕ} {o : Outcome} {book : Book} (k : Call) (r : Refusal) → call_typed k ≡ true → refusal_in (next o k).answer ≡ Some r
      → Under l d b s h x o book → Under l d b s h x (next o k) (fed l o book k)
  under_refused {o = o} {book = book} k r t e under =
      let same = (refusal_leaves o.medium o.cache o.state k r (in_refusal (next o k).answer r e)).state in
      record {
        inv = (goes l d o book k under.inv t).1;
        active = rw same under.active;
        beside = rw same under.beside;
        clock = rw (fed_some l o book k r e) under.clock;
        word = under.word;
        new = under.new;
      }

  -- x is active no more, so all are as before
  none_active : {x : ℕ} {t : State} → New b s x → is_at (find_active t.places x) ≡ false → Beside x s t
      → (n : ℕ) → is_at (find_active t.places n) ≡ is_at (find_active s.places n)
  none_active {x = x} {t = t} new own beside n = go (same? x n)
    where
      go : (x ≡ n) ⊎ (x ≢ n) → is_at (find_active t.places n) ≡ is_at (find_active s.places n)
      go (inl e) = rw (← e) (own ∙ sym new.idle)
      go (inr e) = beside.others n e

  -- ---- the abort

  pub abort_stage : {x : ℕ} {o : Outcome} {book : Book} (a : Result CommitTime HandRefusal) → Under l d b s h x o book → RowsEnd b s h book.rows a
      → Stage l d b s h (abort x ∷ []) o book (gives_up a o x)
  unfolding called call_typed entered
  abort_stage {x = x} {o = o} {book = book} a under rows = stage_call (abort x) under.word (stage_none (record {
    inv = (goes l d o book (abort x) under.inv under.word).1;
    active = none_active under.new (with_up under.inv (λ disk closed tail u. abort_own u w done)) beside;
    stored = beside.stored;
    rows = rw (ap (λ (y : Book). y.rows) (fed_none l o book (abort x) done)) rows;
  }))
    where
      w : Way o.medium o.cache o.state (abort x) (aborts o x)
      w = way o.medium o.cache o.state (abort x)

      done : refusal_in (aborts o x).answer ≡ None
      done = ap refusal_in (with_up under.inv (λ disk closed tail u. abort_done o x (record { fit = fits_up u; active = under.active })))

      beside : Beside x s (aborts o x).state
      beside = beside_then x s o.state (aborts o x).state under.beside (abort_beside w)

  -- ---- the commit: refused, or its row is there

  commit_stage : {x : ℕ} {o : Outcome} {book : Book} (v : List ℕ) → Sizes h → Under l d b s h x o book → Checked b s h x v → book.rows ≡ b.rows ++ (new_row h x v ∷ [])
      → Stage l d b s h (commit x h.ended ∷ commit_calls (refusal_in (commits o x h).answer) x) o book
      (after_commit (refusal_in (commits o x h).answer) (commits o x h) x)
  unfolding after_commit called call_typed entered seen_of add hand_number
  commit_stage {x = x} {o = o} {book = book} v sizes under checked rows = stage_call (commit x h.ended) t (go (refusal_in (commits o x h).answer) refl)
    where
      t : call_typed (commit x h.ended) ≡ true
      t = rw (under.word, sizes.ended)

      has : has_row book.rows x ≡ true
      has = ap (λ (rs : List Row). has_row rs x) rows ∙ row_last b.rows (new_version h x v)

      last : last_time book.rows ≡ last_time b.rows
      last = ap last_time rows ∙ last_version b.rows (new_version h x v)

      w : Way o.medium o.cache o.state (commit x h.ended) (commits o x h)
      w = way o.medium o.cache o.state (commit x h.ended)

      beside : Beside x s (commits o x h).state
      beside = beside_then x s o.state (commits o x h).state under.beside (with_up under.inv (λ disk closed tail u. commit_beside (saved_low u) w))

      go : (a : Option Refusal) → refusal_in (commits o x h).answer ≡ a
          → Stage l d b s h (commit_calls a x) (next o (commit x h.ended)) (fed l o book (commit x h.ended)) (after_commit a (commits o x h) x)
      go (Some r) e =
          abort_stage (Err (Denied r)) (under_refused (commit x h.ended) r t e under)
          (aborted (Err (Denied r)) x v (positive r) under.new checked (ap (λ (y : Book). y.rows) (fed_some l o book (commit x h.ended) r e) ∙ rows))
      go None e =
          let f = goes l d o book (commit x h.ended) under.inv t in
          let time : answer_value (commits o x h).answer ≡ commit_time book x h.ended = f.0 (number_none (commits o x h).answer e) ∙ rw has in
          let more : (fed l o book (commit x h.ended)).rows ≡ book.rows ++ (committed x (commit_time book x h.ended) ∷ []) =
          ap (λ (y : Book). y.rows) (fed_none l o book (commit x h.ended) e) ∙ rw has in
          stage_none (record {
            inv = f.1;
            active = none_active under.new (with_up under.inv (λ disk closed tail u. commit_own u w e)) beside;
            stored = beside.stored;
            rows = handed x v (answer_value (commits o x h).answer) under.new checked (time ∙ commit_time_law book x h under.clock last) (more ∙ rw (← time, rows));
          })

  -- ---- the write: refused, or its row is there

  pub write_stage : {x : ℕ} {o : Outcome} {book : Book} → Sizes h → Under l d b s h x o book → Checked b s h x o.value → are_bytes o.value ≡ true
      → book.rows ≡ b.rows
      → Stage l d b s h (write_call x o h ∷ write_calls (refusal_in (writes o x h).answer) (writes o x h) x h) o book
      (after_write (refusal_in (writes o x h).answer) (writes o x h) x h)
  unfolding after_write called call_typed entered add hand_number
  write_stage {x = x} {o = o} {book = book} sizes under checked bytes rows = stage_call (write_call x o h) t (go (refusal_in (writes o x h).answer) refl)
    where
      t : call_typed (write_call x o h) ≡ true
      t =
          rw (
            under.word,
            sizes.flight,
            eq-eqb (length (with_owner o.value h.to)) 16 (length-set o.value 0 h.to ∙ checked.size),
            owner_bytes o.value h.to bytes (ltb-true h.to 256 sizes.to),
          )

      w : Way o.medium o.cache o.state (write_call x o h) (writes o x h)
      w = way o.medium o.cache o.state (write_call x o h)

      go : (a : Option Refusal) → refusal_in (writes o x h).answer ≡ a
          → Stage l d b s h (write_calls a (writes o x h) x h) (next o (write_call x o h)) (fed l o book (write_call x o h)) (after_write a (writes o x h) x h)
      go (Some r) e =
          abort_stage (Err (Denied r)) (under_refused (write_call x o h) r t e under)
          (unwritten (Err (Denied r)) (positive r) (ap (λ (y : Book). y.rows) (fed_some l o book (write_call x o h) r e) ∙ rows))
      go None e =
          let entry = fed_none l o book (write_call x o h) e in
          commit_stage o.value sizes
          (record {
            inv = (goes l d o book (write_call x o h) under.inv t).1;
            active = ap is_at (written_active w x) ∙ under.active;
            beside = beside_then x s o.state (writes o x h).state under.beside (with_up under.inv (λ disk closed tail u. write_beside (saved_low u) w));
            clock = ap (λ (y : Book). clock_of y.opened x) entry ∙ under.clock;
            word = under.word;
            new = under.new;
          })
          checked
          (ap (λ (y : Book). y.rows) entry ∙ ap (λ (rs : List Row). rs ++ (new_row h x o.value ∷ [])) rows)
