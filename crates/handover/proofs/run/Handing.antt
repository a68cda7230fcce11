-- A handover from a running store: its first two stages, begin and the read with its check. What the read gives is what the book has
-- for a new number, and a flight that it may read is held against nobody.
use Rattle.std.specs.Prelude.{Option, None, Some, Err, Ok, Result}
use Prim.Native.Nat.{ℕ, ◌^◌, ◌<◌}
use native.Mathlib.Omega.{arith}
use mathlib.Core.Path.{◌≡◌, refl, sym, ap, ◌∙◌}
use mathlib.Core.Logic.{◌≢◌}
use mathlib.Core.Bool.{Bool, true, false, not}
use mathlib.Core.List.{List, ◌∷◌}
use lib.Dec.{eqb}
use borrow.Author.Tests.{eqb-true, eqb-false, eq-eqb, lt-ltb, not-true}
use Rattle.fields.proofs.Choose.{and_0, and_1}
use Rattle.layout.specs.Journal.{Record}
use Rattle.store.specs.declared.Answer.{Answer}
use Rattle.store.specs.declared.Answer.TheVariants.{Done}
use Rattle.store.specs.declared.Refusal.{Refusal}
use Rattle.store.specs.declared.State.{State}
use Rattle.store.specs.Answer.{Outcome, leaves, answer_value}
use Rattle.store.specs.Places.{is_at, find_active}
use Rattle.runs.specs.Event.{begin, current_read, present, call_typed}
use Rattle.runs.specs.Book.{Book, clock_of, entered}
use Rattle.runs.specs.Machine.{called, seen_of, step}
use Rattle.runs.proofs.Asks.{way}
use Rattle.runs.proofs.Refusals.{reading_leaves, refusal_leaves}
use Rattle.agreement.proofs.history.Ghost.{Disk}
use Rattle.agreement.proofs.invariant.Invariant.{Up, running}
use Rattle.agreement.proofs.reads.ReadFacts.{positive}
use Rattle.handover.specs.declared.Transfer.{Transfer}
use Rattle.handover.specs.declared.HandRefusal.TheVariants.{Denied, NotOwner}
use Rattle.handover.specs.Hand.{hand_number, refusal_in, is_present, owner_of, may_hand, begins, reads, after_check, after_read, after_begin, hand_of}
use Rattle.handover.specs.Calls.{check_calls, read_calls, begin_calls, hand_calls}
use Rattle.handover.specs.Promise.{read_by, look}
use Rattle.handover.proofs.calls.Answers.{number_none, in_refusal, present_strip}
use Rattle.handover.proofs.calls.Ways.{begin_way}
use Rattle.handover.proofs.calls.Fed.{fed, fed_some, fed_none, fed_read, goes, with_up}
use Rattle.handover.proofs.rows.Held.{idle_next}
use Rattle.handover.proofs.rows.Ended.{Checked, unwritten}
use Rattle.handover.proofs.run.Looks.{current_passed}
use Rattle.handover.proofs.run.Typed.{Sixteen, strip_sixteen}
use Rattle.handover.proofs.run.Newcomers.{held_others, held_nobody, newest_of_others}
use Rattle.handover.proofs.run.Stages.{Under, Stage, Sizes, stage_none, stage_call, abort_stage, write_stage}

-- ---- the check

-- what question 17 asks
record May (a : Result Answer Refusal) (v : List ℕ) (h : Transfer) : Type 0 where
  present : is_present a ≡ true
  owner : owner_of v ≡ h.from
  giver : h.from ≢ 0
  taker : h.to ≢ 0

may : (a : Result Answer Refusal) (v : List ℕ) (h : Transfer) → may_hand a v h ≡ true → May a v h
unfolding may_hand
may a v h q =
    let owners = and_1 (is_present a) _ q in
    let both = and_1 (eqb (owner_of v) h.from) _ owners in
    record {
      present = and_0 (is_present a) _ q;
      owner = eqb-true (owner_of v) h.from (and_0 (eqb (owner_of v) h.from) _ owners);
      giver = eqb-false h.from 0 (not-true (eqb h.from 0) (and_0 (not (eqb h.from 0)) _ both));
      taker = eqb-false h.to 0 (not-true (eqb h.to 0) (and_1 (not (eqb h.from 0)) _ both));
    }

module _ (l d : ℕ) (b : Book) (s : State) (h : Transfer) (sizes : Sizes h) where
  -- ---- the read: refused, or its strip is checked

  module _ {x : ℕ} {o : Outcome} {book : Book} (under : Under l d b s h x o book) (rows : book.rows ≡ b.rows) where
    read_typed : call_typed (current_read x h.flight) ≡ true
    unfolding call_typed
    read_typed = rw (under.word, sizes.flight)

    same_rows : (fed l o book (current_read x h.flight)).rows ≡ b.rows
    same_rows = ap (λ (y : Book). y.rows) (fed_read l o book x h.flight) ∙ rows

    under_read : Under l d b s h x (reads o x h) (fed l o book (current_read x h.flight))
    unfolding called
    under_read =
        let same = reading_leaves o.medium o.cache o.state (current_read x h.flight) refl in
        record {
          inv = (goes l d o book (current_read x h.flight) under.inv read_typed).1;
          active = rw same under.active;
          beside = rw same under.beside;
          clock = rw (fed_read l o book x h.flight) under.clock;
          word = under.word;
          new = under.new;
        }

    module _ (e : refusal_in (reads o x h).answer ≡ None) (ok : May (reads o x h).answer (reads o x h).value h) where
      strip_read : read_by book x h.flight ≡ present (reads o x h).value
      unfolding called seen_of read_by
      strip_read =
          sym ((goes l d o book (current_read x h.flight) under.inv read_typed).0 (number_none (reads o x h).answer e))
          ∙ present_strip (reads o x h).answer (reads o x h).value ok.present

      sixteen : Sixteen (reads o x h).value
      sixteen = with_up under.inv (λ disk closed tail u. strip_sixteen u x h.flight (reads o x h).value strip_read)

      checked : Checked b s h x (reads o x h).value
      unfolding look step seen_of called read_by
      checked =
          let other = newest_of_others b x h.flight under.new.rowless in
          record {
            form = with_up under.inv (λ disk closed tail u. (current_passed u x h.flight (number_none (reads o x h).answer e)).0);
            free = held_nobody s.places other
                (sym (held_others o.state.places s.places other under.beside.others)
                ∙ rw rows at (with_up under.inv (λ disk closed tail u. (current_passed u x h.flight (number_none (reads o x h).answer e)).2)));
            strip = rw rows at strip_read;
            size = sixteen.size;
            owner = ok.owner;
            giver = ok.giver;
            taker = ok.taker;
          }

    read_stage : Stage l d b s h (current_read x h.flight ∷ read_calls (refusal_in (reads o x h).answer) (reads o x h) x h) o book
        (after_read (refusal_in (reads o x h).answer) (reads o x h) x h)
    unfolding after_read after_check called hand_number
    read_stage = stage_call l d b s h (current_read x h.flight) read_typed (go (refusal_in (reads o x h).answer) refl)
      where
        by : refusal_in (reads o x h).answer ≡ None → (a : Bool) → may_hand (reads o x h).answer (reads o x h).value h ≡ a
            → Stage l d b s h (check_calls a (reads o x h) x h) (reads o x h) (fed l o book (current_read x h.flight)) (after_check a (reads o x h) x h)
        by e false q = abort_stage l d b s h (Err NotOwner) under_read (unwritten (Err NotOwner) (omega arith) same_rows)
        by e true q =
            let ok = may (reads o x h).answer (reads o x h).value h q in
            write_stage l d b s h sizes under_read (checked e ok) (sixteen e ok).bytes same_rows

        go : (a : Option Refusal) → refusal_in (reads o x h).answer ≡ a
            → Stage l d b s h (read_calls a (reads o x h) x h) (reads o x h) (fed l o book (current_read x h.flight)) (after_read a (reads o x h) x h)
        go (Some r) e = abort_stage l d b s h (Err (Denied r)) under_read (unwritten (Err (Denied r)) (positive r) same_rows)
        go None e = by e (may_hand (reads o x h).answer (reads o x h).value h) refl

-- ---- begin; what stands before the handover is taken as if a call had left it

module _ {l d : ℕ} {m c : List ℕ} {s : State} {b : Book} {disk : Disk} {closed : List (List Record)} {tail : List Record} (u : Up l d m c s b disk closed tail)
    (h : Transfer) (sizes : Sizes h) where
  begin_typed : call_typed (begin h.began) ≡ true
  unfolding call_typed
  begin_typed = sizes.began

  begun : refusal_in (begins s m c h).answer ≡ None
      → Under l d b s h (answer_value (begins s m c h).answer) (begins s m c h) (fed l (leaves (Ok Done) s m c) b (begin h.began))
      × ((fed l (leaves (Ok Done) s m c) b (begin h.began)).rows ≡ b.rows)
  unfolding called seen_of entered clock_of
  begun e =
      let x = answer_value (begins s m c h).answer in
      let f = goes l d (leaves (Ok Done) s m c) b (begin h.began) (running u) begin_typed in
      let w = begin_way (way m c s (begin h.began)) e in
      let entry = fed_none l (leaves (Ok Done) s m c) b (begin h.began) e in
      let unused = f.0 (number_none (begins s m c h).answer e) in
      let low : x < 2 ^ 64 = omega (arith, w.number, u.state.next_high) in (
        record {
          inv = f.1;
          active = w.active;
          beside = w.beside;
          clock = ap (λ (y : Book). clock_of y.opened x) entry ∙ rw (eq-eqb x x refl);
          word = lt-ltb x (2 ^ 64) low;
          new = record { rowless = unused.1; shut = unused.0; idle = ap (λ (n : ℕ). is_at (find_active s.places n)) w.number ∙ idle_next u };
        },
        ap (λ (y : Book). y.rows) entry,
      )

  pub hand_stage : Stage l d b s h (hand_calls s m c h) (leaves (Ok Done) s m c) b (hand_of s m c h)
  unfolding hand_calls hand_of after_begin called hand_number
  hand_stage = stage_call l d b s h (begin h.began) begin_typed (go (refusal_in (begins s m c h).answer) refl)
    where
      go : (a : Option Refusal) → refusal_in (begins s m c h).answer ≡ a
          → Stage l d b s h (begin_calls a (begins s m c h) h) (begins s m c h) (fed l (leaves (Ok Done) s m c) b (begin h.began)) (after_begin a (begins s m c h) h)
      go (Some r) e =
          let same = (refusal_leaves m c s (begin h.began) r (in_refusal (begins s m c h).answer r e)).state in
          stage_none l d b s h (record {
            inv = (goes l d (leaves (Ok Done) s m c) b (begin h.began) (running u) begin_typed).1;
            active = λ n. ap (λ (t : State). is_at (find_active t.places n)) same;
            stored = omega (arith, ap (λ (t : State). t.saved.0) same);
            rows = unwritten (Err (Denied r)) (positive r) (ap (λ (y : Book). y.rows) (fed_some l (leaves (Ok Done) s m c) b (begin h.began) r e));
          })
      go None e = let (under, rows) = begun e in read_stage l d b s h sizes under rows
