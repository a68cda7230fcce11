-- What a handover promises of the store's own reads, from how it ends: the same numbers are active and the same keys held, so
-- current reads are refused as before, and all else is what the rows answer (Kept).
use Rattle.layout.specs.declared.CommitTime.{CommitTime}
use Rattle.std.specs.Prelude.{Option, None, Some, Result}
use Prim.Native.Nat.{ℕ}
use native.Mathlib.Omega.{arith}
use mathlib.Core.Path.{◌≡◌, refl, sym, ap, ◌∙◌}
use mathlib.Core.Logic.{◌⊎◌, inl, inr, ◌≢◌}
use mathlib.Core.Bool.{Bool, true, false, cond, not, ◌&&◌, and-false, false≢true}
use mathlib.Core.List.{List, [], ◌∷◌, ◌++◌}
use lib.Dec.{eqb}
use borrow.Author.Tests.{eq-eqb, ne_eqb}
use Rattle.layout.specs.Journal.{Record}
use Rattle.layout.specs.Slot.{key_form}
use Rattle.store.specs.declared.Place.{Place}
use Rattle.store.specs.declared.State.{State}
use Rattle.store.specs.Places.{is_at, find_active}
use Rattle.runs.specs.Event.{current_read, missing, present}
use Rattle.runs.specs.Book.{Book, Row, versions, has_row}
use Rattle.runs.specs.Machine.{World, up}
use Rattle.agreement.proofs.history.Ghost.{Disk}
use Rattle.agreement.proofs.history.ListLaws.{same?}
use Rattle.agreement.proofs.invariant.Invariant.{Up}
use Rattle.handover.specs.declared.Transfer.{Transfer}
use Rattle.handover.specs.declared.HandRefusal.{HandRefusal}
use Rattle.handover.specs.Hand.{HandOutcome, hand_number, hand_value, with_owner}
use Rattle.handover.specs.Promise.{read_by, HandedBook, look, new_read, CanBegin, AnyReads, AnyNewReads, HandedReads, Keeps}
use Rattle.handover.proofs.calls.Fed.{with_up}
use Rattle.handover.proofs.rows.Rows.{versions_version, versions_commit, foreign, current_fresh}
use Rattle.handover.proofs.rows.Held.{newest_under, newest_snoc, held_row}
use Rattle.handover.proofs.rows.Ended.{New, Checked, new_version, new_row, RowsEnd, unwritten, aborted, handed, Ended}
use Rattle.handover.proofs.rows.Kept.{rowless_before, past_same, owner_same, reads_same, refused_book, handed_book}
use Rattle.handover.proofs.run.Looks.{Shows, shows_same, shows_owner, read_number, taken, current_shows, current_passed, as_of_strip, as_of_reached, as_of_answered, saved_rows}
use Rattle.handover.proofs.run.Newcomers.{held_fresh, newest_of_others, number, rowless, new_shows}

-- the world that a handover leaves
abbrev led : HandOutcome → World
led o = up o.medium o.cache o.state

-- ---- who holds a key: ps are the places after the handover

module _ (b : Book) (s : State) (h : Transfer) (ps : List Place) (active : (n : ℕ) → is_at (find_active ps n) ≡ is_at (find_active s.places n)) where
  as_active : (y : Option ℕ) (n : ℕ) → held_row y ps n ≡ held_row y s.places n
  as_active None n = refl
  as_active (Some k) n = ap (λ (a : Bool). not (eqb k n) && a) (active k)

  -- with the version written: its number is not active, and nobody held its key before
  written_held : (x : ℕ) (v : List ℕ) → New b s x → Checked b s h x v → (key n : ℕ)
      → held_row (newest_under key None (versions b.rows ++ (new_version h x v ∷ []))) ps n ≡ held_row (newest_under key None (versions b.rows)) s.places n
  written_held x v new checked key n = rw (newest_snoc key None (versions b.rows) (new_version h x v)) (go (same? key h.flight))
    where
      go : (key ≡ h.flight) ⊎ (key ≢ h.flight)
          → held_row (cond (eqb h.flight key) (Some x) (newest_under key None (versions b.rows))) ps n ≡ held_row (newest_under key None (versions b.rows)) s.places n
      go (inl e) = rw (e, eq-eqb h.flight h.flight refl, checked.free n, active x, new.idle) (and-false (not (eqb x n)))
      go (inr e) = rw (ne_eqb h.flight key (λ q. e (sym q))) (as_active (newest_under key None (versions b.rows)) n)

  same_held : {rs : List Row} {a : Result CommitTime HandRefusal} → RowsEnd b s h rs a → (key n : ℕ)
      → held_row (newest_under key None (versions rs)) ps n ≡ held_row (newest_under key None (versions b.rows)) s.places n
  same_held (unwritten a q e) key n = rw e (as_active (newest_under key None (versions b.rows)) n)
  same_held (aborted a x v q new checked e) key n = rw (e, versions_version b.rows (new_version h x v)) (written_held x v new checked key n)
  same_held (handed x v t new checked time e) key n =
      rw (e, versions_commit (b.rows ++ (new_row h x v ∷ [])) x t, versions_version b.rows (new_version h x v)) (written_held x v new checked key n)

-- where it is handed over, nobody held the flight
handed_free : {b : Book} {s : State} {h : Transfer} {rs : List Row} {a : Result CommitTime HandRefusal} → RowsEnd b s h rs a → hand_number a ≡ 0
    → (n : ℕ) → held_row (newest_under h.flight None (versions b.rows)) s.places n ≡ false
unfolding hand_number
handed_free (unwritten a q e) z n = absurd (omega arith)
handed_free (aborted a x v q new checked e) z n = absurd (omega arith)
handed_free (handed x v t new checked time e) z n = checked.free n

-- and there is such a record
handed_form : {b : Book} {s : State} {h : Transfer} {rs : List Row} {a : Result CommitTime HandRefusal} → RowsEnd b s h rs a → hand_number a ≡ 0 → key_form h.flight ≡ true
unfolding hand_number
handed_form (unwritten a q e) z = absurd (omega arith)
handed_form (aborted a x v q new checked e) z = absurd (omega arith)
handed_form (handed x v t new checked time e) z = checked.form

-- ---- a running store before the handover, and after it

module _ {l d : ℕ} {m c : List ℕ} {s : State} {b : Book} {disk : Disk} {closed : List (List Record)} {tail : List Record} (u : Up l d m c s b disk closed tail)
    (h : Transfer) (o : HandOutcome) (book : Book) (end : Ended l d b s h o book)
    {disk' : Disk} {closed' : List (List Record)} {tail' : List Record} (u' : Up l d o.medium o.cache o.state book disk' closed' tail') where
  -- ---- reads by number

  -- a read is refused after the handover as before it
  later_shows : (n key : ℕ) → Shows (read_number (key_form key) (is_at (find_active s.places n)) (taken u n key)) (read_by book n key) (look l d (led o) (current_read n key))
  later_shows n key = rw (end.active n, same_held b s h o.state.places end.active end.rows key n) at (current_shows u' n key)

  same_strip : (n key : ℕ) → (is_at (find_active s.places n) ≡ true → read_by book n key ≡ read_by b n key)
      → (look l d (led o) (current_read n key)).strip ≡ (look l d (up m c s) (current_read n key)).strip
  same_strip n key f =
      shows_same (current_shows u n key) (later_shows n key) (λ e. f (current_passed u n key ((current_shows u n key).number ∙ e)).1)

  any_reads : AnyReads l d (up m c s) (led o)
  unfolding read_by
  any_reads = record {
    refusal = λ n key. (later_shows n key).number ∙ sym (current_shows u n key).number;
    past = λ key t e.
        let reached = as_of_reached u key t e in
        let f = as_of_answered u' key t reached.0 (omega (arith, reached, end.stored)) in
        (f, as_of_strip u' key t f ∙ past_same b s h end.rows key t (omega (arith, reached, saved_rows u)) ∙ sym (as_of_strip u key t e));
    owner = λ n key. shows_owner (current_shows u n key) (later_shows n key) (owner_same b s h end.rows n key);
  }

  -- ---- new numbers, one begun before and one after

  module _ (i j : ℕ) (p : CanBegin l d (up m c s) i) (q : CanBegin l d (led o) j) where
    -- the later number had no row before
    unused : has_row b.rows (number u' j q) ≡ false
    unused = rowless_before end.rows (number u' j q) (rowless u' j q)

    later_new : (key : ℕ) → Shows (read_number (key_form key) true (taken u (number u i p) key)) (read_by book (number u' j q) key) (new_read l d (led o) j key)
    later_new key =
        rw (
          same_held b s h o.state.places end.active end.rows key (number u' j q),
          held_fresh s.places (newest_of_others b (number u' j q) key unused) (newest_of_others b (number u i p) key (rowless u i p)),
        ) at (new_shows u' j q key)

    -- the two read the same of the rows before
    alike : (key : ℕ) → read_by b (number u' j q) key ≡ read_by b (number u i p) key
    unfolding read_by
    alike key =
        current_fresh b.rows (number u' j q) (number u i p) key missing (versions b.rows) (foreign b.rows (number u' j q) unused)
        (foreign b.rows (number u i p) (rowless u i p))

    new_strip : (key : ℕ) → read_by book (number u' j q) key ≡ read_by b (number u' j q) key → (new_read l d (led o) j key).strip ≡ (new_read l d (up m c s) i key).strip
    new_strip key f = shows_same (new_shows u i p key) (later_new key) (λ e. f ∙ alike key)

    any_new_reads : AnyNewReads l d (up m c s) (led o) i j
    unfolding read_by
    any_new_reads = record {
      refusal = λ key. (later_new key).number ∙ sym (new_shows u i p key).number;
      owner = λ key.
          shows_owner (new_shows u i p key) (later_new key)
          (λ w. owner_same b s h end.rows (number u' j q) key (rw (← alike key) at w));
    }

  -- ---- handed over

  new_handed : hand_number o.answer ≡ 0 → (t : ℕ) (k : HandedBook h t b book) (j : ℕ) → CanBegin l d (led o) j
      → ((new_read l d (led o) j h.flight).refusal ≡ 0) × ((new_read l d (led o) j h.flight).strip ≡ present (with_owner k.strip h.to))
  new_handed z t k j q =
      let n = number u' j q in
      let free : taken u' n h.flight ≡ false = same_held b s h o.state.places end.active end.rows h.flight n ∙ handed_free end.rows z n in
      let x = new_shows u' j q h.flight in
      let e : read_number (key_form h.flight) true (taken u' n h.flight) ≡ 0 = rw (handed_form end.rows z, free) in
      (x.number ∙ e, x.answered e ∙ k.current n)

  handed_reads : hand_number o.answer ≡ 0 → (t : ℕ) (k : HandedBook h t b book) → HandedReads l d h t k.strip (up m c s) (led o)
  handed_reads z t k = record {
    current = λ n e. (current_shows u' n h.flight).answered (sym (current_shows u' n h.flight).number ∙ e) ∙ k.current n;
    past = λ e. as_of_strip u' h.flight t e ∙ k.past;
    others = λ n key f. same_strip n key (λ a. k.others n key f);
    new_read_law = new_handed z t k;
    new_others = λ i j p q key f. new_strip i j p q key (k.others (number u' j q) key f);
  }

  -- ---- all of it

  promised_up : Keeps l d h (up m c s) (led o) b book o
  unfolding read_by
  promised_up = record {
    reads = any_reads;
    new_reads = any_new_reads;
    owner = owner_same b s h end.rows;
    refused = refused_book b s h book o.answer end.rows;
    refused_reads = λ z n key.
        same_strip n key (λ a.
        reads_same b s h end.rows z n key (λ x new has e. false≢true (sym new.idle ∙ ap (λ (k : ℕ). is_at (find_active s.places k)) (sym e) ∙ a)));
    refused_new_reads = λ z i j p q key. new_strip i j p q key ((refused_book b s h book o.answer end.rows z).current (number u' j q) key (inr (rowless u' j q)));
    handed = λ z. let k = handed_book b s h book o.answer end.rows z in (k, handed_reads z (hand_value o.answer) k);
  }

module _ {l d : ℕ} {m c : List ℕ} {s : State} {b : Book} {disk : Disk} {closed : List (List Record)} {tail : List Record} (u : Up l d m c s b disk closed tail) where
  pub promised : (h : Transfer) (o : HandOutcome) (book : Book) → Ended l d b s h o book → Keeps l d h (up m c s) (up o.medium o.cache o.state) b book o
  promised h o book end = with_up end.inv (λ disk' closed' tail' u'. promised_up u h o book end u')
