-- What reads of a running store show, by its book: state and buffers fit, so a current read is refused just by its record number and
-- by what the active numbers and the newest rows say, a read as of a time just by its record number and the time stored; else the
-- strip is that of the rows.
use Rattle.std.specs.Prelude.{Option, None, Some, Result}
use Prim.Native.Nat.{ℕ, zero, suc, ◌≤◌, ◌<◌}
use native.Mathlib.Omega.{arith}
use mathlib.Core.Path.{◌≡◌, refl, sym, ap, ◌∙◌, subst}
use mathlib.Core.Bool.{Bool, true, false, cond, not}
use mathlib.Core.List.{List, [], ◌∷◌}
use lib.Dec.{leb}
use borrow.Author.Tests.{leb-true, le-leb}
use Rattle.layout.specs.Journal.{Record}
use Rattle.layout.specs.Slot.{key_form}
use Rattle.store.specs.declared.Answer.{Answer}
use Rattle.store.specs.declared.Refusal.{Refusal}
use Rattle.store.specs.declared.Refusal.TheVariants.{Unfit, NoRecord, NotActive, Held}
use Rattle.store.specs.declared.State.{State}
use Rattle.store.specs.Answer.{ask, refusal_number, answer_number}
use Rattle.store.specs.Places.{is_at, find_active}
use Rattle.store.proofs.AskLaws.{passed}
use Rattle.runs.specs.Event.{Call, Strip, missing, Observation, current_read, as_of}
use Rattle.runs.specs.Book.{Book, versions, last_time, strip_as_of}
use Rattle.runs.specs.Machine.{up, step, called, seen_of, strip_of}
use Rattle.runs.proofs.Asks.{asks, way}
use Rattle.runs.proofs.Refusals.{asked_refused}
use Rattle.agreement.proofs.history.Ghost.{Disk}
use Rattle.agreement.proofs.invariant.Invariant.{Up}
use Rattle.agreement.proofs.logging.GrowthLaws.{fits_up}
use Rattle.agreement.proofs.reads.Answers.{current_answers, as_of_answers}
use Rattle.agreement.proofs.reads.Sights.{last_is}
use Rattle.agreement.proofs.relief.Again.{done_way}
use Rattle.agreement.proofs.stable.Stored.{saved_is, read_refusal}
use Rattle.agreement.proofs.stores.StoreLog.{later}
use Rattle.handover.specs.Hand.{refusal_in}
use Rattle.handover.specs.Promise.{read_by, Owned, look}
use Rattle.handover.proofs.calls.Answers.{number_of, number_none, in_refusal}
use Rattle.handover.proofs.rows.Held.{newest_under, held_row, held_is}

-- ---- what a read shows

-- the refusal number r, and where it is 0 this strip
pub record Shows (r : ℕ) (strip : Strip) (o : Observation) : Type 0 where
  pub number : o.refusal ≡ r
  pub answered : r ≡ 0 → o.strip ≡ strip
  pub refused : 0 < r → o.strip ≡ missing

-- two reads with one refusal number show the same strip if the two strips are
pub shows_same : {r : ℕ} {x y : Strip} {o p : Observation} → Shows r x o → Shows r y p → (r ≡ 0 → y ≡ x) → p.strip ≡ o.strip
shows_same {r = zero} a b f = b.answered refl ∙ f refl ∙ sym (a.answered refl)
shows_same {r = suc r} a b f = b.refused (omega arith) ∙ sym (a.refused (omega arith))

-- and an owner if the second strip has one
pub shows_owner : {r : ℕ} {x y : Strip} {o p : Observation} → Shows r x o → Shows r y p → (Owned x → Owned y) → Owned o.strip → Owned p.strip
shows_owner {r = zero} a b f w = subst Owned (sym (b.answered refl)) (f (subst Owned (a.answered refl) w))
shows_owner {r = suc r} a b f w = absurd (subst Owned (a.refused (omega arith)) w)

-- a refused call shows no strip
refused_strip : (a : Result Answer Refusal) (v : List ℕ) → 0 < answer_number a → strip_of a v ≡ missing
refused_strip a v h = go (refusal_in a) refl
  where
    go : (x : Option Refusal) → refusal_in a ≡ x → strip_of a v ≡ missing
    go None e = absurd (omega (arith, number_none a e))
    go (Some r) e = ap (λ (y : Result Answer Refusal). strip_of y v) (in_refusal a r e)

-- a call's number is that of its first "no"
asked_number : (m c : List ℕ) (s : State) (k : Call) → answer_number (called m c s k).answer ≡ number_of (ask (asks m c s k))
unfolding answer_number
asked_number m c s k = go (ask (asks m c s k)) refl
  where
    go : (a : Option Refusal) → ask (asks m c s k) ≡ a → answer_number (called m c s k).answer ≡ number_of a
    go None e = done_way (way m c s k) (passed (asks m c s k) e)
    go (Some r) e = ap answer_number (asked_refused m c s k r e)

-- ---- a current read

-- its refusal number, by whether there is such a record, its number is active and its key held against it
abbrev pub read_number : Bool → Bool → Bool → ℕ
read_number form active taken = cond form (cond active (cond taken 6 0) 5) 18

number_zero : (form active taken : Bool) → read_number form active taken ≡ 0 → (form ≡ true) × (active ≡ true) × (taken ≡ false)
number_zero true true false e = (refl, refl, refl)
number_zero true true true e = absurd (omega arith)
number_zero true false taken e = absurd (omega arith)
number_zero false active taken e = absurd (omega arith)

read_asks : (form active taken : Bool)
    → number_of (ask ((true, Unfit) ∷ (form, NoRecord) ∷ (active, NotActive) ∷ (not taken, Held) ∷ [])) ≡ read_number form active taken
unfolding refusal_number
read_asks true true true = refl
read_asks true true false = refl
read_asks true false taken = refl
read_asks false active taken = refl

module _ {l d : ℕ} {m c : List ℕ} {s : State} {b : Book} {disk : Disk} {closed : List (List Record)} {tail : List Record} (u : Up l d m c s b disk closed tail) where
  -- is the key held against n?
  abbrev pub taken : ℕ → ℕ → Bool
  taken n key = held_row (newest_under key None (versions b.rows)) s.places n

  pub current_shows : (n key : ℕ)
      → Shows (read_number (key_form key) (is_at (find_active s.places n)) (taken n key)) (read_by b n key) (look l d (up m c s) (current_read n key))
  unfolding look step seen_of read_by
  current_shows n key = record {
    number = number;
    answered = λ e. unfold called in current_answers u n key (unfold called in (number ∙ e));
    refused = λ h. refused_strip (called m c s (current_read n key)).answer (called m c s (current_read n key)).value (omega (arith, number));
  }
    where
      number : answer_number (called m c s (current_read n key)).answer ≡ read_number (key_form key) (is_at (find_active s.places n)) (taken n key)
      number = asked_number m c s (current_read n key) ∙ rw (fits_up u, held_is u key n) (read_asks (key_form key) (is_at (find_active s.places n)) (taken n key))

  -- one that is not refused: there is such a record, its number is active and its key not held against it
  pub current_passed : (n key : ℕ) → (look l d (up m c s) (current_read n key)).refusal ≡ 0
      → (key_form key ≡ true) × (is_at (find_active s.places n) ≡ true) × (taken n key ≡ false)
  current_passed n key e = number_zero (key_form key) (is_at (find_active s.places n)) (taken n key) (sym (current_shows n key).number ∙ e)

  -- ---- a read as of a time

  as_of_number : (key t : ℕ) → (look l d (up m c s) (as_of key t)).refusal ≡ cond (key_form key) (cond (leb t s.saved.0) 0 10) 18
  unfolding look step seen_of called
  as_of_number key t = read_refusal u key t ∙ ap (λ (n : ℕ). cond (key_form key) (cond (leb t n) 0 10) 18) (sym (saved_is u))

  pub as_of_strip : (key t : ℕ) → (look l d (up m c s) (as_of key t)).refusal ≡ 0 → (look l d (up m c s) (as_of key t)).strip ≡ strip_as_of b.rows key t
  unfolding look step seen_of called
  as_of_strip key t e = as_of_answers u key t e

  pub as_of_reached : (key t : ℕ) → (look l d (up m c s) (as_of key t)).refusal ≡ 0 → (key_form key ≡ true) × (t ≤ s.saved.0)
  as_of_reached key t e = go (key_form key) refl (leb t s.saved.0) refl (sym (as_of_number key t) ∙ e)
    where
      go : (form : Bool) → key_form key ≡ form → (a : Bool) → leb t s.saved.0 ≡ a → ◌≡◌ {A = ℕ} (cond form (cond a 0 10) 18) 0
          → (key_form key ≡ true) × (t ≤ s.saved.0)
      go true p true q z = (p, leb-true t s.saved.0 q)
      go true p false q z = absurd (omega arith)
      go false p a q z = absurd (omega arith)

  pub as_of_answered : (key t : ℕ) → key_form key ≡ true → t ≤ s.saved.0 → (look l d (up m c s) (as_of key t)).refusal ≡ 0
  as_of_answered key t k h = as_of_number key t ∙ rw (k, le-leb t s.saved.0 h)

  -- what is stored is no later than what is given
  pub saved_low : s.saved.0 ≤ s.last.0
  saved_low = omega (arith, u.state.saved, u.state.last, later u)

  pub saved_rows : s.saved.0 ≤ last_time b.rows
  saved_rows = omega (arith, last_is u, saved_low)
