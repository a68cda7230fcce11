-- A call that is not refused 16 leaves a state that fits. A refusal leaves all as it was, which fits since question 16
-- was answered yes; a step changes only slots, tail, places and first changes, within the bounds that its questions
-- ask.
use Rattle.store.specs.declared.Answer.{Answer}
use Rattle.layout.specs.declared.CommitTime.{CommitTime}
use Rattle.std.specs.Prelude.{Some, Option, None, Err, Result}
use mathlib.Core.Path.{◌≡◌, refl, sym, ap, subst, ◌∙◌}
use mathlib.Core.Bool.{Bool, true, false, ◌&&◌, ◌||◌}
use mathlib.Core.List.{List, ◌∷◌}
use Prim.Native.Nat.{ℕ, zero, suc, ◌+◌, ◌*◌, ◌^◌, ◌≤◌, ◌<◌}
use native.Mathlib.Omega.{arith}
use lib.ListN.{length, drop, length-set}
use lib.Dec.{leb, ltb}
use borrow.Author.Tests.{ltb-true, leb-true}
use Rattle.fields.specs.Block.{zeros, put}
use Rattle.layout.specs.Item.{bytes_of}
use Rattle.layout.specs.Journal.{Record, version, commit, record_size, sequence_of, used_of, empty_block, add_record}
use Rattle.layout.specs.Master.{oldest_on}
use Rattle.layout.specs.declared.item.VersionHead.{VersionHead}
use Rattle.layout.specs.declared.slot.Slot.{Slot}
use Rattle.layout.specs.declared.slot.Slot.TheVariants.{Empty, Waiting, Stamped}
use Rattle.fields.proofs.Choose.{and_1}
use Rattle.fields.proofs.BlockLaws.{length_put}
use Rattle.layout.proofs.CacheLaws.{length_put_version}
use Rattle.layout.proofs.RecordLaws.{bytes_few}
use Rattle.layout.proofs.JournalLaws.{length_empty_block, sequence_empty_block, used_empty_block, length_add_record}
use Rattle.layout.proofs.JournalLaws.{sequence_add_record, used_add_record}
use Rattle.store.specs.declared.Place.{Place}
use Rattle.store.specs.declared.Phase.{Phase}
use Rattle.store.specs.declared.Phase.TheVariants.{Idle, FirstStored, SecondStored}
use Rattle.store.specs.declared.Refusal.{Refusal}
use Rattle.store.specs.declared.Refusal.TheVariants.{Unfit}
use Rattle.store.specs.declared.State.{State}
use Rattle.store.specs.Answer.{Outcome, ask}
use Rattle.store.specs.Places.{free_place, find_committed}
use Rattle.store.specs.State.{fits, with_place, with_phase}
use Rattle.store.specs.Tail.{tail_fits, may_log, stored_tail, logged_if, logged}
use Rattle.store.specs.Begin.{begun}
use Rattle.store.specs.Write.{new_head, touched, written, write_step}
use Rattle.store.specs.Commit.{committed, commit_step}
use Rattle.store.specs.StoreLog.{log_stored, store_log_if}
use Rattle.store.specs.StorePage.{stamp_time, lower_at, settle_with, settle_from, settled, page_stored, store_page_if}
use Rattle.store.specs.Checkpoint.{checkpoint_step}
use Rattle.runs.specs.Event.{Call, begin, write, erase, current_read, commit as commit_call, abort, as_of, changes}
use Rattle.runs.specs.Event.{store_log, store_page, checkpoint}
use Rattle.runs.specs.Machine.{called}
use Rattle.store.proofs.AskLaws.{Passed}
use Rattle.store.proofs.FitLaws.{TailFit, Fit, fit_of, fit_is}
use Rattle.runs.proofs.Asks.{asks, Way, refused, begins, writes, erases, looks, commits, ends, aborts, logs, pages}
use Rattle.runs.proofs.Asks.{checks, way}
use Rattle.layout.specs.Slot.{slot_state}
use Rattle.layout.specs.Page.{page_slot}

-- ---- the tail once a record is taken

pub empty_fits : (q : ℕ) → 1 ≤ q → q < 2 ^ 48 → TailFit (empty_block q)
empty_fits q lo hi =
    let e : sequence_of (empty_block q) ≡ q = sequence_empty_block q (omega arith) in
    record {
      used_low = omega (arith, used_empty_block q);
      used_high = omega (arith, used_empty_block q);
      sequence_low = omega arith;
      sequence_high = omega arith;
      size = length_empty_block q;
    }

pub added_fits : (b : List ℕ) (r : Record) → TailFit b → used_of b + record_size r ≤ 512 → TailFit (add_record b r)
added_fits b r f h =
    let u : used_of (add_record b r) ≡ used_of b + record_size r = used_add_record b r f.size h in
    let q : sequence_of (add_record b r) ≡ sequence_of b = sequence_add_record b r (omega arith) in
    record {
      used_low = omega arith;
      used_high = omega arith;
      sequence_low = omega arith;
      sequence_high = omega arith;
      size = length_add_record b r ∙ f.size;
    }

small : (r : Record) → record_size r ≤ 34
unfolding record_size
small (version h v) = omega (arith, bytes_few h.width)
small (commit p) = omega arith

-- question 8 keeps the next block's sequence below 2^48
pub logged_fits : (s : State) (m : List ℕ) (r : Record) → TailFit s.tail → may_log s m (record_size r) ≡ true
    → TailFit (logged s m r).tail
unfolding logged logged_if may_log tail_fits
logged_fits s m r f e = go (leb (used_of s.tail + record_size r) 512) refl e
  where
    go : (t : Bool) → leb (used_of s.tail + record_size r) 512 ≡ t
        → t || (ltb (sequence_of s.tail + 1) (oldest_on m + s.blocks) && ltb (sequence_of s.tail + 1) (2 ^ 48)) ≡ true
        → TailFit (logged_if t s m r).tail
    go true t e = added_fits s.tail r f (leb-true _ 512 t)
    go false t e =
        let q = sequence_of s.tail + 1 in
        let hi : q < 2 ^ 48 = ltb-true q (2 ^ 48) (and_1 (ltb q (oldest_on m + s.blocks)) _ e) in
        added_fits (empty_block q) r (empty_fits q (omega arith) hi) (omega (arith, used_empty_block q, small r))

pub logged_length : (s : State) (m : List ℕ) (r : Record) → length (logged s m r).medium ≡ length m
unfolding logged logged_if stored_tail
logged_length s m r = go (tail_fits s.tail (record_size r))
  where
    go : (t : Bool) → length (logged_if t s m r).medium ≡ length m
    go true = refl
    go false = length_put m _ s.tail

-- ---- the places keep their number

pub length_settle_from : (pair : ℕ → Option CommitTime) (old : List Place) (page : List ℕ) (ps : List Place) (i k : ℕ)
    → length (settle_from pair old page ps i k) ≡ length ps
unfolding settle_from
length_settle_from pair old page ps i zero = refl
length_settle_from pair old page ps i (suc k) =
    let x = slot_state (page_slot page i) in
    let settled = settle_with (stamp_time pair x) x old ps in
    length_settle_from pair old page settled (i + 1) k ∙ one (stamp_time pair x) x
  where
    lower : (f : Option ℕ) → length (lower_at f ps) ≡ length ps
    lower (Some j) = length-set ps j _
    lower None = refl

    one : (t : Option CommitTime) (x : Slot) → length (settle_with t x old ps) ≡ length ps
    one None x = refl
    one (Some t) Empty = refl
    one (Some t) (Waiting n) = lower (find_committed old n.0)
    one (Some t) (Stamped u) = refl

-- ---- the first question

-- every call asks first whether state and buffers fit
first_asked : (m c : List ℕ) (s : State) (k : Call) → asks m c s k
    ≡ (fits s (length m) (length c), Unfit) ∷ drop 1 (asks m c s k)
first_asked m c s (begin clock) = refl
first_asked m c s (write n key v) = refl
first_asked m c s (erase n key) = refl
first_asked m c s (current_read n key) = refl
first_asked m c s (commit_call n clock) = refl
first_asked m c s (abort n) = refl
first_asked m c s (as_of key t) = refl
first_asked m c s (changes key t1 t2 b) = refl
first_asked m c s store_log = refl
first_asked m c s (store_page p) = refl
first_asked m c s checkpoint = refl

module _ (m c : List ℕ) (s : State) where
  abbrev pub Fitting : Type 0
  Fitting = Fit s (length m) (length c)

  -- so they fit where all questions are passed, or another one refuses
  pub passed_fit : (k : Call) → Passed (asks m c s k) → Fitting
  passed_fit k p = fit_of s _ _ (subst Passed (first_asked m c s k) p).0

  pub refused_fit : (k : Call) (r : Refusal) → ask (asks m c s k) ≡ Some r → (◌≡◌ {A = Result Answer Refusal} (Err r) (Err Unfit) → ⊥) → Fitting
  refused_fit k r e h =
      fit_of s _ _ (go (fits s (length m) (length c)) (drop 1 (asks m c s k)) (ap ask (sym (first_asked m c s k)) ∙ e))
    where
      go : (b : Bool) (qs : List (Bool × Refusal)) → ask ((b, Unfit) ∷ qs) ≡ Some r → b ≡ true
      go true qs e = refl
      go false qs e = absurd (h (cc))

  -- ---- the steps

  -- the place of a transaction changes
  pub place_fits : (i : ℕ) (p : Place) → Fitting → Fit (with_place s i p) (length m) (length c)
  unfolding with_place
  place_fits i p k = record {
    range = k.range;
    medium = k.medium;
    cache = k.cache;
    slots = k.slots;
    tail = k.tail;
    places = length-set s.places i p ∙ k.places;
    first = k.first;
  }

  -- the checkpoint goes on
  pub phase_fits : (ph : Phase) (b : ℕ) (v : List ℕ) → Fitting → Fit (with_phase s ph) (length (put m b v)) (length c)
  unfolding with_phase
  phase_fits ph b v k = record {
    range = k.range;
    medium = length_put m b v ∙ k.medium;
    cache = k.cache;
    slots = k.slots;
    tail = k.tail;
    places = k.places;
    first = k.first;
  }

abbrev pub Leaves : Outcome → Type 0
Leaves o = Fit o.state (length o.medium) (length o.cache)

-- 7 leaves a slot, and 8 room in the log
write_fits : (m c : List ℕ) (s : State) (i : ℕ) (h : VersionHead) (v : List ℕ) → Fitting m c s → s.slots < 15 * s.pages
    → may_log s m (record_size (version h v)) ≡ true → Leaves (write_step s m c i h v)
unfolding write_step written touched
write_fits m c s i h v k a b = record {
  range = k.range;
  medium = logged_length s m (version h v) ∙ k.medium;
  cache = length_put_version c s.slots _ _ ∙ k.cache;
  slots = omega arith;
  tail = logged_fits s m (version h v) k.tail b;
  places = length-set s.places i _ ∙ k.places;
  first = length-set s.first _ _ ∙ k.first;
}

leaves_way : {m c : List ℕ} {s : State} {k : Call} {o : Outcome} → Way m c s k o
    → (o.answer ≡ Err Unfit → ⊥) → Leaves o
unfolding begun commit_step committed store_log_if log_stored stored_tail store_page_if page_stored settled
    checkpoint_step record_size new_head bytes_of
leaves_way {m} {c} {s} (refused k r w) h = refused_fit m c s k r w h
leaves_way {m} {c} {s} (begins clock i p w) h =
    let k : Fitting m c s = fit_of s _ _ p.0 in
    record {
      range = k.range;
      medium = k.medium;
      cache = k.cache;
      slots = k.slots;
      tail = k.tail;
      places = length-set s.places _ _ ∙ k.places;
      first = k.first;
    }
leaves_way {m} {c} {s} (writes n key i v p w) h =
    write_fits m c s i _ v (fit_of s _ _ p.0) (ltb-true _ _ p.1.1.1.1.0) p.1.1.1.1.1.0
leaves_way {m} {c} {s} (erases n key i p w) h =
    write_fits m c s i _ (zeros 16) (fit_of s _ _ p.0) (ltb-true _ _ p.1.1.1.1.0) p.1.1.1.1.1.0
leaves_way {m} {c} {s} (looks k a v b q p n w) h = passed_fit m c s k p
leaves_way {m} {c} {s} (commits n clock i p w z) h =
    let k : Fitting m c s = fit_of s _ _ p.0 in
    record {
      range = k.range;
      medium = logged_length s m _ ∙ k.medium;
      cache = k.cache;
      slots = k.slots;
      tail = logged_fits s m _ k.tail (rw (w, z) at p.1.1.1.0);
      places = length-set s.places i _ ∙ k.places;
      first = k.first;
    }
leaves_way {m} {c} {s} (ends n clock i p w z) h = place_fits m c s i free_place (fit_of s _ _ p.0)
leaves_way {m} {c} {s} (aborts n i p w) h = place_fits m c s i free_place (fit_of s _ _ p.0)
leaves_way {m} {c} {s} (logs p) h =
    let k : Fitting m c s = fit_of s _ _ p.0 in
    record {
      range = k.range;
      medium = length_put m _ _ ∙ k.medium;
      cache = k.cache;
      slots = k.slots;
      tail = k.tail;
      places = k.places;
      first = k.first;
    }
leaves_way {m} {c} {s} (pages n p) h =
    let k : Fitting m c s = fit_of s _ _ p.0 in
    record {
      range = k.range;
      medium = length_put m _ _ ∙ k.medium;
      cache = length_put c n _ ∙ k.cache;
      slots = k.slots;
      tail = k.tail;
      places = length_settle_from _ _ _ s.places 0 15 ∙ k.places;
      first = length-set s.first n 0 ∙ k.first;
    }
leaves_way {m} {c} {s} (checks Idle p w) h = phase_fits m c s _ 1 _ (fit_of s _ _ p.0)
leaves_way {m} {c} {s} (checks (FirstStored o t) p w) h = phase_fits m c s _ 2 _ (fit_of s _ _ p.0)
leaves_way {m} {c} {s} (checks (SecondStored o t) p w) h = phase_fits m c s _ 0 _ (fit_of s _ _ p.0)

-- ---- each call

pub call_leaves : (m c : List ℕ) (s : State) (k : Call) → ((called m c s k).answer ≡ Err Unfit → ⊥)
    → Leaves (called m c s k)
call_leaves m c s k h = leaves_way (way m c s k) h

pub call_fits : (m c : List ℕ) (s : State) (k : Call) → ((called m c s k).answer ≡ Err Unfit → ⊥)
    → fits (called m c s k).state (length (called m c s k).medium) (length (called m c s k).cache) ≡ true
call_fits m c s k h = fit_is _ _ _ (call_leaves m c s k h)
