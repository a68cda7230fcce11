-- A call that was refused 8 is done once the log may take its record: its other questions were answered "yes" then, and
-- are answered the same as long as the log's history and the active places are. A record is held just if its newest
-- version's number is another that is active.
use Rattle.std.specs.Prelude.{Some, Option, None, Err, Ok, Result}
use Prim.Native.Nat.{ℕ, ◌-◌, ◌*◌, ◌^◌}
use native.Mathlib.Omega.{arith}
use mathlib.Core.Path.{◌≡◌, refl, sym, ap, ◌∙◌}
use mathlib.Core.Bool.{Bool, true, false, not, ◌&&◌, ◌||◌, and-false, or-true, false≢true}
use mathlib.Core.List.{List, [], ◌∷◌, ◌++◌}
use lib.ListN.{length}
use lib.Dec.{eqb, ltb}
use Rattle.fields.proofs.CellLaws.{Each}
use Rattle.layout.specs.Journal.{Record}
use Rattle.layout.specs.Slot.{Cell, key_form}
use Rattle.store.specs.declared.Answer.{Answer}
use Rattle.store.specs.declared.Answer.TheVariants.{Done, Begun, Written, Committed, Opened, Missing, Erased, Present, Listed}
use Rattle.store.specs.declared.Phase.TheVariants.{Idle, FirstStored, SecondStored}
use Rattle.store.specs.declared.Place.{Place}
use Rattle.store.specs.declared.Refusal.{Refusal}
use Rattle.store.specs.declared.Refusal.TheVariants.{BadSizes, BadCache, Malformed, NoPlace, NotActive, Held, NoSlot}
use Rattle.store.specs.declared.Refusal.TheVariants.{LogFull, NoTime, NotYet, NoPage, NotLogged, Unchanged, ShortBuffer}
use Rattle.store.specs.declared.Refusal.TheVariants.{NoNumber, Unfit, NoRecord}
use Rattle.store.specs.declared.State.{State}
use Rattle.store.specs.Answer.{Outcome, ask, answer_number, refusal_number}
use Rattle.store.specs.Places.{is_at, find_active, place_at, active_as}
use Rattle.store.specs.Chain.{held, held_at, held_as}
use Rattle.store.specs.State.{fits}
use Rattle.store.specs.Tail.{may_log}
use Rattle.store.specs.Write.{write_asks, write_step}
use Rattle.store.specs.Commit.{commit_asks, commit_step, no_versions}
use Rattle.store.specs.StoreLog.{store_log_if}
use Rattle.store.specs.StorePage.{store_page_if}
use Rattle.store.specs.Checkpoint.{checkpoint_step}
use Rattle.store.proofs.AskLaws.{Passed, passes}
use Rattle.store.proofs.SearchLaws.{first_found}
use Rattle.runs.specs.Event.{Call, begin, write, erase, current_read, commit, abort, as_of, changes, store_log}
use Rattle.runs.specs.Event.{store_page, checkpoint}
use Rattle.runs.specs.Book.{Book}
use Rattle.runs.specs.Machine.{up, called, after}
use Rattle.runs.proofs.Asks.{asks, is_refused, Way, refused, begins, writes, erases, looks, commits, ends, aborts, logs}
use Rattle.runs.proofs.Asks.{pages, checks, way}
use Rattle.agreement.proofs.history.Ghost.{LoggedVersion, versions_of, at, newest_of, commits_of, cell, waiting_cell}
use Rattle.agreement.proofs.history.Ghost.{Match, still, marked, Disk}
use Rattle.agreement.proofs.history.VersionLaws.{newest_at}
use Rattle.agreement.proofs.invariant.Invariant.{Up}
use Rattle.agreement.proofs.invariant.MediumFacts.{cell_cached}
use Rattle.agreement.proofs.logging.GrowthLaws.{fits_up}
use Rattle.agreement.proofs.transactions.ActiveLaws.{all_wait}
use Rattle.agreement.proofs.transactions.WriteLaws.{newest_is}
use Rattle.agreement.proofs.relief.Active.{Alike}

-- ---- which question was answered "no"

full_of : (r : Refusal) → refusal_number r ≡ 8 → r ≡ LogFull
unfolding refusal_number
full_of BadSizes e = absurd (omega arith)
full_of BadCache e = absurd (omega arith)
full_of Malformed e = absurd (omega arith)
full_of NoPlace e = absurd (omega arith)
full_of NotActive e = absurd (omega arith)
full_of Held e = absurd (omega arith)
full_of NoSlot e = absurd (omega arith)
full_of LogFull e = refl
full_of NoTime e = absurd (omega arith)
full_of NotYet e = absurd (omega arith)
full_of NoPage e = absurd (omega arith)
full_of NotLogged e = absurd (omega arith)
full_of Unchanged e = absurd (omega arith)
full_of ShortBuffer e = absurd (omega arith)
full_of NoNumber e = absurd (omega arith)
full_of Unfit e = absurd (omega arith)
full_of NoRecord e = absurd (omega arith)

done_number : (a : Result Answer Refusal) → is_refused a ≡ false → answer_number a ≡ 0
unfolding answer_number
done_number (Err r) h = absurd (false≢true (sym h))
done_number (Ok Done) h = refl
done_number (Ok (Begun n)) h = refl
done_number (Ok (Written n)) h = refl
done_number (Ok (Committed t)) h = refl
done_number (Ok (Opened t)) h = refl
done_number (Ok Missing) h = refl
done_number (Ok Erased) h = refl
done_number (Ok Present) h = refl
done_number (Ok (Listed n)) h = refl

pub record Filled (m c : List ℕ) (s : State) (x : Call) (o : Outcome) : Type 0 where
  pub no : ask (asks m c s x) ≡ Some LogFull
  pub stays : after o ≡ up m c s

pub full_way : {m c : List ℕ} {s : State} {x : Call} {o : Outcome} → Way m c s x o → answer_number o.answer ≡ 8
    → Filled m c s x o
unfolding answer_number write_step commit_step store_log_if store_page_if checkpoint_step
full_way (refused k r w) e = record { no = w ∙ ap Some (full_of r e); stays = refl }
full_way (begins clock i p w) e = absurd (omega arith)
full_way (writes n key i v p w) e = absurd (omega arith)
full_way (erases n key i p w) e = absurd (omega arith)
full_way (looks k a v b h p n w) e = absurd (omega (arith, done_number a n))
full_way (commits n clock i p w z) e = absurd (omega arith)
full_way (ends n clock i p w z) e = absurd (omega arith)
full_way (aborts n i p w) e = absurd (omega arith)
full_way (logs p) e = absurd (omega arith)
full_way (pages n p) e = absurd (omega arith)
full_way (checks Idle p w) e = absurd (omega arith)
full_way (checks (FirstStored n t) p w) e = absurd (omega arith)
full_way (checks (SecondStored n t) p w) e = absurd (omega arith)

-- all were answered "yes"
pub done_way : {m c : List ℕ} {s : State} {x : Call} {o : Outcome} → Way m c s x o → Passed (asks m c s x)
    → answer_number o.answer ≡ 0
unfolding answer_number write_step commit_step store_log_if store_page_if checkpoint_step
done_way {m} {c} {s} (refused k r w) e =
    let h = passes (asks m c s k) e in let z : ◌≡◌ {A = ℕ} 0 1 = cc in absurd (omega arith)
done_way (begins clock i p w) e = refl
done_way (writes n key i v p w) e = refl
done_way (erases n key i p w) e = refl
done_way (looks k a v b h p n w) e = done_number a n
done_way (commits n clock i p w z) e = refl
done_way (ends n clock i p w z) e = refl
done_way (aborts n i p w) e = refl
done_way (logs p) e = refl
done_way (pages n p) e = refl
done_way (checks Idle p w) e = refl
done_way (checks (FirstStored n t) p w) e = refl
done_way (checks (SecondStored n t) p w) e = refl

-- those before question 8 were answered "yes"
before_write : (v k w x y z : Bool) → ask ((v, Unfit) ∷ (k, NoRecord) ∷ (w, NotActive) ∷ (x, Held) ∷ (y, NoSlot)
    ∷ (z, LogFull) ∷ []) ≡ Some LogFull
    → (k ≡ true) × (w ≡ true) × (x ≡ true) × (y ≡ true)
before_write true true true true true z e = (refl, refl, refl, refl)
before_write true true true true false z e = let o : ◌≡◌ {A = ℕ} 0 1 = cc in absurd (omega arith)
before_write true true true false y z e = let o : ◌≡◌ {A = ℕ} 0 1 = cc in absurd (omega arith)
before_write true true false x y z e = let o : ◌≡◌ {A = ℕ} 0 1 = cc in absurd (omega arith)
before_write true false w x y z e = let o : ◌≡◌ {A = ℕ} 0 1 = cc in absurd (omega arith)
before_write false k w x y z e = let o : ◌≡◌ {A = ℕ} 0 1 = cc in absurd (omega arith)

before_commit : (v w x z : Bool) → ask ((v, Unfit) ∷ (w, NotActive) ∷ (x, NoTime) ∷ (z, LogFull) ∷ []) ≡ Some LogFull
    → (w ≡ true) × (x ≡ true)
before_commit true true true z e = (refl, refl)
before_commit true true false z e = let o : ◌≡◌ {A = ℕ} 0 1 = cc in absurd (omega arith)
before_commit true false x z e = let o : ◌≡◌ {A = ℕ} 0 1 = cc in absurd (omega arith)
before_commit false w x z e = let o : ◌≡◌ {A = ℕ} 0 1 = cc in absurd (omega arith)

-- the other calls are never asked it
abbrev is_full : Refusal → Bool
is_full BadSizes = false
is_full BadCache = false
is_full Malformed = false
is_full NoPlace = false
is_full NotActive = false
is_full Held = false
is_full NoSlot = false
is_full LogFull = true
is_full NoTime = false
is_full NotYet = false
is_full NoPage = false
is_full NotLogged = false
is_full Unchanged = false
is_full ShortBuffer = false
is_full NoNumber = false
is_full Unfit = false
is_full NoRecord = false

never : (qs : List (Bool × Refusal)) → Each (λ (q : Bool × Refusal). is_full q.1 ≡ false) qs → ask qs ≡ Some LogFull → ⊥
never [] h e = let o : ◌≡◌ {A = ℕ} 0 1 = cc in omega arith
never ((true, r) ∷ qs) h e = never qs h.1 e
never ((false, r) ∷ qs) h e = let f : r ≡ LogFull = cc in false≢true (sym h.0 ∙ ap is_full f)

-- ---- a record that is held

-- the newest version's number is another, and active
abbrev pub holder : Option ℕ → List LoggedVersion → List Place → ℕ → Bool
holder None vs ps n = false
holder (Some y) vs ps n = not (eqb (at vs y).num n) && is_at (find_active ps (at vs y).num)

module _ {l d : ℕ} {m c : List ℕ} {s : State} {b : Book} {disk : Disk} {closed : List (List Record)}
    {tail : List Record} (u : Up l d m c s b disk closed tail) where
  abbrev pub vs : List LoggedVersion
  vs = versions_of (closed ++ (tail ∷ []))

  pub held_is : (key n : ℕ) → held c s.places s.slots key n ≡ holder (newest_of vs key (length vs)) vs s.places n
  unfolding held
  held_is key n = ap (λ (f : Option ℕ). held_at f c s.places n) (newest_is u key) ∙ go (newest_of vs key (length vs)) refl
    where
      not_active : (x : ℕ) (f : Option ℕ) → find_active s.places x ≡ f → ((i : ℕ) → find_active s.places x ≡ Some i → ⊥)
          → is_at f ≡ false
      not_active x None e h = refl
      not_active x (Some i) e h = absurd (h i e)

      by : (y : ℕ) → (v : LoggedVersion) (z : Cell) → Match (commits_of disk.stored) v z
          → ((i : ℕ) → find_active s.places v.num ≡ Some i → z ≡ waiting_cell v)
          → held_as z.state s.places n ≡ not (eqb v.num n) && is_at (find_active s.places v.num)
      by y v z still h = refl
      by y v z (marked t a e) h =
          sym (rw (not_active v.num (find_active s.places v.num) refl
          (λ i q. let w = ap (λ (x : Cell). x.state) (h i q) in let o : ◌≡◌ {A = ℕ} 0 1 = cc in omega arith))
          (and-false (not (eqb v.num n))))

      go : (f : Option ℕ) → newest_of vs key (length vs) ≡ f → held_at f c s.places n ≡ holder f vs s.places n
      go None e = refl
      go (Some y) e =
          let w = newest_at vs key (length vs) y e in
          ap (λ (z : Cell). held_as z.state s.places n) (cell_cached u.medium u.cache y w.below)
          ∙ by y (at vs y) (cell disk.cells y) (u.medium.pages.slots.match y w.below)
          (λ i q. all_wait u (at vs y).num i q y w.below refl)

-- ---- the same call

pub active_there : (ps : List Place) (x i : ℕ) → find_active ps x ≡ Some i → active_as (place_at ps i).life x ≡ true
unfolding find_active
active_there ps x i e = (first_found (λ j. active_as (place_at ps j).life x) 64 0 i e).2

module _ {l d : ℕ} {m c n a : List ℕ} {s t : State} {b b' : Book} {disk disk' : Disk} {closed : List (List Record)}
    {tail : List Record}
    (u : Up l d m c s b disk closed tail) (w : Up l d n a t b' disk' closed tail) (same : Alike s t)
    (room : (size : ℕ) → may_log t n size ≡ true) where
  held_same : (key x : ℕ) → held a t.places t.slots key x ≡ held c s.places s.slots key x
  held_same key x = held_is w key x ∙ go (newest_of (vs u) key (length (vs u))) ∙ sym (held_is u key x)
    where
      go : (f : Option ℕ) → holder f (vs u) t.places x ≡ holder f (vs u) s.places x
      go None = refl
      go (Some y) = rw (same.active (at (vs u) y).num)

  slots_same : t.slots ≡ s.slots
  slots_same = w.state.slots ∙ sym u.state.slots

  pages_same : t.pages ≡ s.pages
  pages_same = w.state.pages ∙ sym u.state.pages

  last_same : t.last.0 ≡ s.last.0
  last_same = w.state.last ∙ sym u.state.last

  none_same : (x : ℕ) → no_versions (find_active t.places x) t ≡ no_versions (find_active s.places x) s
  none_same x = rw (same.active x) (go (find_active s.places x) refl)
    where
      go : (f : Option ℕ) → find_active s.places x ≡ f → no_versions f t ≡ no_versions f s
      go None e = refl
      go (Some i) e = ap (λ (p : Place). eqb p.waiting 0) (same.place i x (active_there s.places x i e))

  write_passes : (x key : ℕ) → ask (write_asks s m c x key) ≡ Some LogFull → Passed (write_asks t n a x key)
  write_passes x key e =
      let p = before_write (fits s (length m) (length c)) (key_form key) (is_at (find_active s.places x))
      (not (held c s.places s.slots key x)) (ltb s.slots (15 * s.pages)) (may_log s m 34) e in (
        fits_up w,
        (p.0, (rw (same.active x) p.1, (rw (held_same key x) p.2, (rw (slots_same, pages_same) p.3, (room 34, tt))))),
      )

  commit_passes : (x : ℕ) → ask (commit_asks s m c x) ≡ Some LogFull → Passed (commit_asks t n a x)
  commit_passes x e =
      let p = before_commit (fits s (length m) (length c)) (is_at (find_active s.places x))
      (no_versions (find_active s.places x) s || ltb s.last.0 (2 ^ 64 - 1))
      (no_versions (find_active s.places x) s || may_log s m 19) e in (
        fits_up w,
        (
          rw (same.active x) p.0,
          (
            rw (none_same x, last_same) p.1,
            (rw (room 19) (or-true (no_versions (find_active t.places x) t)), tt),
          ),
        ),
      )

  passes_again : (x : Call) → ask (asks m c s x) ≡ Some LogFull → Passed (asks n a t x)
  passes_again (begin y) e = absurd (never (asks m c s (begin y)) (refl, (refl, (refl, tt))) e)
  passes_again (write y key v) e = write_passes y key e
  passes_again (erase y key) e = write_passes y key e
  passes_again (current_read y key) e =
      absurd (never (asks m c s (current_read y key)) (refl, (refl, (refl, (refl, tt)))) e)
  passes_again (commit y clock) e = commit_passes y e
  passes_again (abort y) e = absurd (never (asks m c s (abort y)) (refl, (refl, tt)) e)
  passes_again (as_of key y) e = absurd (never (asks m c s (as_of key y)) (refl, (refl, (refl, tt))) e)
  passes_again (changes key y z v) e =
      absurd (never (asks m c s (changes key y z v)) (refl, (refl, (refl, (refl, tt)))) e)
  passes_again store_log e = absurd (never (asks m c s store_log) (refl, (refl, tt)) e)
  passes_again (store_page p) e = absurd (never (asks m c s (store_page p)) (refl, (refl, (refl, (refl, tt)))) e)
  passes_again checkpoint e = absurd (never (asks m c s checkpoint) (refl, tt) e)

  pub done_again : (x : Call) → answer_number (called m c s x).answer ≡ 8 → answer_number (called n a t x).answer ≡ 0
  done_again x e = done_way (way n a t x) (passes_again x (full_way (way m c s x) e).no)
