-- The questions put to a call, and how it ends. It passes when every answer is "yes", and its refusal is that of the
-- first "no", by induction on the list of questions; so a call ends refused by its first "no", or by its step once all
-- are passed.
use Rattle.layout.specs.declared.CommitTime.{CommitTime}
use Rattle.std.specs.Prelude.{Option, None, Some, Err, Ok, Result}
use Prim.Native.Nat.{ℕ}
use native.Mathlib.Omega.{arith}
use mathlib.Core.Path.{◌≡◌, refl, ap}
use mathlib.Core.Bool.{Bool, true, false}
use mathlib.Core.List.{List, [], ◌∷◌}
use lib.ListN.{length}
use lib.Dec.{eqb}
use Rattle.fields.specs.Block.{zeros}
use Rattle.fields.specs.Part.{splice}
use Rattle.fields.specs.Cells.{flat}
use Rattle.layout.specs.Slot.{Cell}
use Rattle.fields.proofs.Choose.{cond_elim}
use Rattle.fields.proofs.PartLaws.{length_splice}
use Rattle.store.specs.declared.Answer.{Answer}
use Rattle.store.specs.declared.Answer.TheVariants.{Done, Begun, Written, Committed, Opened, Missing, Erased, Present, Listed}
use Rattle.store.specs.declared.Phase.{Phase}
use Rattle.store.specs.declared.Refusal.{Refusal}
use Rattle.store.specs.declared.State.{State}
use Rattle.store.specs.Answer.{Outcome, leaves, ask}
use Rattle.store.proofs.AskLaws.{Passed, passed}
use Rattle.store.specs.Places.{is_at, find_active, find_free, free_place, place_at, ring_place, time_under}
use Rattle.store.specs.State.{with_place}
use Rattle.store.specs.Chain.{newest, cell_at, visible_of, best_of}
use Rattle.store.specs.Begin.{begin_asks, begun, begin_at, begin_if, begin_of}
use Rattle.store.specs.Write.{write_asks, new_head, write_step, write_at, write_if, add_of, write_of}
use Rattle.store.specs.Erase.{erase_of}
use Rattle.store.specs.CurrentRead.{current_asks, read_cell, current_at, current_if, current_of}
use Rattle.store.specs.Commit.{commit_asks, commit_time, commit_step, commit_at, commit_if, commit_of}
use Rattle.store.specs.Abort.{abort_asks, abort_at, abort_if, abort_of}
use Rattle.store.specs.AsOf.{as_of_asks, as_of_at, as_of_if, as_of_of}
use Rattle.store.specs.Changes.{line_bytes, changes_asks, change_lines, changes_if, changes_of}
use Rattle.store.specs.StoreLog.{store_log_asks, store_log_if, store_log_of}
use Rattle.store.specs.StorePage.{store_page_asks, store_page_if, store_page_of}
use Rattle.store.specs.Checkpoint.{checkpoint_asks, checkpoint_step, checkpoint_if, checkpoint_of}
use Rattle.runs.specs.Event.{Call, begin, write, erase, current_read, commit, abort, as_of, changes, store_log}
use Rattle.runs.specs.Event.{store_page, checkpoint}
use Rattle.runs.specs.Machine.{called}

-- ---- the first "no": those before it are "yes"

pub data Stops (r : Refusal) : List (Bool × Refusal) → Type 0 where
  here : {b : Bool} {qs : List (Bool × Refusal)} → b ≡ false → Stops r ((b, r) ∷ qs)
  later : {q : Bool × Refusal} {qs : List (Bool × Refusal)} → q.0 ≡ true → Stops r qs → Stops r (q ∷ qs)

pub stops : (qs : List (Bool × Refusal)) (r : Refusal) → ask qs ≡ Some r → Stops r qs
stops [] r e = let z : ◌≡◌ {A = ℕ} 0 1 = cc in absurd (omega arith)
stops ((true, n) ∷ qs) r e = later refl (stops qs r e)
stops ((false, n) ∷ qs) r e = let h : n ≡ r = cc in rw h (here refl)

pub stopped : (qs : List (Bool × Refusal)) (r : Refusal) → Stops r qs → ask qs ≡ Some r
stopped qs r s = go s
  where
    go : {qs : List (Bool × Refusal)} → Stops r qs → ask qs ≡ Some r
    go (here e) = rw e
    go (later e t) = rw e (go t)

-- what holds for each refusal, and where all are passed, holds of the outcome of the questions
pub asked : (P : Option Refusal → Type 0) (qs : List (Bool × Refusal)) → ((r : Refusal) → ask qs ≡ Some r → P (Some r))
    → (Passed qs → P None) → P (ask qs)
asked P qs f g = go (ask qs) refl
  where
    go : (a : Option Refusal) → ask qs ≡ a → P a
    go (Some r) e = f r e
    go None e = g (passed qs e)

-- what was found, where a question asked for it
pub found : (P : Option ℕ → Type 0) (f : Option ℕ) → is_at f ≡ true → ((i : ℕ) → f ≡ Some i → P (Some i)) → P f
found P (Some i) h g = g i refl
found P None h g = let z : ◌≡◌ {A = ℕ} 0 1 = cc in absurd (omega arith)

-- ---- an answer that is no refusal

abbrev pub is_refused : Result Answer Refusal → Bool
is_refused (Err r) = true
is_refused (Ok Done) = false
is_refused (Ok (Begun n)) = false
is_refused (Ok (Written k)) = false
is_refused (Ok (Committed t)) = false
is_refused (Ok (Opened t)) = false
is_refused (Ok Missing) = false
is_refused (Ok Erased) = false
is_refused (Ok Present) = false
is_refused (Ok (Listed k)) = false

pub not_refused : {A : Type 0} {a : Result Answer Refusal} {r : Refusal} → is_refused a ≡ false → a ≡ Err r → A
not_refused {a = a} h e = let k = ap is_refused e in let z : ◌≡◌ {A = ℕ} 0 1 = cc in absurd (omega arith)

-- ---- the ways in which a call ends

-- the questions put to a call, and the answer buffer that it was given
abbrev pub asks : List ℕ → List ℕ → State → Call → List (Bool × Refusal)
asks m c s (begin k) = begin_asks s m c
asks m c s (write n key v) = write_asks s m c n key
asks m c s (erase n key) = write_asks s m c n key
asks m c s (current_read n key) = current_asks s m c n key
asks m c s (commit n k) = commit_asks s m c n
asks m c s (abort n) = abort_asks s m c n
asks m c s (as_of key t) = as_of_asks s m c key t
asks m c s (changes key t1 t2 b) = changes_asks s m c key t1 t2 (length b)
asks m c s store_log = store_log_asks s m c
asks m c s (store_page p) = store_page_asks s m c p
asks m c s checkpoint = checkpoint_asks s m c

abbrev pub given : Call → List ℕ
given (begin k) = []
given (write n key v) = []
given (erase n key) = []
given (current_read n key) = []
given (commit n k) = []
given (abort n) = []
given (as_of key t) = []
given (changes key t1 t2 b) = b
given store_log = []
given (store_page p) = []
given checkpoint = []

-- the call is a read or a list
abbrev pub is_reading : Call → Bool
is_reading (begin k) = false
is_reading (write n key v) = false
is_reading (erase n key) = false
is_reading (current_read n key) = true
is_reading (commit n k) = false
is_reading (abort n) = false
is_reading (as_of key t) = true
is_reading (changes key t1 t2 b) = true
is_reading store_log = false
is_reading (store_page p) = false
is_reading checkpoint = false

-- an outcome that leaves state, medium and cache: a refusal's, a read's or a list's
abbrev pub told : Result Answer Refusal → List ℕ → List ℕ → State → List ℕ → List ℕ → Outcome
told a v b s m c = record { answer = a; value = v; state = s; medium = m; cache = c; buffer = b }

-- what was asked and found, and what the call then leaves
pub data Way (m c : List ℕ) (s : State) : Call → Outcome → Type 0 where
  refused : (k : Call) (r : Refusal) → ask (asks m c s k) ≡ Some r
      → Way m c s k (told (Err r) (zeros 16) (given k) s m c)
  begins : (clock i : ℕ) → Passed (begin_asks s m c) → find_free s.places s.ring ≡ Some i
      → Way m c s (begin clock) (leaves (Ok (Begun s.next)) (begun s (ring_place s.ring i) clock) m c)
  writes : (n key i : ℕ) (v : List ℕ) → Passed (write_asks s m c n key) → find_active s.places n ≡ Some i
      → Way m c s (write n key v) (write_step s m c i (new_head s c n key 0) v)
  erases : (n key i : ℕ) → Passed (write_asks s m c n key) → find_active s.places n ≡ Some i
      → Way m c s (erase n key) (write_step s m c i (new_head s c n key 1) (zeros 16))
  looks : (k : Call) (a : Result Answer Refusal) (v b : List ℕ) → is_reading k ≡ true → Passed (asks m c s k) → is_refused a ≡ false
      → length b ≡ length (given k) → Way m c s k (told a v b s m c)
  commits : (n clock i : ℕ) → Passed (commit_asks s m c n) → find_active s.places n ≡ Some i
      → eqb (place_at s.places i).waiting 0 ≡ false
      → Way m c s (commit n clock) (commit_step s m c i n (commit_time s i clock))
  ends : (n clock i : ℕ) → Passed (commit_asks s m c n) → find_active s.places n ≡ Some i
      → eqb (place_at s.places i).waiting 0 ≡ true
      → Way m c s (commit n clock) (leaves (Ok Done) (with_place s i free_place) m c)
  aborts : (n i : ℕ) → Passed (abort_asks s m c n) → find_active s.places n ≡ Some i
      → Way m c s (abort n) (leaves (Ok Done) (with_place s i free_place) m c)
  logs : Passed (store_log_asks s m c) → Way m c s store_log (store_log_if None s m c)
  pages : (p : ℕ) → Passed (store_page_asks s m c p) → Way m c s (store_page p) (store_page_if None s m c p)
  checks : (ph : Phase) → Passed (checkpoint_asks s m c) → s.phase ≡ ph
      → Way m c s checkpoint (checkpoint_step ph s m c)

module _ (m c : List ℕ) (s : State) where
  begin_way : (clock : ℕ) → Way m c s (begin clock) (begin_of s m c clock)
  unfolding begin_of begin_if
  begin_way clock =
      asked (λ (a : Option Refusal). Way m c s (begin clock) (begin_if a s m c clock))
      (begin_asks s m c) (refused (begin clock)) (λ p.
      found (λ (f : Option ℕ). Way m c s (begin clock) (begin_at f s m c clock))
      (find_free s.places s.ring) p.1.1.0 (λ i e.
      begins clock i p e))

  write_way : (n key : ℕ) (v : List ℕ) → Way m c s (write n key v) (write_of s m c n key v)
  unfolding write_of add_of write_if
  write_way n key v =
      asked (λ (a : Option Refusal). Way m c s (write n key v) (write_if a s m c n key 0 v))
      (write_asks s m c n key) (refused (write n key v)) (λ p.
      found (λ (f : Option ℕ). Way m c s (write n key v) (write_at f s m c (new_head s c n key 0) v))
      (find_active s.places n) p.1.1.0 (λ i e.
      writes n key i v p e))

  erase_way : (n key : ℕ) → Way m c s (erase n key) (erase_of s m c n key)
  unfolding erase_of add_of write_if
  erase_way n key =
      asked (λ (a : Option Refusal). Way m c s (erase n key) (write_if a s m c n key 1 (zeros 16)))
      (write_asks s m c n key) (refused (erase n key)) (λ p.
      found (λ (f : Option ℕ). Way m c s (erase n key) (write_at f s m c (new_head s c n key 1) (zeros 16)))
      (find_active s.places n) p.1.1.0 (λ i e.
      erases n key i p e))

  -- a version that is read, of either kind
  cell_way : (k : Call) (x : Cell) → is_reading k ≡ true → given k ≡ [] → Passed (asks m c s k)
      → Way m c s k (read_cell x s m c)
  unfolding read_cell
  cell_way k x h b p =
      cond_elim (Way m c s k) (eqb x.kind 1) (λ t. looks k (Ok Erased) (zeros 16) [] h p refl (rw b))
      (λ t. looks k (Ok Present) x.value [] h p refl (rw b))

  current_way : (n key : ℕ) → Way m c s (current_read n key) (current_of s m c n key)
  unfolding current_of current_if
  current_way n key =
      asked (λ (a : Option Refusal). Way m c s (current_read n key) (current_if a s m c n key))
      (current_asks s m c n key) (refused (current_read n key)) (λ p.
      at (visible_of (newest c key s.slots) c (time_under s.places) n) p)
    where
      at : (f : Option ℕ) → Passed (current_asks s m c n key) → Way m c s (current_read n key) (current_at f s m c)
      at None p = looks (current_read n key) (Ok Missing) (zeros 16) [] refl p refl refl
      at (Some i) p = cell_way (current_read n key) (cell_at c i) refl refl p

  as_of_way : (key t : ℕ) → Way m c s (as_of key t) (as_of_of s m c key t)
  unfolding as_of_of as_of_if
  as_of_way key t =
      asked (λ (a : Option Refusal). Way m c s (as_of key t) (as_of_if a s m c key t))
      (as_of_asks s m c key t) (refused (as_of key t)) (λ p.
      at (best_of (newest c key s.slots) c (time_under s.places) t) p)
    where
      at : (f : Option (ℕ × CommitTime)) → Passed (as_of_asks s m c key t) → Way m c s (as_of key t) (as_of_at f s m c)
      at None p = looks (as_of key t) (Ok Missing) (zeros 16) [] refl p refl refl
      at (Some (n, u)) p = cell_way (as_of key t) (cell_at c n) refl refl p

  commit_way : (n clock : ℕ) → Way m c s (commit n clock) (commit_of s m c n clock)
  unfolding commit_of commit_if
  commit_way n clock =
      asked (λ (a : Option Refusal). Way m c s (commit n clock) (commit_if a s m c n clock))
      (commit_asks s m c n) (refused (commit n clock)) (λ p.
      found (λ (f : Option ℕ). Way m c s (commit n clock) (commit_at f s m c n clock))
      (find_active s.places n) p.1.0 (λ i e.
      cond_elim (Way m c s (commit n clock)) (eqb (place_at s.places i).waiting 0)
      (ends n clock i p e) (commits n clock i p e)))

  abort_way : (n : ℕ) → Way m c s (abort n) (abort_of s m c n)
  unfolding abort_of abort_if
  abort_way n =
      asked (λ (a : Option Refusal). Way m c s (abort n) (abort_if a s m c n))
      (abort_asks s m c n) (refused (abort n)) (λ p.
      found (λ (f : Option ℕ). Way m c s (abort n) (abort_at f s m c))
      (find_active s.places n) p.1.0 (λ i e.
      aborts n i p e))

  changes_way : (key t1 t2 : ℕ) (b : List ℕ) → Way m c s (changes key t1 t2 b) (changes_of s m c b key t1 t2)
  unfolding changes_of changes_if
  changes_way key t1 t2 b =
      let ls = change_lines s c key t1 t2 in
      asked (λ (a : Option Refusal). Way m c s (changes key t1 t2 b) (changes_if a s m c b ls))
      (changes_asks s m c key t1 t2 (length b)) (refused (changes key t1 t2 b)) (λ p.
      looks (changes key t1 t2 b) (Ok (Listed (length ls))) (zeros 16) (splice b 0 (flat line_bytes ls)) refl p refl
      (length_splice b 0 (flat line_bytes ls)))

  store_log_way : Way m c s store_log (store_log_of s m c)
  unfolding store_log_of store_log_if
  store_log_way =
      asked (λ (a : Option Refusal). Way m c s store_log (store_log_if a s m c)) (store_log_asks s m c)
      (refused store_log) logs

  store_page_way : (p : ℕ) → Way m c s (store_page p) (store_page_of s m c p)
  unfolding store_page_of store_page_if
  store_page_way p =
      asked (λ (a : Option Refusal). Way m c s (store_page p) (store_page_if a s m c p))
      (store_page_asks s m c p) (refused (store_page p)) (pages p)

  checkpoint_way : Way m c s checkpoint (checkpoint_of s m c)
  unfolding checkpoint_of checkpoint_if
  checkpoint_way =
      asked (λ (a : Option Refusal). Way m c s checkpoint (checkpoint_if a s m c))
      (checkpoint_asks s m c) (refused checkpoint) (λ p. checks s.phase p refl)

  pub way : (k : Call) → Way m c s k (called m c s k)
  unfolding called
  way (begin k) = begin_way k
  way (write n key v) = write_way n key v
  way (erase n key) = erase_way n key
  way (current_read n key) = current_way n key
  way (commit n k) = commit_way n k
  way (abort n) = abort_way n
  way (as_of key t) = as_of_way key t
  way (changes key t1 t2 b) = changes_way key t1 t2 b
  way store_log = store_log_way
  way (store_page p) = store_page_way p
  way checkpoint = checkpoint_way
