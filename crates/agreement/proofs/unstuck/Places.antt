-- The places once the log is freed, and once all active transactions are aborted. No committed one is live then, since
-- none of its versions waits any more; so what is left are the active ones, and each abort frees its own place.
use Rattle.std.specs.Prelude.{Some, Ok}
use Prim.Native.Nat.{ℕ, suc, ◌+◌, ◌^◌, ◌≤◌, ◌<◌}
use native.Mathlib.Omega.{arith}
use mathlib.Core.Path.{◌≡◌, refl, sym, ap, ◌∙◌, subst}
use mathlib.Core.Logic.{◌⊎◌, inl, inr, ◌≢◌}
use mathlib.Core.Bool.{true, false, false≢true}
use mathlib.Core.List.{List, [], ◌∷◌, ◌++◌}
use lib.ListN.{length, set}
use borrow.Author.Tests.{eq-eqb, lt-ltb}
use Rattle.layout.specs.Journal.{Record, sequence_of}
use Rattle.layout.specs.Master.{oldest_on}
use Rattle.layout.specs.Slot.{Cell}
use Rattle.layout.specs.declared.CommitTime.{CommitTime}
use Rattle.layout.specs.declared.EndPlace.{EndPlace}
use Rattle.layout.specs.declared.TxNumber.{TxNumber}
use Rattle.store.specs.declared.Answer.TheVariants.{Done}
use Rattle.store.specs.declared.Life.{Life}
use Rattle.store.specs.declared.Life.TheVariants.{Free, Active, Committed}
use Rattle.store.specs.declared.Place.{Place}
use Rattle.store.specs.declared.State.{State}
use Rattle.store.specs.Answer.{Outcome, leaves, answer_number}
use Rattle.store.specs.Places.{place_at, active_as, find_active, free_place}
use Rattle.store.specs.State.{with_place}
use Rattle.store.specs.Abort.{abort_if, abort_of}
use Rattle.runs.specs.Event.{Call, call, abort, call_typed, typed}
use Rattle.runs.specs.Book.{Book}
use Rattle.runs.specs.Machine.{World, up, called, seen_of, step}
use Rattle.runs.specs.Unstuck.{aborts_of}
use Rattle.runs.specs.Unstuck.{abort_of as end_of}
use Rattle.agreement.proofs.history.Ghost.{commits_of, find, Disk}
use Rattle.agreement.proofs.history.ListLaws.{same?}
use Rattle.agreement.proofs.invariant.Invariant.{life_num, life_time, Formed, num_at, time_at, Up, Inv, running}
use Rattle.agreement.proofs.invariant.MediumFacts.{waiting_slot}
use Rattle.agreement.proofs.invariant.PlaceFacts.{active_finds, life_low}
use Rattle.agreement.proofs.transactions.ActiveLaws.{active_high}
use Rattle.agreement.proofs.invariant.PlaceSet.{place_at_same, place_at_other}
use Rattle.agreement.proofs.logging.GrowthLaws.{fits_up}
use Rattle.agreement.proofs.relief.Calls.{Freed}
use Rattle.agreement.proofs.relief.Again.{active_there}
use Rattle.agreement.proofs.relief.Leads.{Leads, leads_none, leads_call}
use Rattle.agreement.proofs.Main.{keeps}

-- what is left of a place: an active one
abbrev pub left : Life → Life
left Free = Free
left (Active n k) = Active n k
left (Committed n t e) = Free

-- ---- no committed one is live

module _ {l d : ℕ} {m c n a : List ℕ} {s t : State} {b b' : Book} {disk disk' : Disk} {closed : List (List Record)}
    {tail : List Record}
    (u : Up l d m c s b disk closed tail) (w : Up l d n a t b' disk' closed tail)
    (f : Freed l d closed tail s disk' n t) where
  not_committed : (i : ℕ) → i < 64 → 0 < time_at t.places i → ⊥
  not_committed i h z =
      let x = w.living.each i h in
      let low : 0 < num_at t.places i = life_low (place_at t.places i).life x.formed z in
      let (y, lt, num, cell-is) = waiting_slot w.medium (num_at t.places i) (omega (arith, x.busy z, x.waits low)) in
      let q : (find (commits_of (closed ++ (tail ∷ []))) (num_at t.places i)).time ≡ 0 =
      rw num at (f.clear.quiet y (omega (arith, w.medium.pages.slots.room)) _
      (ap (λ (v : Cell). v.state) cell-is)) in
      omega (arith, x.over z, q)

  -- a place that was not active is not now
  idle : (i : ℕ) → i < 64 → ((x : ℕ) → active_as (place_at s.places i).life x ≡ false) → (y : Life)
      → (place_at t.places i).life ≡ y → y ≡ Free
  idle i h z Free e = refl
  idle i h z (Committed v o q) e =
      absurd (not_committed i h (omega (
        arith,
        ap life_time e,
        committed_time v o q (subst Formed e (w.living.each i h).formed),
      )))
    where
      committed_time : (v : TxNumber) (o : CommitTime) (q : EndPlace) → Formed (Committed v o q)
          → 0 < life_time (Committed v o q)
      committed_time v o q r = r.1
  idle i h z (Active v o) e =
      let r : Formed (Active v o) = subst Formed e (w.living.each i h).formed in
      let x : find_active s.places v.0 ≡ Some i = sym (f.clear.alike.active v.0)
      ∙ active_finds w.living v.0 i h r (ap life_num e) (ap life_time e) in
      absurd (false≢true (sym (z v.0) ∙ active_there s.places v.0 i x))

  pub remains : (i : ℕ) → i < 64 → (place_at t.places i).life ≡ left (place_at s.places i).life
  remains i h = go (place_at s.places i).life refl
    where
      go : (x : Life) → (place_at s.places i).life ≡ x → (place_at t.places i).life ≡ left x
      go (Active v o) e =
          ap (λ (p : Place). p.life) (f.clear.alike.place i v.0
          (ap (λ (x : Life). active_as x v.0) e ∙ eq-eqb v.0 v.0 refl)) ∙ e
      go Free e = idle i h (λ x. ap (λ (y : Life). active_as y x) e) (place_at t.places i).life refl
      go (Committed v o q) e = idle i h (λ x. ap (λ (y : Life). active_as y x) e) (place_at t.places i).life refl

-- ---- a running store, and what holds of its medium and state

pub data Standing (l d : ℕ) (P : List ℕ → State → Type 0) : World → Type 0 where
  stands : (m c : List ℕ) (s : State) (b : Book) (disk : Disk) (closed : List (List Record)) (tail : List Record)
      → Up l d m c s b disk closed tail → P m s → Standing l d P (up m c s)

pub standing : (l d : ℕ) (P : List ℕ → State → Type 0) (m c : List ℕ) (s : State) (b : Book) → Inv l d (up m c s) b
    → P m s → Standing l d P (up m c s)
standing l d P m c s b (running u) p = stands m c s b _ _ _ u p

-- a call with outcome o
pub called_on : (l d : ℕ) (P : List ℕ → State → Type 0) (m c : List ℕ) (s : State) (b : Book) → Inv l d (up m c s) b
    → (x : Call) → call_typed x ≡ true
    → (o : Outcome) → called m c s x ≡ o → P o.medium o.state → Standing l d P (step l d (up m c s) (call x)).world
unfolding step typed
called_on l d P m c s b i x t o e p =
    standing l d P (called m c s x).medium (called m c s x).cache (called m c s x).state _
    (keeps l d (up m c s) b (call x) i refl t).1 (rw e p)

-- r is the state at the start: log, slots, times and numbers are as they were
pub record Same (r : State) (m : List ℕ) (s : State) : Type 0 where
  pub oldest : oldest_on m ≡ sequence_of s.tail
  pub tail : s.tail ≡ r.tail
  pub slots : s.slots ≡ r.slots
  pub last : s.last.0 ≡ r.last.0
  pub next : s.next ≡ r.next

-- the places below i are free, of the others the active ones are left
pub record Emptied (r : State) (i : ℕ) (m : List ℕ) (s : State) : Type 0 where
  pub same : Same r m s
  pub free : (j : ℕ) → j < i → (place_at s.places j).life ≡ Free
  pub rest : (j : ℕ) → i ≤ j → j < 64 → (place_at s.places j).life ≡ left (place_at r.places j).life

module _ {l d : ℕ} {m c : List ℕ} {s : State} {b : Book} {disk : Disk} {closed : List (List Record)}
    {tail : List Record} (u : Up l d m c s b disk closed tail) where
  abort_done : (x i : ℕ) → find_active s.places x ≡ Some i → called m c s (abort x)
      ≡ leaves (Ok Done) (with_place s i free_place) m c
  unfolding called abort_of abort_if
  abort_done x i e = rw (fits_up u, e) (rw e)

  -- an active place is freed by its abort
  freed : (r : State) (i : ℕ) → i < 64 → Emptied r i m s → Emptied r (i + 1) m (with_place s i free_place)
  unfolding with_place
  freed r i h e = record {
    same =
        record {
          oldest = e.same.oldest;
          tail = e.same.tail;
          slots = e.same.slots;
          last = e.same.last;
          next =
              e.same.next;
        };
    free = λ j g. below j g (same? j i);
    rest =
        λ j g z. ap (λ (p : Place). p.life) (place_at_other s.places i j free_place (omega arith))
        ∙ e.rest j (omega arith) z;
  }
    where
      below : (j : ℕ) → j < i + 1 → (j ≡ i) ⊎ (j ≢ i) → (place_at (set s.places i free_place) j).life ≡ Free
      below j g (inl q) = rw (q, place_at_same s.places i free_place u.living.size h)
      below j g (inr q) = ap (λ (p : Place). p.life) (place_at_other s.places i j free_place q) ∙ e.free j (omega arith)

  -- one that was not active is free
  skipped : (r : State) (i : ℕ) → i < 64 → left (place_at r.places i).life ≡ Free → Emptied r i m s
      → Emptied r (i + 1) m s
  skipped r i h z e =
      record { same = e.same; free = λ j g. below j g (same? j i); rest = λ j g. e.rest j (omega arith) }
    where
      below : (j : ℕ) → j < i + 1 → (j ≡ i) ⊎ (j ≢ i) → (place_at s.places j).life ≡ Free
      below j g (inl q) = rw q (e.rest i (omega arith) h ∙ z)
      below j g (inr q) = e.free j (omega arith)

-- ---- the aborts

module _ (l d : ℕ) (r : State) where
  -- the place of a number that is left active
  active_left : {m c : List ℕ} {s : State} {b : Book} {disk : Disk} {closed : List (List Record)} {tail : List Record}
      → Up l d m c s b disk closed tail → (i : ℕ) → i < 64 → Emptied r i m s
      → (v : TxNumber) (o : ℕ) → (place_at r.places i).life ≡ Active v o → find_active s.places v.0 ≡ Some i
  active_left {s = s} u i h a v o e =
      let q : (place_at s.places i).life ≡ Active v o = a.rest i (omega arith) h ∙ ap left e in
      active_finds u.living v.0 i h (subst Formed q (u.living.each i h).formed) (ap life_num q) (ap life_time q)

  number_typed : {m c : List ℕ} {s : State} {b : Book} {disk : Disk} {closed : List (List Record)} {tail : List Record}
      → Up l d m c s b disk closed tail → (v i : ℕ) → find_active s.places v ≡ Some i
      → call_typed (abort v) ≡ true
  unfolding call_typed
  number_typed u v i e = lt-ltb v (2 ^ 64) (omega (arith, active_high u v i e))

  abort_refusal : (m c : List ℕ) (s : State) (x : Call) (o : Outcome) → called m c s x ≡ o
      → (step l d (up m c s) (call x)).seen.refusal ≡ answer_number o.answer
  unfolding step seen_of
  abort_refusal m c s x o e = rw e

  pub aborts_lead : (ps : List Place) (i : ℕ) → i + length ps ≡ 64
      → ((j : ℕ) → place_at r.places (i + j) ≡ place_at ps j)
      → (w : World) → Standing l d (Emptied r i) w → Leads l d w (aborts_of ps) (Standing l d (Emptied r 64))
  unfolding aborts_of place_at answer_number
  aborts_lead [] i e f w q =
      let z : i ≡ 64 = omega arith in
      leads_none l d w (Standing l d (Emptied r 64)) (subst (λ (j : ℕ). Standing l d (Emptied r j) w) z q)
  aborts_lead (p ∷ ps) i e f w (stands m c s b disk closed tail u a) =
      go p.life refl (aborts_lead ps (i + 1) (omega arith) (λ j. let z : i + 1 + j ≡ i + suc j = omega arith in
      ap (place_at r.places) z ∙ f (suc j)))
    where
      here : (place_at r.places i).life ≡ p.life
      here = let z : i ≡ i + 0 = omega arith in ap (λ (x : Place). x.life) (ap (place_at r.places) z ∙ f 0)

      go : (x : Life) → p.life ≡ x → ((v : World) → Standing l d (Emptied r (i + 1)) v
          → Leads l d v (aborts_of ps) (Standing l d (Emptied r 64)))
          → Leads l d (up m c s) (end_of x ++ aborts_of ps) (Standing l d (Emptied r 64))
      go Free z ih =
          ih (up m c s) (stands m c s b disk closed tail u (skipped u r i (omega arith) (ap left (here ∙ z)) a))
      go (Committed v o y) z ih =
          ih (up m c s) (stands m c s b disk closed tail u (skipped u r i (omega arith) (ap left (here ∙ z)) a))
      go (Active v o) z ih =
          let h : i < 64 = omega arith in
          let x = active_left u i h a v o (here ∙ z) in
          let y = abort_done u v.0 i x in
          leads_call l d m c s (abort v.0) (aborts_of ps) (Standing l d (Emptied r 64)) (number_typed u v.0 i x)
          (abort_refusal m c s (abort v.0) _ y)
          (ih (step l d (up m c s) (call (abort v.0))).world
          (called_on l d (Emptied r (i + 1)) m c s b (running u) (abort v.0) (number_typed u v.0 i x) _ y
          (freed u r i h a)))
