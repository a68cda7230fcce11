-- Demand 3: every run from the formatted medium agrees with its book. One lemma for each event, `keeps`, by the ways in
-- which a call ends; then a short induction over the events.
use Rattle.std.specs.Prelude.{Ok}
use Prim.Native.Nat.{ℕ, zero, suc, ◌*◌, ◌^◌, ◌<◌}
use native.Mathlib.Omega.{arith}
use mathlib.Core.Bool.{Bool, true, false, false≢true}
use mathlib.Core.List.{List, [], ◌∷◌}
use mathlib.Core.Path.{◌≡◌, refl, sym, ◌∙◌, subst}
use lib.Dec.{eqb, ltb}
use lib.ListN.{length}
use borrow.Author.Tests.{eqb-true, eqb-false, eq-eqb, ltb-true}
use Rattle.fields.specs.Block.{medium_length, cache_length, zeros}
use Rattle.layout.specs.Slot.{kind_form}
use Rattle.layout.specs.Journal.{Record}
use Rattle.fields.proofs.CellLaws.{bytes_zeros}
use Rattle.fields.proofs.EqualLaws.{zero_zeros}
use Rattle.fields.proofs.Choose.{and_0, and_1}
use Rattle.store.specs.declared.Answer.TheVariants.{Opened}
use Rattle.store.specs.declared.Refusal.TheVariants.{BadCache}
use Rattle.store.specs.declared.Phase.{Phase}
use Rattle.store.specs.declared.Phase.TheVariants.{Idle, FirstStored, SecondStored}
use Rattle.store.specs.declared.State.{State}
use Rattle.store.specs.Answer.{Outcome, refusal_number, answer_number, answer_value, leaves, refuses}
use Rattle.store.specs.State.{no_state}
use Rattle.store.specs.Write.{write_step}
use Rattle.store.specs.Commit.{commit_step, commit_time}
use Rattle.store.specs.StoreLog.{store_log_if}
use Rattle.store.specs.StorePage.{store_page_if}
use Rattle.store.specs.Checkpoint.{checkpoint_step}
use Rattle.store.specs.Open.{opened_state, refused_cache, open_if, open_of}
use Rattle.store.specs.OpenLog.{last_time}
use Rattle.store.specs.OpenConditions.{redone}
use Rattle.store.proofs.FitLaws.{range_is}
use Rattle.runs.specs.Event.{Call, Event, opening, cut, call, begin, write, erase, current_read, commit, abort, as_of}
use Rattle.runs.specs.Event.{changes, store_log, store_page, checkpoint, are_bytes, is_record, call_typed, typed}
use Rattle.runs.specs.Book.{Book, blank, committed, add, fall, close, entered, unless_refused, feed, Fits}
use Rattle.runs.specs.Machine.{World, up, down, medium_of, called, seen_of, after, opens, step, allowed, is_run}
use Rattle.runs.specs.Machine.{formatted, log_changed}
use Rattle.runs.specs.Demand.{Agrees, Demand3}
use Rattle.runs.proofs.EarlierReads.{bytes_of_law}
use Rattle.runs.proofs.Asks.{is_reading, Way, refused, begins, writes, erases, looks, commits as commits_way, ends}
use Rattle.runs.proofs.Asks.{aborts, logs, pages, checks, way}
use Rattle.runs.proofs.Refusals.{is_quiet, quiet_leaves, reading_leaves}
use Rattle.agreement.proofs.history.Ghost.{Disk}
use Rattle.agreement.proofs.invariant.Invariant.{Up, Down, Inv, running, fallen}
use Rattle.agreement.proofs.transactions.Write.{slot_row, wrote}
use Rattle.agreement.proofs.transactions.Commit.{some_row, no_row, row_time_law, committed_up}
use Rattle.agreement.proofs.transactions.BeginAbort.{not_open, not_used, began, closes}
use Rattle.agreement.proofs.stores.StoreLog.{log_stored_law}
use Rattle.agreement.proofs.stores.StorePage.{page_stored_law}
use Rattle.agreement.proofs.stores.Checkpoint.{first_stored, second_stored, third_stored}
use Rattle.agreement.proofs.Cut.{cut_down, fall_down}
use Rattle.agreement.proofs.Start.{start}
use Rattle.agreement.proofs.opening.WellFormed.{well_formed_law}
use Rattle.agreement.proofs.opening.Opened.{opened_up}
use Rattle.agreement.proofs.reads.Sights.{sights_are, last_is}
use Rattle.agreement.proofs.reads.ReadFacts.{positive}
use Rattle.agreement.proofs.reads.Answers.{current_answers, as_of_answers, lists_answer}

-- ---- refusals leave the book

pub old_book_law : (n : ℕ) (b new : Book) → 0 < n → unless_refused n b new ≡ b
old_book_law zero b new h = absurd (omega arith)
old_book_law (suc n) b new h = refl

pub same_book : (n : ℕ) (b : Book) → unless_refused n b b ≡ b
same_book zero b = refl
same_book (suc n) b = refl

-- ---- a call on a running store

abbrev Keeps : ℕ → ℕ → List ℕ → Book → Call → Outcome → Type 0
Keeps l d m b k o = Fits d b (call k) (seen_of l m o []) × Inv l d (after o) (feed b (call k) (seen_of l m o []))

module _ {l d : ℕ} {m c : List ℕ} {s : State} {b : Book} {disk : Disk} {closed : List (List Record)}
    {tail : List Record} (u : Up l d m c s b disk closed tail) where
  checked : (ph : Phase) → s.phase ≡ ph → Keeps l d m b checkpoint (checkpoint_step ph s m c)
  unfolding checkpoint_step feed seen_of answer_number answer_value entered
  checked Idle e = (λ z. refl, unfold checkpoint_step in first_stored u e)
  checked (FirstStored o t) e = (λ z. refl, unfold checkpoint_step in second_stored u o t e)
  checked (SecondStored o t) e = (λ z. refl, unfold checkpoint_step in third_stored u o t e)

  kept : {x : Call} {o : Outcome} → is_reading x ≡ false → call_typed x ≡ true → Way m c s x o → Keeps l d m b x o
  unfolding feed seen_of answer_number answer_value entered call_typed write_step commit_step store_log_if
      store_page_if kind_form
  kept q t (refused x r w) = (
    λ e. absurd (omega (arith, positive r)),
    rw (old_book_law (refusal_number r) b (entered b x 0 (log_changed l m m)) (positive r)) (running u),
  )
  kept q t (begins clock i p w) = (λ e. (not_open u, not_used u), began u clock i (ltb-true clock (2 ^ 64) t) p w)
  kept q t (writes n key i v p w) =
      let t1 = and_1 (ltb n (2 ^ 64)) _ t in
      let t2 = and_1 (is_record key) _ t1 in (
        λ e. slot_row u,
        wrote u n key 0 i v (omega arith) (eqb-true (length v) 16 (and_0 (eqb (length v) 16) (are_bytes v) t2))
            (bytes_of_law v (and_1 (eqb (length v) 16) (are_bytes v) t2)) refl p w,
      )
  kept q t (erases n key i p w) = (
    λ e. slot_row u,
    wrote u n key 1 i (zeros 16) (omega arith) refl (bytes_zeros 16) (zero_zeros 16) p w,
  )
  kept q t (looks x a v y r p n w) = absurd (false≢true (sym q ∙ r))
  kept q t (commits_way n clock i p w z) =
      let o : Outcome = commit_step s m c i n (commit_time s i clock) in
      let h = committed_up u n clock i (ltb-true clock (2 ^ 64) (and_1 (ltb n (2 ^ 64)) (ltb clock (2 ^ 64)) t)) p w
      z in
      rw (some_row u n i w z) (
        λ e. row_time_law u n clock i w,
        subst (λ (y : ℕ). Inv l d (after o) (add b (committed n y) (log_changed l m o.medium) (close b.opened n)))
            (row_time_law u n clock i w) h,
      )
  kept q t (ends n clock i p w z) = rw (no_row u n i w z) (λ e. refl, closes u n i w)
  kept q t (aborts n i p w) = (λ e. refl, closes u n i w)
  kept q t (logs p) = (λ e. refl, log_stored_law u)
  kept q t (pages n p) = (λ e. refl, page_stored_law u n p)
  kept q t (checks ph p w) = checked ph w

  -- reads and lists leave all as it was
  stays : (o : Outcome) → o.medium ≡ m → o.cache ≡ c → o.state ≡ s → Inv l d (after o) b
  stays o e f g = rw (e, f, g) (running u)

  read : (x : Call) → is_reading x ≡ true → is_quiet x ≡ true → (n : ℕ)
      → Inv l d (after (called m c s x)) (unless_refused n b b)
  read x r q n =
      rw (same_book n b)
      (stays (called m c s x) (quiet_leaves m c s x q).medium (quiet_leaves m c s x q).cache (reading_leaves m c s x r))

  kept_call : (x : Call) → call_typed x ≡ true → Keeps l d m b x (called m c s x)
  unfolding feed entered
  kept_call (begin a) t = kept refl t (way m c s (begin a))
  kept_call (write n key v) t = kept refl t (way m c s (write n key v))
  kept_call (erase n key) t = kept refl t (way m c s (erase n key))
  kept_call (current_read n key) t = (
    λ e. unfold called seen_of in current_answers u n key e,
    read (current_read n key) refl refl (seen_of l m (called m c s (current_read n key)) []).refusal,
  )
  kept_call (commit n a) t = kept refl t (way m c s (commit n a))
  kept_call (abort n) t = kept refl t (way m c s (abort n))
  kept_call (as_of key a) t = (
    λ e. unfold called seen_of in as_of_answers u key a e,
    read (as_of key a) refl refl (seen_of l m (called m c s (as_of key a)) []).refusal,
  )
  kept_call (changes key t1 t2 y) t = (
    λ e. unfold called in lists_answer u key t1 t2 y (unfold called seen_of in e),
    read (changes key t1 t2 y) refl refl (seen_of l m (called m c s (changes key t1 t2 y)) []).refusal,
  )
  kept_call store_log t = kept refl t (way m c s store_log)
  kept_call (store_page p) t = kept refl t (way m c s (store_page p))
  kept_call checkpoint t = kept refl t (way m c s checkpoint)

-- ---- an opening

module _ {l d : ℕ} {m : List ℕ} {b : Book} {disk : Disk} (x : Down l d m b disk) where
  open_right : (y : List ℕ) → eqb (length y) (cache_length d) ≡ true
      → open_of m y l d ≡ leaves (Ok (Opened (record { 0 = last_time m l }))) (opened_state m l d) m (redone m l d).cache
  unfolding open_of open_if
  open_right y e =
      rw (
        range_is l d x.medium.sizes.range,
        eq-eqb (length m) (medium_length l d) x.medium.sizes.size,
        e,
        well_formed_law x,
      )

  open_wrong : (y : List ℕ) → eqb (length y) (cache_length d) ≡ false → open_of m y l d ≡ refuses BadCache no_state m y
  unfolding open_of open_if refused_cache refusal_number
  open_wrong y e =
      rw (range_is l d x.medium.sizes.range, eq-eqb (length m) (medium_length l d) x.medium.sizes.size, e)

  -- w is the world before, with this medium, and `old` its book, of which b is what a cut leaves
  module _ (w : World) (old : Book) (at : medium_of w ≡ m) (fell : fall old ≡ b) (inv : Inv l d w old) where
    abbrev OpenKeeps : List ℕ → Outcome → Type 0
    OpenKeeps y o =
        Fits d old (opening y) (opens l d w o).seen
        × Inv l d (opens l d w o).world (feed old (opening y) (opens l d w o).seen)

    by_right : (y : List ℕ) → eqb (length y) (cache_length d) ≡ true
        → OpenKeeps y (leaves (Ok (Opened (record { 0 = last_time m l }))) (opened_state m l d) m (redone m l d).cache)
    unfolding opens seen_of feed answer_number answer_value opened_state cache_length
    by_right y e =
        rw fell (
          record {
            accepted = λ h. refl;
            refused = λ h. absurd (h (eqb-true (length y) (512 * d) e));
            last = λ h. last_is (opened_up x);
            finds = λ h. sights_are (opened_up x);
          },
          running (opened_up x),
        )

    by_wrong : (y : List ℕ) → eqb (length y) (cache_length d) ≡ false → OpenKeeps y (refuses BadCache no_state m y)
    unfolding opens seen_of feed answer_number refusal_number cache_length
    by_wrong y e = (
      record {
        accepted = λ h. absurd (eqb-false (length y) (512 * d) e h);
        refused = λ h. refl;
        last = λ h. absurd (omega arith);
        finds = λ h. absurd (omega arith);
      },
      inv,
    )

    pub opening_kept : (y : List ℕ) → Fits d old (opening y) (step l d w (opening y)).seen
        × Inv l d (step l d w (opening y)).world (feed old (opening y) (step l d w (opening y)).seen)
    unfolding step
    opening_kept y = rw at (go (eqb (length y) (cache_length d)) refl)
      where
        go : (t : Bool) → eqb (length y) (cache_length d) ≡ t → OpenKeeps y (open_of m y l d)
        go true e = rw (open_right y e) (by_right y e)
        go false e = rw (open_wrong y e) (by_wrong y e)

-- ---- an event

pub keeps : (l d : ℕ) (w : World) (b : Book) (e : Event) → Inv l d w b → allowed l d w e ≡ true → typed e ≡ true
    → Fits d b e (step l d w e).seen × Inv l d (step l d w e).world (feed b e (step l d w e).seen)
unfolding step typed feed
keeps l d (up m c s) b (opening y) (running u) a t = opening_kept (cut_down u) (up m c s) b refl refl (running u) y
keeps l d (up m c s) b cut (running u) a t = (tt, fallen (cut_down u))
keeps l d (up m c s) b (call x) (running u) a t = kept_call u x t
keeps l d (down m) b (opening y) (fallen x) a t = opening_kept x (down m) b refl (fall_down x) (fallen x) y
keeps l d (down m) b cut (fallen x) a t = (tt, rw (fall_down x) (fallen x))
keeps l d (down m) b (call x) (fallen z) a t = absurd (false≢true a)

-- ---- a run, from any world that the invariant holds of

pub runs : (l d : ℕ) (es : List Event) (w : World) (b : Book) → Inv l d w b → is_run l d w es ≡ true → Agrees l d w b es
unfolding is_run
runs l d [] w b i r = tt
runs l d (e ∷ es) w b i r =
    let r1 = and_1 (typed e) _ r in
    let k : Fits d b e (step l d w e).seen × Inv l d (step l d w e).world (feed b e (step l d w e).seen) =
    keeps l d w b e i (and_0 (allowed l d w e) _ r1) (and_0 (typed e) _ r) in
    (k.0, runs l d es _ _ k.1 (and_1 (allowed l d w e) _ r1))

pub demand3 : Demand3
unfolding Demand3 formatted
demand3 l d h es r = runs l d es (formatted l d) blank (fallen (start l d h)) r
