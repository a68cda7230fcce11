-- Where numbers, slots, times or sequences are used up, no calls help: none of the four ever goes back in a running
-- store. So a transaction that is begun, writes and commits later finds each of them left at the start.
use Rattle.std.specs.Prelude.{Option, Some}
use Prim.Native.Nat.{ℕ, ◌+◌, ◌-◌, ◌*◌, ◌^◌, ◌≤◌, ◌<◌}
use native.Mathlib.Omega.{arith}
use mathlib.Core.Path.{◌≡◌, refl, subst}
use mathlib.Core.Bool.{true, false, ◌||◌}
use mathlib.Core.List.{List, [], ◌∷◌}
use lib.ListN.{length}
use lib.Dec.{eqb, ltb}
use borrow.Author.Tests.{ltb-true}
use Rattle.fields.specs.Block.{zeros, end_place}
use Rattle.layout.specs.Item.{bytes_of}
use Rattle.layout.specs.Journal.{Record, record_size}
use Rattle.layout.specs.Journal.{version as version_record, commit as commit_record}
use Rattle.fields.proofs.Choose.{and_0, and_1}
use Rattle.store.specs.declared.Phase.TheVariants.{Idle, FirstStored, SecondStored}
use Rattle.store.specs.declared.Refusal.{Refusal}
use Rattle.store.specs.declared.State.{State}
use Rattle.store.specs.Answer.{Outcome, answer_number}
use Rattle.store.specs.Places.{find_active, place_at}
use Rattle.store.specs.State.{with_place, with_phase}
use Rattle.store.specs.Tail.{tail_end, Logged, logged}
use Rattle.store.specs.Begin.{begin_asks, begun, begin_if, begin_of}
use Rattle.store.specs.Write.{write_asks, new_head, write_step, written, write_at, write_if, add_of, write_of}
use Rattle.store.specs.Commit.{commit_asks, commit_time, commit_step, committed, commit_at, commit_if, commit_of}
use Rattle.store.specs.Commit.{no_versions}
use Rattle.store.specs.StoreLog.{log_stored, store_log_if}
use Rattle.store.specs.StorePage.{page_stored, store_page_if}
use Rattle.store.specs.Checkpoint.{checkpoint_step}
use Rattle.store.proofs.FitLaws.{TailFit, fit_of}
use Rattle.runs.specs.Event.{Call, call, begin, write, commit, call_typed, typed}
use Rattle.runs.specs.Book.{Book, blank}
use Rattle.runs.specs.Machine.{World, up, called, seen_of, step, is_run, trace, formatted}
use Rattle.runs.specs.Moments.{world_after, book_at}
use Rattle.runs.specs.Relief.{AllAccepted}
use Rattle.runs.specs.Unstuck.{transaction, Left, events_of, OnlyThen}
use Rattle.runs.proofs.Asks.{asked, found, Way, refused, begins, writes, erases, looks, commits, ends, aborts, logs}
use Rattle.runs.proofs.Asks.{pages, checks, way}
use Rattle.agreement.proofs.history.Ghost.{Disk}
use Rattle.agreement.proofs.invariant.Invariant.{Up, Inv, running}
use Rattle.agreement.proofs.transactions.ActiveLaws.{active_place}
use Rattle.agreement.proofs.reads.ReadFacts.{positive}
use Rattle.agreement.proofs.logging.GrowthLaws.{fits_up}
use Rattle.agreement.proofs.plain.Runs.{run_append, inv_after, started}
use Rattle.agreement.proofs.unstuck.Log.{takes, takes_end, has_version}
use Rattle.agreement.proofs.unstuck.Places.{Standing, stands, called_on}

-- t is not before s in any of the four
pub record Onward (s t : State) : Type 0 where
  pub next : s.next.0 ≤ t.next.0
  pub slots : s.slots ≤ t.slots
  pub last : s.last.0 ≤ t.last.0
  pub log : (tail_end s.tail).0 ≤ (tail_end t.tail).0

onward_then : (r s t : State) → Onward r s → Onward s t → Onward r t
onward_then r s t a b =
    record {
      next = omega (arith, a.next, b.next);
      slots = omega (arith, a.slots, b.slots);
      last =
          omega (arith, a.last, b.last);
      log = omega (arith, a.log, b.log);
    }

module _ {l d : ℕ} {m c : List ℕ} {s : State} {b : Book} {disk : Disk} {closed : List (List Record)}
    {tail : List Record} (u : Up l d m c s b disk closed tail) where
  fit : TailFit s.tail
  fit = (fit_of s (length m) (length c) (fits_up u)).tail

  -- the log's end moves on by a record's size
  moves : (r : Record) → record_size r ≤ 34 → (tail_end s.tail).0 + record_size r ≤ (tail_end (logged s m r).tail).0
  moves r h = takes_end s m (record_size r) (logged s m r) fit.used_high (takes s m r fit (omega arith))

  still : Onward s s
  still = record { next = omega arith; slots = omega arith; last = omega arith; log = omega arith }

  onward : {x : Call} {o : Outcome} → Way m c s x o → Onward s o.state
  unfolding begun write_step written commit_step committed commit_time with_place with_phase store_log_if log_stored
      store_page_if page_stored checkpoint_step record_size new_head bytes_of
  onward (refused x r w) = still
  onward (begins clock i p w) =
      record { next = omega arith; slots = omega arith; last = omega arith; log = omega arith }
  onward (writes n key i v p w) =
      record {
        next = omega arith;
        slots = omega arith;
        last = omega arith;
        log =
            omega (arith, moves (version_record (new_head s c n key 0) v) (omega arith));
      }
  onward (erases n key i p w) =
      record {
        next = omega arith;
        slots = omega arith;
        last = omega arith;
        log =
            omega (arith, moves (version_record (new_head s c n key 1) (zeros 16)) (omega arith));
      }
  onward (looks x a v y r p n w) = still
  onward (commits n clock i p w z) = record {
    next = omega arith;
    slots = omega arith;
    last = omega arith;
    log =
        omega (
          arith,
          moves (commit_record (record { number = record { 0 = n }; time = commit_time s i clock }))
              (omega arith),
        );
  }
  onward (ends n clock i p w z) =
      record { next = omega arith; slots = omega arith; last = omega arith; log = omega arith }
  onward (aborts n i p w) = record { next = omega arith; slots = omega arith; last = omega arith; log = omega arith }
  onward (logs p) = record { next = omega arith; slots = omega arith; last = omega arith; log = omega arith }
  onward (pages n p) = record { next = omega arith; slots = omega arith; last = omega arith; log = omega arith }
  onward (checks Idle p w) = record { next = omega arith; slots = omega arith; last = omega arith; log = omega arith }
  onward (checks (FirstStored o t) p w) =
      record { next = omega arith; slots = omega arith; last = omega arith; log = omega arith }
  onward (checks (SecondStored o t) p w) =
      record { next = omega arith; slots = omega arith; last = omega arith; log = omega arith }

  -- ---- what a call that is done needs

  begin_needs : (clock : ℕ) → answer_number (called m c s (begin clock)).answer ≡ 0 → s.next.0 < 2 ^ 64 - 1
  unfolding called begin_of begin_if answer_number
  begin_needs clock =
      asked (λ (a : Option Refusal). answer_number (begin_if a s m c clock).answer ≡ 0 → s.next.0 < 2 ^ 64 - 1)
      (begin_asks s m c)
      (λ r e z. absurd (omega (arith, positive r))) (λ p z. ltb-true s.next.0 (2 ^ 64 - 1) p.1.0)

  abbrev Wrote : ℕ → Outcome → Type 0
  Wrote n o =
      (s.slots < 15 * d) × ((tail_end s.tail).0 + 34 ≤ (tail_end o.state.tail).0)
      × (no_versions (find_active o.state.places n) o.state ≡ false)

  write_needs : (n key : ℕ) (v : List ℕ) → answer_number (called m c s (write n key v)).answer ≡ 0
      → Wrote n (called m c s (write n key v))
  unfolding called write_of add_of write_if write_step written answer_number record_size new_head bytes_of
  write_needs n key v =
      asked (λ (a : Option Refusal). answer_number (write_if a s m c n key 0 v).answer ≡ 0
      → Wrote n (write_if a s m c n key 0 v)) (write_asks s m c n key)
      (λ r e z. absurd (omega (arith, positive r)))
      (λ p. found (λ (f : Option ℕ). answer_number (write_at f s m c (new_head s c n key 0) v).answer ≡ 0
      → Wrote n (write_at f s m c (new_head s c n key 0) v)) (find_active s.places n) p.1.1.0
      (λ i f z. by i f (ltb-true s.slots (15 * s.pages) p.1.1.1.1.0)))
    where
      by : (i : ℕ) → find_active s.places n ≡ Some i → s.slots < 15 * s.pages
          → Wrote n (write_step s m c i (new_head s c n key 0) v)
      by i f h =
          let g : Logged = logged s m (version_record (new_head s c n key 0) v) in (
            omega (arith, u.state.pages),
            moves (version_record (new_head s c n key 0) v) (omega arith),
            has_version s u.living.size n i f (active_place u n i f) g,
          )

  abbrev Ended : Outcome → Type 0
  Ended o = (s.last.0 < 2 ^ 64 - 1) × ((tail_end s.tail).0 + 19 ≤ (tail_end o.state.tail).0)

  commit_needs : (n clock : ℕ) → no_versions (find_active s.places n) s ≡ false
      → answer_number (called m c s (commit n clock)).answer ≡ 0 → Ended (called m c s (commit n clock))
  unfolding called commit_of commit_if commit_step committed answer_number record_size
  commit_needs n clock waits =
      asked (λ (a : Option Refusal). answer_number (commit_if a s m c n clock).answer ≡ 0
      → Ended (commit_if a s m c n clock)) (commit_asks s m c n)
      (λ r e z. absurd (omega (arith, positive r)))
      (λ p. found (λ (f : Option ℕ). answer_number (commit_at f s m c n clock).answer ≡ 0
      → Ended (commit_at f s m c n clock)) (find_active s.places n) p.1.0
      (λ i f z. by i f p.1.1.0))
    where
      by : (i : ℕ) → find_active s.places n ≡ Some i → no_versions (find_active s.places n) s || ltb s.last.0 (2 ^ 64 - 1)
          ≡ true → Ended (commit_at (Some i) s m c n clock)
      by i f h =
          let g : eqb (place_at s.places i).waiting 0 ≡ false = rw f at waits in
          let t : ltb s.last.0 (2 ^ 64 - 1) ≡ true = rw waits at h in
          rw g (
            ltb-true s.last.0 (2 ^ 64 - 1) t,
            moves (commit_record (record { number = record { 0 = n }; time = commit_time s i clock }))
                (omega arith),
          )

  -- the log ends below 512 × 2^48
  log_high : (tail_end s.tail).0 ≤ 512 * 2 ^ 48
  unfolding tail_end end_place
  log_high = omega (arith, fit.sequence_high, fit.used_high)

-- ---- calls one after the other

module _ (l d : ℕ) (r : State) where
  abbrev Later : World → Type 0
  Later w = Standing l d (λ m s. Onward r s) w

  went : (m c : List ℕ) (s : State) (b : Book) (disk : Disk) (closed : List (List Record)) (tail : List Record)
      → Up l d m c s b disk closed tail → Onward r s → (x : Call) → call_typed x ≡ true
      → Later (step l d (up m c s) (call x)).world
  went m c s b disk closed tail u o x t =
      called_on l d (λ m s. Onward r s) m c s b (running u) x t (called m c s x) refl
      (onward_then r s (called m c s x).state o (onward u (way m c s x)))

  walks : (ks : List Call) (w : World) → is_run l d w (events_of ks) ≡ true → Later w
      → Later (world_after l d w (events_of ks))
  unfolding is_run world_after events_of typed
  walks [] w h q = q
  walks (x ∷ ks) w h (stands m c s b disk closed tail u o) =
      walks ks (step l d (up m c s) (call x)).world (and_1 (call_typed x) _ h)
      (went m c s b disk closed tail u o x (and_0 (call_typed x) _ h))

  -- ---- the three calls

  module _ (n clock key : ℕ) (value : List ℕ) (end : ℕ) where
    -- the version is logged
    record Waits (m : List ℕ) (s : State) : Type 0 where
      last : r.last.0 ≤ s.last.0
      log : (tail_end r.tail).0 + 34 ≤ (tail_end s.tail).0
      waits : no_versions (find_active s.places n) s ≡ false

    after_commit : (w : World) → Standing l d (λ m s. (tail_end r.tail).0 + 53 ≤ (tail_end s.tail).0) w
        → (tail_end r.tail).0 + 53 ≤ 512 * 2 ^ 48
    after_commit w (stands m c s b disk closed tail u p) = omega (arith, p, log_high u)

    third : (w : World) → Standing l d Waits w → is_run l d w (call (commit n end) ∷ []) ≡ true
        → AllAccepted (trace l d w (call (commit n end) ∷ []))
        → (r.last.0 < 2 ^ 64 - 1) × ((tail_end r.tail).0 + 53 ≤ 512 * 2 ^ 48)
    unfolding is_run trace typed step seen_of
    third w (stands m c s b disk closed tail u p) h a =
        let q = commit_needs u n end p.waits a.0 in (
          omega (arith, p.last, q),
          after_commit _ (called_on l d (λ m s. (tail_end r.tail).0 + 53 ≤ (tail_end s.tail).0) m c s b (running u)
              (commit n end) (and_0 (call_typed (commit n end)) _ h) (called m c s (commit n end)) refl
              (omega (arith, p.log, q))),
        )

    second : (w : World) → Later w → is_run l d w (call (write n key value) ∷ call (commit n end) ∷ []) ≡ true
        → AllAccepted (trace l d w (call (write n key value) ∷ call (commit n end) ∷ []))
        → (r.slots < 15 * d) × (r.last.0 < 2 ^ 64 - 1) × ((tail_end r.tail).0 + 53 ≤ 512 * 2 ^ 48)
    unfolding is_run trace typed step seen_of
    second w (stands m c s b disk closed tail u o) h a =
        let q = write_needs u n key value a.0 in
        let t = third _ (called_on l d Waits m c s b (running u) (write n key value)
        (and_0 (call_typed (write n key value)) _ h) (called m c s (write n key value)) refl
        (record {
          last = omega (arith, o.last, (onward u (way m c s (write n key value))).last);
          log =
              omega (arith, o.log, q);
          waits = q.2;
        })) (and_1 (call_typed (write n key value)) _ h) a.1 in
        (omega (arith, o.slots, q), t.0, t.1)

    first : (w : World) → Later w → is_run l d w (transaction n clock key value end) ≡ true
        → AllAccepted (trace l d w (transaction n clock key value end)) → Left d r
    unfolding is_run trace typed step seen_of
    first w (stands m c s b disk closed tail u o) h a =
        let q = begin_needs u clock a.0 in
        let t = second _ (went m c s b disk closed tail u o (begin clock) (and_0 (call_typed (begin clock)) _ h))
        (and_1 (call_typed (begin clock)) _ h) a.1 in
        record { numbers = omega (arith, o.next, q); slots = t.0; times = t.1; log = t.2 }

pub only_then : OnlyThen
unfolding OnlyThen
only_then l d es m c s r e ks n clock key value end q a =
    go (subst (λ (w : World). Inv l d w (book_at l d es)) e (inv_after l d es (formatted l d) blank (started r) r.run))
  where
    go : {b : Book} → Inv l d (up m c s) b → Left d s
    go (running {b = b} {disk = disk} {closed = closed} {tail = tail} u) =
        let p = run_append l d (events_of ks) (transaction n clock key value end) (up m c s) q in
        first l d s n clock key value end (world_after l d (up m c s) (events_of ks))
        (walks l d s ks (up m c s) p.0 (stands m c s b disk closed tail u (still u))) p.1 a
