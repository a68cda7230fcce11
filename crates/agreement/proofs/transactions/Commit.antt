-- Commit of a number with versions: a running store goes on to the book with one commit row more. The log grows by the
-- commit; only the number's own place and its commit change, and its versions all wait, so the table and the slots stay
-- as they are.
use Rattle.std.specs.Prelude.{Some}
use Prim.Native.Nat.{ℕ, ◌-◌, ◌^◌, ◌≤◌, ◌<◌}
use native.Mathlib.Omega.{arith}
use mathlib.Core.Bool.{true, false}
use mathlib.Core.List.{List, [], ◌∷◌, ◌++◌}
use mathlib.Core.Logic.{◌⊎◌, inl, inr, ◌≢◌}
use mathlib.Core.Path.{◌≡◌, refl, sym, ap, ◌∙◌}
use lib.Dec.{eqb, ltb}
use lib.ListN.{length, set}
use borrow.Author.Tests.{eqb-true, eqb-false, ltb-true}
use Rattle.layout.specs.Journal.{Record, commit, record_form, record_size}
use Rattle.layout.specs.declared.CommitTime.{CommitTime}
use Rattle.fields.proofs.CellLaws.{each_append}
use Rattle.store.specs.declared.Place.{Place}
use Rattle.store.specs.Tail.{Logged, logged, may_log, tail_end}
use Rattle.store.specs.OpenLog.{Placed, number_in}
use Rattle.store.specs.Commit.{commit_asks, commit_time, commit_step, committed as committed_state}
use Rattle.store.specs.declared.State.{State}
use Rattle.store.specs.Places.{find_active, place_at, clock_of}
use Rattle.store.specs.declared.Life.{Life}
use Rattle.store.specs.declared.Life.TheVariants.{Free, Active, Committed}
use Rattle.store.proofs.AskLaws.{Passed}
use Rattle.runs.specs.Book.{Book, Row, committed, add, close, has_row, is_open, clock_of as clock_in}
use Rattle.runs.specs.Book.{commit_time as row_time}
use Rattle.runs.specs.Machine.{after, log_changed}
use Rattle.agreement.proofs.logging.Growth.{num_stays, time_stays, recent, with_log, Grows, grows}
use Rattle.agreement.proofs.history.Ghost.{Sound, versions_of, commits_of, records, at, LoggedCommit, find, last_of}
use Rattle.agreement.proofs.history.Ghost.{count, rows_in, Disk}
use Rattle.agreement.proofs.history.ListLaws.{same?}
use Rattle.agreement.proofs.history.VersionLaws.{commits_append}
use Rattle.agreement.proofs.history.CommitLaws.{rising_above, last_append}
use Rattle.agreement.proofs.history.RowLaws.{version_row, rowless, rows_append, length_rows}
use Rattle.agreement.proofs.invariant.MediumFacts.{waiting_slot, counted}
use Rattle.agreement.proofs.reads.Sights.{last_is}
use Rattle.agreement.proofs.transactions.ActiveLaws.{active_place, active_low, active_num, active_time, active_next}
use Rattle.agreement.proofs.transactions.ActiveLaws.{active_high, active_waits, uncommitted, elsewhere, all_wait, alone}
use Rattle.agreement.proofs.invariant.Invariant.{life_clock, num_at, time_at, table_num, Covered, Lively, Living, Opens}
use Rattle.agreement.proofs.invariant.Invariant.{Pending, Up, Inv, running}
use Rattle.agreement.proofs.logging.GrowthLaws.{old_versions, new_com, find_new, find_old}
use Rattle.agreement.proofs.invariant.PlaceSet.{place_at_same, place_at_other, covered_set, living_set, phase_map}
use Rattle.agreement.proofs.transactions.BeginAbort.{clock_close, open_close, below_close}
use Rattle.agreement.proofs.logging.Grown.{grow_commit}

clock_is : (x : Life) → clock_of x ≡ life_clock x
clock_is Free = refl
clock_is (Active n k) = refl
clock_is (Committed n t e) = refl

module _ {l d : ℕ} {m c : List ℕ} {s : State} {b : Book} {disk : Disk} {closed : List (List Record)}
    {tail : List Record} (u : Up l d m c s b disk closed tail) where
  -- an active number has rows just if versions wait in its place: its versions all wait, since it has no commit
  pub some_row : (n i : ℕ) → find_active s.places n ≡ Some i → eqb (place_at s.places i).waiting 0 ≡ false
      → has_row b.rows n ≡ true
  some_row n i f w =
      let (j, h, e, q) = waiting_slot u.medium n
      (omega (arith, active_waits u n i f, eqb-false (place_at s.places i).waiting 0 w)) in
      ap (λ (rs : List Row). has_row rs n) u.rows ∙ version_row (records (closed ++ (tail ∷ []))) n j h e

  pub no_row : (n i : ℕ) → find_active s.places n ≡ Some i → eqb (place_at s.places i).waiting 0 ≡ true
      → has_row b.rows n ≡ false
  no_row n i f w =
      ap (λ (rs : List Row). has_row rs n) u.rows
      ∙ rowless (records (closed ++ (tail ∷ []))) 0 n u.medium.numbers.rising
      (λ j h e. omega (
        arith,
        active_waits u n i f,
        eqb-true (place_at s.places i).waiting 0 w,
        counted u.medium n j h e (all_wait u n i f j h e),
      ))
      (uncommitted u n i f)

  -- the time is the book's: clocks by Opens.clocks, last time by StateIs.last and that times rise
  pub row_time_law : (n clock i : ℕ) → find_active s.places n ≡ Some i → (commit_time s i clock).0 ≡ row_time b n clock
  unfolding commit_time row_time
  row_time_law n clock i f =
      let a : clock_of (place_at s.places i).life ≡ clock_in b.opened n =
      clock_is (place_at s.places i).life
      ∙ sym (u.opens.clocks i (active_place u n i f) (omega (arith, active_num u n i f, active_low u n i f))
      (active_time u n i f))
      ∙ ap (clock_in b.opened) (active_num u n i f) in
      omega (arith, a, last_is u)

-- ---- the commit record is taken: g is how the log grows by it, e its end place

module _ {l d : ℕ} {m c : List ℕ} {s : State} {b : Book} {disk : Disk} {closed : List (List Record)}
    {tail : List Record} (u : Up l d m c s b disk closed tail)
    (n i : ℕ) (f : find_active s.places n ≡ Some i) (t : CommitTime) (late : s.last.0 < t.0)
    (some : eqb (place_at s.places i).waiting 0 ≡ false)
    (lg : Logged) (g : Grows l d m disk closed tail (commit (record { number = record { 0 = n }; time = t })) lg) where
  -- the commit, and the place committed
  me : LoggedCommit
  me = record { seq = length g.closed'; end = (tail_end lg.tail).0; num = n; time = t.0 }

  ended : Place
  ended = record { life = Committed (record { 0 = n }) t (tail_end lg.tail); waiting = (place_at s.places i).waiting }

  old_vs : versions_of (g.closed' ++ (g.tail' ∷ [])) ≡ versions_of (closed ++ (tail ∷ []))
  old_vs =
      old_versions (g.closed' ++ (g.tail' ∷ [])) (records (closed ++ (tail ∷ []))) _ g.grown
      (record { number = record { 0 = n }; time = t }) refl

  new_cs : commits_of (g.closed' ++ (g.tail' ∷ [])) ≡ commits_of (closed ++ (tail ∷ [])) ++ (me ∷ [])
  unfolding me
  new_cs =
      new_com (g.closed' ++ (g.tail' ∷ [])) (records (closed ++ (tail ∷ []))) _ g.grown
      (record { number = record { 0 = n }; time = t }) refl

  found_new : find (commits_of (closed ++ (tail ∷ [])) ++ (me ∷ [])) n ≡ me
  unfolding me
  found_new =
      find_new (commits_of (closed ++ (tail ∷ []))) me
      (rising_above 0 (commits_of (closed ++ (tail ∷ []))) u.medium.numbers.rising) (uncommitted u n i f)

  found_old : (j : ℕ) → j ≢ n → find (commits_of (closed ++ (tail ∷ [])) ++ (me ∷ [])) j
      ≡ find (commits_of (closed ++ (tail ∷ []))) j
  unfolding me
  found_old j h = find_old (commits_of (closed ++ (tail ∷ []))) me j h

  covered' : (o x : ℕ) → x ≤ 64 → o ≤ length g.closed' → Covered m (commits_of (closed ++ (tail ∷ []))) s.places o x
      → Covered lg.medium (commits_of (closed ++ (tail ∷ [])) ++ (me ∷ [])) (set s.places i ended) o x
  unfolding ended me
  covered' o x le h p =
      covered_set lg.medium (commits_of (closed ++ (tail ∷ [])) ++ (me ∷ [])) s.places i ended o x u.living.size
      (active_place u n i f)
      (λ z w. absurd (omega (arith, h, ap (λ (y : LoggedCommit). y.seq) found_new, w)))
      (λ j a e. rw (
        found_old (num_at s.places j) (elsewhere u n i f j (omega arith) e),
        num_stays g j (omega arith),
        time_stays g j (omega arith),
      ) (p j a))

  living' : Living lg.medium (commits_of (closed ++ (tail ∷ [])) ++ (me ∷ [])) disk.cells disk.oldest s.next.0
      (set s.places i ended)
  unfolding ended me
  living' =
      living_set u.living lg.medium (commits_of (closed ++ (tail ∷ [])) ++ (me ∷ [])) disk.cells disk.oldest s.next.0 i
      (active_place u n i f) ended
      (record {
        formed = (active_low u n i f, omega arith);
        small = active_next u n i f;
        over = λ z. ap (λ (y : LoggedCommit). y.time) found_new;
        place = λ z. inl (sym (ap (λ (y : LoggedCommit). y.end) found_new));
        unended = λ z w. absurd (omega arith);
        waits = λ z. active_waits u n i f;
        busy = λ z. omega (arith, eqb-false (place_at s.places i).waiting 0 some);
      })
      (λ j h e. other j h (found_old (num_at s.places j) (elsewhere u n i f j h e)) (u.living.each j h))
      (λ j h e z. elsewhere u n i f j h e)
      (λ x a z. all' x a z (same? x n))
      (covered' disk.oldest 64 (omega arith) (recent u g) u.living.covered)
      (λ z w. sym (active_num u n i f) ∙ home' i (active_place u n i f) z w)
      (λ j h e. home' j h)
    where
      other : (j : ℕ) → j < 64 → find (commits_of (closed ++ (tail ∷ [])) ++ (me ∷ [])) (num_at s.places j)
          ≡ find (commits_of (closed ++ (tail ∷ []))) (num_at s.places j)
          → Lively (commits_of (closed ++ (tail ∷ []))) disk.cells disk.oldest s.next.0 (place_at s.places j)
          → Lively (commits_of (closed ++ (tail ∷ [])) ++ (me ∷ [])) disk.cells disk.oldest s.next.0
          (place_at s.places j)
      other j h q y = record {
        formed = y.formed;
        small = y.small;
        over = rw q y.over;
        place = rw q y.place;
        unended = rw q y.unended;
        waits = y.waits;
        busy = y.busy;
      }

      all' : (x : ℕ) → 0 < count x disk.cells → 0 < (find (commits_of (closed ++ (tail ∷ [])) ++ (me ∷ [])) x).time
          → (x ≡ n) ⊎ (x ≢ n)
          → (n ≡ x) ⊎ ((j : ℕ) × (j < 64) × (j ≢ i) × (num_at s.places j ≡ x))
      all' x a z (inl e) = inl (sym e)
      all' x a z (inr e) =
          let (j, h, q) = u.living.all x a (rw (found_old x e) at z) in
          inr (j, h, (λ w. e (sym q ∙ ap (λ (y : ℕ). num_at s.places y) w ∙ active_num u n i f)), q)

      home' : (j : ℕ) → j < 64 → 0 < table_num lg.medium j → 0 < count (table_num lg.medium j) disk.cells
          → num_at s.places j ≡ table_num lg.medium j
      home' j h = rw (num_stays g j h) (u.living.home j h)

  opens' : Opens (versions_of (closed ++ (tail ∷ []))) s.next.0 (close b.opened n) (set s.places i ended)
  unfolding ended
  opens' = record {
    clocks = λ j h. clocks' j h (same? j i);
    short = λ j h. short' j h (same? j i);
    below = below_close b.opened n s.next.0 u.opens.below;
    held = λ j h. held' j h (same? j i);
    known = λ j h. known' j h (same? j i);
  }
    where
      here : place_at (set s.places i ended) i ≡ ended
      here = place_at_same s.places i ended u.living.size (active_place u n i f)

      clocks' : (j : ℕ) → j < 64 → (j ≡ i) ⊎ (j ≢ i) → 0 < num_at (set s.places i ended) j
          → time_at (set s.places i ended) j ≡ 0
          → clock_in (close b.opened n) (num_at (set s.places i ended) j)
          ≡ life_clock (place_at (set s.places i ended) j).life
      clocks' j h (inl e) = rw (e, here) (λ z w. absurd (omega arith))
      clocks' j h (inr e) =
          rw (place_at_other s.places i j ended e)
          (λ z w. clock_close b.opened n (num_at s.places j) (elsewhere u n i f j h e) ∙ u.opens.clocks j h z w)

      short' : (j : ℕ) → j < 64 → (j ≡ i) ⊎ (j ≢ i) → life_clock (place_at (set s.places i ended) j).life < 2 ^ 64
      short' j h (inl e) = rw (e, here) (omega arith)
      short' j h (inr e) = rw (place_at_other s.places i j ended e) (u.opens.short j h)

      held' : (j : ℕ) → j < 64 → (j ≡ i) ⊎ (j ≢ i) → 0 < num_at (set s.places i ended) j
          → time_at (set s.places i ended) j ≡ 0 → (x y : ℕ) → x < y
          → y < length (versions_of (closed ++ (tail ∷ [])))
          → (at (versions_of (closed ++ (tail ∷ []))) x).num ≡ num_at (set s.places i ended) j
          → (at (versions_of (closed ++ (tail ∷ []))) x).key ≡ (at (versions_of (closed ++ (tail ∷ []))) y).key
          → (at (versions_of (closed ++ (tail ∷ []))) y).num ≡ num_at (set s.places i ended) j
      held' j h (inl e) = rw (e, here) (λ z w. absurd (omega arith))
      held' j h (inr e) = rw (place_at_other s.places i j ended e) (u.opens.held j h)

      known' : (j : ℕ) → j < 64 → (j ≡ i) ⊎ (j ≢ i) → 0 < num_at (set s.places i ended) j
          → time_at (set s.places i ended) j ≡ 0
          → is_open (close b.opened n) (num_at (set s.places i ended) j) ≡ true
      known' j h (inl e) = rw (e, here) (λ z w. absurd (omega arith))
      known' j h (inr e) =
          rw (place_at_other s.places i j ended e)
          (λ z w. open_close b.opened n (num_at s.places j) (elsewhere u n i f j h e) ∙ u.opens.known j h z w)

  goes_on : (o y x : ℕ) → x ≤ 64 → Pending d m disk (commits_of (closed ++ (tail ∷ []))) s.places s.first
      (length closed) o y x
      → Pending d lg.medium (with_log disk g.stored') (commits_of (closed ++ (tail ∷ [])) ++ (me ∷ []))
      (set s.places i ended) s.first (length g.closed') o y x
  unfolding me
  goes_on o y x le p = record {
    above = p.above;
    below = omega (arith, p.below, g.below);
    pages = p.pages;
    early =
        each_append (λ (z : LoggedCommit). z.seq < o → z.time ≤ y) (commits_of (closed ++ (tail ∷ []))) (me ∷ [])
        p.early ((λ a. absurd (omega (arith, p.below, g.below))), tt);
    late = rw (g.longer, commits_append, last_append) (omega (arith, p.late));
    covered = covered' o x le (omega (arith, p.below, g.below)) p.covered;
  }

  commit_up : Up l d lg.medium c (committed_state s i n t lg)
      (add b (committed n t.0) (log_changed l m lg.medium) (close b.opened n)) (with_log disk g.stored')
      g.closed' g.tail'
  unfolding committed_state add ended me rows_in last_of
  commit_up = record {
    medium =
        grow_commit g.medium _ g.grown g.sound g.top g.front (recent u g)
        (record { number = record { 0 = n }; time = t }) refl
        (omega (arith, u.state.last)) (uncommitted u n i f) (alone u n i f);
    state = record {
      blocks = u.state.blocks;
      pages = u.state.pages;
      slots = rw old_vs u.state.slots;
      tail_block = g.tail_block;
      ring_low = (recent u g);
      ring_high = g.ring_high;
      mark = g.mark;
      last = rw (new_cs, last_append) (omega (arith, u.state.last));
      saved = g.saved;
      next_low = u.state.next_low;
      next_high = u.state.next_high;
      numbers =
          rw g.grown (each_append (λ (y : Placed). number_in y.rec < s.next.0) (records (closed ++ (tail ∷ []))) _
          u.state.numbers (active_next u n i f, tt));
    };
    cache = rw old_vs u.cache;
    firsts =
        rw old_vs (record {
          size = u.firsts.size;
          noted = u.firsts.noted;
          low = u.firsts.low;
          high =
              λ p h. omega (arith, u.firsts.high p h, g.below);
          lacks = u.firsts.lacks;
        });
    living = rw new_cs living';
    opens = rw old_vs opens';
    phase =
        rw new_cs (phase_map s.phase d m lg.medium disk (with_log disk g.stored') (commits_of (closed ++ (tail ∷ [])))
        (commits_of (closed ++ (tail ∷ [])) ++ (me ∷ []))
        s.places (set s.places i ended) s.first s.first (length closed) (length g.closed') goes_on u.phase);
    rows = rw (g.grown, rows_append, u.rows);
    stored = rw (u.stored, u.rows, length_rows) g.rows;
  }

module _ {l d : ℕ} {m c : List ℕ} {s : State} {b : Book} {disk : Disk} {closed : List (List Record)}
    {tail : List Record} (u : Up l d m c s b disk closed tail) where
  -- the record that the call takes is sound: its time is above the last one, and below 2^64 by the questions
  pub taken : (n clock i : ℕ) → clock < 2 ^ 64 → find_active s.places n ≡ Some i → s.last.0 < 2 ^ 64 - 1
      → Sound d (commit (record { number = record { 0 = n }; time = commit_time s i clock }))
  unfolding commit_time record_form
  taken n clock i h f a = record {
    sized = record {
      number = omega (arith, active_high u n i f);
      time = omega (arith, u.opens.short i (active_place u n i f), clock_is (place_at s.places i).life);
    };
    form = refl;
    low = active_low u n i f;
    high = active_high u n i f;
    placeable = omega arith;
  }

  pub committed_up : (n clock i : ℕ) → clock < 2 ^ 64 → Passed (commit_asks s m c n) → find_active s.places n ≡ Some i
      → eqb (place_at s.places i).waiting 0 ≡ false
      → Inv l d (after (commit_step s m c i n (commit_time s i clock)))
      (add b (committed n (commit_time s i clock).0)
      (log_changed l m (commit_step s m c i n (commit_time s i clock)).medium) (close b.opened n))
  unfolding commit_step commit_time record_size
  committed_up n clock i h p f w =
      let a : ltb s.last.0 (2 ^ 64 - 1) ≡ true = rw (f, w) at p.1.1.0 in
      let may : may_log s m 19 ≡ true = rw (f, w) at p.1.1.1.0 in
      let r : Record = commit (record { number = record { 0 = n }; time = commit_time s i clock }) in
      running (commit_up u n i f (commit_time s i clock) (omega arith) w (logged s m r)
      (grows u r (taken n clock i h f (ltb-true s.last.0 (2 ^ 64 - 1) a)) may))
