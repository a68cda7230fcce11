-- Begin, abort and commit without versions: only places and open numbers change, and a place that is taken or left has
-- no live pair of the table, so everything said of the medium stays.
use Rattle.std.specs.Prelude.{Some}
use Prim.Native.Nat.{ℕ, ◌+◌, ◌-◌, ◌^◌, ◌≤◌, ◌<◌}
use native.Mathlib.Omega.{arith}
use mathlib.Core.Bool.{or-true, Bool, true, false, cond, ◌||◌}
use mathlib.Core.List.{List, [], ◌∷◌, ◌++◌}
use mathlib.Core.Logic.{◌⊎◌, inl, inr, ◌≢◌}
use mathlib.Core.Path.{◌≡◌, refl, sym, ap, ◌∙◌}
use lib.Dec.{eqb}
use lib.ListN.{length, set}
use borrow.Author.Tests.{eqb-true, eq-eqb, ne_eqb, ltb-true}
use Rattle.layout.specs.Journal.{Record}
use Rattle.fields.proofs.CellLaws.{Each, each_at, each_map}
use Rattle.store.specs.declared.Life.TheVariants.{Active}
use Rattle.store.specs.declared.Place.{Place}
use Rattle.store.specs.declared.State.{State}
use Rattle.store.specs.Places.{find_active, find_free, is_free, free_place, ring_place, place_at}
use Rattle.store.specs.State.{with_place}
use Rattle.store.specs.Begin.{begin_asks, begun}
use Rattle.store.specs.OpenLog.{Placed, number_in}
use Rattle.store.proofs.AskLaws.{Passed}
use Rattle.store.proofs.SearchLaws.{first_found}
use Rattle.runs.specs.Book.{Book, Row, Opened, close, has_row, is_open, clock_of as clock_in}
use Rattle.runs.specs.Machine.{up}
use Rattle.agreement.proofs.invariant.PlaceFacts.{free_num, active_found}
use Rattle.agreement.proofs.history.Ghost.{versions_of, commits_of, records, LoggedVersion, no_version, at}
use Rattle.agreement.proofs.history.Ghost.{LoggedCommit, find, count, Disk}
use Rattle.agreement.proofs.invariant.Invariant.{life_clock, num_at, time_at, table_num, Covered, Lively, Up, Inv}
use Rattle.agreement.proofs.invariant.Invariant.{running}
use Rattle.agreement.proofs.history.ListLaws.{same?}
use Rattle.agreement.proofs.history.CommitLaws.{find_none, find_num, find_each}
use Rattle.agreement.proofs.history.VersionLaws.{num_versions, num_commits}
use Rattle.agreement.proofs.history.RowLaws.{below_row}
use Rattle.agreement.proofs.invariant.MediumFacts.{CommitSound, commits_sound, find_stored, waiting_slot}
use Rattle.agreement.proofs.invariant.PlaceSet.{place_at_same, place_at_other, covered_set, living_set, phase_map}

closed_above : (os : List Opened) (n : ℕ) → Each (λ (o : Opened). o.number < n) os → is_open os n ≡ false
unfolding is_open
closed_above [] n h = refl
closed_above (o ∷ os) n h = rw (ne_eqb o.number n (λ e. omega (arith, h.0))) (closed_above os n h.1)

-- the clocks of the other open numbers stay
pub clock_close : (os : List Opened) (n k : ℕ) → k ≢ n → clock_in (close os n) k ≡ clock_in os k
unfolding clock_in close
clock_close [] n k h = refl
clock_close (o ∷ os) n k h = go (eqb o.number n) refl (clock_close os n k h)
  where
    go : (t : Bool) → eqb o.number n ≡ t → clock_in (close os n) k ≡ clock_in os k
        → clock_in (cond t (close os n) (o ∷ close os n)) k ≡ cond (eqb o.number k) o.clock (clock_in os k)
    go true e ih = rw (ne_eqb o.number k (λ w. h (sym w ∙ eqb-true _ _ e))) ih
    go false e ih = ap (λ (x : ℕ). cond (eqb o.number k) o.clock x) ih

-- the other open numbers stay open
pub open_close : (os : List Opened) (n k : ℕ) → k ≢ n → is_open (close os n) k ≡ is_open os k
unfolding is_open close
open_close [] n k h = refl
open_close (o ∷ os) n k h = go (eqb o.number n) refl (open_close os n k h)
  where
    go : (t : Bool) → eqb o.number n ≡ t → is_open (close os n) k ≡ is_open os k
        → is_open (cond t (close os n) (o ∷ close os n)) k ≡ (eqb o.number k || is_open os k)
    go true e ih = rw (ne_eqb o.number k (λ w. h (sym w ∙ eqb-true _ _ e))) ih
    go false e ih = ap (λ (x : Bool). eqb o.number k || x) ih

pub below_close : (os : List Opened) (n k : ℕ) → Each (λ (o : Opened). o.number < k) os
    → Each (λ (o : Opened). o.number < k) (close os n)
unfolding close
below_close [] n k h = tt
below_close (o ∷ os) n k h = go (eqb o.number n) (below_close os n k h.1)
  where
    go : (t : Bool) → Each (λ (x : Opened). x.number < k) (close os n)
        → Each (λ (x : Opened). x.number < k) (cond t (close os n) (o ∷ close os n))
    go true ih = ih
    go false ih = (h.0, ih)

-- ---- the place that a new number takes

ring_below : (ring r : ℕ) → ring_place ring r < 64
unfolding ring_place
ring_below ring r = omega arith

free_found : (ps : List Place) (ring r : ℕ) → find_free ps ring ≡ Some r
    → is_free (place_at ps (ring_place ring r)).life ≡ true
unfolding find_free
free_found ps ring r e = (first_found (λ k. is_free (place_at ps (ring_place ring k)).life) 64 0 r e).2

module _ {l d : ℕ} {m c : List ℕ} {s : State} {b : Book} {disk : Disk} {closed : List (List Record)}
    {tail : List Record} (u : Up l d m c s b disk closed tail) where
  -- the next number is neither open nor in a row: all are below it
  pub not_open : is_open b.opened s.next.0 ≡ false
  not_open = closed_above b.opened s.next.0 u.opens.below

  pub not_used : has_row b.rows s.next.0 ≡ false
  not_used =
      ap (λ (rs : List Row). has_row rs s.next.0) u.rows
      ∙ below_row (records (closed ++ (tail ∷ []))) s.next.0 u.state.numbers

  -- the place was free, so no live pair of the table is at it (home); nothing waits under the new number
  pub began : (clock i : ℕ) → clock < 2 ^ 64 → Passed (begin_asks s m c) → find_free s.places s.ring ≡ Some i
      → Inv l d (up m c (begun s (ring_place s.ring i) clock))
      (record { opened = record { number = s.next.0; clock = clock } ∷ b.opened; rows = b.rows; stored = b.stored })
  unfolding begun clock_in is_open
  began clock r hc p f =
      let next-bound : s.next.0 < 2 ^ 64 - 1 = ltb-true s.next.0 (2 ^ 64 - 1) p.1.0 in
      running {s = begun s i clock} {b = record {
        opened = record { number = s.next.0; clock = clock } ∷ b.opened;
        rows = b.rows;
        stored = b.stored;
      }} (record {
        medium = u.medium;
        state = record {
          blocks = u.state.blocks;
          pages = u.state.pages;
          slots = u.state.slots;
          tail_block = u.state.tail_block;
          ring_low = u.state.ring_low;
          ring_high = u.state.ring_high;
          mark = u.state.mark;
          last = u.state.last;
          saved = u.state.saved;
          next_low = omega arith;
          next_high = omega arith;
          numbers =
              each_map _ (λ (x : Placed). number_in x.rec < s.next.0 + 1) (records history) (λ x z. omega arith)
              u.state.numbers;
        };
        cache = u.cache;
        firsts = u.firsts;
        living = living_set u.living m (commits_of history) disk.cells disk.oldest (s.next.0 + 1) i h new
            (record {
              formed = u.state.next_low;
              small = omega arith;
              over = λ z. absurd (omega arith);
              place =
                  λ z. absurd (omega arith);
              unended = λ z t. no_commit;
              waits = λ z. sym no_wait;
              busy =
                  λ z. absurd (omega arith);
            })
            (λ j b e. raise (u.living.each j b))
            (λ j b e z w. omega (arith, w, (u.living.each j b).small))
            (λ x w z. let (j, b, e) = u.living.all x w z in inr (j, b, (λ y. elsewhere x j z e y), e))
            (covered' disk.oldest 64 u.living.covered)
            (λ z w. absurd (omega (arith, vacant, u.living.home i h z w)))
            (λ j b e. u.living.home j b);
        opens = record {
          clocks = λ j b. clocks' j b (same? j i);
          short = λ j b. short' j b (same? j i);
          below = (
            omega arith,
            each_map _ (λ (o : Opened). o.number < s.next.0 + 1) b.opened (λ o z. omega arith)
                u.opens.below,
          );
          held = λ j b. held' j b (same? j i);
          known = λ j b. known' j b (same? j i);
        };
        phase =
            phase_map s.phase d m m disk disk _ _ s.places (set s.places i new) s.first s.first (length closed)
            (length closed)
            (λ o t x le p. record {
              above = p.above;
              below = p.below;
              pages = p.pages;
              early = p.early;
              late = p.late;
              covered = covered' o x p.covered;
            })
            u.phase;
        rows = u.rows;
        stored = u.stored;
      })
    where
      history : List (List Record)
      history = closed ++ (tail ∷ [])

      i : ℕ
      i = ring_place s.ring r

      new : Place
      new = record { life = Active s.next clock; waiting = 0 }

      h : i < 64
      h = ring_below s.ring r

      vacant : num_at s.places i ≡ 0
      vacant = free_num (place_at s.places i).life (free_found s.places s.ring r f)

      no_commit : (find (commits_of history) s.next.0).time ≡ 0
      no_commit =
          ap (λ (c : LoggedCommit). c.time)
          (find_none s.next.0 (commits_of history)
          (each_map _ (λ (c : LoggedCommit). c.num ≢ s.next.0) (commits_of history) (λ c z e. omega arith)
          (num_commits (λ n. n < s.next.0) (records history) u.state.numbers)))

      no_version_law : (j : ℕ) → j < length (versions_of history) → (at (versions_of history) j).num < s.next.0
      no_version_law j a =
          each_at (λ (v : LoggedVersion). v.num < s.next.0) (versions_of history) j no_version
          (num_versions (λ n. n < s.next.0) (records history) u.state.numbers) a

      no_wait : count s.next.0 disk.cells ≡ 0
      no_wait = go (same? (count s.next.0 disk.cells) 0)
        where
          go : (count s.next.0 disk.cells ≡ 0) ⊎ (count s.next.0 disk.cells ≢ 0) → count s.next.0 disk.cells ≡ 0
          go (inl e) = e
          go (inr e) =
              let (j, a, q, w) = waiting_slot u.medium s.next.0 (omega arith) in
              absurd (omega (arith, q, no_version_law j a))

      raise : {q : Place} → Lively (commits_of history) disk.cells disk.oldest s.next.0 q
          → Lively (commits_of history) disk.cells disk.oldest (s.next.0 + 1) q
      raise v =
          record {
            formed = v.formed;
            small = omega (arith, v.small);
            over = v.over;
            place = v.place;
            unended =
                v.unended;
            waits = v.waits;
            busy = v.busy;
          }

      -- a committed number is not 0, so it is at another place
      elsewhere : (x j : ℕ) → 0 < (find (commits_of history) x).time → num_at s.places j ≡ x → j ≡ i → ⊥
      elsewhere x j z e y =
          let low : 1 ≤ (find (commits_of history) x).num =
          (find_each x CommitSound (commits_of history) (commits_sound d history u.medium.log.shape.sound) z).low in
          let q : num_at s.places j ≡ num_at s.places i = ap (num_at s.places) y in
          omega (arith, low, find_num x (commits_of history) z, q, vacant, e)

      covered' : (o x : ℕ) → Covered m (commits_of history) s.places o x
          → Covered m (commits_of history) (set s.places i new) o x
      covered' o x g =
          covered_set m (commits_of history) s.places i new o x u.living.size h (λ z. absurd (omega arith))
          (λ j b e. g j b)

      clocks' : (j : ℕ) → j < 64 → (j ≡ i) ⊎ (j ≢ i) → 0 < num_at (set s.places i new) j
          → time_at (set s.places i new) j ≡ 0
          → cond (eqb s.next.0 (num_at (set s.places i new) j)) clock
          (clock_in b.opened (num_at (set s.places i new) j)) ≡ life_clock (place_at (set s.places i new) j).life
      clocks' j a (inl q) =
          rw (q, place_at_same s.places i new u.living.size h, eq-eqb s.next.0 s.next.0 refl) (λ z t. refl)
      clocks' j a (inr q) =
          rw (
            place_at_other s.places i j new q,
            ne_eqb s.next.0 (num_at s.places j) (λ e. omega (arith, (u.living.each j a).small)),
          )
          (u.opens.clocks j a)

      short' : (j : ℕ) → j < 64 → (j ≡ i) ⊎ (j ≢ i) → life_clock (place_at (set s.places i new) j).life < 2 ^ 64
      short' j a (inl q) = rw (q, place_at_same s.places i new u.living.size h) hc
      short' j a (inr q) = rw (place_at_other s.places i j new q) (u.opens.short j a)

      held' : (j : ℕ) → j < 64 → (j ≡ i) ⊎ (j ≢ i) → 0 < num_at (set s.places i new) j
          → time_at (set s.places i new) j ≡ 0 → (x y : ℕ) → x < y
          → y < length (versions_of history) → (at (versions_of history) x).num ≡ num_at (set s.places i new) j
          → (at (versions_of history) x).key ≡ (at (versions_of history) y).key
          → (at (versions_of history) y).num ≡ num_at (set s.places i new) j
      held' j a (inl q) =
          rw (q, place_at_same s.places i new u.living.size h)
          (λ z t x y lt g e. absurd (omega (arith, e, no_version_law x (omega arith))))
      held' j a (inr q) = rw (place_at_other s.places i j new q) (u.opens.held j a)

      known' : (j : ℕ) → j < 64 → (j ≡ i) ⊎ (j ≢ i) → 0 < num_at (set s.places i new) j
          → time_at (set s.places i new) j ≡ 0
          → (eqb s.next.0 (num_at (set s.places i new) j) || is_open b.opened (num_at (set s.places i new) j)) ≡ true
      known' j a (inl q) =
          rw (q, place_at_same s.places i new u.living.size h, eq-eqb s.next.0 s.next.0 refl) (λ z t. refl)
      known' j a (inr q) =
          rw (place_at_other s.places i j new q)
          (λ z t. rw (u.opens.known j a z t) (or-true (eqb s.next.0 (num_at s.places j))))

  -- the number has no commit, so `all` and `home` do not speak of it
  pub closes : (n i : ℕ) → find_active s.places n ≡ Some i
      → Inv l d (up m c (with_place s i free_place))
      (record { opened = close b.opened n; rows = b.rows; stored = b.stored })
  unfolding with_place
  closes n i f =
      let a = active_found u.living n i f in
      let h : i < 64 = a.0 in
      let lone : (find (commits_of (closed ++ (tail ∷ []))) n).time ≡ 0 =
      rw a.2 at ((u.living.each i h).unended (omega (arith, a.2, a.1)) a.3) in
      running (record {
        medium = u.medium;
        state = u.state;
        cache = u.cache;
        firsts = u.firsts;
        living = living_set u.living m _ _ _ _ i h free_place
            (record {
              formed = tt;
              small = u.state.next_low;
              over = λ z. absurd (omega arith);
              place =
                  λ z. absurd (omega arith);
              unended = λ z. absurd (omega arith);
              waits = λ z. absurd (omega arith);
              busy = λ z. absurd (omega arith);
            })
            (λ j b e. u.living.each j b)
            (λ j b e z. absurd (omega arith))
            (λ x w z. let (j, b, e) = u.living.all x w z in inr (j, b, (λ y. omega (arith, z, lone, other x e y)), e))
            (covered' i u.living.size h disk.oldest 64 u.living.covered)
            (λ z w. absurd (omega (arith, lone, paired i h a.2 z w)))
            (λ j b e. u.living.home j b);
        opens = record {
          clocks = λ j b. clocks' i a.2 h j b (same? j i);
          short = λ j b. short' i h j b (same? j i);
          below = below_close b.opened n s.next.0 u.opens.below;
          held = λ j b. held' i h j b (same? j i);
          known = λ j b. known' i a.2 h j b (same? j i);
        };
        phase =
            phase_map s.phase d m m disk disk _ _ s.places (set s.places i free_place) s.first s.first (length closed)
            (length closed)
            (λ o t x le p. record {
              above = p.above;
              below = p.below;
              pages = p.pages;
              early = p.early;
              late = p.late;
              covered = covered' i u.living.size h o x p.covered;
            })
            u.phase;
        rows = u.rows;
        stored = u.stored;
      })
    where
      other : (x : ℕ) {j : ℕ} → num_at s.places j ≡ x → j ≡ i
          → (find (commits_of (closed ++ (tail ∷ []))) n).time ≡ (find (commits_of (closed ++ (tail ∷ []))) x).time
      other x {j} e y =
          ap (λ (q : ℕ). (find (commits_of (closed ++ (tail ∷ []))) q).time)
          (sym (active_found u.living n i f).2 ∙ ap (λ (q : ℕ). num_at s.places q) (sym y) ∙ e)

      covered' : (i : ℕ) → length s.places ≡ 64 → i < 64 → (o x : ℕ)
          → Covered m (commits_of (closed ++ (tail ∷ []))) s.places o x
          → Covered m (commits_of (closed ++ (tail ∷ []))) (set s.places i free_place) o x
      covered' i len h o x g =
          covered_set m (commits_of (closed ++ (tail ∷ []))) s.places i free_place o x len h (λ z. absurd (omega arith))
          (λ j b e. g j b)

      clocks' : (i : ℕ) → num_at s.places i ≡ n → i < 64 → (j : ℕ) → j < 64 → (j ≡ i) ⊎ (j ≢ i)
          → 0 < num_at (set s.places i free_place) j → time_at (set s.places i free_place) j ≡ 0
          → clock_in (close b.opened n) (num_at (set s.places i free_place) j)
          ≡ life_clock (place_at (set s.places i free_place) j).life
      clocks' i e h j a (inl q) =
          rw (q, place_at_same s.places i free_place u.living.size h) (λ z. absurd (omega arith))
      clocks' i e h j a (inr q) =
          rw (place_at_other s.places i j free_place q)
          (λ z t. clock_close b.opened n (num_at s.places j) (λ w. q (u.living.distinct j i a h z (w ∙ sym e)))
          ∙ u.opens.clocks j a z t)

      short' : (i : ℕ) → i < 64 → (j : ℕ) → j < 64 → (j ≡ i) ⊎ (j ≢ i)
          → life_clock (place_at (set s.places i free_place) j).life < 2 ^ 64
      short' i h j a (inl q) = rw (q, place_at_same s.places i free_place u.living.size h) (omega arith)
      short' i h j a (inr q) = rw (place_at_other s.places i j free_place q) (u.opens.short j a)

      held' : (i : ℕ) → i < 64 → (j : ℕ) → j < 64 → (j ≡ i) ⊎ (j ≢ i) → 0 < num_at (set s.places i free_place) j
          → time_at (set s.places i free_place) j ≡ 0 → (x y : ℕ) → x < y
          → y < length (versions_of (closed ++ (tail ∷ [])))
          → (at (versions_of (closed ++ (tail ∷ []))) x).num ≡ num_at (set s.places i free_place) j
          → (at (versions_of (closed ++ (tail ∷ []))) x).key ≡ (at (versions_of (closed ++ (tail ∷ []))) y).key
          → (at (versions_of (closed ++ (tail ∷ []))) y).num ≡ num_at (set s.places i free_place) j
      held' i h j a (inl q) = rw (q, place_at_same s.places i free_place u.living.size h) (λ z. absurd (omega arith))
      held' i h j a (inr q) = rw (place_at_other s.places i j free_place q) (u.opens.held j a)

      known' : (i : ℕ) → num_at s.places i ≡ n → i < 64 → (j : ℕ) → j < 64 → (j ≡ i) ⊎ (j ≢ i)
          → 0 < num_at (set s.places i free_place) j → time_at (set s.places i free_place) j ≡ 0
          → is_open (close b.opened n) (num_at (set s.places i free_place) j) ≡ true
      known' i e h j a (inl q) = rw (q, place_at_same s.places i free_place u.living.size h) (λ z. absurd (omega arith))
      known' i e h j a (inr q) =
          rw (place_at_other s.places i j free_place q)
          (λ z t. open_close b.opened n (num_at s.places j) (λ w. q (u.living.distinct j i a h z (w ∙ sym e)))
          ∙ u.opens.known j a z t)

      -- a live pair of the table at the place would be of a committed number
      paired : (i : ℕ) → i < 64 → num_at s.places i ≡ n → 0 < table_num m i → 0 < count (table_num m i) disk.cells
          → 0 < (find (commits_of (closed ++ (tail ∷ []))) n).time
      paired i h e z w =
          let q : table_num m i ≡ n = sym (u.living.home i h z w) ∙ e in
          let p = u.medium.table.pair i h z in
          let g : 0 < (find (commits_of disk.stored) n).time =
          omega (arith, p, ap (λ (y : ℕ). (find (commits_of disk.stored) y).time) q) in
          omega (arith, g, ap (λ (y : LoggedCommit). y.time) (find_stored u.medium n g))
