-- The places that an opening makes: those of the table's live pairs, then one for each live pair of the log alone.
-- While numbers are still to come, each waiting committed number has a place or is among them; a free place there is
-- for each, as the numbers in places and the next one have 64 owners.
use Rattle.std.specs.Prelude.{Option, Some, None}
use Prim.Native.Nat.{ℕ, zero, suc, ◌+◌, ◌≤◌, ◌<◌}
use native.Mathlib.Nat.{not-suc-le-zero, le_of_suc-le-suc, add-zero}
use native.Mathlib.Omega.{arith}
use mathlib.Core.Bool.{Bool, true, false, cond, not, ◌&&◌, false≢true}
use mathlib.Core.List.{List, [], ◌∷◌}
use mathlib.Core.Logic.{◌⊎◌, inl, inr, ◌≢◌}
use mathlib.Core.Path.{◌≡◌, refl, sym, ap, ◌∙◌, subst}
use lib.Dec.{eqb, ltb}
use lib.ListN.{length, get_or, set, length-set}
use borrow.Author.Tests.{lt-ltb, le-ltb, ltb-true, ltb-false, eqb-true, eqb-false}
use Rattle.layout.specs.Slot.{Cell}
use Rattle.fields.proofs.CellLaws.{Each, each_map}
use Rattle.store.specs.declared.Life.{Life}
use Rattle.store.specs.declared.Life.TheVariants.{Free, Active, Committed}
use Rattle.store.specs.declared.Place.{Place}
use Rattle.store.specs.Places.{first, place_at, free_place, is_free}
use Rattle.store.specs.OpenLog.{read_log, commit_under, next_number}
use Rattle.store.specs.OpenPairs.{table_find, time_or_zero, end_of_commitment, count_waiting, live_place, table_places}
use Rattle.store.specs.OpenPairs.{take_at, take_free, waiting_numbers, in_log_alone}
use Rattle.store.proofs.SearchLaws.{first_found, first_nothing}
use Rattle.runs.specs.Book.{Book}
use Rattle.agreement.proofs.invariant.PlaceFacts.{free_num, life_low}
use Rattle.agreement.proofs.history.Ghost.{commits_of, LoggedCommit, commits_in, no_commit, find, count, Disk}
use Rattle.agreement.proofs.history.ListLaws.{split, same?}
use Rattle.agreement.proofs.invariant.Invariant.{table_num, table_time, life_num, life_time, Formed, num_at, time_at}
use Rattle.agreement.proofs.invariant.Invariant.{Lively, Covered, Down}
use Rattle.agreement.proofs.invariant.PlaceSet.{place_at_same, place_at_other, covered_set}
use Rattle.agreement.proofs.opening.Reading.{commit_zero, commit_end, next_low}
use Rattle.agreement.proofs.opening.Pigeons.{pigeon}
use Rattle.agreement.proofs.opening.WaitingLaws.{Ascending, Among, waiting_ascends, waiting_each, waiting_all}
use Rattle.agreement.proofs.opening.PairLaws.{table_found, table_lacks, logged_times, commit_where, commit_logged}
use Rattle.agreement.proofs.opening.PairLaws.{waited_low, committed_below, unlisted, alone_commit, commit_alone}

-- the places while the numbers ns are still to come
pub record Taken (m : List ℕ) (cs : List LoggedCommit) (cells : List Cell) (o next : ℕ) (ps : List Place)
    (ns : List ℕ) : Type 0 where
  pub size : length ps ≡ 64
  pub each : (i : ℕ) → i < 64 → Lively cs cells o next (place_at ps i)
  pub over : (i : ℕ) → i < 64 → 0 < num_at ps i → 0 < time_at ps i  -- none is active
  pub distinct : (i j : ℕ) → i < 64 → j < 64 → 0 < num_at ps i → num_at ps i ≡ num_at ps j → i ≡ j
  pub all : (n : ℕ) → 0 < count n cells → 0 < (find cs n).time → ((i : ℕ) × (i < 64) × (num_at ps i ≡ n)) ⊎ Among n ns
  pub covered : Covered m cs ps o 64
  pub home : (i : ℕ) → i < 64 → 0 < table_num m i → 0 < count (table_num m i) cells → num_at ps i ≡ table_num m i
  pub apart : Each (λ (n : ℕ). (j : ℕ) → j < 64 → num_at ps j ≢ n) ns

used_num : (f : Life) → Formed f → is_free f ≡ false → 0 < life_num f
used_num Free h e = absurd (false≢true (sym e))
used_num (Active n k) h e = h
used_num (Committed n t k) h e = h.0

module _ {l d : ℕ} {m : List ℕ} {b : Book} {disk : Disk} (x : Down l d m b disk) (c : List ℕ) (slots : ℕ)
    (counts : (n : ℕ) → count_waiting c n slots ≡ count n disk.cells) where
  abbrev Took : List Place → List ℕ → Type 0
  Took ps ns = Taken m (commits_of disk.stored) disk.cells disk.oldest (next_number m l) ps ns

  -- ---- one place

  free_lively : Lively (commits_of disk.stored) disk.cells disk.oldest (next_number m l) free_place
  free_lively = record {
    formed = tt;
    small = next_low x.medium;
    over = λ h. absurd (not-suc-le-zero h);
    place = λ h. absurd (not-suc-le-zero h);
    unended = λ h. absurd (not-suc-le-zero h);
    waits = λ h. absurd (not-suc-le-zero h);
    busy = λ h. absurd (not-suc-le-zero h);
  }

  live_lively : (n t : ℕ) → 0 < count n disk.cells → 0 < t → (find (commits_of disk.stored) n).time ≡ t
      → Lively (commits_of disk.stored) disk.cells disk.oldest (next_number m l)
      (live_place m (read_log m l) c slots n t)
  unfolding live_place
  live_lively n t h z e = record {
    formed = (waited_low x n h, z);
    small = committed_below x n (omega arith);
    over = λ _. e;
    place = λ _. go (commit_where x n (omega arith));
    unended = λ _ a. absurd (omega arith);
    waits = λ _. counts n;
    busy = λ _. omega (arith, counts n);
  }
    where
      end_is : end_of_commitment (commit_under (read_log m l) n) ≡ (find (commits_in (read_log m l)) n).end
      end_is = commit_end (read_log m l) n (logged_times x)

      go : (find (commits_in (read_log m l)) n ≡ find (commits_of disk.stored) n)
          ⊎ ((find (commits_in (read_log m l)) n ≡ no_commit) × ((find (commits_of disk.stored) n).seq < disk.oldest))
          → (end_of_commitment (commit_under (read_log m l) n) ≡ (find (commits_of disk.stored) n).end)
          ⊎ ((end_of_commitment (commit_under (read_log m l) n) ≡ 0)
          × ((find (commits_of disk.stored) n).seq < disk.oldest))
      go (inl q) = inl (end_is ∙ ap (λ (y : LoggedCommit). y.end) q)
      go (inr q) = inr (end_is ∙ ap (λ (y : LoggedCommit). y.end) q.0, q.1)

  -- ---- a free place for one that has none

  module _ (ps : List Place) (ns : List ℕ) (p : Took ps ns) (n : ℕ) (h : 0 < count n disk.cells)
      (f : 0 < (find (commits_of disk.stored) n).time)
      (away : (j : ℕ) → j < 64 → num_at ps j ≢ n) where
    name : ℕ → ℕ
    name i = cond (ltb i 64) (num_at ps i) n

    name_in : (i : ℕ) → i < 64 → name i ≡ num_at ps i
    unfolding name
    name_in i a = ap (λ (t : Bool). cond t (num_at ps i) n) (lt-ltb i 64 a)

    name_out : (i : ℕ) → 64 ≤ i → name i ≡ n
    unfolding name
    name_out i a = ap (λ (t : Bool). cond t (num_at ps i) n) (le-ltb i 64 a)

    some_free : first (λ i. is_free (place_at ps i).life) 64 0 ≡ None → ⊥
    some_free e =
        pigeon 64 (λ i j. get_or x.owners j 0 ≡ name i) (λ i a. owner i a (split i 64))
        (λ i j r a q s t. same i j a q (split i 64) (split j 64) (sym s ∙ t))
      where
        used : (i : ℕ) → i < 64 → 0 < num_at ps i
        used i a =
            used_num (place_at ps i).life (p.each i a).formed
            (first_nothing (λ j. is_free (place_at ps j).life) 64 0 e i (omega arith) (omega arith))

        owner : (i : ℕ) → i < 65 → (i < 64) ⊎ (64 ≤ i) → (j : ℕ) × (j < 64) × (get_or x.owners j 0 ≡ name i)
        owner i a (inl q) =
            let u = used i q in
            let t = p.over i q u in
            rw (name_in i q) (x.owned (num_at ps i) (omega (arith, (p.each i q).waits u, (p.each i q).busy t))
            (omega (arith, (p.each i q).over t)))
        owner i a (inr q) = rw (name_out i q) (x.owned n h f)

        same : (i j : ℕ) → i < 65 → j < 65 → (i < 64) ⊎ (64 ≤ i) → (j < 64) ⊎ (64 ≤ j) → name i ≡ name j → i ≡ j
        same i j a q (inl s) (inl t) e = p.distinct i j s t (used i s) (sym (name_in i s) ∙ e ∙ name_in j t)
        same i j a q (inl s) (inr t) e = absurd (away i s (sym (name_in i s) ∙ e ∙ name_out j t))
        same i j a q (inr s) (inl t) e = absurd (away j t (sym (name_in j t) ∙ sym e ∙ name_out i s))
        same i j a q (inr s) (inr t) e = omega arith

  -- ---- a number of the log takes place i, which is free

  module _ (ps : List Place) (n : ℕ) (ns : List ℕ) (p : Took ps (n ∷ ns)) (h : 0 < count n disk.cells)
      (f : 0 < (find (commits_in (read_log m l)) n).time)
      (above : Each (λ (y : ℕ). n < y) ns) (i : ℕ) (lt : i < 64) (free : num_at ps i ≡ 0) where
    whole : find (commits_of disk.stored) n ≡ find (commits_in (read_log m l)) n
    whole = (commit_logged x n f).0

    late : disk.oldest ≤ (find (commits_of disk.stored) n).seq
    late = rw whole (commit_logged x n f).1

    new : Place
    new = live_place m (read_log m l) c slots n (time_or_zero (commit_under (read_log m l) n))

    time_is : time_or_zero (commit_under (read_log m l) n) ≡ (find (commits_of disk.stored) n).time
    time_is = commit_zero (read_log m l) n (logged_times x) ∙ sym (ap (λ (y : LoggedCommit). y.time) whole)

    low : 0 < time_or_zero (commit_under (read_log m l) n)
    low = omega (arith, time_is, ap (λ (y : LoggedCommit). y.time) whole)

    here : place_at (set ps i new) i ≡ new
    here = place_at_same ps i new p.size lt

    there : (j : ℕ) → j ≢ i → place_at (set ps i new) j ≡ place_at ps j
    there j e = place_at_other ps i j new e

    num_here : num_at (set ps i new) i ≡ n
    unfolding new live_place
    num_here = ap (λ (y : Place). life_num y.life) here

    time_here : time_at (set ps i new) i ≡ time_or_zero (commit_under (read_log m l) n)
    unfolding new live_place
    time_here = ap (λ (y : Place). life_time y.life) here

    num_there : (j : ℕ) → j ≢ i → num_at (set ps i new) j ≡ num_at ps j
    num_there j e = ap (λ (y : Place). life_num y.life) (there j e)

    new_lively : Lively (commits_of disk.stored) disk.cells disk.oldest (next_number m l) new
    unfolding new
    new_lively = live_lively n _ h low (sym time_is)

    new_covered : Covered m (commits_of disk.stored) (set ps i new) disk.oldest 64
    unfolding new live_place
    new_covered =
        covered_set m (commits_of disk.stored) ps i new disk.oldest 64 p.size lt
        (λ z s. absurd (omega (arith, late))) (λ j a e. p.covered j a)

    placed : Took (set ps i new) ns
    placed = record {
      size = length-set ps i new ∙ p.size;
      each = λ j a. each' j a (same? j i);
      over = λ j a. over' j a (same? j i);
      distinct = λ u v a b. distinct' u v a b (same? u i) (same? v i);
      all = λ a q s. all' a (waited_low x a q) (p.all a q s);
      covered = new_covered;
      home = λ j a. home' j a (same? j i);
      apart = apart' ns above p.apart.1;
    }
      where
        each' : (j : ℕ) → j < 64 → (j ≡ i) ⊎ (j ≢ i)
            → Lively (commits_of disk.stored) disk.cells disk.oldest (next_number m l) (place_at (set ps i new) j)
        each' j a (inl e) = rw (e, here) new_lively
        each' j a (inr e) = rw (there j e) (p.each j a)

        over' : (j : ℕ) → j < 64 → (j ≡ i) ⊎ (j ≢ i) → 0 < num_at (set ps i new) j → 0 < time_at (set ps i new) j
        over' j a (inl e) = λ z. rw (e, time_here) low
        over' j a (inr e) = rw (there j e) (p.over j a)

        distinct' : (u v : ℕ) → u < 64 → v < 64 → (u ≡ i) ⊎ (u ≢ i) → (v ≡ i) ⊎ (v ≢ i) → 0 < num_at (set ps i new) u
            → num_at (set ps i new) u ≡ num_at (set ps i new) v → u ≡ v
        distinct' u v a b (inl e) (inl g) z q = e ∙ sym g
        distinct' u v a b (inl e) (inr g) z q =
            absurd (p.apart.0 v b (sym (num_there v g) ∙ sym q ∙ ap (num_at (set ps i new)) e ∙ num_here))
        distinct' u v a b (inr e) (inl g) z q =
            absurd (p.apart.0 u a (sym (num_there u e) ∙ q ∙ ap (num_at (set ps i new)) g ∙ num_here))
        distinct' u v a b (inr e) (inr g) z q =
            p.distinct u v a b (rw (num_there u e) at z) (sym (num_there u e) ∙ q ∙ num_there v g)

        all' : (a : ℕ) → 0 < a → ((j : ℕ) × (j < 64) × (num_at ps j ≡ a)) ⊎ ((a ≡ n) ⊎ Among a ns)
            → ((j : ℕ) × (j < 64) × (num_at (set ps i new) j ≡ a)) ⊎ Among a ns
        all' a z (inl (j, g, q)) = inl (j, g, num_there j (λ e. omega (arith, ap (num_at ps) e)) ∙ q)
        all' a z (inr (inl e)) = inl (i, lt, num_here ∙ sym e)
        all' a z (inr (inr e)) = inr e

        home' : (j : ℕ) → j < 64 → (j ≡ i) ⊎ (j ≢ i) → 0 < table_num m j → 0 < count (table_num m j) disk.cells
            → num_at (set ps i new) j ≡ table_num m j
        home' j a (inl e) z q = absurd (omega (arith, p.home j a z q, ap (num_at ps) e))
        home' j a (inr e) z q = num_there j e ∙ p.home j a z q

        apart_one : (y : ℕ) → n < y → ((j : ℕ) → j < 64 → num_at ps j ≢ y) → (j : ℕ) → j < 64
            → num_at (set ps i new) j ≢ y
        apart_one y g q j a = go (same? j i)
          where
            go : (j ≡ i) ⊎ (j ≢ i) → num_at (set ps i new) j ≢ y
            go (inl e) = λ r. omega (arith, ap (num_at (set ps i new)) e, num_here)
            go (inr e) = λ r. q j a (sym (num_there j e) ∙ r)

        apart' : (ys : List ℕ) → Each (λ (y : ℕ). n < y) ys → Each (λ (y : ℕ). (j : ℕ) → j < 64 → num_at ps j ≢ y) ys
            → Each (λ (y : ℕ). (j : ℕ) → j < 64 → num_at (set ps i new) j ≢ y) ys
        apart' [] g q = tt
        apart' (y ∷ ys) g q = (apart_one y g.0 q.0, apart' ys g.1 q.1)

  -- ---- all numbers of the log

  took : (ns : List ℕ) (ps : List Place) → Ascending ns
      → Each (λ (n : ℕ). (0 < count n disk.cells) × (0 < (find (commits_in (read_log m l)) n).time)) ns
      → Took ps ns → Took (take_free m (read_log m l) c slots ps ns) []
  unfolding take_free new
  took [] ps r e p = p
  took (n ∷ ns) ps r e p = took ns _ r.1 e.1 (go (first (λ i. is_free (place_at ps i).life) 64 0) refl)
    where
      go : (f : Option ℕ) → first (λ i. is_free (place_at ps i).life) 64 0 ≡ f
          → Took (take_at f ps (live_place m (read_log m l) c slots n (time_or_zero (commit_under (read_log m l) n))))
          ns
      go (Some i) q =
          let s = first_found (λ i. is_free (place_at ps i).life) 64 0 i q in
          placed ps n ns p e.0.0 e.0.1 r.0 i (omega (arith, s.1)) (free_num (place_at ps i).life s.2)
      go None q =
          let w : find (commits_of disk.stored) n ≡ find (commits_in (read_log m l)) n = (commit_logged x n e.0.1).0 in
          absurd (some_free ps (n ∷ ns) p n e.0.0 (rw w e.0.1) p.apart.0 q)

  -- ---- the table's places

  data Spot (i : ℕ) : Place → Type 0 where
    kept : 0 < table_num m i → 0 < count (table_num m i) disk.cells
        → Spot i (live_place m (read_log m l) c slots (table_num m i) (table_time m i))
    bare : (table_num m i ≡ 0) ⊎ (count (table_num m i) disk.cells ≡ 0) → Spot i free_place

  spot : (i : ℕ)
      → Spot i (cond (not (eqb (table_num m i) 0) && ltb 0 (count_waiting c (table_num m i) slots))
      (live_place m (read_log m l) c slots (table_num m i) (table_time m i)) free_place)
  spot i = go (eqb (table_num m i) 0) refl (ltb 0 (count_waiting c (table_num m i) slots)) refl
    where
      go : (s : Bool) → eqb (table_num m i) 0 ≡ s → (t : Bool) → ltb 0 (count_waiting c (table_num m i) slots) ≡ t
          → Spot i (cond (not s && t) (live_place m (read_log m l) c slots (table_num m i) (table_time m i)) free_place)
      go true a t b = bare (inl (eqb-true _ _ a))
      go false a true b =
          let z : table_num m i ≢ 0 = eqb-false _ _ a in
          kept (omega arith) (omega (
            arith,
            ltb-true 0 (count_waiting c (table_num m i) slots) b,
            counts (table_num m i),
          ))
      go false a false b =
          bare (inr (omega (arith, ltb-false 0 (count_waiting c (table_num m i) slots) b, counts (table_num m i))))

  table_at : (i n j : ℕ) → j < n → Spot (i + j) (place_at (table_places m (read_log m l) c slots i n) j)
  unfolding table_places place_at
  table_at i zero j h = absurd (not-suc-le-zero h)
  table_at i (suc n) zero h = rw add-zero (spot i)
  table_at i (suc n) (suc j) h =
      let e : i + 1 + j ≡ i + suc j = omega arith in
      subst (λ (q : ℕ). Spot q (place_at (table_places m (read_log m l) c slots (i + 1) n) j)) e
      (table_at (i + 1) n j (le_of_suc-le-suc h))

  table_length : (i n : ℕ) → length (table_places m (read_log m l) c slots i n) ≡ n
  unfolding table_places
  table_length i zero = refl
  table_length i (suc n) = ap suc (table_length (i + 1) n)

  abbrev listed : List Place
  listed = table_places m (read_log m l) c slots 0 64

  spot_at : (i : ℕ) → i < 64 → Spot i (place_at listed i)
  spot_at i h = let e : 0 + i ≡ i = omega arith in subst (λ (q : ℕ). Spot q (place_at listed i)) e (table_at 0 64 i h)

  spot_lively : (i : ℕ) → i < 64 → (e : Place) → Spot i e
      → Lively (commits_of disk.stored) disk.cells disk.oldest (next_number m l) e
  spot_lively i h e (bare w) = free_lively
  spot_lively i h e (kept z q) =
      let t = x.medium.table.pair i h z in live_lively (table_num m i) (table_time m i) q t.0 t.1

  -- what a place that is not free says
  spot_fact : (i : ℕ) (e : Place) → Spot i e → 0 < life_num e.life
      → (life_num e.life ≡ table_num m i) × (life_time e.life ≡ table_time m i) × (0 < table_num m i)
  unfolding live_place
  spot_fact i e (kept z q) h = (refl, refl, z)
  spot_fact i e (bare w) h = absurd (not-suc-le-zero h)

  spot_fill : (i : ℕ) (e : Place) → Spot i e → 0 < table_num m i → 0 < count (table_num m i) disk.cells
      → life_num e.life ≡ table_num m i
  unfolding live_place
  spot_fill i e (kept z q) a b = refl
  spot_fill i e (bare (inl w)) a b = absurd (omega arith)
  spot_fill i e (bare (inr w)) a b = absurd (omega arith)

  -- ns are the waited numbers whose pair is in the log alone
  begun : (ns : List ℕ) → Each (λ (n : ℕ). (0 < count n disk.cells) × (table_find m n ≡ None)) ns
      → ((n : ℕ) → 0 < count n disk.cells → table_find m n ≡ None → 0 < (find (commits_in (read_log m l)) n).time
      → Among n ns)
      → Took listed ns
  begun ns alone rest = record {
    size = table_length 0 64;
    each = λ i h. spot_lively i h _ (spot_at i h);
    over = λ i h z. let f = spot_fact i _ (spot_at i h) z in omega (arith, f.1, (x.medium.table.pair i h f.2).0);
    distinct =
        λ i j h g z e. let f = spot_fact i _ (spot_at i h) z in let f' =
        spot_fact j _ (spot_at j g) (omega (arith, e)) in
        x.medium.table.apart i j h g f.2 (sym f.0 ∙ e ∙ f'.0);
    all = λ n h z. all' n h z (table_find m n) refl;
    covered = λ i h z s. let f = spot_fact i _ (spot_at i h) (timed_num i h z) in (sym f.0, sym f.1);
    home = λ i h. spot_fill i _ (spot_at i h);
    apart = apart' ns alone;
  }
    where
      timed_num : (i : ℕ) → i < 64 → 0 < time_at listed i → 0 < num_at listed i
      timed_num i h z = life_low (place_at listed i).life (spot_lively i h (place_at listed i) (spot_at i h)).formed z

      all' : (n : ℕ) → 0 < count n disk.cells → 0 < (find (commits_of disk.stored) n).time → (f : Option ℕ)
          → table_find m n ≡ f
          → ((i : ℕ) × (i < 64) × (num_at listed i ≡ n)) ⊎ Among n ns
      all' n h z (Some i) e =
          let r = table_found m n i e in
          inl (i, r.0, spot_fill i (place_at listed i) (spot_at i r.0) (omega (arith, r.1, r.2)) (rw r.2 h) ∙ r.2)
      all' n h z None e = inr (rest n h e (omega (arith, unlisted x n h e)))

      apart' : (ys : List ℕ) → Each (λ (n : ℕ). (0 < count n disk.cells) × (table_find m n ≡ None)) ys
          → Each (λ (n : ℕ). (j : ℕ) → j < 64 → num_at listed j ≢ n) ys
      apart' [] q = tt
      apart' (n ∷ ys) q = (
        λ j a e.
            let z = waited_low x n q.0.0 in
            let f = spot_fact j (place_at listed j) (spot_at j a) (omega (arith, e)) in
            table_lacks m n z q.0.1 j a (sym f.0 ∙ e),
        apart' ys q.1,
      )

  pub places_taken : Taken m (commits_of disk.stored) disk.cells disk.oldest (next_number m l)
      (take_free m (read_log m l) c slots (table_places m (read_log m l) c slots 0 64)
      (waiting_numbers c (in_log_alone m (read_log m l)) slots)) []
  places_taken =
      took ns listed (waiting_ascends c p slots)
      (each_map P (λ (n : ℕ). (0 < count n disk.cells) × (0 < (find (commits_in (read_log m l)) n).time)) ns
      (λ n f. (omega (arith, f.1, counts n), (alone_commit x n f.0).1)) each_waits)
      (begun ns
      (each_map P (λ (n : ℕ). (0 < count n disk.cells) × (table_find m n ≡ None)) ns
      (λ n f. (omega (arith, f.1, counts n), (alone_commit x n f.0).0)) each_waits)
      (λ n h e f. waiting_all c p slots n (commit_alone x n e f) (omega (arith, counts n))))
    where
      p : ℕ → Bool
      p = in_log_alone m (read_log m l)

      ns : List ℕ
      ns = waiting_numbers c p slots

      P : ℕ → Type 0
      P n = (p n ≡ true) × (0 < count_waiting c n slots)

      each_waits : Each P ns
      each_waits = waiting_each c p slots
