-- Conditions 7 to 10 of opening hold of a store that is down: numbers and times of sound records are at least 1 and
-- below their limits, each number commits once, and each table pair is that of a stored commit.
use Rattle.std.specs.Prelude.{Option, None, Some}
use Prim.Native.Nat.{ℕ, ◌-◌, ◌*◌, ◌^◌, ◌≤◌, ◌<◌}
use native.Mathlib.Omega.{arith}
use mathlib.Core.Bool.{true, cond, not, ◌||◌}
use mathlib.Core.List.{List, [], ◌∷◌, ◌++◌, append_assoc}
use mathlib.Core.Logic.{◌⊎◌, inl, inr, ◌≢◌}
use mathlib.Core.Path.{◌≡◌, refl, sym, ap, ◌∙◌}
use lib.Dec.{eqb, leb, ltb}
use lib.ListN.{length, take}
use borrow.Author.Tests.{eqb-true, eq-eqb, ne_eqb, le-leb, lt-ltb}
use Rattle.layout.specs.Journal.{Record, version, commit}
use Rattle.layout.specs.Slot.{Cell}
use Rattle.layout.specs.Table.{table_pair}
use Rattle.fields.proofs.CellLaws.{Each, each_map}
use Rattle.store.specs.Places.{first, is_at}
use Rattle.store.specs.Chain.{cell_at}
use Rattle.store.specs.OpenLog.{Placed, number_in, next_on, read_log, commit_under, Commitment}
use Rattle.store.specs.OpenPairs.{table_find, time_of_commitment, waiting_numbers, is_paired}
use Rattle.store.specs.OpenConditions.{holds, at_least_one, slot_at_least_one, same_time, once_in, once_checks}
use Rattle.store.specs.OpenConditions.{new_in_table, redone, from_one, numbers_left, pairs_once, few_waiting}
use Rattle.store.proofs.SearchLaws.{first_found}
use Rattle.runs.specs.Book.{Book}
use Rattle.agreement.proofs.invariant.MediumFacts.{times_low, next_is, sound_at, cell_cached, cell_free}
use Rattle.agreement.proofs.history.Ghost.{versions_of, commits_of, Sound, place_all, records, LoggedVersion, at}
use Rattle.agreement.proofs.history.Ghost.{LoggedCommit, commits_in, as_commit, find, timing, cell, Match, still}
use Rattle.agreement.proofs.history.Ghost.{marked, Once, Disk}
use Rattle.agreement.proofs.history.ListLaws.{split, same?, each_left, each_right}
use Rattle.agreement.proofs.history.VersionLaws.{sound_all, commits_append}
use Rattle.agreement.proofs.history.CommitLaws.{find_left, find_right, find_head, once_split}
use Rattle.agreement.proofs.invariant.Invariant.{OnMedium, Down}
use Rattle.agreement.proofs.opening.Reading.{log_split, commit_time_law}
use Rattle.agreement.proofs.opening.Redo.{redone_cache}
use Rattle.agreement.proofs.opening.Places.{few_waiting_law}
use Rattle.agreement.proofs.opening.CheckLaws.{both, zero_or, first_holds, append_holds, table_holds, log_holds}
use Rattle.agreement.proofs.opening.CheckLaws.{pages_hold}

at_least_one_law : (d : ℕ) (r : Record) → Sound d r → at_least_one r ≡ true
at_least_one_law d (version h v) s = le-leb 1 h.number.0 s.low
at_least_one_law d (commit p) s =
    both (leb 1 p.number.0) (leb 1 p.time.0) (le-leb 1 p.number.0 s.low) (le-leb 1 p.time.0 s.placeable)

-- no time, no commit record
no_commit : (c : Option Commitment) (t : ℕ) → t ≡ 0 → time_of_commitment c ≡ timing t → c ≡ None
no_commit None t z e = refl
no_commit (Some x) t z e =
    let q : Some (record { 0 = x.time }) ≡ None = e ∙ ap timing z in
    let y : ◌≡◌ {A = ℕ} 0 1 = cc in absurd (omega arith)

-- ---- a number that commits once

-- none of the commits before this one is of its number
none_before : (xs ys : List LoggedCommit) (c : LoggedCommit) → Once (xs ++ (c ∷ ys))
    → Each (λ (x : LoggedCommit). 0 < x.time) (xs ++ (c ∷ ys)) → (find xs c.num).time ≡ 0
none_before xs ys c o h = go (same? (find xs c.num).time 0)
  where
    go : ((find xs c.num).time ≡ 0) ⊎ ((find xs c.num).time ≢ 0) → (find xs c.num).time ≡ 0
    go (inl e) = e
    go (inr e) =
        let z : (find (c ∷ ys) c.num).time ≡ 0 =
        once_split c.num xs (c ∷ ys) o (each_left (λ (x : LoggedCommit). 0 < x.time) xs (c ∷ ys) h) (omega arith) in
        absurd (omega (
          arith,
          (each_right (λ (x : LoggedCommit). 0 < x.time) xs (c ∷ ys) h).0,
          ap (λ (x : LoggedCommit). x.time) (find_head c ys),
        ))

-- none among all is none among the last
none_last : (xs ys : List LoggedCommit) (n : ℕ) → Each (λ (x : LoggedCommit). 0 < x.time) xs
    → (find (xs ++ ys) n).time ≡ 0 → (find ys n).time ≡ 0
none_last xs ys n h e = go (same? (find xs n).time 0)
  where
    go : ((find xs n).time ≡ 0) ⊎ ((find xs n).time ≢ 0) → (find ys n).time ≡ 0
    go (inl z) = sym (ap (λ (x : LoggedCommit). x.time) (find_right n xs ys h z)) ∙ e
    go (inr z) = absurd (omega (arith, ap (λ (x : LoggedCommit). x.time) (find_left n xs ys (omega arith))))

module _ {l d : ℕ} {m : List ℕ} {disk : Disk} (medium : OnMedium l d m disk disk.stored) where
  log_sound : Each (λ (x : Placed). Sound d x.rec) (read_log m l)
  log_sound =
      each_right (λ (x : Placed). Sound d x.rec) (place_all 0 (take disk.oldest disk.stored)) (read_log m l)
      (rw (log_split medium) at (sound_all d 0 disk.stored medium.log.shape.stored_sound))

  -- ---- condition 7

  slot_from_one : (n : ℕ) → n < 15 * d → slot_at_least_one (cell_at (redone m l d).cache n).state ≡ true
  slot_from_one n h = go (split n (length (versions_of disk.stored)))
    where
      by : (v : LoggedVersion) (x : Cell) → 1 ≤ v.num → Match (commits_of disk.stored) v x
          → slot_at_least_one x.state ≡ true
      by v x g still = le-leb 1 v.num g
      by v x g (marked t z e) = le-leb 1 t z

      go : (n < length (versions_of disk.stored)) ⊎ (length (versions_of disk.stored) ≤ n)
          → slot_at_least_one (cell_at (redone m l d).cache n).state ≡ true
      go (inl a) =
          ap (λ (x : Cell). slot_at_least_one x.state) (cell_cached medium (redone_cache medium) n a)
          ∙ by (at (versions_of disk.stored) n) (cell disk.cells n) (sound_at medium n a).low
          (medium.pages.slots.match n a)
      go (inr a) = ap slot_at_least_one (cell_free medium (redone_cache medium) n a h)

  pub from_one_law : holds (from_one m l d (redone m l d).cache) ≡ true
  unfolding from_one
  from_one_law =
      first_holds _ 0 _ (le-leb 1 (next_on m) (omega (arith, next_is medium, medium.master.fits.next_low)))
      (append_holds _ _ (table_holds (λ i. eqb (table_pair m i).number.0 0 || leb 1 (table_pair m i).time.0)
      (λ i h. zero_or (table_pair m i).number.0 (leb 1 (table_pair m i).time.0)
      (λ e. le-leb 1 (table_pair m i).time.0 (medium.table.pair i h (omega arith)).0)))
      (append_holds _ _ (log_holds l at_least_one (read_log m l)
      (each_map (λ (x : Placed). Sound d x.rec) (λ (x : Placed). at_least_one x.rec ≡ true) (read_log m l)
      (λ x s. at_least_one_law d x.rec s) log_sound))
      (pages_hold m l d (redone m l d).cache (λ p. true) (λ n. slot_at_least_one (cell_at (redone m l d).cache n).state)
      (λ p h. refl) slot_from_one)))

  -- ---- condition 8

  pub numbers_left_law : holds (numbers_left m l d) ≡ true
  unfolding numbers_left
  numbers_left_law =
      log_holds l (λ r. ltb (number_in r) (2 ^ 64 - 1)) (read_log m l)
      (each_map (λ (x : Placed). Sound d x.rec) (λ (x : Placed). ltb (number_in x.rec) (2 ^ 64 - 1) ≡ true)
      (read_log m l) (λ x s. lt-ltb (number_in x.rec) (2 ^ 64 - 1) s.high) log_sound)

  -- ---- condition 9

  new_in_table_law : (i : ℕ) → i < 64 → new_in_table m l d i ≡ true
  new_in_table_law i h =
      zero_or (table_pair m i).number.0 _ (λ z. go z
      (first (λ j. eqb (table_pair m j).number.0 (table_pair m i).number.0) i 0) refl)
    where
      go : (table_pair m i).number.0 ≢ 0 → (f : Option ℕ)
          → first (λ j. eqb (table_pair m j).number.0 (table_pair m i).number.0) i 0 ≡ f → not (is_at f) ≡ true
      go z None e = refl
      go z (Some j) e =
          let r = first_found (λ j. eqb (table_pair m j).number.0 (table_pair m i).number.0) i 0 j e in
          let lt : j < i = omega (arith, r.1) in
          absurd (omega (
            arith,
            medium.table.apart i j h (omega arith) (omega arith)
                (sym (eqb-true (table_pair m j).number.0 (table_pair m i).number.0 r.2)),
          ))

  -- the table's time for a number is its commit's
  same_time_law : (n t : ℕ) → (find (commits_of disk.stored) n).time ≡ t → same_time (table_find m n) m t ≡ true
  unfolding table_find
  same_time_law n t e = go (same? n 0)
    where
      by : (f : Option ℕ) → 0 < n → first (λ i. eqb (table_pair m i).number.0 n) 64 0 ≡ f → same_time f m t ≡ true
      by None z q = refl
      by (Some i) z q =
          let r = first_found (λ i. eqb (table_pair m i).number.0 n) 64 0 i q in
          let h : i < 64 = omega (arith, r.1) in
          let g : (table_pair m i).number.0 ≡ n = eqb-true (table_pair m i).number.0 n r.2 in
          eq-eqb (table_pair m i).time.0 t
          (sym (medium.table.pair i h (omega arith)).1
          ∙ ap (λ (j : ℕ). (find (commits_of disk.stored) j).time) g ∙ e)

      go : (n ≡ 0) ⊎ (n ≢ 0)
          → same_time (cond (eqb n 0) None (first (λ i. eqb (table_pair m i).number.0 n) 64 0)) m t ≡ true
      go (inl z) = rw (eq-eqb n 0 z)
      go (inr z) = rw (ne_eqb n 0 z) (by (first (λ i. eqb (table_pair m i).number.0 n) 64 0) (omega arith) refl)

  -- a commit record is the first under its number, of all and of those `seen`, which are the last before it
  once_here : (pre seen : List Placed) (x : Placed) (xs : List Placed) → records disk.stored ≡ pre ++ (seen ++ (x ∷ xs))
      → once_in x.rec m (commit_under seen (number_in x.rec)) ≡ true
  unfolding commits_in
  once_here pre seen x xs e = go x.rec refl
    where
      go : (r : Record) → x.rec ≡ r → once_in r m (commit_under seen (number_in r)) ≡ true
      go (version h v) q = refl
      go (commit p) q =
          let c : LoggedCommit = record { seq = x.seq; end = x.end; num = p.number.0; time = p.time.0 } in
          let g : commits_of disk.stored ≡ commits_in (pre ++ seen) ++ (c ∷ commits_in xs) =
          ap commits_in (e ∙ sym (append_assoc pre seen (x ∷ xs))) ∙ commits_append (pre ++ seen) (x ∷ xs)
          ∙ ap (λ (r : Record). commits_in (pre ++ seen) ++ (as_commit r x.seq x.end ++ commits_in xs)) q in
          let low : Each (λ (y : LoggedCommit). 0 < y.time) (commits_in (pre ++ seen) ++ (c ∷ commits_in xs)) =
          rw g at (times_low medium) in
          let before : (find (commits_in (pre ++ seen)) p.number.0).time ≡ 0 =
          none_before (commits_in (pre ++ seen)) (commits_in xs) c (rw g at medium.numbers.once) low in
          let lows : Each (λ (y : LoggedCommit). 0 < y.time) (commits_in (pre ++ seen)) =
          each_left (λ (y : LoggedCommit). 0 < y.time) (commits_in (pre ++ seen)) (c ∷ commits_in xs) low in
          let apart : Each (λ (y : LoggedCommit). 0 < y.time) (commits_in pre ++ commits_in seen) =
          rw (commits_append pre seen) at lows in
          let mine : (find (commits_of disk.stored) p.number.0).time ≡ p.time.0 =
          ap (λ (cs : List LoggedCommit). (find cs p.number.0).time) g
          ∙ ap (λ (y : LoggedCommit). y.time)
          (find_right p.number.0 (commits_in (pre ++ seen)) (c ∷ commits_in xs) lows before
          ∙ find_head c (commits_in xs)) in
          let none_seen : (find (commits_in seen) p.number.0).time ≡ 0 =
          none_last (commits_in pre) (commits_in seen) p.number.0
          (each_left (λ (y : LoggedCommit). 0 < y.time) (commits_in pre) (commits_in seen) apart)
          (ap (λ (cs : List LoggedCommit). (find cs p.number.0).time) (sym (commits_append pre seen)) ∙ before) in
          ap (λ (o : Option Commitment). once_in (commit p) m o)
          (no_commit (commit_under seen p.number.0) _ none_seen
          (commit_time_law seen p.number.0
          (each_right (λ (y : LoggedCommit). 0 < y.time) (commits_in pre) (commits_in seen) apart)))
          ∙ same_time_law p.number.0 p.time.0 mine

  -- the records `xs` behind `seen`, which are the last of those before them in the history
  once_from : (pre seen xs : List Placed) → records disk.stored ≡ pre ++ (seen ++ xs)
      → holds (once_checks l m seen xs) ≡ true
  unfolding once_checks holds
  once_from pre seen [] e = refl
  once_from pre seen (x ∷ xs) e =
      both (once_in x.rec m (commit_under seen (number_in x.rec))) (holds (once_checks l m (seen ++ (x ∷ [])) xs))
      (once_here pre seen x xs e)
      (once_from pre (seen ++ (x ∷ [])) xs
      (e ∙ ap (λ (ys : List Placed). pre ++ ys) (sym (append_assoc seen (x ∷ []) xs))))

  pub pairs_once_law : holds (pairs_once m l d) ≡ true
  unfolding pairs_once
  pairs_once_law =
      append_holds _ _ (table_holds (new_in_table m l d) new_in_table_law)
      (once_from (place_all 0 (take disk.oldest disk.stored)) [] (read_log m l) (log_split medium))

-- ---- condition 10

module _ {l d : ℕ} {m : List ℕ} {b : Book} {disk : Disk} (x : Down l d m b disk) where
  pub waiting_few : holds (few_waiting m l d (redone m l d).cache) ≡ true
  unfolding few_waiting holds
  waiting_few =
      rw (le-leb (length (waiting_numbers (redone m l d).cache (is_paired m (read_log m l)) (15 * d))) 64
      (few_waiting_law x))
