-- Condition 6 of opening holds of a store that is down: redo leaves the stored versions, so pages are full before the
-- last, earlier slots are true, the times of a record are those of its commits, and numbers and times are below the
-- opened ones.
use Rattle.layout.specs.declared.CommitTime.{CommitTime}
use Rattle.std.specs.Prelude.{Option, Some, None}
use Prim.Native.Nat.{ℕ, zero, suc, ◌+◌, ◌*◌, ◌≤◌, ◌<◌}
use native.Mathlib.Omega.{arith}
use mathlib.Core.Bool.{Bool, true, false, not, ◌&&◌, ◌||◌}
use mathlib.Core.List.{List}
use mathlib.Core.Logic.{◌⊎◌, inl, inr, ◌≢◌}
use mathlib.Core.Path.{◌≡◌, refl, sym, ap, ◌∙◌}
use lib.Dec.{eqb, leb, ltb}
use lib.ListN.{length}
use borrow.Author.Tests.{eqb-true, eq-eqb, ne_eqb, le-leb, lt-ltb}
use Rattle.fields.specs.Block.{blk}
use Rattle.layout.specs.Page.{page_used}
use Rattle.layout.specs.Slot.{Cell}
use Rattle.layout.specs.Table.{table_pair}
use Rattle.fields.proofs.CellLaws.{each_at}
use Rattle.store.specs.Chain.{cell_at, is_version, version_of, version_time, newest}
use Rattle.store.specs.Write.{or_none}
use Rattle.store.specs.OpenLog.{read_log, next_number, last_time}
use Rattle.store.specs.OpenPairs.{pair_time}
use Rattle.store.specs.OpenConditions.{holds, time_or, not_above, slot_in_bounds, full_before, earlier_true, time_below}
use Rattle.store.specs.OpenConditions.{not_falling, pair_in_bounds, slot_true, history_true, redone}
use Rattle.runs.specs.Book.{Book}
use Rattle.agreement.proofs.opening.PairLaws.{pair_timing}
use Rattle.agreement.proofs.history.Ghost.{versions_of, commits_of, records, LoggedVersion, no_version, at}
use Rattle.agreement.proofs.history.Ghost.{LoggedCommit, find, timing, cell, Match, still, marked, full, Disk}
use Rattle.agreement.proofs.history.ListLaws.{split, same?}
use Rattle.agreement.proofs.history.VersionLaws.{num_versions, num_commits}
use Rattle.agreement.proofs.history.CommitLaws.{find_num, find_each, find_last}
use Rattle.agreement.proofs.history.SlotLaws.{used_page}
use Rattle.agreement.proofs.invariant.Invariant.{OnMedium, Down}
use Rattle.agreement.proofs.invariant.MediumFacts.{cell_fields, cell_cached, cell_free, newest_cached, counted}
use Rattle.agreement.proofs.opening.Reading.{numbers_below, last_is}
use Rattle.agreement.proofs.opening.Redo.{redone_cache}
use Rattle.agreement.proofs.opening.CheckLaws.{both, or_right, zero_or, append_holds, table_holds, pages_hold}

module _ {l d : ℕ} {m : List ℕ} {disk : Disk} (medium : OnMedium l d m disk disk.stored) where
  abbrev cache : List ℕ
  cache = (redone m l d).cache

  abbrev vs : List LoggedVersion
  vs = versions_of disk.stored

  abbrev cs : List LoggedCommit
  cs = commits_of disk.stored

  -- ---- the table

  pair_in_bounds_law : (i : ℕ) → i < 64 → pair_in_bounds m l d cache i ≡ true
  unfolding pair_in_bounds
  pair_in_bounds_law i h = zero_or (table_pair m i).number.0 _ (λ z.
      let (t, e) = medium.table.pair i h (omega arith) in
      let pos : 0 < (find cs (table_pair m i).number.0).time = omega arith in
      both (ltb (table_pair m i).number.0 (next_number m l)) (leb (table_pair m i).time.0 (last_time m l))
      (lt-ltb (table_pair m i).number.0 (next_number m l) (rw (find_num (table_pair m i).number.0 cs pos)
      at (find_each (table_pair m i).number.0 (λ (c : LoggedCommit). c.num < next_number m l) cs
      (num_commits (λ n. n < next_number m l) (records disk.stored) (numbers_below medium)) pos)))
      (le-leb (table_pair m i).time.0 (last_time m l)
      (omega (arith, last_is medium, find_last cs (table_pair m i).number.0))))

  -- ---- the pages

  used_is : (p : ℕ) → p < d → page_used (blk cache p) ≡ full (length vs) p
  used_is p h =
      ap page_used ((redone_cache medium).pages p h)
      ∙ used_page vs disk.cells p (full (length vs) p) (omega (arith, medium.pages.slots.count))

  full_before_law : (p : ℕ) → p < d → full_before m l d cache p ≡ true
  unfolding full_before
  full_before_law p h = go (split (length vs) (15 * (p + 1))) (same? (p + 1) d)
    where
      go : (length vs < 15 * (p + 1)) ⊎ (15 * (p + 1) ≤ length vs) → (p + 1 ≡ d) ⊎ (p + 1 ≢ d)
          → eqb (page_used (blk cache p)) 15 || (eqb (p + 1) d || eqb (page_used (blk cache (p + 1))) 0) ≡ true
      go (inr a) q =
          ap (λ (b : Bool). b || (eqb (p + 1) d || eqb (page_used (blk cache (p + 1))) 0))
          (eq-eqb (page_used (blk cache p)) 15 (omega (arith, used_is p h)))
      go (inl a) (inl q) = rw (eq-eqb (p + 1) d q) (or_right (eqb (page_used (blk cache p)) 15) true refl)
      go (inl a) (inr q) =
          rw (
            ne_eqb (p + 1) d q,
            eq-eqb (page_used (blk cache (p + 1))) 0
                (omega (arith, used_is (p + 1) (omega arith))),
          ) (or_right (eqb (page_used (blk cache p)) 15) true refl)

  -- ---- the slots

  earlier_true_law : (n : ℕ) → n < length vs → earlier_true m l d cache n ≡ true
  unfolding earlier_true
  earlier_true_law n h =
      let q = cell_fields medium n h in
      eq-eqb (cell_at cache n).earlier (or_none (newest cache (cell_at cache n).key n))
      (rw (
        cell_cached medium (redone_cache medium) n h,
        q.1,
        q.3,
        newest_cached medium (redone_cache medium) (at vs n).key n (omega arith),
      ) (medium.pages.slots.chain n h))

  in_bounds : (n : ℕ) → n < length vs → slot_in_bounds (cell_at cache n).state (next_number m l) (last_time m l) ≡ true
  in_bounds n h =
      ap (λ (x : Cell). slot_in_bounds x.state (next_number m l) (last_time m l))
      (cell_cached medium (redone_cache medium) n h)
      ∙ go (at vs n) (cell disk.cells n) (each_at (λ (v : LoggedVersion). v.num < next_number m l) vs n no_version
      (num_versions (λ i. i < next_number m l) (records disk.stored) (numbers_below medium)) h)
      (medium.pages.slots.match n h)
    where
      go : (v : LoggedVersion) (x : Cell) → v.num < next_number m l → Match cs v x
          → slot_in_bounds x.state (next_number m l) (last_time m l) ≡ true
      go v x g still = lt-ltb v.num (next_number m l) g
      go v x g (marked t z e) = le-leb t (last_time m l) (omega (arith, last_is medium, e, find_last cs v.num))

-- ---- a record's times

-- the time that some version of the record below slot n has, or none
data TimeOf (vs : List LoggedVersion) (cs : List LoggedCommit) (key n : ℕ) : Option CommitTime → Type 0 where
  untimed : TimeOf vs cs key n None
  timed : (i : ℕ) → i < n → (at vs i).key ≡ key → (t : ℕ) → 0 < t → (find cs (at vs i).num).time ≡ t
      → TimeOf vs cs key n (Some (record { 0 = t }))

module _ {vs : List LoggedVersion} {cs : List LoggedCommit} {key n : ℕ} where
  time_later : (r : Option CommitTime) → TimeOf vs cs key n r → TimeOf vs cs key (suc n) r
  time_later r untimed = untimed
  time_later r (timed i h e t z f) = timed i (omega arith) e t z f

  time_step : (b : Bool) (t : ℕ) (rest : Option CommitTime) → eqb (at vs n).key key ≡ b → (find cs (at vs n).num).time ≡ t
      → TimeOf vs cs key n rest → TimeOf vs cs key (suc n) (time_or b (timing t) rest)
  time_step true zero rest q f w = time_later rest w
  time_step true (suc t) rest q f w = timed n (omega arith) (eqb-true (at vs n).key key q) (suc t) (omega arith) f
  time_step false t rest q f w = time_later rest w

module _ {l d : ℕ} {m : List ℕ} {b : Book} {disk : Disk} (x : Down l d m b disk) where
  -- a version's time: its stamp is its number's commit's, or its number is waited for
  version_time_law : (n : ℕ) → n < length (versions_of disk.stored)
      → version_time (pair_time m (read_log m l)) (cell_at (redone m l d).cache n).state
      ≡ timing (find (commits_of disk.stored) (at (versions_of disk.stored) n).num).time
  unfolding version_time
  version_time_law n h =
      rw (cell_cached x.medium (redone_cache x.medium) n h)
      (go (cell disk.cells n) refl (x.medium.pages.slots.match n h))
    where
      is_timed_law : (t : ℕ) → 0 < t → Some (record { 0 = t }) ≡ timing t
      is_timed_law zero z = absurd (omega arith)
      is_timed_law (suc t) z = refl

      go : (y : Cell) → cell disk.cells n ≡ y → Match (commits_of disk.stored) (at (versions_of disk.stored) n) y
          → version_time (pair_time m (read_log m l)) y.state
          ≡ timing (find (commits_of disk.stored) (at (versions_of disk.stored) n).num).time
      go y e still =
          pair_timing x (at (versions_of disk.stored) n).num
          (counted x.medium (at (versions_of disk.stored) n).num n h refl e)
      go y e (marked t z q) = is_timed_law t z ∙ ap timing (sym q)

  time_below_law : (key n : ℕ) → n ≤ length (versions_of disk.stored)
      → TimeOf (versions_of disk.stored) (commits_of disk.stored) key n (time_below m l d (redone m l d).cache key n)
  unfolding time_below version_of
  time_below_law key zero h = untimed
  time_below_law key (suc n) h =
      let q = cell_fields x.medium n h in
      rw (version_time_law n h, cell_cached x.medium (redone_cache x.medium) n h, q.0, q.1)
      (time_step (eqb (at (versions_of disk.stored) n).key key)
      (find (commits_of disk.stored) (at (versions_of disk.stored) n).num).time
      (time_below m l d (redone m l d).cache key n) refl refl (time_below_law key n (omega arith)))

  not_falling_law : (n : ℕ) → n < length (versions_of disk.stored) → not_falling m l d (redone m l d).cache n ≡ true
  unfolding not_falling
  not_falling_law n h =
      rw (version_time_law n h, cell_cached x.medium (redone_cache x.medium) n h, (cell_fields x.medium n h).1)
      (go (time_below m l d (redone m l d).cache (at (versions_of disk.stored) n).key n)
      (find (commits_of disk.stored) (at (versions_of disk.stored) n).num).time refl
      (time_below_law (at (versions_of disk.stored) n).key n (omega arith)))
    where
      go : (r : Option CommitTime) (t : ℕ) → (find (commits_of disk.stored) (at (versions_of disk.stored) n).num).time ≡ t
          → TimeOf (versions_of disk.stored) (commits_of disk.stored) (at (versions_of disk.stored) n).key n r
          → not_above r (timing t) ≡ true
      go r zero e untimed = refl
      go r (suc t) e untimed = refl
      go r zero e (timed i a w u z f) = refl
      go r (suc t) e (timed i a w u z f) =
          le-leb u (suc t) (omega (arith, x.medium.numbers.steady i n a h w (omega arith) (omega arith)))

  slot_true_law : (n : ℕ) → n < 15 * d → slot_true m l d (redone m l d).cache n ≡ true
  unfolding slot_true
  slot_true_law n h = go (split n (length (versions_of disk.stored)))
    where
      go : (n < length (versions_of disk.stored)) ⊎ (length (versions_of disk.stored) ≤ n)
          → not (is_version (cell_at (redone m l d).cache n).state) || (earlier_true m l d (redone m l d).cache n
          && (not_falling m l d (redone m l d).cache n && slot_in_bounds (cell_at (redone m l d).cache n).state
          (next_number m l) (last_time m l))) ≡ true
      go (inl a) =
          or_right (not (is_version (cell_at (redone m l d).cache n).state)) _
          (both _ _ (earlier_true_law x.medium n a) (both _ _ (not_falling_law n a) (in_bounds x.medium n a)))
      go (inr a) = rw (cell_free x.medium (redone_cache x.medium) n a h)

  pub history_true_law : holds (history_true m l d (redone m l d).cache) ≡ true
  unfolding history_true
  history_true_law =
      append_holds _ _ (table_holds (pair_in_bounds m l d (redone m l d).cache) (pair_in_bounds_law x.medium))
      (pages_hold m l d (redone m l d).cache (full_before m l d (redone m l d).cache)
      (slot_true m l d (redone m l d).cache) (full_before_law x.medium) slot_true_law)
