-- The pairs that an opening finds: a table place by its number, and where a commit is: in the log, as it is in the
-- history, or below the log. A number that is waited for and has no table place has its commit, if any, in the log.
use Rattle.std.specs.Prelude.{Option, Some, None}
use Prim.Native.Nat.{ℕ, zero, suc, ◌≤◌, ◌<◌}
use native.Mathlib.Omega.{arith}
use mathlib.Core.Bool.{Bool, true, false, cond, not, false≢true}
use mathlib.Core.List.{List, [], ◌∷◌, ◌++◌}
use mathlib.Core.Logic.{◌⊎◌, inl, inr, ◌≢◌}
use mathlib.Core.Path.{◌≡◌, refl, sym, ap, ◌∙◌, subst}
use lib.Dec.{eqb}
use lib.ListN.{take}
use borrow.Author.Tests.{eqb-true, eqb-false}
use Rattle.layout.specs.Table.{table_pair}
use Rattle.fields.proofs.CellLaws.{Each}
use Rattle.fields.proofs.Choose.{and_0, and_1}
use Rattle.store.specs.Chain.{is_timed}
use Rattle.store.specs.Places.{first, is_at}
use Rattle.store.specs.OpenLog.{read_log, commit_under, next_number}
use Rattle.store.specs.OpenPairs.{table_find, table_or, time_of_commitment, pair_time, is_paired, in_log_alone}
use Rattle.store.proofs.SearchLaws.{first_found, first_nothing}
use Rattle.runs.specs.Book.{Book}
use Rattle.agreement.proofs.invariant.MediumFacts.{times_low, sound_at, waiting_slot}
use Rattle.agreement.proofs.history.CommitLaws.{timed, find_num, find_each, find_left, find_right, once_split}
use Rattle.agreement.proofs.history.Ghost.{commits_of, place_all, records, LoggedCommit, commits_in, no_commit, find}
use Rattle.agreement.proofs.history.Ghost.{Once, timing, count, Disk}
use Rattle.agreement.proofs.history.ListLaws.{same?, each_left, each_right}
use Rattle.agreement.proofs.history.VersionLaws.{commits_append, place_commits, num_commits}
use Rattle.agreement.proofs.invariant.Invariant.{table_num, table_time, Down}
use Rattle.agreement.proofs.opening.Reading.{commit_time_law, log_split, log_before, log_recent, numbers_below}

-- ---- a table place by its number

pub table_found : (m : List ℕ) (n i : ℕ) → table_find m n ≡ Some i → (i < 64) × (0 < n) × (table_num m i ≡ n)
unfolding table_find
table_found m n i e = go (eqb n 0) refl e
  where
    go : (t : Bool) → eqb n 0 ≡ t → cond t None (first (λ j. eqb (table_pair m j).number.0 n) 64 0) ≡ Some i
        → (i < 64) × (0 < n) × (table_num m i ≡ n)
    go true q e = let z : ◌≡◌ {A = ℕ} 0 1 = cc in absurd (omega arith)
    go false q e =
        let r = first_found (λ j. eqb (table_pair m j).number.0 n) 64 0 i e in
        let z : n ≢ 0 = eqb-false n 0 q in (omega (arith, r.1), omega arith, eqb-true (table_pair m i).number.0 n r.2)

pub table_lacks : (m : List ℕ) (n : ℕ) → 0 < n → table_find m n ≡ None → (i : ℕ) → i < 64 → table_num m i ≢ n
unfolding table_find
table_lacks m n z e i h = go (eqb n 0) refl e
  where
    go : (t : Bool) → eqb n 0 ≡ t → cond t None (first (λ j. eqb (table_pair m j).number.0 n) 64 0) ≡ None
        → table_num m i ≢ n
    go true q e = absurd (omega (arith, eqb-true n 0 q))
    go false q e =
        eqb-false (table_pair m i).number.0 n
        (first_nothing (λ j. eqb (table_pair m j).number.0 n) 64 0 e i (omega arith) (omega arith))

-- ---- times with 0 as none

timed_low : (t : ℕ) → is_timed (timing t) ≡ true → 0 < t
timed_low zero e = absurd (false≢true e)
timed_low (suc t) e = omega arith

low_timed : (t : ℕ) → 0 < t → is_timed (timing t) ≡ true
low_timed zero h = absurd (omega arith)
low_timed (suc t) h = refl

-- no commit, rather than one without a time
find_lacks : (n : ℕ) (cs : List LoggedCommit) → Each (λ (c : LoggedCommit). 0 < c.time) cs → (find cs n).time ≡ 0
    → find cs n ≡ no_commit
unfolding find
find_lacks n [] p e = refl
find_lacks n (c ∷ cs) p e = go (find_lacks n cs p.1) (eqb c.num n) e
  where
    go : ((find cs n).time ≡ 0 → find cs n ≡ no_commit) → (t : Bool) → (cond t c (find cs n)).time ≡ 0
        → cond t c (find cs n) ≡ no_commit
    go ih true e = absurd (omega (arith, p.0))
    go ih false e = ih e

module _ {l d : ℕ} {m : List ℕ} {b : Book} {disk : Disk} (x : Down l d m b disk) where
  -- ---- the commits: those before the log, and those in it

  lost : List LoggedCommit
  lost = commits_in (place_all 0 (take disk.oldest disk.stored))

  commits_split : commits_of disk.stored ≡ lost ++ commits_in (read_log m l)
  unfolding lost
  commits_split =
      ap commits_in (log_split x.medium) ∙ commits_append (place_all 0 (take disk.oldest disk.stored)) (read_log m l)

  lost_early : Each (λ (c : LoggedCommit). c.seq < disk.oldest) lost
  unfolding lost
  lost_early = place_commits (λ e q. q < disk.oldest) (place_all 0 (take disk.oldest disk.stored)) (log_before x.medium)

  lost_times : Each (λ (c : LoggedCommit). 0 < c.time) lost
  lost_times =
      each_left (λ (c : LoggedCommit). 0 < c.time) lost (commits_in (read_log m l))
      (subst (Each (λ (c : LoggedCommit). 0 < c.time)) commits_split (times_low x.medium))

  pub logged_times : Each (λ (c : LoggedCommit). 0 < c.time) (commits_in (read_log m l))
  logged_times =
      each_right (λ (c : LoggedCommit). 0 < c.time) lost (commits_in (read_log m l))
      (subst (Each (λ (c : LoggedCommit). 0 < c.time)) commits_split (times_low x.medium))

  -- a commit is in the log, or below it
  pub commit_where : (n : ℕ) → 0 < (find (commits_of disk.stored) n).time
      → (find (commits_in (read_log m l)) n ≡ find (commits_of disk.stored) n)
      ⊎ ((find (commits_in (read_log m l)) n ≡ no_commit) × ((find (commits_of disk.stored) n).seq < disk.oldest))
  commit_where n z = go (same? (find lost n).time 0)
    where
      go : ((find lost n).time ≡ 0) ⊎ ((find lost n).time ≢ 0)
          → (find (commits_in (read_log m l)) n ≡ find (commits_of disk.stored) n)
          ⊎ ((find (commits_in (read_log m l)) n ≡ no_commit) × ((find (commits_of disk.stored) n).seq < disk.oldest))
      go (inl e) =
          inl (sym (ap (λ (cs : List LoggedCommit). find cs n) commits_split
          ∙ find_right n lost (commits_in (read_log m l)) lost_times e))
      go (inr e) =
          let q : find (commits_of disk.stored) n ≡ find lost n =
          ap (λ (cs : List LoggedCommit). find cs n) commits_split
          ∙ find_left n lost (commits_in (read_log m l)) (omega arith) in
          let o : Once (lost ++ commits_in (read_log m l)) = subst Once commits_split x.medium.numbers.once in
          inr (
            find_lacks n (commits_in (read_log m l)) logged_times
                (once_split n lost (commits_in (read_log m l)) o lost_times (omega arith)),
            rw q (find_each n (λ (c : LoggedCommit). c.seq < disk.oldest) lost lost_early (omega arith)),
          )

  -- a commit in the log is the history's
  pub commit_logged : (n : ℕ) → 0 < (find (commits_in (read_log m l)) n).time
      → (find (commits_of disk.stored) n ≡ find (commits_in (read_log m l)) n)
      × (disk.oldest ≤ (find (commits_in (read_log m l)) n).seq)
  commit_logged n h = (
    go (same? (find lost n).time 0),
    find_each n (λ (c : LoggedCommit). disk.oldest ≤ c.seq)
        (commits_in (read_log m l)) late h,
  )
    where
      late : Each (λ (c : LoggedCommit). disk.oldest ≤ c.seq) (commits_in (read_log m l))
      late = place_commits (λ e q. disk.oldest ≤ q) (read_log m l) (log_recent x.medium)

      go : ((find lost n).time ≡ 0) ⊎ ((find lost n).time ≢ 0)
          → find (commits_of disk.stored) n ≡ find (commits_in (read_log m l)) n
      go (inl e) =
          ap (λ (cs : List LoggedCommit). find cs n) commits_split
          ∙ find_right n lost (commits_in (read_log m l)) lost_times e
      go (inr e) =
          let o : Once (lost ++ commits_in (read_log m l)) = subst Once commits_split x.medium.numbers.once in
          absurd (omega (arith, once_split n lost (commits_in (read_log m l)) o lost_times (omega arith)))

  -- ---- numbers

  pub waited_low : (n : ℕ) → 0 < count n disk.cells → 0 < n
  waited_low n h = let (j, g, e, w) = waiting_slot x.medium n h in omega (arith, (sound_at x.medium j g).low)

  pub committed_below : (n : ℕ) → 0 < (find (commits_of disk.stored) n).time → n < next_number m l
  committed_below n h =
      let e : (find (commits_of disk.stored) n).num ≡ n = find_num n (commits_of disk.stored) h in
      omega (
        arith,
        find_each n (λ (c : LoggedCommit). c.num < next_number m l) (commits_of disk.stored)
            (num_commits (λ j. j < next_number m l) (records disk.stored) (numbers_below x.medium)) h,
      )

  -- ---- the pairs

  -- a number that is waited for and has no table place: its commit is the log's
  pub unlisted : (n : ℕ) → 0 < count n disk.cells → table_find m n ≡ None
      → (find (commits_in (read_log m l)) n).time ≡ (find (commits_of disk.stored) n).time
  unlisted n h f =
      go (same? (find (commits_of disk.stored) n).time 0) (same? (find (commits_in (read_log m l)) n).time 0)
    where
      by : 0 < (find (commits_of disk.stored) n).time
          → (find (commits_in (read_log m l)) n ≡ find (commits_of disk.stored) n)
          ⊎ ((find (commits_in (read_log m l)) n ≡ no_commit) × ((find (commits_of disk.stored) n).seq < disk.oldest))
          → (find (commits_in (read_log m l)) n).time ≡ (find (commits_of disk.stored) n).time
      by z (inl e) = ap (λ (c : LoggedCommit). c.time) e
      by z (inr e) = let (i, g, q) = x.covered n h z e.1 in absurd (table_lacks m n (waited_low n h) f i g q)

      go : ((find (commits_of disk.stored) n).time ≡ 0) ⊎ ((find (commits_of disk.stored) n).time ≢ 0)
          → ((find (commits_in (read_log m l)) n).time ≡ 0) ⊎ ((find (commits_in (read_log m l)) n).time ≢ 0)
          → (find (commits_in (read_log m l)) n).time ≡ (find (commits_of disk.stored) n).time
      go (inl e) (inl z) = z ∙ sym e
      go (inl e) (inr z) = sym (ap (λ (c : LoggedCommit). c.time) (commit_logged n (omega arith)).0)
      go (inr e) z = by (omega arith) (commit_where n (omega arith))

  pub pair_timing : (n : ℕ) → 0 < count n disk.cells → pair_time m (read_log m l) n
      ≡ timing (find (commits_of disk.stored) n).time
  unfolding pair_time
  pair_timing n h = go (table_find m n) refl
    where
      go : (f : Option ℕ) → table_find m n ≡ f → table_or f m (time_of_commitment (commit_under (read_log m l) n))
          ≡ timing (find (commits_of disk.stored) n).time
      go (Some i) e =
          let r = table_found m n i e in
          let p = x.medium.table.pair i r.0 (omega (arith, r.1, r.2)) in
          timed (table_time m i) p.0 ∙ ap timing (sym p.1 ∙ ap (λ (j : ℕ). (find (commits_of disk.stored) j).time) r.2)
      go None e = commit_time_law (read_log m l) n logged_times ∙ ap timing (unlisted n h e)

  -- a waited number with a pair has committed
  pub paired_commit : (n : ℕ) → 0 < count n disk.cells → is_paired m (read_log m l) n ≡ true
      → 0 < (find (commits_of disk.stored) n).time
  unfolding is_paired
  paired_commit n h e = timed_low _ (ap is_timed (sym (pair_timing n h)) ∙ e)

  -- a pair in the log alone
  pub alone_commit : (n : ℕ) → in_log_alone m (read_log m l) n ≡ true
      → (table_find m n ≡ None) × (0 < (find (commits_in (read_log m l)) n).time)
  unfolding in_log_alone
  alone_commit n e = (
    go (table_find m n) (and_0 (not (is_at (table_find m n)))
        (is_timed (time_of_commitment (commit_under (read_log m l) n))) e),
    timed_low _ (ap is_timed (sym (commit_time_law (read_log m l) n logged_times))
        ∙ and_1 (not (is_at (table_find m n))) (is_timed (time_of_commitment (commit_under (read_log m l) n))) e),
  )
    where
      go : (f : Option ℕ) → not (is_at f) ≡ true → f ≡ None
      go (Some i) e = absurd (false≢true e)
      go None e = refl

  pub commit_alone : (n : ℕ) → table_find m n ≡ None → 0 < (find (commits_in (read_log m l)) n).time
      → in_log_alone m (read_log m l) n ≡ true
  unfolding in_log_alone
  commit_alone n e h = rw (e, commit_time_law (read_log m l) n logged_times) (low_timed _ h)
