-- The rows of a history: what the book reads off them, in terms of versions and commits. Pure facts of lists.
use Rattle.std.specs.Prelude.{Some}
use Prim.Native.Nat.{ℕ, zero, suc, ◌<◌, max, suc-le-suc}
use native.Mathlib.Nat.{le_of_suc-le-suc}
use native.Mathlib.Omega.{arith}
use mathlib.Core.Bool.{or-true, Bool, true, false, cond, ◌||◌}
use mathlib.Core.List.{List, [], ◌∷◌, ◌++◌}
use mathlib.Core.Logic.{◌⊎◌, inl, inr, ◌≢◌}
use mathlib.Core.Path.{◌≡◌, refl, sym, ap, ◌∙◌}
use lib.Dec.{eqb}
use lib.ListN.{length}
use borrow.Author.Tests.{eq-eqb, ne_eqb}
use Rattle.layout.specs.Journal.{Record, version, commit}
use Rattle.fields.proofs.CellLaws.{Each}
use Rattle.store.specs.OpenLog.{Placed, number_in}
use Rattle.runs.specs.Book.{Row, committed, Version, versions, time_of, last_time, has_row}
use Rattle.runs.specs.Machine.{time_in}
use Rattle.agreement.proofs.history.ListLaws.{same?}
use Rattle.agreement.proofs.history.CommitLaws.{find_head, find_next}
use Rattle.agreement.proofs.history.Ghost.{LoggedVersion, as_version, versions_in, at, LoggedCommit, as_commit, row_of}
use Rattle.agreement.proofs.history.Ghost.{commits_in, find, last_of, Rising, timing, rows_in}

-- a version as a row
abbrev pub row_for : LoggedVersion → Version
row_for v = record { number = v.num; key = v.key; kind = v.kind; value = v.value }

unfoldable pub rows_for : List LoggedVersion → List Version
rows_for [] = []
rows_for (v ∷ vs) = row_for v ∷ rows_for vs

pub rows_append : (xs ys : List Placed) → rows_in (xs ++ ys) ≡ rows_in xs ++ rows_in ys
unfolding rows_in
rows_append [] ys = refl
rows_append (x ∷ xs) ys = ap (λ (rs : List Row). row_of x.rec ∷ rs) (rows_append xs ys)

pub length_rows : (xs : List Placed) → length (rows_in xs) ≡ length xs
unfolding rows_in
length_rows [] = refl
length_rows (x ∷ xs) = ap suc (length_rows xs)

pub versions_are : (xs : List Placed) → versions (rows_in xs) ≡ rows_for (versions_in xs)
unfolding rows_in versions versions_in rows_for
versions_are [] = refl
versions_are (x ∷ xs) = go x.rec (versions_are xs)
  where
    go : (r : Record) → versions (rows_in xs) ≡ rows_for (versions_in xs)
        → versions (row_of r ∷ rows_in xs) ≡ rows_for (as_version r x.seq x.end ++ versions_in xs)
    go (version h v) ih =
        ap (λ (vs : List Version). record { number = h.number.0; key = h.key; kind = h.kind; value = v } ∷ vs) ih
    go (commit p) ih = ih

pub length_rows_for : (vs : List LoggedVersion) → length (rows_for vs) ≡ length vs
unfolding rows_for
length_rows_for [] = refl
length_rows_for (v ∷ vs) = ap suc (length_rows_for vs)

pub some_timing : (t : ℕ) → 0 < t → time_in (timing t) ≡ Some t
some_timing zero h = absurd (omega arith)
some_timing (suc t) h = refl

pub time_row : (xs : List Placed) (low : ℕ) → Rising low (commits_in xs) → (n : ℕ)
    → time_of (rows_in xs) n ≡ time_in (timing (find (commits_in xs) n).time)
unfolding rows_in time_of commits_in find
time_row [] low r n = refl
time_row (x ∷ xs) low r n = go x.rec (λ a h. time_row xs a h n) r
  where
    go : (q : Record) → ((a : ℕ) → Rising a (commits_in xs) → time_of (rows_in xs) n
        ≡ time_in (timing (find (commits_in xs) n).time))
        → Rising low (as_commit q x.seq x.end ++ commits_in xs)
        → time_of (row_of q ∷ rows_in xs) n ≡ time_in (timing (find (as_commit q x.seq x.end ++ commits_in xs) n).time)
    go (version h v) ih r = ih low r
    go (commit p) ih r = by (eqb p.number.0 n)
      where
        by : (t : Bool) → cond t (Some p.time.0) (time_of (rows_in xs) n)
            ≡ time_in
            (timing (cond t (record { seq = x.seq; end = x.end; num = p.number.0; time = p.time.0 })
            (find (commits_in xs) n)).time)
        by true = sym (some_timing p.time.0 (omega (arith, r.0)))
        by false = ih p.time.0 r.1

-- the last commit row's time is the highest, as times rise
last_from : (xs : List Placed) (m u : ℕ) → Rising u (commits_in xs)
    → last_time (committed m u ∷ rows_in xs) ≡ max u (last_of (commits_in xs))
unfolding rows_in last_time commits_in last_of
last_from [] m u r = omega arith
last_from (x ∷ xs) m u r = go x.rec (λ n a h. last_from xs n a h) r
  where
    go : (q : Record) → ((n a : ℕ) → Rising a (commits_in xs)
        → last_time (committed n a ∷ rows_in xs) ≡ max a (last_of (commits_in xs)))
        → Rising u (as_commit q x.seq x.end ++ commits_in xs)
        → last_time (committed m u ∷ row_of q ∷ rows_in xs) ≡ max u (last_of (as_commit q x.seq x.end ++ commits_in xs))
    go (version h v) ih r = ih m u r
    go (commit p) ih r = ih p.number.0 p.time.0 r.1 ∙ omega (arith, r.0)

pub last_row : (xs : List Placed) → Rising 0 (commits_in xs) → last_time (rows_in xs) ≡ last_of (commits_in xs)
unfolding last_time
last_row xs r = last_from xs 0 0 r ∙ omega arith

pub below_row : (xs : List Placed) (n : ℕ) → Each (λ (x : Placed). number_in x.rec < n) xs
    → has_row (rows_in xs) n ≡ false
unfolding rows_in has_row
below_row [] n h = refl
below_row (x ∷ xs) n h = go x.rec h.0 (below_row xs n h.1)
  where
    go : (r : Record) → number_in r < n → has_row (rows_in xs) n ≡ false → has_row (row_of r ∷ rows_in xs) n ≡ false
    go (version h v) l ih = rw (ne_eqb h.number.0 n (λ e. omega arith)) ih
    go (commit p) l ih = rw (ne_eqb p.number.0 n (λ e. omega arith)) ih

-- a number with a version has a row; one without a version and without a commit has none
pub version_row : (xs : List Placed) (n j : ℕ) → j < length (versions_in xs) → (at (versions_in xs) j).num ≡ n
    → has_row (rows_in xs) n ≡ true
unfolding rows_in has_row versions_in
version_row [] n j h e = absurd (omega arith)
version_row (x ∷ xs) n j h e = go x.rec j (version_row xs n) h e
  where
    go : (r : Record) (j : ℕ) → ((i : ℕ) → i < length (versions_in xs) → (at (versions_in xs) i).num ≡ n
        → has_row (rows_in xs) n ≡ true)
        → j < length (as_version r x.seq x.end ++ versions_in xs)
        → (at (as_version r x.seq x.end ++ versions_in xs) j).num ≡ n → has_row (row_of r ∷ rows_in xs) n ≡ true
    go (version h v) zero ih l e = rw (eq-eqb h.number.0 n e)
    go (version h v) (suc i) ih l e = rw (ih i (le_of_suc-le-suc l) e) (or-true (eqb h.number.0 n))
    go (commit p) i ih l e = rw (ih i l e) (or-true (eqb p.number.0 n))

pub rowless : (xs : List Placed) (low n : ℕ) → Rising low (commits_in xs)
    → ((j : ℕ) → j < length (versions_in xs) → (at (versions_in xs) j).num ≢ n) → (find (commits_in xs) n).time ≡ 0
    → has_row (rows_in xs) n ≡ false
unfolding rows_in has_row versions_in commits_in
rowless [] low n r v c = refl
rowless (x ∷ xs) low n r v c = go x.rec (λ a. rowless xs a n) r v c
  where
    go : (q : Record) → ((a : ℕ) → Rising a (commits_in xs)
        → ((j : ℕ) → j < length (versions_in xs) → (at (versions_in xs) j).num ≢ n)
        → (find (commits_in xs) n).time ≡ 0 → has_row (rows_in xs) n ≡ false)
        → Rising low (as_commit q x.seq x.end ++ commits_in xs)
        → ((j : ℕ) → j < length (as_version q x.seq x.end ++ versions_in xs)
        → (at (as_version q x.seq x.end ++ versions_in xs) j).num ≢ n)
        → (find (as_commit q x.seq x.end ++ commits_in xs) n).time ≡ 0 → has_row (row_of q ∷ rows_in xs) n ≡ false
    go (version h v) ih r f c =
        rw (ne_eqb h.number.0 n (f 0 (omega arith))) (ih low r (λ j l. f (suc j) (suc-le-suc l)) c)
    go (commit p) ih r f c = by (same? p.number.0 n)
      where
        me : LoggedCommit
        me = record { seq = x.seq; end = x.end; num = p.number.0; time = p.time.0 }

        by : (p.number.0 ≡ n) ⊎ (p.number.0 ≢ n) → (eqb p.number.0 n || has_row (rows_in xs) n) ≡ false
        by (inl e) =
            absurd (omega (arith, r.0, rw (← e) at c, ap (λ (a : LoggedCommit). a.time) (find_head me (commits_in xs))))
        by (inr e) =
            rw (ne_eqb p.number.0 n e)
            (ih p.time.0 r.1 f (sym (ap (λ (a : LoggedCommit). a.time) (find_next n me (commits_in xs) e)) ∙ c))
