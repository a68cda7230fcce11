-- What an opening's folds over log records find, in terms of the ghost's commits: the commit under a number, the
-- numbers, the times. By induction on the records.
use Rattle.std.specs.Prelude.{Option, None, Some}
use Prim.Native.Nat.{ℕ, suc, ◌+◌, ◌-◌, ◌≤◌, ◌<◌, max}
use native.Mathlib.Omega.{arith}
use mathlib.Core.Bool.{Bool, true, false, cond}
use mathlib.Core.List.{List, [], ◌∷◌, ◌++◌}
use mathlib.Core.Logic.{◌≢◌}
use mathlib.Core.Path.{◌≡◌, refl, sym, ap, ◌∙◌}
use lib.Dec.{eqb}
use lib.ListN.{length, take, get_or}
use lib.Seq.{take-suc, take-length, length-take-le}
use borrow.Author.Tests.{eqb-true, eqb-false}
use Rattle.layout.specs.Journal.{Record, version, commit}
use Rattle.fields.proofs.CellLaws.{Each, each_map}
use Rattle.store.specs.OpenLog.{Placed, number_in, commit_under, commit_in, or_else, Commitment, above_all, latest}
use Rattle.store.specs.OpenLog.{time_in}
use Rattle.store.specs.OpenPairs.{time_of_commitment, end_of_commitment, time_or_zero}
use Rattle.agreement.proofs.history.CommitLaws.{timed}
use Rattle.agreement.proofs.history.PlacingLaws.{Between}
use Rattle.agreement.proofs.history.Ghost.{size_of, BlockSound, LoggedCommit, as_commit, commits_in, find, last_of}
use Rattle.agreement.proofs.history.Ghost.{timing, closed_of, tail_of}

-- ---- the commit under a number

-- what is found is the time and the end place of c
abbrev pub Finds : Option Commitment → LoggedCommit → Type 0
Finds o c = (time_of_commitment o ≡ timing c.time) × (time_or_zero o ≡ c.time) × (end_of_commitment o ≡ c.end)

pub commit_finds : (xs : List Placed) (n : ℕ) → Each (λ (c : LoggedCommit). 0 < c.time) (commits_in xs)
    → Finds (commit_under xs n) (find (commits_in xs) n)
unfolding commit_under commits_in find
commit_finds [] n z = (refl, refl, refl)
commit_finds (x ∷ xs) n z = go x.rec x.seq x.end z (commit_finds xs n)
  where
    go : (r : Record) (q e : ℕ) → Each (λ (c : LoggedCommit). 0 < c.time) (as_commit r q e ++ commits_in xs)
        → (Each (λ (c : LoggedCommit). 0 < c.time) (commits_in xs) → Finds (commit_under xs n) (find (commits_in xs) n))
        → Finds (or_else (commit_in r e n) (commit_under xs n)) (find (as_commit r q e ++ commits_in xs) n)
    go (version h v) q e z f = f z
    go (commit p) q e z f = by (eqb p.number.0 n)
      where
        by : (t : Bool) → Finds (or_else (cond t (Some (record { time = p.time.0; end = e })) None) (commit_under xs n))
            (cond t (record { seq = q; end = e; num = p.number.0; time = p.time.0 }) (find (commits_in xs) n))
        by true = (timed p.time.0 z.0, refl, refl)
        by false = f z.1

-- ---- numbers and times

pub above_each : (xs : List Placed) → Each (λ (x : Placed). number_in x.rec < above_all xs) xs
unfolding above_all
above_each [] = tt
above_each (x ∷ xs) = (
  omega arith,
  each_map (λ (y : Placed). number_in y.rec < above_all xs)
      (λ (y : Placed). number_in y.rec < max (number_in x.rec + 1) (above_all xs)) xs
      (λ y h. omega arith) (above_each xs),
)

pub above_below : (xs : List Placed) (n : ℕ) → Each (λ (x : Placed). number_in x.rec < n) xs → above_all xs ≤ n
unfolding above_all
above_below [] n h = omega arith
above_below (x ∷ xs) n h = omega (arith, h.0, above_below xs n h.1)

pub latest_is : (xs : List Placed) → latest xs ≡ last_of (commits_in xs)
unfolding latest last_of commits_in
latest_is [] = refl
latest_is (x ∷ xs) = go x.rec x.seq x.end (latest_is xs)
  where
    go : (r : Record) (q e : ℕ) → latest xs ≡ last_of (commits_in xs)
        → max (time_in r) (latest xs) ≡ last_of (as_commit r q e ++ commits_in xs)
    go (version h v) q e i = omega (arith, i)
    go (commit p) q e i = omega (arith, i)

pub last_under : (cs : List LoggedCommit) (t : ℕ) → Each (λ (c : LoggedCommit). c.time ≤ t) cs → last_of cs ≤ t
unfolding last_of
last_under [] t h = omega arith
last_under (c ∷ cs) t h = omega (arith, h.0, last_under cs t h.1)

-- ---- a block

pub empty_sound : (d : ℕ) → BlockSound d []
unfolding size_of
empty_sound d = record { each = tt; fits = omega arith }

-- ---- end places

pub between_high : (lo hi : ℕ) (xs : List Placed) → Between lo xs hi → (lo ≤ hi) × Each (λ (x : Placed). x.end ≤ hi) xs
between_high lo hi [] b = (b, tt)
between_high lo hi (x ∷ xs) b = let r = between_high x.end hi xs b.1 in (omega (arith, b.0, r.0), (r.0, r.1))

-- ---- the last block apart

pub last_apart : (stored : List (List Record)) → 0 < length stored
    → take (length stored - 1) stored ++ (get_or stored (length stored - 1) [] ∷ []) ≡ stored
last_apart stored h =
    let e : suc (length stored - 1) ≡ length stored = omega arith in
    sym (take-suc stored (length stored - 1) [] (omega arith)) ∙ ap (λ (n : ℕ). take n stored) e ∙ take-length stored

-- how an opening takes the blocks up: all closed and no tail, or the last as the tail
pub data Taking (old : ℕ) (stored : List (List Record)) : List (List Record) → List Record → Type 0 where
  none_read : length stored ≡ old → Taking old stored stored []
  last_read : (closed : List (List Record)) (tail : List Record) → old ≤ length closed → stored ≡ closed ++ (tail ∷ [])
      → Taking old stored closed tail

pub taking : (old : ℕ) (stored : List (List Record)) → old ≤ length stored
    → Taking old stored (closed_of old stored) (tail_of old stored)
unfolding closed_of tail_of
taking old stored h = go (eqb (length stored) old) refl
  where
    go : (t : Bool) → eqb (length stored) old ≡ t
        → Taking old stored (cond t stored (take (length stored - 1) stored))
        (cond t [] (get_or stored (length stored - 1) []))
    go true e = none_read (eqb-true _ _ e)
    go false e =
        let n : length stored ≢ old = eqb-false _ _ e in
        last_read (take (length stored - 1) stored) (get_or stored (length stored - 1) [])
        (rw (length-take-le (length stored - 1) stored (omega arith)) (omega arith))
        (sym (last_apart stored (omega arith)))
