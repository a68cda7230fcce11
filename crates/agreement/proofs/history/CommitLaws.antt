-- A number commits once and times rise, so that looking a commit up in a longer history finds the same one.
use Rattle.std.specs.Prelude.{Some}
use Prim.Native.Nat.{zero, suc, ℕ, ◌≤◌, ◌<◌, max}
use native.Mathlib.Nat.{not-suc-le-zero}
use native.Mathlib.Omega.{arith}
use mathlib.Core.Bool.{Bool, true, false, cond}
use mathlib.Core.List.{List, [], ◌∷◌, ◌++◌}
use mathlib.Core.Logic.{◌⊎◌, inl, inr, ◌≢◌}
use mathlib.Core.Path.{◌≡◌, refl, sym, ap, ◌∙◌, subst}
use lib.Dec.{eqb}
use borrow.Author.Tests.{eqb-true, eqb-false, ne_eqb, eq-eqb}
use Rattle.fields.proofs.CellLaws.{Each, each_map}
use Rattle.agreement.proofs.history.Ghost.{timing, LoggedCommit, no_commit, find, last_of, Rising, Once}
use Rattle.agreement.proofs.history.ListLaws.{same?}

-- ---- the commit of a number

module _ (n : ℕ) where
  pub find_num : (cs : List LoggedCommit) → 0 < (find cs n).time → (find cs n).num ≡ n
  unfolding find
  find_num [] h = absurd (not-suc-le-zero h)
  find_num (c ∷ cs) h = go (find_num cs) (eqb c.num n) refl h
    where
      go : (0 < (find cs n).time → (find cs n).num ≡ n) → (t : Bool) → eqb c.num n ≡ t → 0 < (cond t c (find cs n)).time
          → (cond t c (find cs n)).num ≡ n
      go ih true e h = eqb-true _ _ e
      go ih false e h = ih h

  pub find_each : (P : LoggedCommit → Type 0) (cs : List LoggedCommit) → Each P cs → 0 < (find cs n).time
      → P (find cs n)
  unfolding find
  find_each P [] e h = absurd (not-suc-le-zero h)
  find_each P (c ∷ cs) e h = go (find_each P cs e.1) (eqb c.num n) h
    where
      go : (0 < (find cs n).time → P (find cs n)) → (t : Bool) → 0 < (cond t c (find cs n)).time
          → P (cond t c (find cs n))
      go ih true h = e.0
      go ih false h = ih h

  pub find_left : (xs ys : List LoggedCommit) → 0 < (find xs n).time → find (xs ++ ys) n ≡ find xs n
  unfolding find
  find_left [] ys h = absurd (not-suc-le-zero h)
  find_left (c ∷ xs) ys h = go (find_left xs ys) (eqb c.num n) h
    where
      go : (0 < (find xs n).time → find (xs ++ ys) n ≡ find xs n) → (t : Bool) → 0 < (cond t c (find xs n)).time
          → cond t c (find (xs ++ ys) n) ≡ cond t c (find xs n)
      go ih true h = refl
      go ih false h = ih h

  pub find_right : (xs ys : List LoggedCommit) → Each (λ (c : LoggedCommit). 0 < c.time) xs → (find xs n).time ≡ 0
      → find (xs ++ ys) n ≡ find ys n
  unfolding find
  find_right [] ys p h = refl
  find_right (c ∷ xs) ys p h = go (find_right xs ys p.1) (eqb c.num n) h
    where
      go : ((find xs n).time ≡ 0 → find (xs ++ ys) n ≡ find ys n) → (t : Bool) → (cond t c (find xs n)).time ≡ 0
          → cond t c (find (xs ++ ys) n) ≡ find ys n
      go ih true h = absurd (omega (arith, p.0))
      go ih false h = ih h

  pub find_none : (cs : List LoggedCommit) → Each (λ (c : LoggedCommit). c.num ≢ n) cs → find cs n ≡ no_commit
  unfolding find
  find_none [] h = refl
  find_none (c ∷ cs) h = rw (ne_eqb c.num n h.0) (find_none cs h.1)

pub find_head : (c : LoggedCommit) (cs : List LoggedCommit) → find (c ∷ cs) c.num ≡ c
unfolding find
find_head c cs = rw (eq-eqb c.num c.num refl)

pub find_next : (n : ℕ) (c : LoggedCommit) (cs : List LoggedCommit) → c.num ≢ n → find (c ∷ cs) n ≡ find cs n
unfolding find
find_next n c cs h = rw (ne_eqb c.num n h)

pub once_snoc : (cs : List LoggedCommit) (c : LoggedCommit) → Once cs → (find cs c.num).time ≡ 0
    → Each (λ (d : LoggedCommit). 0 < d.time) cs → Once (cs ++ (c ∷ []))
unfolding find
once_snoc [] c o h p = (refl, tt)
once_snoc (d ∷ cs) c o h p = go (once_snoc cs c o.1) (eqb d.num c.num) refl h
  where
    go : ((find cs c.num).time ≡ 0 → Each (λ (d : LoggedCommit). 0 < d.time) cs → Once (cs ++ (c ∷ [])))
        → (t : Bool) → eqb d.num c.num ≡ t → (cond t d (find cs c.num)).time ≡ 0 → Once (d ∷ (cs ++ (c ∷ [])))
    go ih true e h = absurd (omega (arith, p.0))
    go ih false e h = (
      ap (λ (x : LoggedCommit). x.time) (find_right d.num cs (c ∷ []) p.1 o.0
          ∙ ap (λ (t : Bool). cond t c no_commit) (ne_eqb c.num d.num (λ i. eqb-false _ _ e (sym i)))),
      ih h p.1,
    )

pub once_left : (xs ys : List LoggedCommit) → Once (xs ++ ys) → Once xs
once_left [] ys o = tt
once_left (c ∷ xs) ys o = (go (same? (find xs c.num).time 0), once_left xs ys o.1)
  where
    go : ((find xs c.num).time ≡ 0) ⊎ ((find xs c.num).time ≢ 0) → (find xs c.num).time ≡ 0
    go (inl e) = e
    go (inr e) = absurd (omega (arith, o.0, ap (λ (d : LoggedCommit). d.time) (find_left c.num xs ys (omega arith))))

pub once_split : (n : ℕ) (xs ys : List LoggedCommit) → Once (xs ++ ys) → Each (λ (d : LoggedCommit). 0 < d.time) xs
    → 0 < (find xs n).time → (find ys n).time ≡ 0
unfolding find
once_split n [] ys o p h = absurd (not-suc-le-zero h)
once_split n (c ∷ xs) ys o p h = go (once_split n xs ys o.1 p.1) (eqb c.num n) refl h
  where
    late : (find (xs ++ ys) n).time ≡ 0 → ((find xs n).time ≡ 0) ⊎ ((find xs n).time ≢ 0) → (find ys n).time ≡ 0
    late e (inl z) = ap (λ (x : LoggedCommit). x.time) (sym (find_right n xs ys p.1 z)) ∙ e
    late e (inr z) = absurd (omega (arith, ap (λ (x : LoggedCommit). x.time) (find_left n xs ys (omega arith))))

    go : (0 < (find xs n).time → (find ys n).time ≡ 0) → (t : Bool) → eqb c.num n ≡ t → 0 < (cond t c (find xs n)).time
        → (find ys n).time ≡ 0
    go ih false e h = ih h
    go ih true e h =
        late (subst (λ (k : ℕ). (find (xs ++ ys) k).time ≡ 0) (eqb-true _ _ e) o.0) (same? (find xs n).time 0)

-- ---- times

pub last_append : (xs ys : List LoggedCommit) → last_of (xs ++ ys) ≡ max (last_of xs) (last_of ys)
unfolding last_of
last_append [] ys = omega arith
last_append (x ∷ xs) ys = rw (last_append xs ys) (omega arith)

pub last_each : (cs : List LoggedCommit) → Each (λ (c : LoggedCommit). c.time ≤ last_of cs) cs
unfolding last_of
last_each [] = tt
last_each (c ∷ cs) = (
  omega arith,
  each_map (λ (d : LoggedCommit). d.time ≤ last_of cs)
      (λ (d : LoggedCommit). d.time ≤ max c.time (last_of cs)) cs (λ d h. omega arith) (last_each cs),
)

pub find_last : (cs : List LoggedCommit) (n : ℕ) → (find cs n).time ≤ last_of cs
find_last cs n = go (same? (find cs n).time 0)
  where
    go : ((find cs n).time ≡ 0) ⊎ ((find cs n).time ≢ 0) → (find cs n).time ≤ last_of cs
    go (inl e) = omega arith
    go (inr e) = find_each n (λ (c : LoggedCommit). c.time ≤ last_of cs) cs (last_each cs) (omega arith)

pub rising_weak : (lo lo' : ℕ) (cs : List LoggedCommit) → lo' ≤ lo → Rising lo cs → Rising lo' cs
rising_weak lo lo' [] h r = tt
rising_weak lo lo' (c ∷ cs) h r = (omega (arith, r.0), r.1)

pub rising_above : (lo : ℕ) (cs : List LoggedCommit) → Rising lo cs → Each (λ (c : LoggedCommit). lo < c.time) cs
rising_above lo [] r = tt
rising_above lo (c ∷ cs) r = (r.0, rising_above lo cs (rising_weak c.time lo cs (omega (arith, r.0)) r.1))

pub rising_left : (lo : ℕ) (xs ys : List LoggedCommit) → Rising lo (xs ++ ys) → Rising lo xs
rising_left lo [] ys r = tt
rising_left lo (c ∷ xs) ys r = (r.0, rising_left c.time xs ys r.1)

pub rising_right : (lo : ℕ) (xs ys : List LoggedCommit) → Rising lo (xs ++ ys) → Rising lo ys
rising_right lo [] ys r = r
rising_right lo (c ∷ xs) ys r = rising_weak c.time lo ys (omega (arith, r.0)) (rising_right c.time xs ys r.1)

pub rising_snoc : (lo : ℕ) (cs : List LoggedCommit) (c : LoggedCommit) → Rising lo cs → lo < c.time
    → last_of cs < c.time → Rising lo (cs ++ (c ∷ []))
unfolding last_of
rising_snoc lo [] c r h k = (h, tt)
rising_snoc lo (d ∷ cs) c r h k = (r.0, rising_snoc d.time cs c r.1 (omega arith) (omega arith))

-- a time that is not 0
pub timed : (t : ℕ) → 0 < t → Some (record { 0 = t }) ≡ timing t
timed zero h = absurd (omega arith)
timed (suc t) h = refl
