-- The lines of the definition are those of the ranked versions: below a time the last version found is the first of the row,
-- and those before it are the rest of the row. By induction on the row. Assumes nothing.
use Rattle.layout.specs.declared.CommitTime.{CommitTime}
use Rattle.std.specs.Prelude.{Option}
use mathlib.Core.Path.{◌≡◌, refl, sym, ap, ◌∙◌}
use mathlib.Core.Bool.{Bool, true, false, cond}
use mathlib.Core.List.{List, [], ◌∷◌, ◌++◌, append-nil}
use Prim.Native.Nat.{ℕ, zero, suc, ◌≤◌, ◌<◌}
use native.Mathlib.Omega.{arith}
use lib.ListN.{length, length-append}
use lib.Dec.{ltb}
use borrow.Author.Tests.{le-leb, lt-leb}
use Rattle.fields.proofs.Choose.{cond_elim}
use Rattle.store.specs.Chain.{best_of}
use Rattle.store.specs.Changes.{differs_from, line_of, before, lines_at, lines_below}
use Rattle.chain.specs.declared.ranked.Dated.{Dated}
use Rattle.chain.specs.Ranked.{Slots, Below, ranked_of, latest, if_differs, changed, lines_of}
use Rattle.chain.proofs.RankedLaws.{first_at, ranked_below, ranked_best}

-- ---- a row in which the first at or before each time below t is the best there

module _ (c : List ℕ) (pair : ℕ → Option CommitTime) (head : Option ℕ) where
  abbrev Bests : ℕ → List Dated → Type 0
  Bests t es = (u : ℕ) → u < t → first_at es u ≡ best_of head c pair u

  bests_rest : (t : ℕ) (e : Dated) (es : List Dated) → e.time.0 < t → Bests t (e ∷ es) → Bests e.time.0 es
  unfolding first_at
  bests_rest t e es h f u l = sym (simp (lt-leb e.time.0 u l)) ∙ f u (omega arith)

  -- the last version before t is the first of the row
  before_first : (t : ℕ) (es : List Dated) → Below t es → Bests t es → before c pair head t ≡ latest es
  unfolding before first_at
  before_first zero [] b f = refl
  before_first zero (e ∷ es) b f = absurd (omega (arith, b.0))
  before_first (suc t) [] b f = sym (f t (omega arith))
  before_first (suc t) (e ∷ es) b f = sym (f t (omega arith)) ∙ simp (le-leb e.time.0 t (omega (arith, b.0)))

  -- the lines of a row whose first is listed or not
  lines_cons : (t1 : ℕ) (e : Dated) (es : List Dated)
      → lines_of c (changed c t1 (e ∷ es))
      ≡ cond (ltb e.time.0 t1) [] (lines_of c (changed c t1 es) ++ cond (differs_from c e.slot (latest es)) (line_of c e.slot e.time.0) [])
  unfolding changed if_differs lines_of
  lines_cons t1 e es = go (ltb e.time.0 t1) (differs_from c e.slot (latest es))
    where
      go : (a b : Bool) → lines_of c (cond a [] (cond b (e ∷ []) [] ++ changed c t1 es))
          ≡ cond a [] (lines_of c (changed c t1 es) ++ cond b (line_of c e.slot e.time.0) [])
      go true b = refl
      go false true = refl
      go false false = sym (append-nil (lines_of c (changed c t1 es)))

  lines_row : (t1 k t : ℕ) (es : List Dated) → t ≤ k → Below t es → Bests t es
      → lines_below c pair head t1 (suc k) t ≡ lines_of c (changed c t1 es)
  unfolding lines_below changed lines_of
  lines_row t1 k t [] h b f = ap (lines_at c pair head (lines_below c pair head t1 k) t1) (before_first t [] b f)
  lines_row t1 zero t (e ∷ es) h b f = absurd (omega (arith, b.0))
  lines_row t1 (suc k) t (e ∷ es) h b f =
      let g = bests_rest t e es b.0 f in
      ap (lines_at c pair head (lines_below c pair head t1 (suc k)) t1) (before_first t (e ∷ es) b f)
      ∙ (rw (lines_row t1 k e.time.0 es (omega (arith, b.0)) b.1 g, before_first e.time.0 es b.1 g))
      ∙ sym (lines_cons t1 e es)

  pub lines_ranked : (t1 t2 : ℕ) → lines_below c pair head t1 (suc (suc t2)) (suc t2) ≡ lines_of c (changed c t1 (ranked_of head c pair t2))
  lines_ranked t1 t2 =
      lines_row t1 (suc t2) (suc t2) (ranked_of head c pair t2) (omega arith) (ranked_below c pair t2 head)
      (λ u h. ranked_best c pair t2 head u (omega arith))

-- ---- what is known of the versions listed

pub differs_few : (c : List ℕ) (e : Dated) (es : List Dated) → length (if_differs c e es) ≤ 1
unfolding if_differs
differs_few c e es =
    cond_elim (λ (l : List Dated). length l ≤ 1) (differs_from c e.slot (latest es)) (λ _. omega arith) (λ _. omega arith)

pub changed_few : (c : List ℕ) (t1 : ℕ) (es : List Dated) → length (changed c t1 es) ≤ length es
unfolding changed
changed_few c t1 [] = omega arith
changed_few c t1 (e ∷ es) =
    cond_elim (λ (l : List Dated). length l ≤ suc (length es)) (ltb e.time.0 t1) (λ _. omega arith)
    (λ _. omega (arith, length-append (if_differs c e es) (changed c t1 es), differs_few c e es, changed_few c t1 es))

pub changed_slots : (c : List ℕ) (t1 l : ℕ) (es : List Dated) → Slots es l → Slots (changed c t1 es) l
unfolding changed if_differs
changed_slots c t1 l [] s = tt
changed_slots c t1 l (e ∷ es) s = go (ltb e.time.0 t1) (differs_from c e.slot (latest es)) (changed_slots c t1 l es s.1)
  where
    go : (a b : Bool) → Slots (changed c t1 es) l → Slots (cond a [] (cond b (e ∷ []) [] ++ changed c t1 es)) l
    go true b r = tt
    go false true r = (s.0, r)
    go false false r = r

pub lines_length : (c : List ℕ) (es : List Dated) → length (lines_of c es) ≡ length es
unfolding lines_of
lines_length c [] = refl
lines_length c (e ∷ es) = omega (arith, length-append (lines_of c es) (line_of c e.slot e.time.0), lines_length c es)
