-- The search finds the choice that passes with the fewest lines, and the lowest number among those: a later one takes
-- its place only if it has fewer lines.
use mathlib.Core.Path.{◌≡◌, sym, ap, ◌∙◌}
use mathlib.Core.Bool.{Bool, true}
use mathlib.Core.Logic.{◌⊎◌, inl, inr}
use Prim.Native.Nat.{ℕ, zero, suc, ◌+◌, ◌≤◌, ◌<◌}
use native.Mathlib.Omega.{arith}
use borrow.Author.Tests.{ltb-true, ltb-false, eqb-true, eqb-false}
use lib.Dec.{eqb, ltb}
use Rattle.fields.proofs.Choose.{bool_case, no}
use Rattle.shortest.specs.Search.{better_of, best_from}

module _ (size : ℕ → ℕ) (passes : ℕ → Bool) where
  -- of two choices the one with fewer lines comes first, or the one with the lower number
  abbrev pub First : ℕ → ℕ → Type 0
  First b x = (size b < size x) ⊎ ((size b ≡ size x) × (b ≤ x))

  -- what is known behind the choices below j
  pub record BestOf (b j : ℕ) : Type 0 where
    pub known : b ≤ j
    pub good : passes b ≡ true
    pub least : (x : ℕ) → x < j → passes x ≡ true → First b x

  first_lower : (b c x : ℕ) → size b < size c → First c x → First b x
  first_lower b c x h (inl l) = inl (omega arith)
  first_lower b c x h (inr l) = inl (omega arith)

  one_more : (b j : ℕ) → BestOf b j → BestOf (better_of size passes b j) (j + 1)
  unfolding better_of
  one_more b j h =
      bool_case (ltb (size j) (size b))
      (λ t.
      let l : size j < size b = ltb-true (size j) (size b) t in
      bool_case (passes j)
      (λ u. simp (t, u) (record {
        known = omega arith;
        good = u;
        least = λ x g p. bool_case (eqb x j)
            (λ e. let q : x ≡ j = eqb-true x j e in inr (ap size (sym q), omega arith))
            (λ e. let q = eqb-false x j e in first_lower j b x l (h.least x (omega arith) p));
      }))
      (λ u. simp (t, u) (record {
        known = let k = h.known in omega arith;
        good = h.good;
        least = λ x g p. bool_case (eqb x j)
            (λ e. let q : x ≡ j = eqb-true x j e in no (sym u ∙ ap passes (sym q) ∙ p))
            (λ e. let q = eqb-false x j e in h.least x (omega arith) p);
      })))
      (λ t.
      let l : size b ≤ size j = ltb-false (size j) (size b) t in
      let k = h.known in
      simp t (record {
        known = omega arith;
        good = h.good;
        least = λ x g p. bool_case (eqb x j)
            (λ e.
            let q : x ≡ j = eqb-true x j e in
            let s : size x ≡ size j = ap size q in
            bool_case (ltb (size b) (size x)) (λ v. inl (ltb-true (size b) (size x) v))
            (λ v. let w = ltb-false (size b) (size x) v in inr (omega arith, omega arith)))
            (λ e. let q = eqb-false x j e in h.least x (omega arith) p);
      }))

  pub best_of : (b j k : ℕ) → BestOf b j → BestOf (best_from size passes b j k) (j + k)
  unfolding best_from
  best_of b j zero h = let e : j ≡ j + 0 = omega arith in rw e at h
  best_of b j (suc k) h =
      let e : j + 1 + k ≡ j + suc k = omega arith in
      rw e at (best_of (better_of size passes b j) (j + 1) k (one_more b j h))
