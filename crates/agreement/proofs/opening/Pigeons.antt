-- N + 1 things have no N places: two of them would share one. Assumes nothing.
use Prim.Native.Nat.{ℕ, zero, suc, ◌<◌}
use native.Mathlib.Nat.{not-suc-le-zero}
use native.Mathlib.Omega.{arith}
use mathlib.Core.Logic.{◌⊎◌, inl, inr, ◌≢◌}
use mathlib.Core.Path.{◌≡◌, refl, sym, ◌∙◌, subst}
use Rattle.agreement.proofs.history.ListLaws.{same?}

pub pigeon : (N : ℕ) (R : ℕ → ℕ → Type 0) → ((i : ℕ) → i < suc N → (k : ℕ) × (k < N) × R i k)
    → ((i j k : ℕ) → i < suc N → j < suc N → R i k → R j k → i ≡ j) → ⊥
pigeon zero R f inj = not-suc-le-zero (f 0 (omega arith)).1
pigeon (suc N) R f inj = pigeon N R' f' inj'
  where
    top : suc N < suc (suc N)
    top = omega arith

    last : ℕ
    last = (f (suc N) top).0

    last< : last < suc N
    last< = (f (suc N) top).1

    R-last : R (suc N) last
    R-last = (f (suc N) top).2

    -- what has the last place takes the place of the last thing
    R' : ℕ → ℕ → Type 0
    R' i k = ((k ≢ last) × R i k) ⊎ ((k ≡ last) × R i N)

    f' : (i : ℕ) → i < suc N → (k : ℕ) × (k < N) × R' i k
    f' i h = go (f i (omega arith)) (same? last N)
      where
        go : (k : ℕ) × (k < suc N) × R i k → (last ≡ N) ⊎ (last ≢ N) → (k : ℕ) × (k < N) × R' i k
        go (k, l, r) e = go' (same? k last) (same? k N) e
          where
            go' : (k ≡ last) ⊎ (k ≢ last) → (k ≡ N) ⊎ (k ≢ N) → (last ≡ N) ⊎ (last ≢ N) → (k : ℕ) × (k < N) × R' i k
            go' (inl a) b c =
                absurd (omega (arith, inj i (suc N) last (omega arith) (omega arith) (subst (R i) a r) R-last))
            go' (inr a) (inl b) (inl c) = absurd (a (b ∙ sym c))
            go' (inr a) (inl b) (inr c) = (last, omega (arith, last<), inr (refl, subst (R i) b r))
            go' (inr a) (inr b) c = (k, omega arith, inl (a, r))

    inj' : (i j k : ℕ) → i < suc N → j < suc N → R' i k → R' j k → i ≡ j
    inj' i j k a b (inl p) (inl q) = inj i j k (omega arith) (omega arith) p.1 q.1
    inj' i j k a b (inl p) (inr q) = absurd (p.0 q.0)
    inj' i j k a b (inr p) (inl q) = absurd (q.0 p.0)
    inj' i j k a b (inr p) (inr q) = inj i j N (omega arith) (omega arith) p.1 q.1
