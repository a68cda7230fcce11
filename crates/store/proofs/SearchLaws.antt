-- What the first search finds: a number of its range that passes the test, or nothing if none does. By induction on the
-- range.
use Rattle.std.specs.Prelude.{Option, Some, None}
use Prim.Native.Nat.{ℕ, zero, suc, ◌+◌, ◌≤◌, ◌<◌}
use native.Mathlib.Omega.{arith}
use mathlib.Core.Bool.{Bool, true, false, cond, false≢true}
use mathlib.Core.Path.{◌≡◌, refl, sym, ap, ◌∙◌}
use lib.Dec.{eqb}
use borrow.Author.Tests.{eqb-true, eqb-false}
use Rattle.fields.proofs.Choose.{cond_cases}
use Rattle.store.specs.Places.{first}

pub first_found : (p : ℕ → Bool) (n i j : ℕ) → first p n i ≡ Some j → (i ≤ j) × (j < i + n) × (p j ≡ true)
unfolding first
first_found p zero i j e = let z : ◌≡◌ {A = ℕ} 0 1 = cc in absurd (omega arith)
first_found p (suc n) i j e =
    cond_cases (p i) e
    (λ q r. let z : i ≡ j = cc in (omega arith, omega arith, rw z at q))
    (λ q r. let h : (i + 1 ≤ j) × (j < i + 1 + n) × (p j ≡ true) = first_found p n (i + 1) j r in (omega arith, omega arith, h.2))

pub first_nothing : (p : ℕ → Bool) (n i : ℕ) → first p n i ≡ None → (j : ℕ) → i ≤ j → j < i + n → p j ≡ false
unfolding first
first_nothing p zero i e j a b = absurd (omega arith)
first_nothing p (suc n) i e j a b =
    cond_cases (p i) e (λ q r. let z : ◌≡◌ {A = ℕ} 0 1 = cc in absurd (omega arith))
    (λ q r. go (eqb i j) refl q (λ h. first_nothing p n (i + 1) r j h (omega arith)))
  where
    go : (t : Bool) → eqb i j ≡ t → p i ≡ false → (i + 1 ≤ j → p j ≡ false) → p j ≡ false
    go true s q f = rw (eqb-true i j s) at q
    go false s q f = let z = eqb-false i j s in f (omega arith)

-- the first number that passes is found
pub first_least : (p : ℕ → Bool) (n i j : ℕ) → i ≤ j → j < i + n → ((k : ℕ) → i ≤ k → k < j → p k ≡ false) → p j ≡ true → first p n i ≡ Some j
unfolding first
first_least p zero i j a b f t = absurd (omega arith)
first_least p (suc n) i j a b f t =
    go (eqb i j) refl (λ h. first_least p n (i + 1) j h (omega arith) (λ k g z. f k (omega arith) z) t)
  where
    go : (x : Bool) → eqb i j ≡ x → (i + 1 ≤ j → first p n (i + 1) ≡ Some j) → cond (p i) (Some i) (first p n (i + 1)) ≡ Some j
    go true e r = let z : i ≡ j = eqb-true i j e in rw (ap p z ∙ t) (ap Some z)
    go false e r = let z = eqb-false i j e in rw (f i (omega arith) (omega arith)) (r (omega arith))

-- nothing is found where none passes
pub first_none : (p : ℕ → Bool) (n i : ℕ) → ((k : ℕ) → i ≤ k → k < i + n → p k ≡ false) → first p n i ≡ None
unfolding first
first_none p zero i f = refl
first_none p (suc n) i f = rw (f i (omega arith) (omega arith)) (first_none p n (i + 1) (λ k a b. f k (omega arith) (omega arith)))

-- two tests that agree on the range find the same
pub first_same : (p q : ℕ → Bool) (n i : ℕ) → ((k : ℕ) → k < i + n → p k ≡ q k) → first p n i ≡ first q n i
unfolding first
first_same p q zero i h = refl
first_same p q (suc n) i h = rw (h i (omega arith), first_same p q n (i + 1) (λ k l. h k (omega arith)))

-- the one number that passes is found
pub first_only : (p : ℕ → Bool) (n j : ℕ) → j < n → p j ≡ true → ((i : ℕ) → i < n → p i ≡ true → i ≡ j) → first p n 0 ≡ Some j
first_only p n j h t f = go (first p n 0) refl
  where
    go : (x : Option ℕ) → first p n 0 ≡ x → x ≡ Some j
    go (Some i) e = let r = first_found p n 0 i e in ap Some (f i (omega (arith, r.1)) r.2)
    go None e = absurd (false≢true (sym (first_nothing p n 0 e j (omega arith) (omega arith)) ∙ t))
