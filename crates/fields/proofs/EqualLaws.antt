-- The laws of `eq_list` and `all_zero`: each looks at one element after the other. Assumes nothing.
use mathlib.Core.Path.{◌≡◌, refl, ap, ◌∙◌}
use mathlib.Core.Bool.{Bool, true, false, cond, ◌&&◌}
use Prim.Native.Nat.{ℕ, zero, suc, ◌+◌, ◌≤◌, ◌<◌}
use native.Mathlib.Numerals.{add-one}
use native.Mathlib.Omega.{arith}
use mathlib.Core.List.{List, [], ◌∷◌}
use lib.ListN.{length, drop, get_or, drop_of_length-le, replicate}
use lib.Seq.{drop-cons}
use lib.Dec.{eqb}
use lib.Pointwise.{pointwise}
use borrow.Author.Tests.{eq-eqb, eqb-true}
use Rattle.fields.specs.Equal.{eq_list, all_zero}
use Rattle.fields.proofs.Choose.{and_0, and_1}

-- lists of other lengths
pub eq_lengths : (a b : List ℕ) → (length a ≡ length b → ⊥) → eq_list a b ≡ false
unfolding eq_list
eq_lengths [] [] h = absurd (h refl)
eq_lengths [] (y ∷ b) h = refl
eq_lengths (x ∷ a) [] h = refl
eq_lengths (x ∷ a) (y ∷ b) h = rw (eq_lengths a b (λ e. h (ap suc e))) (and_false (eqb x y))
  where
    and_false : (t : Bool) → t && false ≡ false
    and_false true = refl
    and_false false = refl

-- what `==` answers at two slices
pub eq_pointwise : (a b : List ℕ) → pointwise eqb a b ≡ eq_list a b
unfolding eq_list
eq_pointwise [] [] = refl
eq_pointwise [] (y ∷ b) = refl
eq_pointwise (x ∷ a) [] = refl
eq_pointwise (x ∷ a) (y ∷ b) = ap (λ (t : Bool). eqb x y && t) (eq_pointwise a b)

-- a turn of a loop that notes a difference: t says whether the two elements are equal, rest whether those behind them are
pub noted : (t rest : Bool) (other : ℕ) → cond (eqb (cond t other 1) 0) rest false ≡ cond (eqb other 0) (t && rest) false
noted true rest other = refl
noted false rest other = go (eqb other 0)
  where
    go : (b : Bool) → false ≡ cond b false false
    go true = refl
    go false = refl

-- nothing is left: what was noted decides
pub noted_end : (b rest : Bool) → rest ≡ true → cond b rest false ≡ b
noted_end true rest e = e
noted_end false rest e = refl

-- nothing is left
pub eq_end : (a b : List ℕ) (i : ℕ) → length a ≤ i → length b ≤ i → eq_list (drop i a) (drop i b) ≡ true
unfolding eq_list
eq_end a b i h g = rw (drop_of_length-le a h, drop_of_length-le b g)

-- what the test is for
pub eq_true : (a b : List ℕ) → eq_list a b ≡ true → a ≡ b
unfolding eq_list
eq_true [] [] e = refl
eq_true [] (y ∷ b) e = let z : ◌≡◌ {A = ℕ} 0 1 = cc in absurd (omega arith)
eq_true (x ∷ a) [] e = let z : ◌≡◌ {A = ℕ} 0 1 = cc in absurd (omega arith)
eq_true (x ∷ a) (y ∷ b) e =
    let h : x ≡ y = eqb-true x y (and_0 (eqb x y) (eq_list a b) e) in
    let t : a ≡ b = eq_true a b (and_1 (eqb x y) (eq_list a b) e) in
    cc

pub eq_refl : (a : List ℕ) → eq_list a a ≡ true
unfolding eq_list
eq_refl [] = refl
eq_refl (x ∷ a) = rw (eq-eqb x x refl) (eq_refl a)

-- a turn of a loop that has found the bytes before i zero or not
pub zero_turn : (a : List ℕ) (i : ℕ) (before all : Bool) → i < length a → before && all_zero (drop i a) ≡ all
    → (before && eqb (get_or a i 0) 0) && all_zero (drop (i + 1) a) ≡ all
unfolding all_zero
zero_turn a i before all h e =
    let d : all_zero (drop i a) ≡ eqb (get_or a i 0) 0 && all_zero (drop (i + 1) a) = rw (add-one, drop-cons a i 0 h) in
    and_assoc before (eqb (get_or a i 0) 0) (all_zero (drop (i + 1) a)) ∙ (rw d at e)
  where
    and_assoc : (x y z : Bool) → (x && y) && z ≡ x && (y && z)
    and_assoc true y z = refl
    and_assoc false y z = refl

pub zero_end : (a : List ℕ) (i : ℕ) (before all : Bool) → length a ≤ i → before && all_zero (drop i a) ≡ all → before ≡ all
unfolding all_zero
zero_end a i true all h e = rw (drop_of_length-le a h) at e
zero_end a i false all h e = e

-- bytes that are all zero are a row of zeros, and the other way round
pub zero_true : (a : List ℕ) → all_zero a ≡ true → a ≡ replicate (length a) 0
unfolding all_zero
zero_true [] e = refl
zero_true (x ∷ a) e =
    let h : x ≡ 0 = eqb-true x 0 (and_0 (eqb x 0) (all_zero a) e) in
    let t : a ≡ replicate (length a) 0 = zero_true a (and_1 (eqb x 0) (all_zero a) e) in
    rw h (ap (λ (l : List ℕ). 0 ∷ l) t)

pub zero_zeros : (n : ℕ) → all_zero (replicate n 0) ≡ true
unfolding all_zero
zero_zeros zero = refl
zero_zeros (suc n) = zero_zeros n
