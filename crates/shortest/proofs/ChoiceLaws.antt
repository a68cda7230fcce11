-- Choices by numbers: halving the choices that are left says line by line which are chosen.
use mathlib.Core.Path.{◌≡◌, refl, sym, ap, ◌∙◌}
use mathlib.Core.Bool.{Bool, true, false, cond}
use mathlib.Core.List.{List, [], ◌∷◌, ◌++◌}
use Prim.Native.Nat.{ℕ, suc, ◌+◌, ◌-◌, ◌*◌, ◌/◌, ◌%◌, ◌^◌, ◌≤◌, ◌<◌}
use native.Mathlib.Omega.{arith}
use native.Mathlib.Numerals.{add-one}
use native.Mathlib.Nat.{mod-lt, pow-le-pow_right, one-le-pow}
use lib.ListN.{length, take, drop, set, get_or, replicate}
use lib.Bits.{bit_and}
use lib.Dec.{eqb}
use lib.Seq.{take-suc-set, drop-cons, drop-set-lt, append_snoc, set_split}
use borrow.Author.Tests.{lt-ltb, le-ltb, eqb-true, eqb-false}
use Rattle.std.specs.List.{count_by}
use Rattle.std.proofs.lemmas.List.Recursion.{is_count_by}
use Rattle.std.proofs.lemmas.Nat.{and_mask, mod-pow-add}
use Rattle.fields.proofs.Choose.{bool_case}
use Rattle.shortest.specs.Choice.{chosen_of, size_of}
use Rattle.shortest.specs.Kept.{flags_of}

pub few : (i : ℕ) → i ≤ 11 → 2 ^ i ≤ 2048
few i h = pow-le-pow_right (omega arith) h

-- the highest bit that is left says whether the next line is left out
chosen_step : (k j : ℕ) → chosen_of (suc k) (j % 2 ^ suc k)
    ≡ eqb (bit_and (j / 2 ^ k) 1) 0 ∷ chosen_of k (j % 2 ^ k)
unfolding chosen_of
chosen_step k j =
    let p : 0 < 2 ^ k = one-le-pow k 2 (omega arith) in
    let n : 1 + k ≡ suc k = omega arith in
    let b : bit_and (j / 2 ^ k) 1 ≡ j / 2 ^ k % 2 = and_mask (j / 2 ^ k) 1 in
    let e : j % 2 ^ suc k ≡ (j / 2 ^ k % 2) * 2 ^ k + j % 2 ^ k = rw n at (mod-pow-add j 1 k) in
    let l : j % 2 ^ k < 2 ^ k = mod-lt j p in
    bool_case (eqb (j / 2 ^ k % 2) 0)
    (λ t.
    let z : j / 2 ^ k % 2 ≡ 0 = eqb-true (j / 2 ^ k % 2) 0 t in
    let y : (j / 2 ^ k % 2) * 2 ^ k ≡ 0 = rw z (omega arith) in
    let x : j % 2 ^ suc k ≡ j % 2 ^ k = omega arith in
    rw (b, t, x) (simp (lt-ltb _ _ l)))
    (λ t.
    let u = eqb-false (j / 2 ^ k % 2) 0 t in
    let z : j / 2 ^ k % 2 ≡ 1 = omega arith in
    let y : (j / 2 ^ k % 2) * 2 ^ k ≡ 2 ^ k = rw z (omega arith) in
    let g : 2 ^ k ≤ j % 2 ^ suc k = omega arith in
    let x : j % 2 ^ suc k - 2 ^ k ≡ j % 2 ^ k = omega arith in
    rw (b, t) (simp (le-ltb _ _ g, x)))

head_false : (f : List Bool) (i k : ℕ) → i < length f → drop i f ≡ replicate (suc k) false
    → drop (suc i) f ≡ replicate k false
head_false f i k h d =
    let e : get_or f i false ∷ drop (suc i) f ≡ false ∷ replicate k false = sym (drop-cons f i false h) ∙ d in cc

-- line i of m is taken or left out
module _ (m i j : ℕ) (f : List Bool) (l : i < m) (n : m ≤ 11) (len : length f ≡ 12) where
  pub next_chosen : take i f ++ chosen_of (m - i) (j % 2 ^ (m - i)) ≡ chosen_of m j
      → take (i + 1) (set f i (eqb (bit_and (j / 2 ^ (m - 1 - i)) 1) 0))
      ++ chosen_of (m - (i + 1)) (j % 2 ^ (m - (i + 1))) ≡ chosen_of m j
  next_chosen e =
      let p = m - (i + 1) in
      let k : m - i ≡ suc p = omega arith in
      let w : m - 1 - i ≡ p = omega arith in
      let q : i < length f = omega arith in
      let b : Bool = eqb (bit_and (j / 2 ^ p) 1) 0 in
      let x : List Bool = chosen_of p (j % 2 ^ p) in
      ap (λ (t : ℕ). take (i + 1) (set f i (eqb (bit_and (j / 2 ^ t) 1) 0)) ++ x) w
      ∙ ap (λ (t : ℕ). take t (set f i b) ++ x) (add-one i)
      ∙ ap (λ (t : List Bool). t ++ x) (take-suc-set f i b q)
      ∙ append_snoc (take i f) b x
      ∙ ap (λ (t : List Bool). take i f ++ t) (sym (chosen_step p j))
      ∙ (rw k at e)

  pub next_false : (b : Bool) → drop i f ≡ replicate (12 - i) false
      → drop (i + 1) (set f i b) ≡ replicate (12 - (i + 1)) false
  next_false b d =
      let q : i < length f = omega arith in
      let w : 12 - i ≡ suc (12 - (i + 1)) = omega arith in
      drop-set-lt (i + 1) f i b (omega arith)
      ∙ ap (λ n. drop n f) (add-one i)
      ∙ head_false f i (12 - (i + 1)) q (rw w at d)

-- the last line
pub last_in : (m i j : ℕ) (f : List Bool) → m ≤ 11 → i ≡ m → length f ≡ 12 → drop i f ≡ replicate (12 - i) false
    → take i f ++ chosen_of (m - i) (j % 2 ^ (m - i)) ≡ chosen_of m j → set f m true ≡ flags_of m j
unfolding flags_of chosen_of
last_in m i j f n g len d e =
    let q : m < length f = omega arith in
    let w : 12 - i ≡ suc (11 - m) = omega arith in
    let u : drop m f ≡ replicate (suc (11 - m)) false = rw g at (rw w at d) in
    let z : drop (suc m) f ≡ replicate (11 - m) false = head_false f m (11 - m) q u in
    let k : m - i ≡ 0 = omega arith in
    let v : take m f ++ (true ∷ []) ≡ chosen_of m j = rw g at (rw k at e) in
    let s = append_snoc (take m f) true (replicate (11 - m) false) in
    set_split f m true q ∙ rw z (sym s ∙ ap (λ c. c ++ replicate (11 - m) false) v)

size_step : (b : Bool) (f : List Bool) → size_of (b ∷ f) ≡ cond b (1 + size_of f) (size_of f)
unfolding size_of
size_step true f = omega arith
size_step false f = refl

pub size_count : (f : List Bool) → size_of f ≡ count_by (λ b. b) f
unfolding size_of
size_count = is_count_by size_of (λ b. b) refl size_step

pub some : (m : ℕ) → 1 ≤ 2 ^ m
some m = one-le-pow m 2 (omega arith)
