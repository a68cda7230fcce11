-- Printing puts bytes behind the first n, one after the other: what a loop has put is what it took of the text. The
-- digits of a number are the fewest that hold it, and for a number below 2^64 these are at most 20.
use mathlib.Core.Path.{◌≡◌, refl, ap, ◌∙◌}
use mathlib.Core.List.{List, [], ◌∷◌, ◌++◌, append_assoc}
use Prim.Native.Nat.{ℕ, zero, suc, ◌+◌, ◌-◌, ◌*◌, ◌/◌, ◌%◌, ◌^◌, ◌≤◌, ◌<◌}
use native.Mathlib.Omega.{arith}
use native.Mathlib.Numerals.{add-one}
use native.Mathlib.Nat.{pow-suc, one-le-pow}
use lib.ListN.{length, take, get_or}
use lib.Seq.{take-suc}
use lib.Dec.{leb}
use borrow.Author.Tests.{lt-ltb, le-ltb, leb-true, leb-false}
use Rattle.io.specs.Digits.{last_digits, hex_digit_ascii, IsDigitCount}
use Rattle.script.specs.Print.{decimal_from, decimal, hex_of}
use Rattle.fields.proofs.Choose.{bool_case}

-- the fewest digits are the decimal ones
pub digits_from : (k f n : ℕ) → IsDigitCount 10 1 n k → k ≤ f → last_digits 10 k n ≡ decimal_from f n
unfolding decimal_from
digits_from zero f n h g = absurd (omega arith)
digits_from (suc k) zero n h g = absurd (omega arith)
digits_from (suc zero) (suc f) n h g =
    let l : n < 10 = h.1 in
    let m : n % 10 ≡ n = omega arith in
    simp (m, lt-ltb _ _ l)
digits_from (suc (suc k)) (suc f) n h g =
    let z : suc (suc k) - 1 ≡ suc k = omega arith in
    let y : suc k - 1 ≡ k = omega arith in
    let p : 10 ^ suc k ≤ n = rw z at (h.2 (omega arith)) in
    let a : 10 ^ suc k ≡ 10 ^ k * 10 = pow-suc 10 k in
    let b : 10 ^ suc (suc k) ≡ 10 ^ suc k * 10 = pow-suc 10 (suc k) in
    let d : 1 ≤ 10 ^ k = one-le-pow k 10 (omega arith) in
    let u : n < 10 ^ suc (suc k) = h.1 in
    let r : n % 10 < 10 = omega arith in
    let e = digits_from (suc k) f (n / 10) (omega arith, omega arith, λ j. rw y (omega arith)) (omega arith) in
    simp (lt-ltb _ _ r, le-ltb n 10 (omega arith), e)

-- a number below 2^64 has at most 20 digits
big : (j : ℕ) → 100000000000000000000 ≤ 10 ^ (j + 20)
big zero = omega arith
big (suc j) =
    let a : 10 ^ suc (j + 20) ≡ 10 ^ (j + 20) * 10 = pow-suc 10 (j + 20) in
    let b = big j in
    let e : suc j + 20 ≡ suc (j + 20) = omega arith in
    rw e (omega arith)

pub fewest_20 : (n k : ℕ) → n < 2 ^ 64 → IsDigitCount 10 1 n k → k ≤ 20
fewest_20 n k u h =
    bool_case (leb k 20) (λ t. leb-true k 20 t)
    (λ t.
    let l : 20 < k = leb-false k 20 t in
    let e : k - 1 ≡ k - 21 + 20 = omega arith in
    let b = big (k - 21) in
    let p : 10 ^ (k - 1) ≤ n = h.2 (omega arith) in
    let q : 10 ^ (k - 1) ≡ 10 ^ (k - 21 + 20) = ap (λ (x : ℕ). 10 ^ x) e in
    absurd (omega arith))

pub digits_decimal : (k n : ℕ) → IsDigitCount 10 1 n k → k ≤ 20 → last_digits 10 k n ≡ decimal n
unfolding decimal
digits_decimal k n h g = digits_from k 20 n h g

-- a turn of the loop over the bytes: two digits more
hex_append : (a b : List ℕ) → hex_of (a ++ b) ≡ hex_of a ++ hex_of b
unfolding hex_of
hex_append [] b = refl
hex_append (x ∷ a) b = ap (λ (t : List ℕ). hex_digit_ascii (x / 16) ∷ (hex_digit_ascii (x % 16) ∷ t)) (hex_append a b)

pub hex_turn : (x y z o t : List ℕ) (i h l : ℕ) → i < length t → x ≡ o ++ hex_of (take i t) → y ≡ x ++ (h ∷ [])
    → z ≡ y ++ (l ∷ [])
    → h ≡ hex_digit_ascii (get_or t i 0 / 16) → l ≡ hex_digit_ascii (get_or t i 0 % 16)
    → z ≡ o ++ hex_of (take (i + 1) t)
unfolding hex_of
hex_turn x y z o t i h l g e f k p q =
    let m : take (i + 1) t ≡ take i t ++ (get_or t i 0 ∷ []) =
    ap (λ (n : ℕ). take n t) (add-one i) ∙ take-suc t i 0 g in
    simp (m, hex_append, k, f, e, p, q, append_assoc)
