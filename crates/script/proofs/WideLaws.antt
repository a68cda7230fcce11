-- The bytes that std gives of a number are those of the definition, which takes the last one off: the first one comes
-- off as well. A number of two halves has the bytes of both.
use mathlib.Core.Path.{◌≡◌, refl, sym, ap, ◌∙◌}
use mathlib.Core.List.{List, [], ◌∷◌, ◌++◌, append-nil, append_assoc}
use Prim.Native.Nat.{ℕ, zero, suc, ◌+◌, ◌*◌, ◌/◌, ◌%◌, ◌^◌, ◌<◌}
use native.Mathlib.Omega.{arith}
use native.Mathlib.Nat.{pow-suc, div-div-eq-div-mul}
use lib.Bits.{bit_or}
use Rattle.std.specs.Int.{byte_at, bytes_high_first}
use Rattle.std.proofs.lemmas.Nat.{or_shifted}
use Rattle.script.specs.Reader.{wide}

byte_higher : (k n : ℕ) → byte_at k (n / 256) ≡ byte_at (suc k) n
byte_higher zero n = refl
byte_higher (suc k) n =
    ap (λ (m : ℕ). m % 256)
    (div-div-eq-div-mul n 256 (256 ^ suc k) ∙ ap (λ (m : ℕ). n / m) (let e = pow-suc 256 (suc k) in omega arith))

wide_first : (k n : ℕ) → wide (suc k) n ≡ byte_at k n ∷ wide k n
unfolding wide
wide_first zero n = refl
wide_first (suc k) n =
    ap (λ (t : List ℕ). t ++ (n % 256 ∷ [])) (wide_first k (n / 256))
    ∙ ap (λ (b : ℕ). b ∷ (wide k (n / 256) ++ (n % 256 ∷ []))) (byte_higher k n)

bytes_wide : (k n : ℕ) → bytes_high_first k n ≡ wide k n
unfolding wide
bytes_wide zero n = refl
bytes_wide (suc k) n = ap (λ (t : List ℕ). byte_at k n ∷ t) (bytes_wide k n) ∙ sym (wide_first k n)

wide_halves : (j k h l : ℕ) → l < 256 ^ k → wide (j + k) (h * 256 ^ k + l) ≡ wide j h ++ wide k l
unfolding wide
wide_halves j zero h l s =
    let i : j + 0 ≡ j = omega arith in
    let e : h * 256 ^ 0 + l ≡ h = omega arith in
    simp (i, e) (sym (append-nil (wide j h)))
wide_halves j (suc k) h l s =
    let p : 256 ^ suc k ≡ 256 ^ k * 256 = pow-suc 256 k in
    let q : h * 256 ^ suc k ≡ h * 256 ^ k * 256 = rw p (omega arith) in
    let i : j + suc k ≡ suc (j + k) = omega arith in
    let d : (h * 256 ^ suc k + l) / 256 ≡ h * 256 ^ k + l / 256 = omega arith in
    let r : (h * 256 ^ suc k + l) % 256 ≡ l % 256 = omega arith in
    ap (λ (m : ℕ). wide m (h * 256 ^ suc k + l)) i
    ∙ simp (d, r, wide_halves j k h (l / 256) (omega arith), append_assoc)

pub value_wide : (h l : ℕ) → h < 2 ^ 64 → l < 2 ^ 64
    → bytes_high_first 16 (bit_or (h * 2 ^ 64 % 2 ^ 128) l) ≡ wide 8 h ++ wide 8 l
value_wide h l g s =
    let e : h * 2 ^ 64 % 2 ^ 128 ≡ h * 2 ^ 64 = omega arith in
    ap (λ (n : ℕ). bytes_high_first 16 (bit_or n l)) e
    ∙ ap (bytes_high_first 16) (or_shifted h 64 l s)
    ∙ bytes_wide 16 (h * 2 ^ 64 + l)
    ∙ wide_halves 8 8 h l s
