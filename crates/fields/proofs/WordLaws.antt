-- The bytes of a number as std reads and writes them, lowest first, are those of `dec` and `enc`: both count byte i 256 ^ i.
use mathlib.Core.Path.{◌≡◌, refl, sym, ap, ◌∙◌}
use Prim.Native.Nat.{ℕ, zero, suc, ◌+◌, ◌-◌, ◌*◌, ◌/◌, ◌%◌, ◌^◌, ◌≤◌, ◌<◌}
use native.Mathlib.Nat.{pow-suc, div-div-eq-div-mul}
use native.Mathlib.Omega.{arith}
use mathlib.Core.List.{List, [], ◌∷◌, ◌++◌}
use lib.ListN.{length, take, drop, get_or, length-take}
use lib.Seq.{take-suc, take_all}
use Rattle.std.specs.Int.{sum_through, byte_worth, byte_at, bytes_low_first}
use Rattle.fields.specs.Field.{enc, dec}
use Rattle.fields.specs.Part.{part}
use Rattle.fields.proofs.PartLaws.{length_part, lent_part}

-- one list of bytes behind another
pub dec_append : (a b : List ℕ) → dec (a ++ b) ≡ dec a + 256 ^ length a * dec b
unfolding dec
dec_append [] b = omega arith
dec_append (x ∷ a) b = rw (dec_append a b, pow-suc) (omega arith)

-- the first bytes, one after the other
dec_sum : (l : List ℕ) (k : ℕ) → k < length l → sum_through (λ i. byte_worth i (get_or l i 0)) k ≡ dec (take (suc k) l)
unfolding dec
dec_sum l zero h = rw (take-suc l 0 0 h) (omega arith)
dec_sum l (suc k) h =
    let e : length (take (suc k) l) ≡ suc k = rw length-take (omega arith) in
    let d : dec (take (suc k) l ++ (get_or l (suc k) 0 ∷ [])) ≡ dec (take (suc k) l) + 256 ^ length (take (suc k) l) * dec (get_or l (suc k) 0 ∷ []) = dec_append _ _ in
    rw (dec_sum l k (omega arith), take-suc l (suc k) 0 h, d, e) (omega arith)

-- all of them
pub dec_word : (l : List ℕ) (k : ℕ) → length l ≡ suc k → sum_through (λ i. byte_worth i (get_or l i 0)) k ≡ dec l
dec_word l k e = dec_sum l k (omega arith) ∙ ap dec (take_all (suc k) l (omega arith))

-- the bytes of a part, copied out of it
pub dec_copied : (l bytes : List ℕ) (at k : ℕ) → at + suc k ≤ length l → bytes ≡ take (at + suc k - at) (drop at l)
    → sum_through (λ i. byte_worth i (get_or bytes i 0)) k ≡ dec (part l at (suc k))
dec_copied l bytes at k h e =
    let p : bytes ≡ part l at (suc k) = e ∙ lent_part l at (suc k) in
    dec_word bytes k (ap length p ∙ length_part l at (suc k) h) ∙ ap dec p

enc_from : (i k n : ℕ) → bytes_low_first i k n ≡ enc k (n / 256 ^ i)
unfolding enc
enc_from i zero n = refl
enc_from i (suc k) n =
    let e : n / 256 ^ suc i ≡ n / 256 ^ i / 256 = rw pow-suc (sym (div-div-eq-div-mul n (256 ^ i) 256)) in
    rw (enc_from (suc i) k n, e) (ap (λ (b : ℕ). b ∷ enc k (n / 256 ^ i / 256)) (low i))
  where
    low : (i : ℕ) → byte_at i n ≡ n / 256 ^ i % 256
    low zero = omega arith
    low (suc i) = refl

pub enc_word : (k n : ℕ) → bytes_low_first 0 k n ≡ enc k n
enc_word k n = let e : n / 256 ^ 0 ≡ n = omega arith in enc_from 0 k n ∙ ap (enc k) e
