-- A field is its two halves: the number of the upper half counts 256 to the width of the lower one. So a field of any
-- width can be read and written by halves.
use mathlib.Core.Path.{◌≡◌, refl, sym, ap, ◌∙◌}
use Prim.Native.Nat.{ℕ, zero, suc, ◌+◌, ◌*◌, ◌/◌, ◌%◌, ◌^◌, ◌≤◌, ◌<◌}
use native.Mathlib.Nat.{pow-suc, div-div-eq-div-mul, suc-add, zero-add, mul_comm}
use native.Mathlib.Omega.{arith}
use mathlib.Core.List.{List, [], ◌∷◌, ◌++◌}
use lib.ListN.{length, get_or, set}
use Rattle.fields.specs.Field.{enc, dec}
use Rattle.fields.specs.Part.{part, splice}
use Rattle.fields.proofs.PartLaws.{length_part}
use Rattle.fields.proofs.FieldLaws.{Bytes, length_enc, dec_lt, bytes_take, bytes_drop}
use Rattle.fields.proofs.WriteLaws.{splice_then, set_splice}
use Rattle.fields.proofs.ReadLaws.{part_join, part_cons}
use Rattle.fields.proofs.WordLaws.{dec_append}

-- the number of a field from those of its halves
pub dec_halves : (l : List ℕ) (at n x y : ℕ) → at + (n + n) ≤ length l → x ≡ dec (part l at n) → y ≡ dec (part l (at + n) n)
    → x + 256 ^ n * y ≡ dec (part l at (n + n))
dec_halves l at n x y h ex ey =
    let e : length (part l at n) ≡ n = length_part l at n (omega arith) in
    let d : dec (part l at n ++ part l (at + n) n) ≡ dec (part l at n) + 256 ^ length (part l at n) * dec (part l (at + n) n) = dec_append _ _ in
    let f : dec (part l at n ++ part l (at + n) n) ≡ dec (part l at n) + 256 ^ n * dec (part l (at + n) n) = rw e at d in
    rw (ex, ey) (sym f ∙ ap dec (part_join l at n n))

pub dec_pair : (l : List ℕ) (at x y : ℕ) → at + 2 ≤ length l → x ≡ get_or l at 0 → y ≡ get_or l (at + 1) 0
    → x + 256 * y ≡ dec (part l at 2)
unfolding dec
dec_pair l at x y h ex ey =
    let p : part l at 2 ≡ get_or l at 0 ∷ part l (at + 1) 1 = sym (part_cons l at 1 (omega arith)) in
    let q : part l (at + 1) 1 ≡ get_or l (at + 1) 0 ∷ part l (at + 1 + 1) 0 = sym (part_cons l (at + 1) 0 (omega arith)) in
    rw (p, q, ex, ey) (omega arith)

-- a bound of a field
pub dec_below : (l : List ℕ) (at n x : ℕ) → Bytes l → at + n ≤ length l → x ≡ dec (part l at n) → x < 256 ^ n
dec_below l at n x b h e =
    rw e (dec_lt n (part l at n) (bytes_take n _ (bytes_drop at l b)) (omega (arith, length_part l at n h)))

enc_append : (a b n : ℕ) → enc (a + b) n ≡ enc a n ++ enc b (n / 256 ^ a)
unfolding enc
enc_append zero b n = let e : n / 256 ^ 0 ≡ n = omega arith in rw (zero-add, e)
enc_append (suc a) b n =
    let e : n / 256 ^ suc a ≡ n / 256 / 256 ^ a = rw (pow-suc, mul_comm) (sym (div-div-eq-div-mul n 256 (256 ^ a))) in
    rw (suc-add, e) (ap (λ (t : List ℕ). n % 256 ∷ t) (enc_append a b (n / 256)))

-- a field written by its halves
pub put_halves : (l m : List ℕ) (at w n : ℕ) → m ≡ splice l at (enc w n)
    → splice m (at + w) (enc w (n / 256 ^ w)) ≡ splice l at (enc (w + w) n)
put_halves l m at w n e =
    rw e (splice_then l at (enc w n) (at + w) (enc w (n / 256 ^ w)) (ap (λ (k : ℕ). at + k) (length_enc w n)) ∙ ap (splice l at) (sym (enc_append w w n)))

pub put_pair : (l : List ℕ) (at n : ℕ) → set (set l at (n % 256)) (at + 1) (n / 256 % 256) ≡ splice l at (enc 2 n)
unfolding enc
put_pair l at n =
    rw (set_splice l at (n % 256), set_splice (splice l at (n % 256 ∷ [])) (at + 1) (n / 256 % 256))
    (splice_then l at (n % 256 ∷ []) (at + 1) (n / 256 % 256 ∷ []) refl)
