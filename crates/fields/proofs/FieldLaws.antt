-- The laws of `enc` and `dec`, each over any width. Assumes nothing.
use mathlib.Core.Path.{◌≡◌, refl, sym, ap, ◌∙◌}
use Prim.Native.Nat.{ℕ, zero, suc, ◌+◌, ◌-◌, ◌*◌, ◌/◌, ◌%◌, ◌^◌, ◌≤◌, ◌<◌}
use native.Mathlib.Nat.{pow-suc, one-le-pow}
use native.Mathlib.Numerals.{add-one}
use native.Mathlib.Omega.{arith}
use mathlib.Core.List.{List, [], ◌∷◌, ◌++◌, append-nil, append_assoc}
use lib.ListN.{length, take, drop, get_or, set, length-drop}
use lib.Seq.{get_or-drop, drop-length, drop_at, take-suc-set, append_snoc, take_all}
use Rattle.fields.specs.Field.{enc, dec}
use Rattle.fields.specs.Part.{part, splice}
use Rattle.fields.proofs.PartLaws.{length_part, lent_back, lent_length, part_splice, part_after}
use mir.Val.{Fits}
use mir.Syntax.{w8}

-- each element is a byte: what a slice of u8 gives, as `c.shared-slice-known.given`
abbrev pub Bytes : List ℕ → Type 0
Bytes bs = (i : ℕ) → Fits w8 (get_or bs i 0)

pub length_enc : (w n : ℕ) → length (enc w n) ≡ w
unfolding enc
length_enc zero n = refl
length_enc (suc w) n = ap suc (length_enc w (n / 256))

pub dec_enc : (w n : ℕ) → n < 256 ^ w → dec (enc w n) ≡ n
unfolding enc dec
dec_enc zero n h = omega arith
dec_enc (suc w) n h =
    let k : n < 256 ^ w * 256 = rw pow-suc at h in
    let e : dec (enc w (n / 256)) ≡ n / 256 = dec_enc w (n / 256) (omega arith) in
    omega arith

pub bytes_tail : (b : ℕ) (bs : List ℕ) → Bytes (b ∷ bs) → Bytes bs
bytes_tail b bs h i = h (suc i)

pub bytes_drop : (n : ℕ) (l : List ℕ) → Bytes l → Bytes (drop n l)
bytes_drop n l h i = rw get_or-drop (h (n + i))

pub bytes_take : (n : ℕ) (l : List ℕ) → Bytes l → Bytes (take n l)
bytes_take zero l h i = omega arith
bytes_take (suc n) [] h i = h i
bytes_take (suc n) (b ∷ l) h zero = h zero
bytes_take (suc n) (b ∷ l) h (suc i) = bytes_take n l (bytes_tail b l h) i

pub bytes_enc : (w n : ℕ) → Bytes (enc w n)
unfolding enc
bytes_enc zero n i = omega arith
bytes_enc (suc w) n zero = omega arith
bytes_enc (suc w) n (suc i) = bytes_enc w (n / 256) i

pub enc_dec : (bs : List ℕ) → Bytes bs → enc (length bs) (dec bs) ≡ bs
unfolding enc dec
enc_dec [] h = refl
enc_dec (b ∷ bs) h =
    let hb : Fits w8 b = h 0 in
    let m : (b + 256 * dec bs) % 256 ≡ b = omega arith in
    let d : (b + 256 * dec bs) / 256 ≡ dec bs = omega arith in
    simp (m, d, enc_dec bs (bytes_tail b bs h))

pub dec_lt : (k : ℕ) (l : List ℕ) → Bytes l → length l ≤ k → dec l < 256 ^ k
unfolding dec
dec_lt k [] h le = one-le-pow k 256 (omega arith)
dec_lt zero (b ∷ l) h le = omega arith
dec_lt (suc k) (b ∷ l) h le =
    let hb : Fits w8 b = h 0 in
    let ih : dec l < 256 ^ k = dec_lt k l (bytes_tail b l h) (omega arith) in
    rw pow-suc (omega arith)

-- a field of bytes is below what its width holds
pub dec_part_lt : (b : List ℕ) (at w : ℕ) → Bytes b → at + w ≤ length b → dec (part b at w) < 256 ^ w
dec_part_lt b at w k h = dec_lt w (part b at w) (bytes_take w (drop at b) (bytes_drop at b k)) (rw (length_part b at w h) (omega arith))

-- before the first turn of `get` all bytes are left
pub dec_start : (s left : List ℕ) → left ≡ s → (left ++ drop (length left) s ≡ s) × (0 ≡ dec (drop (length left) s))
unfolding dec
dec_start s left e = rw (e, drop-length s) (append-nil s, refl)

-- a turn of `get` takes the last byte b of those that are left; the bytes behind them are read already
pub dec_turn : (s left rest : List ℕ) (b v : ℕ) → left ≡ rest ++ (b ∷ []) → left ++ drop (length left) s ≡ s → v ≡ dec (drop (length left) s)
    → (rest ++ drop (length rest) s ≡ s) × (v * 256 + b ≡ dec (drop (length rest) s))
unfolding dec
dec_turn s left rest b v e p ev = go (drop (length left) s) (ap (λ (l : List ℕ). l ++ drop (length left) s) (sym e) ∙ p) ev
  where
    go : (t : List ℕ) → (rest ++ (b ∷ [])) ++ t ≡ s → v ≡ dec t → (rest ++ drop (length rest) s ≡ s) × (v * 256 + b ≡ dec (drop (length rest) s))
    go t q f =
        let r : rest ++ (b ∷ t) ≡ s = rw append_assoc at q in
        let d : drop (length rest) s ≡ b ∷ t = ap (drop (length rest)) (sym r) ∙ drop_at rest (b ∷ t) (length rest) refl in
        (rw d r, rw (d, f) (omega arith))

-- the number so far fits, for it is that of at most eight bytes
pub dec_room : (s left rest : List ℕ) (b v : ℕ) → Bytes s → length s ≤ 8 → left ≡ rest ++ (b ∷ []) → left ++ drop (length left) s ≡ s
    → v ≡ dec (drop (length left) s) → v * 256 + b < 256 ^ 8
dec_room s left rest b v k h e p ev =
    rw (dec_turn s left rest b v e p ev).1
    (dec_lt 8 (drop (length rest) s) (bytes_drop (length rest) s k) (simp length-drop (omega arith)))

pub dec_done : (s left : List ℕ) (v : ℕ) → length left ≡ 0 → v ≡ dec (drop (length left) s) → v ≡ dec s
dec_done s left v z e = rw z at e

-- a turn of `put`: what is written up to i, and then the bytes that are still to come
pub enc_turn : (s : List ℕ) (i v : ℕ) → i < length s → take (i + 1) (set s i (v % 256)) ++ enc (length s - (i + 1)) (v / 256) ≡ take i s ++ enc (length s - i) v
unfolding enc
enc_turn s i v h =
    let e : length s - i ≡ suc (length s - (i + 1)) = omega arith in
    rw (e, add-one, take-suc-set s i (v % 256), append_snoc)

pub enc_end : (s l : List ℕ) (i v : ℕ) → length s ≤ i → take i s ++ enc (length s - i) v ≡ l → s ≡ l
unfolding enc
enc_end s l i v h e =
    let z : length s - i ≡ 0 = omega arith in
    sym (append-nil s) ∙ (rw (z, take_all i s h) at e)

-- `put` on a part of w bytes
pub put_back : (l v : List ℕ) (at w n : ℕ) → at + w ≤ length l → length v ≡ length (take (at + w - at) (drop at l))
    → v ≡ enc (length (take (at + w - at) (drop at l))) n → take at l ++ (v ++ drop (at + w - at) (drop at l)) ≡ splice l at (enc w n)
put_back l v at w n h k e = lent_back l v at w h k ∙ ap (splice l at) (rw (lent_length l at w h) at e)

-- what was put is read back, and a field beside it is as it was
pub read_back : (l : List ℕ) (at w n : ℕ) → at + w ≤ length l → n < 256 ^ w → dec (part (splice l at (enc w n)) at w) ≡ n
read_back l at w n h b =
    let p : part (splice l at (enc w n)) at (length (enc w n)) ≡ enc w n = part_splice l at (enc w n) (rw length_enc h) in
    ap dec (rw length_enc at p) ∙ dec_enc w n b

pub read_other : (l : List ℕ) (at w n b k : ℕ) → at + w ≤ b → dec (part (splice l at (enc w n)) b k) ≡ dec (part l b k)
read_other l at w n b k h = ap dec (part_after l at (enc w n) b k (rw length_enc h))
