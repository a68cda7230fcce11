-- Hex digits as bytes: a number that takes digits one by one has as its bytes what two digits at a time are, since the
-- last byte of a number is its last two digits. The first sixteen digits fill the high half, the others the low one.
use mathlib.Core.Path.{◌≡◌, refl, sym, ap, ◌∙◌}
use mathlib.Core.Bool.{Bool, true, false, cond, ◌&&◌}
use mathlib.Core.List.{List, [], ◌∷◌, ◌++◌, append-nil, append_assoc}
use Prim.Native.Nat.{ℕ, zero, suc, ◌+◌, ◌*◌, ◌/◌, ◌%◌, ◌≤◌, ◌<◌}
use native.Mathlib.Omega.{arith}
use lib.ListN.{length, take, drop, length-take, length-drop, take-append-drop}
use lib.Dec.{ltb}
use borrow.Author.Tests.{ltb-true, lt-ltb, le-ltb}
use Rattle.fields.proofs.Choose.{and_0, and_1}
use Rattle.script.specs.Words.{hex_digit, all_hex, bytes_of}
use Rattle.script.specs.Reader.{wide}

unfoldable pub hex_from : ℕ → List ℕ → ℕ
hex_from n [] = n
hex_from n (b ∷ w) = hex_from (16 * n + hex_digit b) w

-- the halves behind k digits, with the digits of w
unfoldable pub fill_high : ℕ → ℕ → List ℕ → ℕ
fill_high k h [] = h
fill_high k h (b ∷ w) = fill_high (k + 1) (cond (ltb k 16) (16 * h + hex_digit b) h) w

unfoldable pub fill_low : ℕ → ℕ → List ℕ → ℕ
fill_low k l [] = l
fill_low k l (b ∷ w) = fill_low (k + 1) (cond (ltb k 16) l (16 * l + hex_digit b)) w

high_full : (k h : ℕ) (w : List ℕ) → 16 ≤ k → fill_high k h w ≡ h
unfolding fill_high
high_full k h [] g = refl
high_full k h (b ∷ w) g = simp (le-ltb _ _ g) (high_full (k + 1) h w (omega arith))

low_full : (k l : ℕ) (w : List ℕ) → 16 ≤ k → fill_low k l w ≡ hex_from l w
unfolding fill_low hex_from
low_full k l [] g = refl
low_full k l (b ∷ w) g = simp (le-ltb _ _ g) (low_full (k + 1) (16 * l + hex_digit b) w (omega arith))

high_step : (k h b : ℕ) (w : List ℕ) → k < 16 → fill_high k h (b ∷ w) ≡ fill_high (k + 1) (16 * h + hex_digit b) w
unfolding fill_high
high_step k h b w m = simp (lt-ltb _ _ m)

low_step : (k l b : ℕ) (w : List ℕ) → k < 16 → fill_low k l (b ∷ w) ≡ fill_low (k + 1) l w
unfolding fill_low
low_step k l b w m = simp (lt-ltb _ _ m)

high_part : (k h : ℕ) (u v : List ℕ) → k + length u ≡ 16 → fill_high k h (u ++ v) ≡ hex_from h u
unfolding hex_from
high_part k h [] v g = high_full k h v (omega arith)
high_part k h (b ∷ u) v g =
    high_step k h b (u ++ v) (omega arith) ∙ high_part (k + 1) (16 * h + hex_digit b) u v (omega arith)

low_part : (k l : ℕ) (u v : List ℕ) → k + length u ≡ 16 → fill_low k l (u ++ v) ≡ hex_from l v
low_part k l [] v g = low_full k l v (omega arith)
low_part k l (b ∷ u) v g = low_step k l b (u ++ v) (omega arith) ∙ low_part (k + 1) l u v (omega arith)

high_short : (k h : ℕ) (u : List ℕ) → k + length u ≤ 16 → fill_high k h u ≡ hex_from h u
unfolding fill_high hex_from
high_short k h [] g = refl
high_short k h (b ∷ u) g =
    high_step k h b u (omega arith) ∙ high_short (k + 1) (16 * h + hex_digit b) u (omega arith)

-- the bytes of a number with digits behind it
wide_behind : (k j n : ℕ) (w : List ℕ) → all_hex w ≡ true → length w ≡ 2 * k
    → wide (j + k) (hex_from n w) ≡ wide j n ++ bytes_of w
unfolding wide hex_from bytes_of all_hex
wide_behind zero j n [] h g =
    let e : j + 0 ≡ j = omega arith in ap (λ (i : ℕ). wide i n) e ∙ sym (append-nil (wide j n))
wide_behind zero j n (b ∷ w) h g = absurd (omega arith)
wide_behind (suc k) j n [] h g = absurd (omega arith)
wide_behind (suc k) j n (a ∷ []) h g = absurd (omega arith)
wide_behind (suc k) j n (a ∷ (b ∷ w)) h g =
    let ha : hex_digit a < 16 = ltb-true (hex_digit a) 16
    (and_0 (ltb (hex_digit a) 16) (ltb (hex_digit b) 16 && all_hex w) h) in
    let hr : (ltb (hex_digit b) 16 && all_hex w) ≡ true =
    and_1 (ltb (hex_digit a) 16) (ltb (hex_digit b) 16 && all_hex w) h in
    let hb : hex_digit b < 16 = ltb-true (hex_digit b) 16 (and_0 (ltb (hex_digit b) 16) (all_hex w) hr) in
    let m : j + suc k ≡ suc j + k = omega arith in
    let d : (16 * (16 * n + hex_digit a) + hex_digit b) / 256 ≡ n = omega arith in
    let r : (16 * (16 * n + hex_digit a) + hex_digit b) % 256 ≡ 16 * hex_digit a + hex_digit b = omega arith in
    let e = wide_behind k (suc j) (16 * (16 * n + hex_digit a) + hex_digit b) w
    (and_1 (ltb (hex_digit b) 16) (all_hex w) hr) (omega arith) in
    ap (λ (i : ℕ). wide i (hex_from (16 * (16 * n + hex_digit a) + hex_digit b) w)) m ∙ e ∙ simp (d, r, append_assoc)

wide_bytes : (k : ℕ) (w : List ℕ) → all_hex w ≡ true → length w ≡ 2 * k → wide k (hex_from 0 w) ≡ bytes_of w
unfolding wide
wide_bytes k w h g =
    let e : 0 + k ≡ k = omega arith in
    ap (λ (i : ℕ). wide i (hex_from 0 w)) (sym e) ∙ wide_behind k 0 0 w h g

-- two halves
bytes_append : (k : ℕ) (u v : List ℕ) → length u ≡ 2 * k → bytes_of (u ++ v) ≡ bytes_of u ++ bytes_of v
unfolding bytes_of
bytes_append zero [] v g = refl
bytes_append zero (b ∷ u) v g = absurd (omega arith)
bytes_append (suc k) [] v g = absurd (omega arith)
bytes_append (suc k) (a ∷ []) v g = absurd (omega arith)
bytes_append (suc k) (a ∷ (b ∷ u)) v g =
    ap (λ (t : List ℕ). (16 * hex_digit a + hex_digit b) ∷ t) (bytes_append k u v (omega arith))

hex_append : (u v : List ℕ) → all_hex (u ++ v) ≡ (all_hex u && all_hex v)
unfolding all_hex
hex_append [] v = refl
hex_append (b ∷ u) v = and_assoc (ltb (hex_digit b) 16) (all_hex u) (all_hex v) (hex_append u v)
  where
    and_assoc : (a b c : Bool) {d : Bool} → d ≡ (b && c) → (a && d) ≡ ((a && b) && c)
    and_assoc true b c e = e
    and_assoc false b c e = refl

two_halves : (u v : List ℕ) → all_hex (u ++ v) ≡ true → length u ≡ 16 → length v ≡ 16
    → wide 8 (fill_high 0 0 (u ++ v)) ++ wide 8 (fill_low 0 0 (u ++ v)) ≡ bytes_of (u ++ v)
two_halves u v h g k =
    let hs : (all_hex u && all_hex v) ≡ true = sym (hex_append u v) ∙ h in
    let a : fill_high 0 0 (u ++ v) ≡ hex_from 0 u = high_part 0 0 u v (omega arith) in
    let b : fill_low 0 0 (u ++ v) ≡ hex_from 0 v = low_part 0 0 u v (omega arith) in
    let p : wide 8 (hex_from 0 u) ≡ bytes_of u = wide_bytes 8 u (and_0 (all_hex u) (all_hex v) hs) (omega arith) in
    let q : wide 8 (hex_from 0 v) ≡ bytes_of v = wide_bytes 8 v (and_1 (all_hex u) (all_hex v) hs) (omega arith) in
    ap (λ (x : ℕ). wide 8 x ++ wide 8 (fill_low 0 0 (u ++ v))) a
    ∙ ap (λ (x : ℕ). wide 8 (hex_from 0 u) ++ wide 8 x) b
    ∙ ap (λ (x : List ℕ). x ++ wide 8 (hex_from 0 v)) p
    ∙ ap (λ (x : List ℕ). bytes_of u ++ x) q
    ∙ sym (bytes_append 8 u v (omega arith))

pub value_start : (w : List ℕ) → all_hex w ≡ true → length w ≡ 32
    → wide 8 (fill_high 0 0 w) ++ wide 8 (fill_low 0 0 w) ≡ bytes_of w
value_start w h g =
    let s = take-append-drop 16 w in
    let k : length (take 16 w) ≡ 16 = simp length-take (omega arith) in
    let m : length (drop 16 w) ≡ 16 = simp length-drop (omega arith) in
    ap (λ (x : List ℕ). wide 8 (fill_high 0 0 x) ++ wide 8 (fill_low 0 0 x)) (sym s)
    ∙ two_halves (take 16 w) (drop 16 w) (ap all_hex s ∙ h) k m ∙ ap bytes_of s

pub byte_start : (w : List ℕ) → all_hex w ≡ true → length w ≡ 2 → wide 1 (fill_high 0 0 w) ≡ bytes_of w
byte_start w h g =
    ap (λ (x : ℕ). wide 1 x) (high_short 0 0 w (omega arith)) ∙ wide_bytes 1 w h (omega arith)
