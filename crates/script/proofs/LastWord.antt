-- The last word of a begun line with the bytes w behind what was taken of it: another byte taken changes nothing, since
-- the reader keeps the number so far, whether the word is one, and its hex digits.
use Rattle.std.specs.Prelude.{Option, None, Some}
use mathlib.Core.Path.{◌≡◌, refl, sym, ap, ◌∙◌}
use mathlib.Core.Bool.{Bool, true, false, cond, not, ◌&&◌}
use mathlib.Core.List.{List, [], ◌∷◌, ◌++◌}
use Prim.Native.Nat.{ℕ, suc, ◌+◌, ◌-◌, ◌*◌, ◌%◌, ◌^◌, ◌≤◌, ◌<◌}
use native.Mathlib.Omega.{arith}
use native.Mathlib.Numerals.{add-one}
use native.Mathlib.Nat.{pow-suc, pow-le-pow_right}
use lib.ListN.{length}
use lib.Dec.{eqb, ltb, leb}
use borrow.Author.Tests.{ltb-true, ltb-false, leb-true, leb-false, eqb-true, lt-ltb, le-ltb, le-leb, lt-leb, ne_eqb}
use Rattle.fields.proofs.Choose.{and_0, and_1, cond_when, bool_case, no}
use Rattle.script.specs.declared.line.Line.{Line}
use Rattle.script.specs.Words.{is_in, is_digit, all_digits, value_from, number_of, hex_digit, all_hex, bytes_of}
use Rattle.script.specs.Words.{hex_bytes}
use Rattle.script.specs.Form.{Word, word_of}
use Rattle.script.specs.Reader.{is_number, stays_number, one_more, pushed, with_digit, no_word, wide, last_word}
use Rattle.script.proofs.HexLaws.{fill_high, fill_low, value_start, byte_start}

-- what holds of the last word of every line that was taken
pub record Held (l : Line) : Type 0 where
  pub small : l.number ≡ true → l.last < 2 ^ 64
  pub high_small : l.hexes < 16 → l.high < 16 ^ l.hexes
  pub low_small : l.hexes < 32 → l.low < 16 ^ (l.hexes - 16)

-- is there a byte of the word?
abbrev begun : ℕ → List ℕ → Bool
begun k [] = not (eqb k 0)
begun k (b ∷ w) = true

unfoldable pub number_from : Line → List ℕ → Option ℕ
number_from l w =
    cond l.number
    (cond (begun l.hexes w) (cond (all_digits w && ltb (value_from l.last w) (2 ^ 64)) (Some (value_from l.last w))
    None) None) None

-- n hex digits, and what is made of their two halves
unfoldable pub hexes_from : ℕ → (ℕ → ℕ → List ℕ) → Line → List ℕ → Option (List ℕ)
hexes_from n f l w =
    cond (all_hex w && eqb (l.hexes + length w) n)
    (Some (f (fill_high l.hexes l.high w) (fill_low l.hexes l.low w))) None

abbrev both : ℕ → ℕ → List ℕ
both h l = wide 8 h ++ wide 8 l

abbrev first : ℕ → ℕ → List ℕ
first h l = wide 1 h

unfoldable pub word_from : Line → List ℕ → Word
word_from l w = record { number = number_from l w; value = hexes_from 32 both l w; byte = hexes_from 2 first l w }

-- small facts
value_grows : (n : ℕ) (w : List ℕ) → n ≤ value_from n w
unfolding value_from
value_grows n [] = omega arith
value_grows n (b ∷ w) = let h = value_grows (10 * n + (b - 48)) w in omega arith

and_false : (a : Bool) → (a && false) ≡ false
and_false true = refl
and_false false = refl

begun_some : (k : ℕ) (w : List ℕ) → (k ≡ 0 → ⊥) → begun k w ≡ true
begun_some k [] h = simp (ne_eqb _ _ h)
begun_some k (b ∷ w) h = refl

more_some : (k : ℕ) → one_more k ≡ 0 → ⊥
unfolding one_more
more_some k e =
    bool_case (leb 32 k)
    (λ t. let z : 33 ≡ 0 = simp t at e in omega arith)
    (λ t. let z : k + 1 ≡ 0 = simp t at e in omega arith)

-- a hex digit below ten is a decimal one
digit_same : (b : ℕ) → is_digit b ≡ true → hex_digit b ≡ b - 48
unfolding hex_digit
digit_same b t = simp t

digit_below : (b : ℕ) → is_digit b ≡ true → ltb (hex_digit b) 10 ≡ true
unfolding is_digit is_in
digit_below b t =
    let p : b ≤ 57 = leb-true b 57 (and_1 (leb 48 b) (leb b 57) t) in
    let e : hex_digit b ≡ b - 48 = digit_same b t in
    lt-ltb (hex_digit b) 10 (omega arith)

digit_above : (b : ℕ) → is_digit b ≡ false → ltb (hex_digit b) 10 ≡ false
unfolding hex_digit is_in
digit_above b t =
    bool_case (is_in 97 102 b)
    (λ y.
    let p : 97 ≤ b = leb-true 97 b (and_0 (leb 97 b) (leb b 102) y) in
    simp (t, y) (le-ltb (b - 87) 10 (omega arith)))
    (λ y. simp (t, y))

-- the number
pub number_start : (l : Line) (w : List ℕ) → l.number ≡ true → l.hexes ≡ 0 → l.last ≡ 0 → number_from l w ≡ number_of w
unfolding number_from number_of
number_start l [] n h e = simp (n, h)
number_start l (b ∷ w) n h e = simp (n, e)

module _ (l : Line) (b : ℕ) (w : List ℕ) where
  number_out : (l.number ≡ true → (all_digits (b ∷ w) && ltb (value_from l.last (b ∷ w)) (2 ^ 64)) ≡ false)
      → number_from l (b ∷ w) ≡ None
  unfolding number_from
  number_out f = bool_case l.number (λ n. simp (n, f n)) (λ n. simp n)

  number_other : is_digit b ≡ false → number_from l (b ∷ w) ≡ None
  unfolding all_digits
  number_other t = number_out (λ n. simp t)

  number_large : 2 ^ 64 ≤ 10 * l.last + (b - 48) → number_from l (b ∷ w) ≡ None
  unfolding value_from
  number_large h =
      let g = value_grows (10 * l.last + (b - 48)) w in
      let e : ltb (value_from (10 * l.last + (b - 48)) w) (2 ^ 64) ≡ false =
      le-ltb (value_from (10 * l.last + (b - 48)) w) (2 ^ 64) (omega arith) in
      number_out (λ n. simp e (and_false (all_digits (b ∷ w))))

  number_none : (g : Line) → g.number ≡ false → number_from g w ≡ None
  unfolding number_from
  number_none g e = simp e

  number_on : (g : Line) → l.number ≡ true → is_digit b ≡ true → g.number ≡ true → (g.hexes ≡ 0 → ⊥)
      → g.last ≡ 10 * l.last + (b - 48) → number_from l (b ∷ w) ≡ number_from g w
  unfolding number_from all_digits value_from
  number_on g n t m k e = simp (n, t, m, begun_some g.hexes w k, e)

  number_digit : number_from l (b ∷ w) ≡ number_from (with_digit l (hex_digit b)) w
  unfolding with_digit stays_number
  number_digit =
      bool_case (is_digit b)
      (λ t. bool_case l.number
      (λ n. bool_case (ltb (10 * l.last + hex_digit b) (2 ^ 64))
      (λ r.
      number_on (with_digit l (hex_digit b)) n t (simp (n, digit_below b t, r)) (more_some l.hexes)
      (simp (n, digit_below b t, r) (ap (λ (x : ℕ). 10 * l.last + x) (digit_same b t))))
      (λ r.
      let h : 2 ^ 64 ≤ 10 * l.last + hex_digit b = ltb-false (10 * l.last + hex_digit b) (2 ^ 64) r in
      let e : hex_digit b ≡ b - 48 = digit_same b t in
      number_large (omega arith) ∙ sym (number_none (with_digit l (hex_digit b)) (simp (n, digit_below b t, r)))))
      (λ n. number_out (λ m. no (sym n ∙ m)) ∙ sym (number_none (with_digit l (hex_digit b)) (simp n))))
      (λ t. number_other t ∙ sym (number_none (with_digit l (hex_digit b))
      (bool_case l.number (λ n. simp (n, digit_above b t)) (λ n. simp n))))

-- the hex digits
module _ (n : ℕ) (f : ℕ → ℕ → List ℕ) (l : Line) where
  hexes_start : (w r : List ℕ) → l.hexes ≡ 0 → l.high ≡ 0 → l.low ≡ 0
      → (all_hex w ≡ true → length w ≡ n → f (fill_high 0 0 w) (fill_low 0 0 w) ≡ r)
      → hexes_from n f l w ≡ cond (all_hex w && eqb (length w) n) (Some r) None
  unfolding hexes_from
  hexes_start w r k h g e =
      let z : 0 + length w ≡ length w = omega arith in
      simp (k, h, g, z)
      (cond_when (all_hex w && eqb (length w) n) None
      (λ t. ap Some (e (and_0 (all_hex w) (eqb (length w) n) t)
      (eqb-true (length w) n (and_1 (all_hex w) (eqb (length w) n) t)))))

  hexes_end : hexes_from n f l [] ≡ cond (eqb l.hexes n) (Some (f l.high l.low)) None
  unfolding hexes_from all_hex fill_high fill_low
  hexes_end = let z : l.hexes + 0 ≡ l.hexes = omega arith in simp z

  -- more digits than n, or another byte
  hexes_over : (w : List ℕ) → n < l.hexes + length w → hexes_from n f l w ≡ None
  unfolding hexes_from
  hexes_over w h =
      let z : l.hexes + length w ≡ n → ⊥ = λ e. omega arith in
      simp (ne_eqb _ _ z)
      (ap (λ (x : Bool). cond x (Some (f (fill_high l.hexes l.high w) (fill_low l.hexes l.low w))) None)
      (and_false (all_hex w)))

  hexes_other : (b : ℕ) (w : List ℕ) → ltb (hex_digit b) 16 ≡ false → hexes_from n f l (b ∷ w) ≡ None
  unfolding hexes_from all_hex
  hexes_other b w t = simp t

-- sixteen digits fill a half
push_plain : (x k d : ℕ) → x < 16 ^ k → k < 16 → pushed x d ≡ 16 * x + d
unfolding pushed
push_plain x k d h g =
    let i : k ≤ 15 = omega arith in
    let p : 16 ^ k ≤ 16 ^ 15 = pow-le-pow_right (omega arith) i in
    let m : x % 2 ^ 60 ≡ x = omega arith in
    omega arith

push_small : (x k d : ℕ) → x < 16 ^ k → d < 16 → 16 * x + d < 16 ^ suc k
push_small x k d h g = let p : 16 ^ suc k ≡ 16 ^ k * 16 = pow-suc 16 k in omega arith

module _ (l : Line) (d : ℕ) (held : Held l) where
  more_at : l.hexes < 32 → (with_digit l d).hexes ≡ l.hexes + 1
  unfolding with_digit one_more
  more_at h = simp (lt-leb _ _ h)

  more_over : 32 ≤ l.hexes → (with_digit l d).hexes ≡ 33
  unfolding with_digit one_more
  more_over h = simp (le-leb _ _ h)

  high_at : (with_digit l d).high ≡ cond (ltb l.hexes 16) (16 * l.high + d) l.high
  unfolding with_digit
  high_at =
      cond_when (ltb l.hexes 16) l.high (λ t.
      let h : l.hexes < 16 = ltb-true l.hexes 16 t in push_plain l.high l.hexes d (held.high_small h) h)

  low_at : l.hexes < 32 → (with_digit l d).low ≡ cond (ltb l.hexes 16) l.low (16 * l.low + d)
  unfolding with_digit
  low_at g =
      bool_case (ltb l.hexes 16) (λ t. simp t)
      (λ t.
      let h : 16 ≤ l.hexes = ltb-false l.hexes 16 t in
      simp t (push_plain l.low (l.hexes - 16) d (held.low_small g) (omega arith)))

  last_next : (with_digit l d).number ≡ true → (with_digit l d).last < 2 ^ 64
  unfolding with_digit stays_number
  last_next n =
      bool_case l.number
      (λ m. bool_case (ltb d 10)
      (λ y. bool_case (ltb (10 * l.last + d) (2 ^ 64))
      (λ r. simp (m, y, r) (ltb-true (10 * l.last + d) (2 ^ 64) r))
      (λ r. no (simp (m, y, r) at n)))
      (λ y. no (simp (m, y) at n)))
      (λ m. no (simp m at n))

  high_next : d < 16 → (with_digit l d).hexes < 16 → (with_digit l d).high < 16 ^ (with_digit l d).hexes
  high_next g h =
      bool_case (leb 32 l.hexes)
      (λ t. let e = more_over (leb-true 32 l.hexes t) in absurd (omega arith))
      (λ t.
      let k : l.hexes < 32 = leb-false 32 l.hexes t in
      let e : (with_digit l d).hexes ≡ suc l.hexes = more_at k ∙ add-one l.hexes in
      let i : l.hexes < 16 = omega arith in
      rw (e, high_at) (simp (lt-ltb _ _ i) (push_small l.high l.hexes d (held.high_small i) g)))

  low_next : d < 16 → (with_digit l d).hexes < 32 → (with_digit l d).low < 16 ^ ((with_digit l d).hexes - 16)
  low_next g h =
      bool_case (leb 32 l.hexes)
      (λ t. let e = more_over (leb-true 32 l.hexes t) in absurd (omega arith))
      (λ t.
      let k : l.hexes < 32 = leb-false 32 l.hexes t in
      let e : (with_digit l d).hexes ≡ l.hexes + 1 = more_at k in
      let s = held.low_small k in
      bool_case (ltb l.hexes 16)
      (λ y.
      let i : l.hexes < 16 = ltb-true l.hexes 16 y in
      let p : l.hexes + 1 - 16 ≡ l.hexes - 16 = omega arith in
      rw (e, low_at k) (simp (y, p) s))
      (λ y.
      let i : 16 ≤ l.hexes = ltb-false l.hexes 16 y in
      let p : l.hexes + 1 - 16 ≡ suc (l.hexes - 16) = omega arith in
      rw (e, low_at k) (simp (y, p) (push_small l.low (l.hexes - 16) d s g))))

  pub digit_held : d < 16 → Held (with_digit l d)
  digit_held g = record { small = last_next; high_small = high_next g; low_small = low_next g }

  hexes_below : (n : ℕ) (f : ℕ → ℕ → List ℕ) (b : ℕ) (w : List ℕ) → d ≡ hex_digit b → ltb d 16 ≡ true → l.hexes < 32
      → hexes_from n f l (b ∷ w) ≡ hexes_from n f (with_digit l d) w
  unfolding hexes_from all_hex fill_high fill_low
  hexes_below n f b w q t h =
      let z : l.hexes + suc (length w) ≡ l.hexes + 1 + length w = omega arith in
      simp (← q, t, more_at h, high_at, low_at h, z)

  hexes_digit : (n : ℕ) (f : ℕ → ℕ → List ℕ) (b : ℕ) (w : List ℕ) → n ≤ 32 → d ≡ hex_digit b → ltb d 16 ≡ true
      → hexes_from n f l (b ∷ w) ≡ hexes_from n f (with_digit l d) w
  hexes_digit n f b w g q t =
      bool_case (leb 32 l.hexes)
      (λ y.
      let h : 32 ≤ l.hexes = leb-true 32 l.hexes y in
      let e = more_over h in
      hexes_over n f l (b ∷ w) (omega arith) ∙ sym (hexes_over n f (with_digit l d) w (omega arith)))
      (λ y. hexes_below n f b w q t (leb-false 32 l.hexes y))

-- the whole word
pub word_start : (l : Line) (w : List ℕ) → l.number ≡ true → l.hexes ≡ 0 → l.last ≡ 0 → l.high ≡ 0 → l.low ≡ 0
    → word_from l w ≡ word_of w
unfolding word_from word_of hex_bytes
word_start l w n k e h g =
    simp (
      number_start l w n k e,
      hexes_start 32 both l w (bytes_of w) k h g (value_start w),
      hexes_start 2 first l w (bytes_of w) k h g (byte_start w),
    )

pub word_digit : (l : Line) (b : ℕ) (w : List ℕ) → Held l → ltb (hex_digit b) 16 ≡ true
    → word_from l (b ∷ w) ≡ word_from (with_digit l (hex_digit b)) w
unfolding word_from
word_digit l b w held t =
    simp (
      number_digit l b w,
      hexes_digit l (hex_digit b) held 32 both b w (omega arith) refl t,
      hexes_digit l (hex_digit b) held 2 first b w (omega arith) refl t,
    )

number_gone : (l : Line) (b : ℕ) (w : List ℕ) → ltb (hex_digit b) 16 ≡ false → number_from l (b ∷ w) ≡ None
number_gone l b w t =
    bool_case (is_digit b)
    (λ y.
    let h : hex_digit b < 10 = ltb-true (hex_digit b) 10 (digit_below b y) in
    let k : 16 ≤ hex_digit b = ltb-false (hex_digit b) 16 t in
    absurd (omega arith))
    (λ y. number_other l b w y)

pub word_other : (l : Line) (b : ℕ) (w : List ℕ) → ltb (hex_digit b) 16 ≡ false
    → word_from l (b ∷ w) ≡ word_from (no_word l) w
unfolding word_from no_word
word_other l b w t =
    simp (
      number_gone l b w t,
      number_none l b w (no_word l) refl,
      hexes_other 32 both l b w t,
      hexes_other 2 first l b w t,
      hexes_over 32 both (no_word l) w (omega arith),
      hexes_over 2 first (no_word l) w (omega arith),
    )

pub number_end : (l : Line) → Held l → number_from l [] ≡ cond (is_number l) (Some l.last) None
unfolding number_from is_number all_digits value_from
number_end l held =
    bool_case l.number
    (λ n. bool_case (eqb l.hexes 0) (λ k. simp (n, k)) (λ k. simp (n, k, lt-ltb _ _ (held.small n))))
    (λ n. bool_case (eqb l.hexes 0) (λ k. simp (n, k)) (λ k. simp (n, k)))

pub word_end : (l : Line) → Held l → word_from l [] ≡ last_word l
unfolding word_from last_word
word_end l held = simp (number_end l held, hexes_end 32 both l, hexes_end 2 first l)
