-- A room is put into the output part by part, each behind the one before, and what was put is read again as the same room.
use Rattle.std.specs.Prelude.{Some}
use Rattle.std.proofs.lemmas.List.FromFn.{length-map-range_with_len, get_or-map-range_with_len}
use mathlib.Core.Path.{◌≡◌, refl, sym, ap, ◌∙◌}
use mathlib.Core.List.{List, [], ◌++◌, append_assoc}
use Prim.Native.Nat.{ℕ, ◌+◌, ◌*◌, ◌^◌, ◌≤◌, ◌<◌}
use native.Mathlib.Omega.{arith}
use native.Mathlib.Numerals.{add-one}
use native.Mathlib.Nat.{zero-add}
use lib.ListN.{length, take, drop, get_or, length-append}
use lib.Seq.{take_at, drop_at, take-suc, length-take-le, ext_get_or}
use borrow.Author.Tests.{le-leb}
use Rattle.fields.specs.Field.{enc, dec}
use Rattle.fields.specs.Part.{part, splice}
use Rattle.fields.specs.Cells.{flat}
use Rattle.fields.proofs.PartLaws.{splice_is, part_part}
use Rattle.fields.proofs.FieldLaws.{length_enc, dec_enc}
use Rattle.fields.proofs.ReadLaws.{part_mid, dec_mid}
use Rattle.fields.proofs.CellLaws.{Each, flat_snoc, each_of, each_at, length_flat, cell_at, part_behind}
use Rattle.relief.specs.Form.{sizes_of, words_in, tail_in, room_bytes}

-- a number of 8 bytes
pub put_number : (l : List ℕ) (n x : ℕ) → n + 8 ≤ length l → take (n + 8) (splice l n (enc 8 x)) ≡ take n l ++ enc 8 x
put_number l n x h =
    let k = length_enc 8 x in
    let f : length (take n l ++ enc 8 x) ≡ n + 8 = simp (length-append, length-take-le n l (omega arith), k) in
    ap (take (n + 8)) (splice_is l n (enc 8 x) (omega arith) ∙ sym (append_assoc (take n l) (enc 8 x) _))
    ∙ take_at (take n l ++ enc 8 x) _ (n + 8) f

-- one word more is put
pub flat_turn : (ws : List ℕ) (i : ℕ) → i < length ws → flat (enc 8) (take (i + 1) ws) ≡ flat (enc 8) (take i ws) ++ enc 8 (get_or ws i 0)
flat_turn ws i h = rw (add-one, take-suc ws i 0 h, flat_snoc (enc 8) (take i ws) (get_or ws i 0))

-- the words that are taken
pub length_words : (head : List ℕ) → length (words_in head) ≡ 448
unfolding words_in
length_words head = length-map-range_with_len (λ j. dec (part head (16 + 8 * j) 8)) 0 448

pub word_at : (head : List ℕ) (i : ℕ) → i < 448 → get_or (words_in head) i 0 ≡ dec (part head (16 + 8 * i) 8)
unfolding words_in
word_at head i h = get_or-map-range_with_len (λ j. dec (part head (16 + 8 * j) 8)) 0 448 i i 0 h (zero-add i)

-- what is put is read again as the same room: of its 4112 bytes in front the sizes, the words and the tail
module _ (w t m c : List ℕ) (hw : length w ≡ 448) (ht : length t ≡ 512) where
  abbrev head : List ℕ
  head = take 4112 (room_bytes w t m c)

  length_words_put : length (flat (enc 8) w) ≡ 3584
  length_words_put = length_flat (enc 8) 8 w (each_of _ (length_enc 8) w) ∙ omega arith

  in_head : (at n : ℕ) → at + n ≤ 4112 → part head at n ≡ part (room_bytes w t m c) at n
  in_head at n h = part_part (room_bytes w t m c) 0 4112 at n h ∙ rw zero-add

  pub sizes_again : length m ≤ 50688 → length c ≤ 32768 → sizes_of head ≡ Some (record { medium = length m; cache = length c })
  unfolding sizes_of room_bytes
  sizes_again hm hc =
      let a : dec (part head 0 8) ≡ length m = ap dec (in_head 0 8 (omega arith)) ∙ dec_mid [] _ 0 8 (length m) refl (omega arith) in
      let b : dec (part head 8 8) ≡ length c = ap dec (in_head 8 8 (omega arith)) ∙ dec_mid (enc 8 (length m)) _ 8 8 (length c) (length_enc 8 (length m)) (omega arith) in
      simp (a, b, le-leb _ _ hm, le-leb _ _ hc)

  at_word : (i : ℕ) → i < 448 → part (room_bytes w t m c) (16 + 8 * i) 8 ≡ enc 8 (get_or w i 0)
  unfolding room_bytes
  at_word i h =
      let e : 16 + 8 * i ≡ length (enc 8 (length m)) + (length (enc 8 (length c)) + 8 * i) = omega (arith, length_enc 8 (length m), length_enc 8 (length c)) in
      rw e
      (part_behind (enc 8 (length m)) _ (length (enc 8 (length c)) + 8 * i) 8
      ∙ part_behind (enc 8 (length c)) _ (8 * i) 8
      ∙ cell_at (enc 8) 8 w i 0 (t ++ (m ++ c)) (each_of _ (length_enc 8) w) (omega arith))

  pub words_again : Each (λ (x : ℕ). x < 256 ^ 8) w → words_in head ≡ w
  words_again b =
      ext_get_or 0 (words_in head) w (length_words head ∙ sym hw)
      (λ i h.
      let g : i < 448 = omega (arith, length_words head) in
      word_at head i g
      ∙ ap dec (in_head (16 + 8 * i) 8 (omega arith) ∙ at_word i g)
      ∙ dec_enc 8 (get_or w i 0) (each_at (λ (x : ℕ). x < 256 ^ 8) w i 0 b (omega arith)))

  -- the bytes in front of the tail
  abbrev front : List ℕ
  front = enc 8 (length m) ++ (enc 8 (length c) ++ flat (enc 8) w)

  length_front : length front ≡ 3600
  length_front = simp (length-append, length_enc, length_words_put)

  front_of : room_bytes w t m c ≡ front ++ (t ++ (m ++ c))
  unfolding room_bytes
  front_of = simp append_assoc

  pub tail_again : tail_in head ≡ t
  unfolding tail_in
  tail_again = in_head 3600 512 (omega arith) ∙ rw front_of (part_mid front t (m ++ c) 3600 512 length_front ht)

  pub rest_again : drop 4112 (room_bytes w t m c) ≡ m ++ c
  rest_again =
      let e : length (front ++ t) ≡ 4112 = length-append front t ∙ omega (arith, length_front) in
      ap (drop 4112) (front_of ∙ sym (append_assoc front t (m ++ c))) ∙ drop_at (front ++ t) (m ++ c) 4112 e
