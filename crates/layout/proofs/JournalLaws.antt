-- A log block: the canonical bytes of a sequence and records read back, one record more gives the canonical bytes with it,
-- and a block in form whose records are whole is canonical. Assumes nothing.
use mathlib.Core.Path.{◌≡◌, refl, sym, ap, ◌∙◌}
use mathlib.Core.Bool.{true, ◌&&◌}
use Prim.Native.Nat.{ℕ, suc, ◌+◌, ◌-◌, ◌^◌, ◌≤◌, ◌<◌}
use native.Mathlib.Omega.{arith}
use mathlib.Core.List.{List, [], ◌∷◌, ◌++◌, append_assoc}
use lib.ListN.{length, drop, length-append, length-take, length-drop, length-replicate, take-append-drop}
use lib.Seq.{drop-drop, drop_at}
use lib.Dec.{leb}
use borrow.Author.Tests.{le-leb, leb-true}
use Rattle.fields.specs.Field.{enc, dec}
use Rattle.fields.specs.Part.{part, splice}
use Rattle.fields.specs.Equal.{all_zero}
use Rattle.fields.specs.Block.{zeros}
use Rattle.fields.specs.Cells.{flat}
use Rattle.layout.specs.Journal.{Record, record_bytes, record_size, log_bytes, sequence_of, used_of, parse, body_of, parsed, empty_block, add_record, used_form}
use Rattle.fields.proofs.Choose.{and_0, and_1}
use Rattle.fields.proofs.PartLaws.{length_splice, length_part, part_splice, part_before, part_after}
use Rattle.fields.proofs.FieldLaws.{Bytes, length_enc, bytes_take, bytes_drop, read_back}
use Rattle.fields.proofs.EqualLaws.{zero_true, zero_zeros}
use Rattle.fields.proofs.WriteLaws.{splice_left, splice_right, splice_whole}
use Rattle.fields.proofs.ReadLaws.{part_mid, dec_mid, part_join, enc_part}
use Rattle.fields.proofs.CellLaws.{Each, each_append, flat_snoc, splice_zeros}
use Rattle.layout.proofs.RecordLaws.{RecordSized, ValueFits, length_record_bytes}
use Rattle.layout.proofs.ParseLaws.{value_fits, parse_flat, flat_parse, parse_sized}

-- ---- the canonical bytes read back

pub length_log_bytes : (s : ℕ) (rs : List Record) → length (flat record_bytes rs) ≤ 502 → length (log_bytes s rs) ≡ 512
unfolding log_bytes
length_log_bytes s rs h = simp (length-append, length_enc, length-replicate) (omega arith)

pub sequence_log_bytes : (s : ℕ) (rs : List Record) → s < 2 ^ 64 → sequence_of (log_bytes s rs) ≡ s
unfolding sequence_of log_bytes
sequence_log_bytes s rs h = ap (λ (t : List ℕ). dec (part t 0 8)) (append_assoc (enc 8 s) _ _) ∙ dec_mid [] _ 0 8 s refl h

pub used_log_bytes : (s : ℕ) (rs : List Record) → length (flat record_bytes rs) ≤ 502 → used_of (log_bytes s rs) ≡ 10 + length (flat record_bytes rs)
unfolding used_of log_bytes
used_log_bytes s rs h =
    ap (λ (t : List ℕ). dec (part t 8 2)) (append_assoc (enc 8 s) _ _) ∙ dec_mid (enc 8 s) _ 8 2 (10 + length (flat record_bytes rs)) (length_enc 8 s) (omega arith)

pub body_log_bytes : (s : ℕ) (rs : List Record) → length (flat record_bytes rs) ≤ 502 → body_of (log_bytes s rs) ≡ flat record_bytes rs
unfolding body_of log_bytes
body_log_bytes s rs h =
    rw (used_log_bytes s rs h)
    (part_mid (enc 8 s ++ enc 2 (10 + length (flat record_bytes rs))) (flat record_bytes rs) _ 10 (10 + length (flat record_bytes rs) - 10) (simp (length-append, length_enc)) (omega arith))

pub parsed_log_bytes : (s : ℕ) (rs : List Record) → Each RecordSized rs → length (flat record_bytes rs) ≤ 502
    → parsed (log_bytes s rs) ≡ record { records = rs; whole = true }
unfolding parsed
parsed_log_bytes s rs z h = rw (body_log_bytes s rs h) (parse_flat _ rs z (omega arith))

pub used_form_log_bytes : (s : ℕ) (rs : List Record) → length (flat record_bytes rs) ≤ 502 → used_form (log_bytes s rs) ≡ true
unfolding used_form log_bytes
used_form_log_bytes s rs h =
    let f = flat record_bytes rs in
    let u = 10 + length f in
    let x = enc 8 s ++ enc 2 u in
    let e : drop u (x ++ (f ++ zeros (502 - length f))) ≡ zeros (502 - length f) =
    ap (drop u) (sym (append_assoc x f (zeros (502 - length f)))) ∙ drop_at (x ++ f) (zeros (502 - length f)) u (simp (length-append, length_enc)) in
    let lo : 10 ≤ u = omega arith in
    let hi : u ≤ 512 = omega arith in
    rw (used_log_bytes s rs h, le-leb 10 u lo, le-leb u 512 hi, e) (zero_zeros (502 - length f))

-- ---- a block in which no record lies yet

pub length_empty_block : (s : ℕ) → length (empty_block s) ≡ 512
unfolding empty_block flat
length_empty_block s = length_log_bytes s [] (omega arith)

pub sequence_empty_block : (s : ℕ) → s < 2 ^ 64 → sequence_of (empty_block s) ≡ s
unfolding empty_block
sequence_empty_block s h = sequence_log_bytes s [] h

pub used_empty_block : (s : ℕ) → used_of (empty_block s) ≡ 10
unfolding empty_block flat
used_empty_block s = used_log_bytes s [] (omega arith)

pub parsed_empty_block : (s : ℕ) → parsed (empty_block s) ≡ record { records = []; whole = true }
unfolding empty_block flat
parsed_empty_block s = parsed_log_bytes s [] tt (omega arith)

-- ---- one record more

pub add_record_is : (s : ℕ) (rs : List Record) (r : Record) → ValueFits r → 10 + length (flat record_bytes rs) + record_size r ≤ 512
    → add_record (log_bytes s rs) r ≡ log_bytes s (rs ++ (r ∷ []))
unfolding add_record log_bytes
add_record_is s rs r v h =
    let f = flat record_bytes rs in
    let d = record_bytes r in
    let u = 10 + length f in
    let x = enc 8 s ++ enc 2 u in
    let n : length d ≡ record_size r = length_record_bytes r v in
    let z = zeros (502 - length f - length d) in
    let a : splice (x ++ (f ++ zeros (502 - length f))) u d ≡ x ++ ((f ++ d) ++ z) =
    ap (λ (t : List ℕ). splice t u d) (sym (append_assoc x f (zeros (502 - length f))))
    ∙ splice_right (x ++ f) (zeros (502 - length f)) u d (simp (length-append, length_enc))
    ∙ ap (λ (t : List ℕ). (x ++ f) ++ t) (splice_zeros (502 - length f) d (omega arith))
    ∙ simp append_assoc in
    let m : u + record_size r ≡ 10 + length (f ++ d) = omega (arith, length-append f d) in
    let k : 502 - length f - length d ≡ 502 - length (f ++ d) = omega (arith, length-append f d) in
    let w = enc 2 (10 + length (f ++ d)) in
    let c : splice x 8 w ≡ enc 8 s ++ w =
    splice_right (enc 8 s) (enc 2 u) 8 w (length_enc 8 s) ∙ ap (λ (t : List ℕ). enc 8 s ++ t) (splice_whole (enc 2 u) w (simp length_enc)) in
    rw (used_log_bytes s rs (omega arith), a, m, splice_left x ((f ++ d) ++ z) 8 w (simp (length-append, length_enc) (omega arith)), c, k, flat_snoc record_bytes rs r)

-- so for any block
pub length_add_record : (b : List ℕ) (r : Record) → length (add_record b r) ≡ length b
unfolding add_record
length_add_record b r = length_splice _ 8 _ ∙ length_splice b (used_of b) (record_bytes r)

pub sequence_add_record : (b : List ℕ) (r : Record) → 8 ≤ used_of b → sequence_of (add_record b r) ≡ sequence_of b
unfolding add_record sequence_of
sequence_add_record b r h =
    ap dec (part_before (splice b (used_of b) (record_bytes r)) 8 (enc 2 (used_of b + record_size r)) 0 8 (omega arith)
    ∙ part_before b (used_of b) (record_bytes r) 0 8 h)

used_laid : (l : List ℕ) (n : ℕ) → 10 ≤ length l → n < 65536 → used_of (splice l 8 (enc 2 n)) ≡ n
unfolding used_of
used_laid l n h k = read_back l 8 2 n h k

part_add_record : (b : List ℕ) (r : Record) (n : ℕ) → part (add_record b r) 10 n ≡ part (splice b (used_of b) (record_bytes r)) 10 n
unfolding add_record
part_add_record b r n = part_after (splice b (used_of b) (record_bytes r)) 8 (enc 2 (used_of b + record_size r)) 10 n (rw length_enc (omega arith))

module _ (b : List ℕ) (r : Record) (len : length b ≡ 512) (fits : used_of b + record_size r ≤ 512) where
  pub used_add_record : used_of (add_record b r) ≡ used_of b + record_size r
  unfolding add_record
  used_add_record =
      used_laid (splice b (used_of b) (record_bytes r)) (used_of b + record_size r) (omega (arith, length_splice b (used_of b) (record_bytes r))) (omega arith)

  pub body_add_record : ValueFits r → 10 ≤ used_of b → body_of (add_record b r) ≡ body_of b ++ record_bytes r
  unfolding body_of
  body_add_record v h =
      let u = used_of b in
      let d = record_bytes r in
      let n : length d ≡ record_size r = length_record_bytes r v in
      let l = splice b u d in
      let m : u + record_size r - 10 ≡ u - 10 + length d = omega arith in
      let k : 10 + (u - 10) ≡ u = omega arith in
      rw used_add_record (rw m (part_add_record b r (u - 10 + length d)
      ∙ sym (part_join l 10 (u - 10) (length d))
      ∙ rw (k, part_before b u d 10 (u - 10) (omega arith), part_splice b u d (omega arith))))

  pub parsed_add_record : Bytes b → RecordSized r → 10 ≤ used_of b → (parsed b).whole ≡ true
      → parsed (add_record b r) ≡ record { records = (parsed b).records ++ (r ∷ []); whole = true }
  unfolding parsed body_of
  parsed_add_record k z h w =
      let p = part b 10 (used_of b - 10) in
      let pb : Bytes p = bytes_take (used_of b - 10) (drop 10 b) (bytes_drop 10 b k) in
      let rs = (parse (suc (length p)) p).records in
      let e : body_of (add_record b r) ≡ flat record_bytes (rs ++ (r ∷ [])) =
      body_add_record (value_fits r z) h
      ∙ ap (λ (t : List ℕ). t ++ record_bytes r) (sym (flat_parse (suc (length p)) p pb w))
      ∙ sym (flat_snoc record_bytes rs r) in
      rw e (parse_flat (suc (length (flat record_bytes (rs ++ (r ∷ []))))) (rs ++ (r ∷ []))
      (each_append RecordSized rs (r ∷ []) (parse_sized (suc (length p)) p pb) (z, tt)) (omega arith))

-- the bytes of the records with one more
pub length_snoc : (rs : List Record) (r : Record) → ValueFits r → length (flat record_bytes (rs ++ (r ∷ []))) ≡ length (flat record_bytes rs) + record_size r
length_snoc rs r v = ap length (flat_snoc record_bytes rs r) ∙ length-append (flat record_bytes rs) (record_bytes r) ∙ rw (length_record_bytes r v)

-- ---- what is read and written again is the same bytes

pub parsed_sized : (b : List ℕ) → Bytes b → Each RecordSized (parsed b).records
unfolding parsed body_of
parsed_sized b k = parse_sized _ _ (bytes_take (used_of b - 10) (drop 10 b) (bytes_drop 10 b k))

pub flat_parsed : (b : List ℕ) → Bytes b → (parsed b).whole ≡ true → flat record_bytes (parsed b).records ≡ body_of b
unfolding parsed body_of
flat_parsed b k w = flat_parse _ _ (bytes_take (used_of b - 10) (drop 10 b) (bytes_drop 10 b k)) w

pub parsed_fits : (b : List ℕ) → length b ≡ 512 → Bytes b → (parsed b).whole ≡ true → length (flat record_bytes (parsed b).records) ≤ 502
unfolding body_of
parsed_fits b len k w = rw (flat_parsed b k w) (simp (length-take, length-drop) (omega arith))

used_again : (b : List ℕ) → length b ≡ 512 → Bytes b → enc 2 (used_of b) ≡ part b 8 2
unfolding used_of
used_again b len k = enc_part b 8 2 (omega arith) k

pub log_again : (b : List ℕ) → length b ≡ 512 → Bytes b → used_form b ≡ true → (parsed b).whole ≡ true → log_bytes (sequence_of b) (parsed b).records ≡ b
unfolding log_bytes sequence_of used_form body_of
log_again b len k f w =
    let u = used_of b in
    let lo : 10 ≤ u = leb-true 10 u (and_0 (leb 10 u) _ f) in
    let g : leb u 512 && all_zero (drop u b) ≡ true = and_1 (leb 10 u) _ f in
    let hi : u ≤ 512 = leb-true u 512 (and_0 (leb u 512) (all_zero (drop u b)) g) in
    let z : drop u b ≡ zeros (length (drop u b)) = zero_true (drop u b) (and_1 (leb u 512) (all_zero (drop u b)) g) in
    let e : flat record_bytes (parsed b).records ≡ part b 10 (u - 10) = flat_parsed b k w in
    let n : length (part b 10 (u - 10)) ≡ u - 10 = length_part b 10 (u - 10) (omega arith) in
    let m : 10 + (u - 10) ≡ u = omega arith in
    let j : 502 - (u - 10) ≡ length (drop u b) = omega (arith, length-drop u b) in
    rw (e, n, m, j, ← z, enc_part b 0 8 (omega arith) k, used_again b len k, part_join b 0 8 2)
    (ap (λ (t : List ℕ). part b 0 10 ++ t) (tail b u m) ∙ take-append-drop 10 b)
  where
    tail : (b : List ℕ) (u : ℕ) → 10 + (u - 10) ≡ u → part b 10 (u - 10) ++ drop u b ≡ drop 10 b
    tail b u m =
        ap (λ (t : List ℕ). part b 10 (u - 10) ++ t) (sym (drop-drop (u - 10) 10 b ∙ rw m)) ∙ take-append-drop (u - 10) (drop 10 b)
