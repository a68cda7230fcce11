-- The bytes of a log record: their length, that the stores of a writer make them, that they are read back, and that
-- what is read and written again is the same. Assumes nothing.
use mathlib.Core.Path.{◌≡◌, refl, sym, ap, ◌∙◌}
use Prim.Native.Nat.{ℕ, ◌+◌, ◌^◌, ◌≤◌, ◌<◌}
use native.Mathlib.Nat.{zero-add}
use native.Mathlib.Omega.{arith}
use mathlib.Core.List.{List, [], ◌∷◌, ◌++◌, append_assoc}
use lib.ListN.{length, get_or, take, drop, set, length-append}
use lib.Seq.{get_or_at}
use Rattle.std.proofs.lemmas.List.{get_or-take}
use borrow.Author.Tests.{eq-eqb, le-leb}
use Rattle.fields.specs.Field.{enc, dec}
use Rattle.fields.specs.Part.{part, splice}
use Rattle.fields.specs.Block.{zeros}
use Rattle.fields.specs.Cells.{flat}
use Rattle.layout.specs.Item.{bytes_of, tag_of, item_bytes, item_of, by_tag, head_of, pair_of, value_of, version_item, commit_item}
use Rattle.layout.specs.Journal.{Record, version, commit, version_body, record_bytes, record_size, log_bytes, empty_block, used_of, add_record}
use Rattle.layout.specs.Table.{pair_bytes}
use Rattle.layout.specs.declared.item.Width.{Width}
use Rattle.layout.specs.declared.item.Width.TheVariants.{One, Two}
use Rattle.layout.specs.declared.item.VersionHead.{VersionHead}
use Rattle.layout.specs.declared.item.Pair.{Pair}
use Rattle.layout.specs.declared.item.Area.TheVariants.{Journal}
use Rattle.layout.specs.declared.item.Item.TheVariants.{Version, Commit}
use Rattle.fields.proofs.PartLaws.{splice_is, length_part, part_part}
use Rattle.fields.proofs.FieldLaws.{Bytes, length_enc, dec_part_lt, bytes_take, bytes_drop}
use Rattle.fields.proofs.ReadLaws.{part_mid, dec_mid, part_join, part_cons, enc_part}
use Rattle.layout.proofs.ItemLaws.{item_bytes_law}
use Rattle.fields.proofs.WriteLaws.{set_splice, splice_then, set_then, splice_whole}

-- a record number takes one byte or two
pub bytes_some : (w : Width) → 1 ≤ bytes_of w
unfolding bytes_of
bytes_some One = omega arith
bytes_some Two = omega arith

pub bytes_few : (w : Width) → bytes_of w ≤ 2
unfolding bytes_of
bytes_few One = omega arith
bytes_few Two = omega arith

-- the head lies in the first bytes of a body
pub head_taken : (w : Width) (b : List ℕ) → head_of w (take (29 + bytes_of w) b) ≡ head_of w b
unfolding head_of
head_taken w b =
    let n = bytes_of w in
    simp (
      part_part b 0 (29 + n) 0 2 (omega arith),
      part_part b 0 (29 + n) 2 n (omega arith),
      get_or-take (29 + n) b (2 + n) 0 (omega arith),
      part_part b 0 (29 + n) (3 + n) 2 (omega arith),
      part_part b 0 (29 + n) (5 + n) 8 (omega arith),
      zero-add,
    )

pub length_version_body : (h : VersionHead) (v : List ℕ) → length v ≡ 16 → length (version_body h v) ≡ 29 + bytes_of h.width
unfolding version_body
length_version_body h v e = simp (length-append, length_enc, e) (omega arith)

pub length_pair_bytes : (p : Pair) → length (pair_bytes p) ≡ 16
unfolding pair_bytes
length_pair_bytes p = simp (length-append, length_enc)

pub length_item_bytes : (tag : ℕ) (c : List ℕ) → length (item_bytes tag c) ≡ 3 + length c
unfolding item_bytes
length_item_bytes tag c = simp (length-append, length_enc) (omega arith)

-- a version's value is 16 bytes
abbrev pub ValueFits : Record → Type 0
ValueFits (version h v) = length v ≡ 16
ValueFits (commit p) = Unit {0}

pub length_record_bytes : (r : Record) → ValueFits r → length (record_bytes r) ≡ record_size r
unfolding record_bytes record_size
length_record_bytes (version h v) e = length_item_bytes (tag_of h.width) (version_body h v) ∙ rw (length_version_body h v e) (omega arith)
length_record_bytes (commit p) e = length_item_bytes 2 (pair_bytes p) ∙ rw (length_pair_bytes p)

-- ---- what the stores make

pub begin_is : (s : ℕ) (a b c : List ℕ) → a ≡ zeros 512 → b ≡ splice a 0 (enc 8 s) → c ≡ splice b 8 (enc 2 10) → c ≡ empty_block s
unfolding empty_block log_bytes flat
begin_is s a b c ea eb ec =
    let n : length (enc 8 s ++ enc 2 10) ≡ 10 = simp (length-append, length_enc) in
    let f : splice (zeros 512) 0 (enc 8 s ++ enc 2 10) ≡ (enc 8 s ++ enc 2 10) ++ zeros 502 = splice_is (zeros 512) 0 (enc 8 s ++ enc 2 10) (rw n (omega arith)) ∙ rw n in
    rw (ec, eb, ea, splice_then (zeros 512) 0 (enc 8 s) 8 (enc 2 10) (simp length_enc)) f

pub commit_written : (l a : List ℕ) (p : Pair) → length l ≡ 16 → a ≡ splice l 0 (enc 8 p.number.0) → splice a 8 (enc 8 p.time.0) ≡ pair_bytes p
unfolding pair_bytes
commit_written l a p n ea =
    rw (ea, splice_then l 0 (enc 8 p.number.0) 8 (enc 8 p.time.0) (simp length_enc)) (splice_whole l _ (simp (length-append, length_enc, n)))

pub version_written : (l a b d e v : List ℕ) (h : VersionHead) (n : ℕ) → n ≡ bytes_of h.width → length l ≡ 29 + n → length v ≡ 16
    → a ≡ splice l 0 (enc 2 h.slot)
    → b ≡ splice a 2 (enc n h.key)
    → d ≡ splice (set b (2 + n) h.kind) (3 + n) (enc 2 h.earlier)
    → e ≡ splice d (5 + n) (enc 8 h.number.0)
    → splice e (13 + n) v ≡ version_body h v
unfolding version_body
version_written l a b d e v h n w s m ea eb ed ee =
    rw (
      ee,
      ed,
      eb,
      ea,
      splice_then l 0 x 2 (enc n h.key) (simp length_enc),
      set_then l 0 y (2 + n) h.kind (omega (arith, y_long)),
      splice_then l 0 (y ++ (h.kind ∷ [])) (3 + n) (enc 2 h.earlier) (omega (arith, k_long)),
      splice_then l 0 ((y ++ (h.kind ∷ [])) ++ enc 2 h.earlier) (5 + n) (enc 8 h.number.0) (omega (arith, e_long)),
      splice_then l 0 (((y ++ (h.kind ∷ [])) ++ enc 2 h.earlier) ++ enc 8 h.number.0) (13 + n) v (omega (arith, n_long)),
    )
    (ap (splice l 0) body ∙ splice_whole l (version_body h v) (length_version_body h v m ∙ rw (← w) (sym s)))
  where
    x : List ℕ
    x = enc 2 h.slot

    y : List ℕ
    y = x ++ enc n h.key

    y_long : length y ≡ 2 + n
    y_long = simp (length-append, length_enc)

    k_long : length (y ++ (h.kind ∷ [])) ≡ 3 + n
    k_long = length-append y (h.kind ∷ []) ∙ rw y_long (omega arith)

    e_long : length ((y ++ (h.kind ∷ [])) ++ enc 2 h.earlier) ≡ 5 + n
    e_long = length-append (y ++ (h.kind ∷ [])) (enc 2 h.earlier) ∙ rw (k_long, length_enc) (omega arith)

    n_long : length (((y ++ (h.kind ∷ [])) ++ enc 2 h.earlier) ++ enc 8 h.number.0) ≡ 13 + n
    n_long = length-append ((y ++ (h.kind ∷ [])) ++ enc 2 h.earlier) (enc 8 h.number.0) ∙ rw (e_long, length_enc) (omega arith)

    body : (((y ++ (h.kind ∷ [])) ++ enc 2 h.earlier) ++ enc 8 h.number.0) ++ v ≡ version_body h v
    body = rw (← w) (simp append_assoc)

-- tag and length, and the content behind them
pub head_written : (b v : List ℕ) (at tag : ℕ) → splice (set b at tag) (at + 1) v ≡ splice b at (tag ∷ v)
head_written b v at tag = rw (set_splice b at tag) (splice_then b at (tag ∷ []) (at + 1) v refl)

pub item_written : (b c w : List ℕ) (at tag len : ℕ) → length w ≡ len → c ≡ splice b at (tag ∷ enc 2 len)
    → splice c (at + 3) w ≡ splice b at (item_bytes tag w)
unfolding item_bytes
item_written b c w at tag len n e = rw (e, splice_then b at (tag ∷ enc 2 len) (at + 3) w (simp length_enc), n)

pub version_added : (b c w v : List ℕ) (h : VersionHead) (at n : ℕ) → n ≡ 29 + bytes_of h.width → at ≡ used_of b → length v ≡ 16
    → c ≡ splice b at (tag_of h.width ∷ enc 2 n) → w ≡ version_body h v
    → splice (splice c (at + 3) w) 8 (enc 2 (at + 3 + n)) ≡ add_record b (version h v)
unfolding add_record record_bytes record_size
version_added b c w v h at n s u m e f =
    let k : at + 3 + n ≡ at + (32 + bytes_of h.width) = omega arith in
    rw (item_written b c w at (tag_of h.width) n (ap length f ∙ length_version_body h v m ∙ sym s) e, k, f, u)

pub commit_added : (b c w : List ℕ) (p : Pair) (at : ℕ) → at ≡ used_of b → c ≡ splice b at (2 ∷ enc 2 16) → w ≡ pair_bytes p
    → splice (splice c (at + 3) w) 8 (enc 2 (at + 3 + 16)) ≡ add_record b (commit p)
unfolding add_record record_bytes record_size
commit_added b c w p at u e f =
    let k : at + 3 + 16 ≡ at + 19 = omega arith in
    rw (item_written b c w at 2 16 (ap length f ∙ length_pair_bytes p) e, k, f, u)

-- ---- what was written is read back

-- the fields of a version lie within their bytes
pub record VersionSized (h : VersionHead) (v : List ℕ) : Type 0 where
  pub slot : h.slot < 65536
  pub key : h.key < 256 ^ bytes_of h.width
  pub kind : h.kind < 256
  pub earlier : h.earlier < 65536
  pub number : h.number.0 < 2 ^ 64
  pub size : length v ≡ 16
  pub bytes : Bytes v

pub record PairSized (p : Pair) : Type 0 where
  pub number : p.number.0 < 2 ^ 64
  pub time : p.time.0 < 2 ^ 64

abbrev pub RecordSized : Record → Type 0
RecordSized (version h v) = VersionSized h v
RecordSized (commit p) = PairSized p

same_head : (h : VersionHead) (s k d e n : ℕ) → s ≡ h.slot → k ≡ h.key → d ≡ h.kind → e ≡ h.earlier → n ≡ h.number.0
    → ◌≡◌ {A = VersionHead} (record { width = h.width; slot = s; key = k; kind = d; earlier = e; number = record { 0 = n } }) h
same_head h s k d e n es ek ed ee en = rw (es, ek, ed, ee, en)

pub head_back : (h : VersionHead) (v z : List ℕ) → VersionSized h v → head_of h.width (version_body h v ++ z) ≡ h
unfolding head_of version_body
head_back h v z s =
    let w = bytes_of h.width in
    let x = enc 2 h.slot in
    let y = x ++ enc w h.key in
    let e = enc 2 h.earlier in
    let n = enc 8 h.number.0 ++ (v ++ z) in
    let y_long : length y ≡ 2 + w = simp (length-append, length_enc) in
    let k_long : length (y ++ (h.kind ∷ [])) ≡ 3 + w = length-append y (h.kind ∷ []) ∙ rw y_long (omega arith) in
    let e_long : length ((y ++ (h.kind ∷ [])) ++ e) ≡ 5 + w = length-append (y ++ (h.kind ∷ [])) e ∙ rw (k_long, length_enc) (omega arith) in
    let f : version_body h v ++ z ≡ x ++ (enc w h.key ++ (h.kind ∷ (e ++ n))) = simp append_assoc in
    let g : version_body h v ++ z ≡ y ++ (h.kind ∷ (e ++ n)) = simp append_assoc in
    let k : version_body h v ++ z ≡ (y ++ (h.kind ∷ [])) ++ (e ++ n) = simp append_assoc in
    let j : version_body h v ++ z ≡ ((y ++ (h.kind ∷ [])) ++ e) ++ n = simp append_assoc in
    same_head h _ _ _ _ _
    (ap (λ (t : List ℕ). dec (part t 0 2)) f ∙ dec_mid [] (enc w h.key ++ (h.kind ∷ (e ++ n))) 0 2 h.slot refl s.slot)
    (ap (λ (t : List ℕ). dec (part t 2 w)) f ∙ dec_mid x (h.kind ∷ (e ++ n)) 2 w h.key (length_enc 2 h.slot) s.key)
    (ap (λ (t : List ℕ). get_or t (2 + w) 0) g ∙ get_or_at y h.kind (e ++ n) 0 (2 + w) y_long)
    (ap (λ (t : List ℕ). dec (part t (3 + w) 2)) k ∙ dec_mid (y ++ (h.kind ∷ [])) n (3 + w) 2 h.earlier k_long s.earlier)
    (ap (λ (t : List ℕ). dec (part t (5 + w) 8)) j ∙ dec_mid ((y ++ (h.kind ∷ [])) ++ e) (v ++ z) (5 + w) 8 h.number.0 e_long s.number)

pub value_back : (h : VersionHead) (v z : List ℕ) → VersionSized h v → value_of h.width (version_body h v ++ z) ≡ v
unfolding value_of version_body
value_back h v z s =
    let w = bytes_of h.width in
    let p = (((enc 2 h.slot ++ enc w h.key) ++ (h.kind ∷ [])) ++ enc 2 h.earlier) ++ enc 8 h.number.0 in
    let f : version_body h v ++ z ≡ p ++ (v ++ z) = simp append_assoc in
    let p-long : length p ≡ 13 + w = simp (length-append, length_enc) (omega arith) in
    ap (value_of h.width) f ∙ part_mid p v z (13 + w) 16 p-long s.size

pub pair_back : (p : Pair) (z : List ℕ) → PairSized p → pair_of (pair_bytes p ++ z) ≡ p
unfolding pair_of pair_bytes
pair_back p z s =
    let f : pair_bytes p ++ z ≡ enc 8 p.number.0 ++ (enc 8 p.time.0 ++ z) = simp append_assoc in
    same_pair p _ _
    (ap (λ (t : List ℕ). dec (part t 0 8)) f ∙ dec_mid [] (enc 8 p.time.0 ++ z) 0 8 p.number.0 refl s.number)
    (ap (λ (t : List ℕ). dec (part t 8 8)) f ∙ dec_mid (enc 8 p.number.0) z 8 8 p.time.0 (length_enc 8 p.number.0) s.time)
  where
    same_pair : (p : Pair) (n t : ℕ) → n ≡ p.number.0 → t ≡ p.time.0 → ◌≡◌ {A = Pair} (record { number = record { 0 = n }; time = record { 0 = t } }) p
    same_pair p n t en et = rw (en, et)

-- a record at the front of the bytes
by_width : (w : Width) (len : ℕ) (body : List ℕ) → by_tag Journal (tag_of w) len body ≡ version_item w len body
unfolding by_tag tag_of
by_width One len body = refl
by_width Two len body = refl

pub version_back : (h : VersionHead) (v z : List ℕ) → VersionSized h v → item_of Journal (record_bytes (version h v) ++ z) ≡ Version h
unfolding record_bytes version_item
version_back h v z s =
    let n : length (version_body h v) ≡ 29 + bytes_of h.width = length_version_body h v s.size in
    let l : 29 + bytes_of h.width ≤ length (version_body h v ++ z) = simp (length-append, n) (omega arith) in
    item_bytes_law Journal (tag_of h.width) (version_body h v) z (omega (arith, n, bytes_few h.width))
    ∙ by_width h.width (length (version_body h v)) (version_body h v ++ z)
    ∙ simp (eq-eqb _ _ n, le-leb _ _ l, head_back h v z s)

pub commit_back : (p : Pair) (z : List ℕ) → PairSized p → item_of Journal (record_bytes (commit p) ++ z) ≡ Commit p
unfolding record_bytes by_tag commit_item
commit_back p z s =
    let n : length (pair_bytes p) ≡ 16 = length_pair_bytes p in
    let l : 16 ≤ length (pair_bytes p ++ z) = simp (length-append, n) (omega arith) in
    item_bytes_law Journal 2 (pair_bytes p) z (omega arith) ∙ simp (n, le-leb _ _ l, pair_back p z s)

-- ---- what is read and written again is the same

pub version_again : (w : Width) (b : List ℕ) → Bytes b → 29 + bytes_of w ≤ length b
    → version_body (head_of w b) (value_of w b) ≡ part b 0 (29 + bytes_of w)
unfolding version_body head_of value_of
version_again w b k h =
    let n = bytes_of w in
    let a : 2 + n + 1 ≡ 3 + n = omega arith in
    let c : 3 + n + 2 ≡ 5 + n = omega arith in
    let d : 5 + n + 8 ≡ 13 + n = omega arith in
    let t : 2 + (n + 27) ≡ 29 + n = omega arith in
    rw (
      enc_part b 0 2 (omega arith) k,
      enc_part b 2 n (omega arith) k,
      enc_part b (3 + n) 2 (omega arith) k,
      enc_part b (5 + n) 8 (omega arith) k,
      ← d,
      part_join b (5 + n) 8 16,
      ← c,
      part_join b (3 + n) 2 24,
      ← a,
      part_cons b (2 + n) 26 (omega arith),
      part_join b 2 n 27,
    ) (part_join b 0 2 (n + 27) ∙ ap (part b 0) t)

pub commit_again : (b : List ℕ) → Bytes b → 16 ≤ length b → pair_bytes (pair_of b) ≡ part b 0 16
unfolding pair_bytes pair_of
commit_again b k h = rw (enc_part b 0 8 (omega arith) k, enc_part b 8 8 (omega arith) k) (part_join b 0 8 8)

-- and what is read from bytes lies within its bytes
pub version_sized : (w : Width) (b : List ℕ) → Bytes b → 29 + bytes_of w ≤ length b → VersionSized (head_of w b) (value_of w b)
unfolding head_of value_of
version_sized w b k h = record {
  slot = dec_part_lt b 0 2 k (omega arith);
  key = dec_part_lt b 2 (bytes_of w) k (omega arith);
  kind = (k (2 + bytes_of w)).fits;
  earlier = dec_part_lt b (3 + bytes_of w) 2 k (omega arith);
  number = dec_part_lt b (5 + bytes_of w) 8 k (omega arith);
  size = length_part b (13 + bytes_of w) 16 (omega arith);
  bytes = bytes_take 16 (drop (13 + bytes_of w) b) (bytes_drop (13 + bytes_of w) b k);
}

pub pair_sized : (b : List ℕ) → Bytes b → 16 ≤ length b → PairSized (pair_of b)
unfolding pair_of
pair_sized b k h = record { number = dec_part_lt b 0 8 k (omega arith); time = dec_part_lt b 8 8 k (omega arith) }
