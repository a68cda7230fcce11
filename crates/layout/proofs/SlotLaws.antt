-- The laws of a slot's 32 bytes: its fields lie at fixed places, so what is written is read back, and bytes in form that are
-- read and written again are the same. Assumes nothing.
use mathlib.Core.Path.{◌≡◌, refl, sym, ap, ◌∙◌}
use mathlib.Core.Bool.{Bool, true, false, ◌&&◌, ◌||◌}
use Prim.Native.Nat.{ℕ, ◌+◌, ◌*◌, ◌/◌, ◌%◌, ◌^◌, ◌≤◌, ◌<◌}
use native.Mathlib.Omega.{arith}
use mathlib.Core.List.{List, [], ◌∷◌, ◌++◌}
use lib.Dec.{eqb, leb}
use lib.ListN.{length, take, drop, get_or, set, length-set}
use lib.Seq.{take_all, get_or-set_same, get_or-set_other, drop-set-lt}
use borrow.Author.Tests.{eqb-true, le-leb, leb-true}
use Rattle.fields.specs.Field.{enc, dec}
use Rattle.fields.specs.Part.{part, splice}
use Rattle.fields.specs.Equal.{all_zero}
use Rattle.layout.specs.Slot.{Cell, code_of, shared_field, slot_bytes, state_of, slot_state, slot_key, cell_of, stamped, kind_form, slot_form}
use Rattle.layout.specs.declared.slot.Slot.{Slot}
use Rattle.layout.specs.declared.slot.Slot.TheVariants.{Empty, Waiting, Stamped}
use Rattle.fields.proofs.Choose.{cond_elim, and_0, and_1}
use Rattle.fields.proofs.PartLaws.{length_splice, length_part, part_before, part_after}
use Rattle.fields.proofs.FieldLaws.{Bytes, length_enc, dec_enc, dec_part_lt, bytes_take, bytes_drop, bytes_enc, read_back}
use Rattle.fields.proofs.EqualLaws.{zero_true}
use Rattle.fields.proofs.WriteLaws.{splice_none, set_splice, splice_whole}
use Rattle.fields.proofs.ReadLaws.{part_join, part_cons, enc_part}
use Rattle.fields.proofs.CellLaws.{lay, lay_set, get_d_before, bytes_cons, bytes_append}

-- the fields of a slot lie within their bytes
pub record SlotSized (c : Cell) : Type 0 where
  pub shared : shared_field c.state < 2 ^ 64
  pub key : c.key < 65536
  pub kind : c.kind < 256
  pub earlier : c.earlier < 65536
  pub size : length c.value ≡ 16
  pub bytes : Bytes c.value

-- the slot holds a version, its record number is below 1,024 and its kind one of the two
pub record SlotHolds (c : Cell) : Type 0 where
  pub held : 0 < code_of c.state
  pub key : c.key < 1024
  pub form : kind_form c.kind c.value ≡ true

-- the slot with a time in place of its number
abbrev pub cell_stamped : Cell → ℕ → Cell
cell_stamped c t = record {
  state = Stamped (record { 0 = t });
  key = c.key;
  kind = c.kind;
  earlier = c.earlier;
  value = c.value;
}

same_cell : (c : Cell) (st : Slot) (k d e : ℕ) (v : List ℕ) → st ≡ c.state → k ≡ c.key → d ≡ c.kind → e ≡ c.earlier → v ≡ c.value
    → ◌≡◌ {A = Cell} (record { state = st; key = k; kind = d; earlier = e; value = v }) c
same_cell c st k d e v es ek ed ee ev = rw (es, ek, ed, ee, ev)

-- ---- written

-- the stores of `slot::write_waiting`, one behind the other
pub written : (s a z b : List ℕ) (key kind earlier n : ℕ) (value : List ℕ) → length s ≡ 32 → length value ≡ 16
    → a ≡ splice (set (set (set (set s 0 1) 1 (key % 256)) 2 kind) 3 (key / 256 % 256)) 4 (enc 2 earlier)
    → z ≡ splice a 6 (0 ∷ 0 ∷ [])
    → b ≡ splice z 8 (enc 8 n)
    → splice b 16 value ≡ slot_bytes (record { state = Waiting (record { 0 = n }); key = key; kind = kind; earlier = earlier; value = value })
unfolding enc slot_bytes code_of shared_field
written s a z b key kind earlier n value hs hv ea ez eb =
    let s1 = set_splice s 0 1 in
    let s2 = lay_set s _ 1 (key % 256) refl s1 in
    let s3 = lay_set s _ 2 kind refl s2 in
    let s4 = lay_set s _ 3 (key / 256 % 256) refl s3 in
    let s5 = ea ∙ lay s _ (enc 2 earlier) 4 refl s4 in
    let s6 = ez ∙ lay s _ (0 ∷ 0 ∷ []) 6 refl s5 in
    let s7 = eb ∙ lay s _ (enc 8 n) 8 refl s6 in
    lay s _ value 16 refl s7 ∙ splice_whole s _ (omega arith)

pub length_slot_bytes : (c : Cell) → length c.value ≡ 16 → length (slot_bytes c) ≡ 32
unfolding slot_bytes enc
length_slot_bytes c h = omega arith

pub sized_length : (c : Cell) → SlotSized c → length (slot_bytes c) ≡ 32
sized_length c s = length_slot_bytes c s.size

code_byte : (st : Slot) → code_of st < 256
unfolding code_of
code_byte Empty = omega arith
code_byte (Waiting n) = omega arith
code_byte (Stamped t) = omega arith

pub bytes_slot_bytes : (c : Cell) → SlotSized c → Bytes (slot_bytes c)
unfolding slot_bytes
bytes_slot_bytes c s =
    let n = enc 8 (shared_field c.state) ++ c.value in
    let e = enc 2 c.earlier ++ (0 ∷ 0 ∷ n) in
    let k = c.key / 256 % 256 in
    bytes_cons (code_of c.state) (c.key % 256 ∷ c.kind ∷ k ∷ e) (code_byte c.state)
    (bytes_cons (c.key % 256) (c.kind ∷ k ∷ e) (omega arith)
    (bytes_cons c.kind (k ∷ e) s.kind
    (bytes_cons k e (omega arith)
    (bytes_append (enc 2 c.earlier) (0 ∷ 0 ∷ n) (bytes_enc 2 c.earlier)
    (bytes_cons 0 (0 ∷ n) (omega arith)
    (bytes_cons 0 n (omega arith)
    (bytes_append (enc 8 (shared_field c.state)) c.value (bytes_enc 8 (shared_field c.state)) s.bytes)))))))

-- ---- written, then read

state_back : (st : Slot) → shared_field st < 2 ^ 64 → state_of (code_of st) (dec (enc 8 (shared_field st))) ≡ st
unfolding code_of shared_field
state_back Empty h = refl
state_back (Waiting n) h = ap (λ (m : ℕ). Waiting (record { 0 = m })) (dec_enc 8 n.0 h)
state_back (Stamped t) h = ap (λ (m : ℕ). Stamped (record { 0 = m })) (dec_enc 8 t.0 h)

pub cell_slot_bytes : (c : Cell) → SlotSized c → cell_of (slot_bytes c) ≡ c
unfolding cell_of slot_bytes slot_state slot_key enc
cell_slot_bytes c s =
    same_cell c _ _ _ _ _
    (state_back c.state s.shared)
    (omega (arith, s.key))
    refl
    (dec_enc 2 c.earlier s.earlier)
    (take_all 16 c.value (omega (arith, s.size)))

pub form_slot_bytes : (c : Cell) → SlotSized c → SlotHolds c → slot_form (slot_bytes c) ≡ true
unfolding slot_form slot_bytes enc all_zero code_of
form_slot_bytes c s h = rw (code c.state h.held, le-leb (c.key / 256 % 256) 3 (omega (arith, h.key)), take_all 16 c.value (omega (arith, s.size))) h.form
  where
    code : (st : Slot) → 0 < code_of st → (eqb (code_of st) 1 || eqb (code_of st) 2) ≡ true
    code Empty p = absurd (omega arith)
    code (Waiting n) p = refl
    code (Stamped t) p = refl

-- ---- read, then written

read_code : (s : List ℕ) → (eqb (get_or s 0 0) 1 || eqb (get_or s 0 0) 2) ≡ true → (code_of (slot_state s) ≡ get_or s 0 0) × (shared_field (slot_state s) ≡ dec (part s 8 8)) × (0 < code_of (slot_state s))
unfolding slot_state code_of shared_field
read_code s e = go (get_or s 0 0) (eqb (get_or s 0 0) 1) refl (eqb (get_or s 0 0) 2) refl e
  where
    go : (n : ℕ) (a : Bool) → eqb n 1 ≡ a → (b : Bool) → eqb n 2 ≡ b → (a || b) ≡ true
        → (code_of (state_of n (dec (part s 8 8))) ≡ n) × (shared_field (state_of n (dec (part s 8 8))) ≡ dec (part s 8 8)) × (0 < code_of (state_of n (dec (part s 8 8))))
    go n true p b q e = rw (eqb-true n 1 p) (refl, refl, omega arith)
    go n false p true q e = rw (eqb-true n 2 q) (refl, refl, omega arith)
    go n false p false q e = let z : ◌≡◌ {A = ℕ} 0 1 = cc in absurd (omega arith)

-- both zeros of bytes 6 and 7
zero_pair : (s : List ℕ) → length s ≡ 32 → all_zero (part s 6 2) ≡ true → part s 6 2 ≡ 0 ∷ 0 ∷ []
zero_pair s n z = zero_true (part s 6 2) z ∙ rw (length_part s 6 2 (omega arith))

-- both bytes of a key
low_byte : (a b : ℕ) → a < 256 → (a + 256 * b) % 256 ≡ a
low_byte a b h = omega arith

high_byte : (a b : ℕ) → a < 256 → b < 256 → (a + 256 * b) / 256 % 256 ≡ b
high_byte a b h k = omega arith

pub slot_again : (s : List ℕ) → length s ≡ 32 → Bytes s → slot_form s ≡ true → slot_bytes (cell_of s) ≡ s
unfolding slot_form slot_bytes cell_of slot_key
slot_again s n b f =
    let f1 = and_1 (eqb (get_or s 0 0) 1 || eqb (get_or s 0 0) 2) _ f in
    let f2 = and_1 (leb (get_or s 3 0) 3) _ f1 in
    let c = read_code s (and_0 _ (leb (get_or s 3 0) 3 && (all_zero (part s 6 2) && kind_form (get_or s 2 0) (part s 16 16))) f) in
    let z6 : part s 6 2 ≡ 0 ∷ 0 ∷ [] = zero_pair s n (and_0 (all_zero (part s 6 2)) (kind_form (get_or s 2 0) (part s 16 16)) f2) in
    let w : 0 ∷ 0 ∷ part s 8 24 ≡ part s 6 26 = ap (λ (t : List ℕ). t ++ part s 8 24) (sym z6) ∙ part_join s 6 2 24 in
    rw (
      c.0,
      c.1,
      low_byte (get_or s 1 0) (get_or s 3 0) (b 1).fits,
      high_byte (get_or s 1 0) (get_or s 3 0) (b 1).fits (b 3).fits,
      enc_part s 4 2 (omega arith) b,
      enc_part s 8 8 (omega arith) b,
      part_join s 8 8 16,
      w,
      part_join s 4 2 26,
      part_cons s 3 28 (omega arith),
      part_cons s 2 29 (omega arith),
      part_cons s 1 30 (omega arith),
    )
    (part_cons s 0 31 (omega arith) ∙ take_all 32 s (omega arith))

-- what bytes say lies within its bytes
shared_lt : (n m : ℕ) → m < 2 ^ 64 → shared_field (state_of n m) < 2 ^ 64
unfolding shared_field
shared_lt n m h = cond_elim (λ (st : Slot). shared_field st < 2 ^ 64) (eqb n 1) (λ e. h) (λ e. cond_elim (λ (st : Slot). shared_field st < 2 ^ 64) (eqb n 2) (λ e. h) (λ e. omega arith))

pub cell_sized : (s : List ℕ) → length s ≡ 32 → Bytes s → SlotSized (cell_of s)
unfolding cell_of slot_state slot_key
cell_sized s n b = record {
  shared = shared_lt (get_or s 0 0) (dec (part s 8 8)) (dec_part_lt s 8 8 b (omega arith));
  key = omega (arith, (b 1).fits, (b 3).fits);
  kind = (b 2).fits;
  earlier = dec_part_lt s 4 2 b (omega arith);
  size = length_part s 16 16 (omega arith);
  bytes = bytes_take 16 (drop 16 s) (bytes_drop 16 s b);
}

pub cell_holds : (s : List ℕ) → Bytes s → slot_form s ≡ true → SlotHolds (cell_of s)
unfolding slot_form cell_of slot_key
cell_holds s b f =
    let f1 = and_1 (eqb (get_or s 0 0) 1 || eqb (get_or s 0 0) 2) _ f in
    let f2 = and_1 (leb (get_or s 3 0) 3) _ f1 in
    let high : get_or s 3 0 ≤ 3 = leb-true (get_or s 3 0) 3 (and_0 (leb (get_or s 3 0) 3) (all_zero (part s 6 2) && kind_form (get_or s 2 0) (part s 16 16)) f1) in
    record {
      held = (read_code s (and_0 _ (leb (get_or s 3 0) 3 && (all_zero (part s 6 2) && kind_form (get_or s 2 0) (part s 16 16))) f)).2;
      key = omega (arith, (b 1).fits, high);
      form = and_1 (all_zero (part s 6 2)) (kind_form (get_or s 2 0) (part s 16 16)) f2;
    }

-- ---- stamped

pub length_stamped : (s : List ℕ) (t : ℕ) → length (stamped s t) ≡ length s
unfolding stamped
length_stamped s t = length_splice (set s 0 2) 8 (enc 8 t) ∙ length-set s 0 2

pub stamped_bytes : (c : Cell) (t : ℕ) → stamped (slot_bytes c) t ≡ slot_bytes (cell_stamped c t)
unfolding stamped slot_bytes splice enc code_of shared_field
stamped_bytes c t = simp (splice_none c.value 0)

pub stamped_sized : (c : Cell) (t : ℕ) → SlotSized c → t < 2 ^ 64 → SlotSized (cell_stamped c t)
unfolding shared_field
stamped_sized c t s h = record { shared = h; key = s.key; kind = s.kind; earlier = s.earlier; size = s.size; bytes = s.bytes }

pub stamped_holds : (c : Cell) (t : ℕ) → SlotHolds c → SlotHolds (cell_stamped c t)
unfolding code_of
stamped_holds c t h = record { held = omega arith; key = h.key; form = h.form }

-- state, key, kind, earlier slot and value of a stamped slot
pub cell_stamped_law : (s : List ℕ) (t : ℕ) → 16 ≤ length s → t < 2 ^ 64 → cell_of (stamped s t) ≡ cell_stamped (cell_of s) t
unfolding cell_of slot_state slot_key stamped
cell_stamped_law s t n h =
    let code : get_or (splice (set s 0 2) 8 (enc 8 t)) 0 0 ≡ 2 = get_d_before (set s 0 2) 8 (enc 8 t) 0 0 (omega arith) ∙ get_or-set_same s 0 2 0 (omega arith) in
    let time : dec (part (splice (set s 0 2) 8 (enc 8 t)) 8 8) ≡ t = read_back (set s 0 2) 8 8 t (simp length-set n) h in
    let same : (i : ℕ) → 0 < i → i < 8 → get_or (splice (set s 0 2) 8 (enc 8 t)) i 0 ≡ get_or s i 0 = λ i a b. get_d_before (set s 0 2) 8 (enc 8 t) i 0 b ∙ get_or-set_other s 0 i 2 0 (omega arith) in
    same_cell (cell_stamped (cell_of s) t) _ _ _ _ _
    (rw (code, time))
    (rw (same 1 (omega arith) (omega arith), same 3 (omega arith) (omega arith)))
    (same 2 (omega arith) (omega arith))
    (ap dec (part_before (set s 0 2) 8 (enc 8 t) 4 2 (omega arith) ∙ ap (take 2) (drop-set-lt 4 s 0 2 (omega arith))))
    (part_after (set s 0 2) 8 (enc 8 t) 16 16 (rw length_enc (omega arith)) ∙ ap (take 16) (drop-set-lt 16 s 0 2 (omega arith)))
