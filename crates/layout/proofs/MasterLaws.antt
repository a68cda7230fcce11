-- The master: its fields are written one behind the other over zeros, what was written is read back, and what was read is
-- written as the same bytes. Assumes nothing.
use mathlib.Core.Path.{◌≡◌, refl, sym, ap, ◌∙◌}
use mathlib.Core.Logic.{◌≢◌}
use mathlib.Core.Bool.{Bool, true, false, cond}
use Prim.Native.Nat.{ℕ, ◌+◌, ◌-◌, ◌^◌, ◌≤◌, ◌<◌}
use native.Mathlib.Omega.{arith}
use mathlib.Core.List.{List, ◌++◌, append_assoc}
use lib.ListN.{length, take, drop, length-append, length-drop, take-append-drop}
use lib.Seq.{take_at, drop_at, drop-drop}
use lib.Dec.{eqb}
use borrow.Author.Tests.{eq-eqb, eqb-true}
use Rattle.fields.specs.Field.{enc, dec}
use Rattle.fields.specs.Part.{part, splice}
use Rattle.fields.specs.Equal.{all_zero}
use Rattle.fields.specs.Block.{zeros, blk, put}
use Rattle.layout.specs.Item.{item_bytes, item_of}
use Rattle.layout.specs.Master.{master_bytes, number_of, field_of, fetch, master_of, oldest_on}
use Rattle.layout.specs.declared.item.Area.TheVariants.{Master as InMaster}
use Rattle.layout.specs.declared.item.Item.{Item}
use Rattle.layout.specs.declared.item.Item.TheVariants.{End, Version, Commit, Number, Damaged}
use Rattle.layout.specs.declared.master.Fields.{Fields}
use Rattle.std.specs.Prelude.{Option, Some, None}
use Rattle.fields.proofs.Choose.{cond_elim}
use Rattle.fields.proofs.EqualLaws.{zero_true, zero_zeros}
use Rattle.fields.proofs.FieldLaws.{Bytes, length_enc, dec_part_lt, bytes_enc, bytes_drop}
use Rattle.fields.proofs.PartLaws.{lent_rest}
use Rattle.fields.proofs.CellLaws.{lay, splice_zeros, bytes_cons, bytes_append, bytes_zeros}
use Rattle.fields.proofs.BlockLaws.{part_blk, blk_same, blk_other}
use Rattle.fields.proofs.ReadLaws.{enc_part}
use Rattle.layout.proofs.ItemLaws.{Holds, Told, told, width_of, number_back, item_again}
use Rattle.layout.proofs.RecordLaws.{length_item_bytes}

length_field : (tag w n : ℕ) → length (item_bytes tag (enc w n)) ≡ 3 + w
length_field tag w n = length_item_bytes tag (enc w n) ∙ ap (λ (k : ℕ). 3 + k) (length_enc w n)

over_zeros : (n : ℕ) (v : List ℕ) (k : ℕ) → length v + k ≡ n → splice (zeros n) 0 v ≡ v ++ zeros k
over_zeros n v k h =
    let e : n - length v ≡ k = omega arith in
    rw e at (splice_zeros n v (omega arith))

-- the bytes of the five fields
abbrev blocks₁ : Fields → List ℕ
blocks₁ f = item_bytes 1 (enc 2 f.blocks)

abbrev pages₂ : Fields → List ℕ
pages₂ f = item_bytes 2 (enc 2 f.pages)

abbrev oldest₃ : Fields → List ℕ
oldest₃ f = item_bytes 3 (enc 8 f.oldest)

abbrev next₄ : Fields → List ℕ
next₄ f = item_bytes 4 (enc 8 f.next.0)

abbrev last₅ : Fields → List ℕ
last₅ f = item_bytes 5 (enc 8 f.last.0)

-- the five fields written one behind the other over zeros
pub master_laid : (f : Fields) (z a b c d : List ℕ) → z ≡ zeros 512
    → a ≡ splice z 0 (blocks₁ f) → b ≡ splice a 5 (pages₂ f) → c ≡ splice b 10 (oldest₃ f) → d ≡ splice c 21 (next₄ f)
    → splice d 32 (last₅ f) ≡ master_bytes f
unfolding master_bytes
master_laid f z a b c d ez ea eb ec ed =
    let e₁ : b ≡ splice z 0 (blocks₁ f ++ pages₂ f) = eb ∙ lay z (blocks₁ f) (pages₂ f) 5 (length_field 1 2 f.blocks) ea in
    let e₂ : c ≡ splice z 0 ((blocks₁ f ++ pages₂ f) ++ oldest₃ f) = ec ∙ lay z (blocks₁ f ++ pages₂ f) (oldest₃ f) 10 (simp (length-append, length_field)) e₁ in
    let e₃ : d ≡ splice z 0 (((blocks₁ f ++ pages₂ f) ++ oldest₃ f) ++ next₄ f) = ed ∙ lay z ((blocks₁ f ++ pages₂ f) ++ oldest₃ f) (next₄ f) 21 (simp (length-append, length_field)) e₂ in
    lay z (((blocks₁ f ++ pages₂ f) ++ oldest₃ f) ++ next₄ f) (last₅ f) 32 (simp (length-append, length_field)) e₃
    ∙ ap (λ (l : List ℕ). splice l 0 ((((blocks₁ f ++ pages₂ f) ++ oldest₃ f) ++ next₄ f) ++ last₅ f)) ez
    ∙ over_zeros 512 ((((blocks₁ f ++ pages₂ f) ++ oldest₃ f) ++ next₄ f) ++ last₅ f) 469 (simp (length-append, length_field))
    ∙ five (blocks₁ f) (pages₂ f) (oldest₃ f) (next₄ f) (last₅ f) (zeros 469)
  where
    five : (a b c d e z : List ℕ) → ((((a ++ b) ++ c) ++ d) ++ e) ++ z ≡ a ++ (b ++ (c ++ (d ++ (e ++ z))))
    five a b c d e z = simp append_assoc

-- a field that was written is read back, whatever is behind it
pub field_back : (tag n : ℕ) (z : List ℕ) → 0 < tag → tag ≤ 5 → n < 256 ^ width_of tag → field_of tag (item_bytes tag (enc (width_of tag) n) ++ z) ≡ Some n
unfolding field_of
field_back tag n z l u h = simp (number_back tag n z l u h, eq-eqb tag tag refl)

-- what a field that is there tells of the bytes
pub record FieldAt (tag w : ℕ) (b : List ℕ) (n : ℕ) : Type 0 where
  pub holds : Holds b tag w
  pub is : n ≡ dec (part b 3 w)

pub field_told : (tag : ℕ) (b : List ℕ) (n : ℕ) → field_of tag b ≡ Some n → FieldAt tag (width_of tag) b n
unfolding field_of
field_told tag b n = go (item_of InMaster b) (told InMaster b)
  where
    missing : {A : Type 0} → None ≡ Some n → A
    missing e = let z : ◌≡◌ {A = ℕ} 0 1 = cc in absurd (omega arith)

    number : (k v : ℕ) → Told InMaster b (Number k v) → k ≡ tag → Some v ≡ Some n → FieldAt tag (width_of tag) b n
    number k v t p e =
        let q : v ≡ n = cc in
        record { holds = rw p at t.1; is = sym q ∙ (rw p at t.2) }

    go : (i : Item) → Told InMaster b i → number_of i tag ≡ Some n → FieldAt tag (width_of tag) b n
    go End t e = missing e
    go (Version h) t e = missing e
    go (Commit p) t e = missing e
    go (Number k v) t e = cond_elim (λ (x : Option ℕ). x ≡ Some n → FieldAt tag (width_of tag) b n) (eqb k tag) (λ p. number k v t (eqb-true k tag p)) (λ p. missing) e
    go Damaged t e = missing e

-- the part `&b[at..]`, as the loan has it
abbrev lent : List ℕ → ℕ → List ℕ
lent b at = take (length b - at) (drop at b)

-- the fields, read in the lent parts
pub master_lent : (b : List ℕ) → master_of b ≡
    fetch (field_of 1 b) (λ l. fetch (field_of 2 (lent b 5)) (λ d. fetch (field_of 3 (lent b 10)) (λ o. fetch (field_of 4 (lent b 21)) (λ n. fetch (field_of 5 (lent b 32)) (λ t.
    cond (all_zero (lent b 43)) (Some (record { blocks = l; pages = d; oldest = o; next = record { 0 = n }; last = record { 0 = t } })) None)))))
unfolding master_of
master_lent b = simp lent_rest

pub length_master_bytes : (f : Fields) → length (master_bytes f) ≡ 512
unfolding master_bytes
length_master_bytes f = simp (length-append, length_field)

bytes_field : (tag w n : ℕ) → tag < 256 → Bytes (item_bytes tag (enc w n))
unfolding item_bytes
bytes_field tag w n h =
    let l = enc 2 (length (enc w n)) in
    bytes_cons tag (l ++ enc w n) h (bytes_append l (enc w n) (bytes_enc 2 (length (enc w n))) (bytes_enc w n))

pub bytes_master_bytes : (f : Fields) → Bytes (master_bytes f)
unfolding master_bytes
bytes_master_bytes f =
    let t₄ = last₅ f ++ zeros 469 in
    let t₃ = next₄ f ++ t₄ in
    let t₂ = oldest₃ f ++ t₃ in
    let t₁ = pages₂ f ++ t₂ in
    bytes_append (blocks₁ f) t₁ (bytes_field 1 2 f.blocks (omega arith))
    (bytes_append (pages₂ f) t₂ (bytes_field 2 2 f.pages (omega arith))
    (bytes_append (oldest₃ f) t₃ (bytes_field 3 8 f.oldest (omega arith))
    (bytes_append (next₄ f) t₄ (bytes_field 4 8 f.next.0 (omega arith))
    (bytes_append (last₅ f) (zeros 469) (bytes_field 5 8 f.last.0 (omega arith)) (bytes_zeros 469)))))

-- fields in the size of their bytes
pub record FieldsSized (f : Fields) : Type 0 where
  pub blocks : f.blocks < 65536
  pub pages : f.pages < 65536
  pub oldest : f.oldest < 2 ^ 64
  pub next : f.next.0 < 2 ^ 64
  pub last : f.last.0 < 2 ^ 64

-- what a whole master asks of its bytes
pub record MasterAt (b : List ℕ) (f : Fields) : Type 0 where
  pub blocks : FieldAt 1 2 b f.blocks
  pub pages : FieldAt 2 2 (drop 5 b) f.pages
  pub oldest : FieldAt 3 8 (drop 10 b) f.oldest
  pub next : FieldAt 4 8 (drop 21 b) f.next.0
  pub last : FieldAt 5 8 (drop 32 b) f.last.0
  pub rest : all_zero (drop 43 b) ≡ true

broken : (f : Fields) → None ≡ Some f → ⊥
broken f e = let z : ◌≡◌ {A = ℕ} 0 1 = cc in omega arith

whole_inj : (f g : Fields) → Some f ≡ Some g → f ≡ g
whole_inj f g e = cc

-- five fields that are all there
found_inv : (v₁ v₂ v₃ v₄ v₅ : Option ℕ) (z : Bool) (f : Fields)
    → fetch v₁ (λ l. fetch v₂ (λ d. fetch v₃ (λ o. fetch v₄ (λ n. fetch v₅ (λ t. cond z
    (Some (record { blocks = l; pages = d; oldest = o; next = record { 0 = n }; last = record { 0 = t } })) None))))) ≡ Some f
    → (v₁ ≡ Some f.blocks) × (v₂ ≡ Some f.pages) × (v₃ ≡ Some f.oldest) × (v₄ ≡ Some f.next.0) × (v₅ ≡ Some f.last.0) × (z ≡ true)
found_inv None v₂ v₃ v₄ v₅ z f e = absurd (broken f e)
found_inv (Some l) None v₃ v₄ v₅ z f e = absurd (broken f e)
found_inv (Some l) (Some d) None v₄ v₅ z f e = absurd (broken f e)
found_inv (Some l) (Some d) (Some o) None v₅ z f e = absurd (broken f e)
found_inv (Some l) (Some d) (Some o) (Some n) None z f e = absurd (broken f e)
found_inv (Some l) (Some d) (Some o) (Some n) (Some t) false f e = absurd (broken f e)
found_inv (Some l) (Some d) (Some o) (Some n) (Some t) true f e =
    let g = whole_inj _ f e in (
      ap (λ (x : Fields). Some x.blocks) g,
      ap (λ (x : Fields). Some x.pages) g,
      ap (λ (x : Fields). Some x.oldest) g,
      ap (λ (x : Fields). Some x.next.0) g,
      ap (λ (x : Fields). Some x.last.0) g,
      refl,
    )

pub master_inv : (b : List ℕ) (f : Fields) → master_of b ≡ Some f → MasterAt b f
unfolding master_of
master_inv b f e =
    let h = found_inv (field_of 1 b) (field_of 2 (drop 5 b)) (field_of 3 (drop 10 b)) (field_of 4 (drop 21 b)) (field_of 5 (drop 32 b)) (all_zero (drop 43 b)) f e in
    record {
      blocks = field_told 1 b f.blocks h.0;
      pages = field_told 2 (drop 5 b) f.pages h.1;
      oldest = field_told 3 (drop 10 b) f.oldest h.2;
      next = field_told 4 (drop 21 b) f.next.0 h.3;
      last = field_told 5 (drop 32 b) f.last.0 h.4;
      rest = h.5;
    }

-- what was written is read back
module _ (f : Fields) where
  at0 : f.blocks < 65536 → field_of 1 (master_bytes f) ≡ Some f.blocks
  unfolding master_bytes
  at0 h = field_back 1 f.blocks _ (omega arith) (omega arith) h

  at5 : drop 5 (master_bytes f) ≡ pages₂ f ++ (oldest₃ f ++ (next₄ f ++ (last₅ f ++ zeros 469)))
  unfolding master_bytes
  at5 = drop_at (blocks₁ f) _ 5 (length_field 1 2 f.blocks)

  at10 : drop 10 (master_bytes f) ≡ oldest₃ f ++ (next₄ f ++ (last₅ f ++ zeros 469))
  at10 = sym (drop-drop 5 5 (master_bytes f)) ∙ ap (drop 5) at5 ∙ drop_at (pages₂ f) _ 5 (length_field 2 2 f.pages)

  at21 : drop 21 (master_bytes f) ≡ next₄ f ++ (last₅ f ++ zeros 469)
  at21 = sym (drop-drop 11 10 (master_bytes f)) ∙ ap (drop 11) at10 ∙ drop_at (oldest₃ f) _ 11 (length_field 3 8 f.oldest)

  at32 : drop 32 (master_bytes f) ≡ last₅ f ++ zeros 469
  at32 = sym (drop-drop 11 21 (master_bytes f)) ∙ ap (drop 11) at21 ∙ drop_at (next₄ f) _ 11 (length_field 4 8 f.next.0)

  at43 : drop 43 (master_bytes f) ≡ zeros 469
  at43 = sym (drop-drop 11 32 (master_bytes f)) ∙ ap (drop 11) at32 ∙ drop_at (last₅ f) _ 11 (length_field 5 8 f.last.0)

  pub master_back : FieldsSized f → master_of (master_bytes f) ≡ Some f
  unfolding master_of
  master_back s =
      simp (
        at0 s.blocks,
        ap (field_of 2) at5 ∙ field_back 2 f.pages _ (omega arith) (omega arith) s.pages,
        ap (field_of 3) at10 ∙ field_back 3 f.oldest _ (omega arith) (omega arith) s.oldest,
        ap (field_of 4) at21 ∙ field_back 4 f.next.0 _ (omega arith) (omega arith) s.next,
        ap (field_of 5) at32 ∙ field_back 5 f.last.0 _ (omega arith) (omega arith) s.last,
        ap all_zero at43 ∙ zero_zeros 469,
      )

  pub master_at : FieldsSized f → MasterAt (master_bytes f) f
  master_at s = master_inv (master_bytes f) f (master_back s)

-- what was read is written as the same bytes: a field at `at`, with t behind it
field_again : (tag w n at : ℕ) (b t : List ℕ) → Bytes b → FieldAt tag w (drop at b) n → t ≡ drop (at + (3 + w)) b
    → item_bytes tag (enc w n) ++ t ≡ drop at b
field_again tag w n at b t k h e =
    let c = drop at b in
    let d : enc w n ≡ part c 3 w = rw h.is (enc_part c 3 w h.holds.room (bytes_drop at b k)) in
    rw (d, item_again c tag w (bytes_drop at b k) h.holds, e, ← (drop-drop (3 + w) at b)) (take-append-drop (3 + w) c)

pub master_again : (b : List ℕ) (f : Fields) → master_of b ≡ Some f → length b ≡ 512 → Bytes b → master_bytes f ≡ b
unfolding master_bytes
master_again b f e l k =
    let h = master_inv b f e in
    let n : length (drop 43 b) ≡ 469 = simp length-drop (omega arith) in
    let z : zeros 469 ≡ drop 43 b = sym (rw n at (zero_true (drop 43 b) h.rest)) in
    field_again 1 2 f.blocks 0 b _ k h.blocks
    (field_again 2 2 f.pages 5 b _ k h.pages
    (field_again 3 8 f.oldest 10 b _ k h.oldest
    (field_again 4 8 f.next.0 21 b _ k h.next
    (field_again 5 8 f.last.0 32 b _ k h.last z))))

-- where the numbers of a whole master lie
pub record MasterParts (b : List ℕ) (f : Fields) : Type 0 where
  pub blocks : f.blocks ≡ dec (part b 3 2)
  pub pages : f.pages ≡ dec (part b 8 2)
  pub oldest : f.oldest ≡ dec (part b 13 8)
  pub next : f.next.0 ≡ dec (part b 24 8)
  pub last : f.last.0 ≡ dec (part b 35 8)

parts : (b : List ℕ) (f : Fields) → MasterAt b f → MasterParts b f
parts b f h = record {
  blocks = h.blocks.is;
  pages = rw (drop-drop 3 5 b) at h.pages.is;
  oldest = rw (drop-drop 3 10 b) at h.oldest.is;
  next = rw (drop-drop 3 21 b) at h.next.is;
  last = rw (drop-drop 3 32 b) at h.last.is;
}

pub master_parts : (b : List ℕ) (f : Fields) → master_of b ≡ Some f → MasterParts b f
master_parts b f e = parts b f (master_inv b f e)

field_below : (tag w : ℕ) (b : List ℕ) (n : ℕ) → FieldAt tag w b n → Bytes b → n < 256 ^ w
field_below tag w b n h k = rw h.is (dec_part_lt b 3 w k h.holds.room)

pub master_sized : (b : List ℕ) (f : Fields) → master_of b ≡ Some f → Bytes b → FieldsSized f
master_sized b f e k =
    let h = master_inv b f e in
    record {
      blocks = field_below 1 2 b f.blocks h.blocks k;
      pages = field_below 2 2 (drop 5 b) f.pages h.pages (bytes_drop 5 b k);
      oldest = field_below 3 8 (drop 10 b) f.oldest h.oldest (bytes_drop 10 b k);
      next = field_below 4 8 (drop 21 b) f.next.0 h.next (bytes_drop 21 b k);
      last = field_below 5 8 (drop 32 b) f.last.0 h.last (bytes_drop 32 b k);
    }

-- the oldest sequence lies in block 0
pub oldest_on_is : (m : List ℕ) → oldest_on m ≡ dec (part (blk m 0) 13 8)
unfolding oldest_on
oldest_on_is m = ap dec (sym (part_blk m 0 13 8 (omega arith)))

pub oldest_on_master : (f : Fields) (rest : List ℕ) → FieldsSized f → oldest_on (master_bytes f ++ rest) ≡ f.oldest
unfolding blk
oldest_on_master f rest s =
    oldest_on_is (master_bytes f ++ rest)
    ∙ ap (λ (b : List ℕ). dec (part b 13 8)) (first (master_bytes f) (length_master_bytes f))
    ∙ sym (parts (master_bytes f) f (master_at f s)).oldest
  where
    first : (b : List ℕ) → length b ≡ 512 → blk (b ++ rest) 0 ≡ b
    first b l = take_at b rest 512 l

pub oldest_on_same : (m b : List ℕ) → length b ≡ 512 → 512 ≤ length m → oldest_on (put m 0 b) ≡ dec (part b 13 8)
oldest_on_same m b l h = oldest_on_is (put m 0 b) ∙ ap (λ (b : List ℕ). dec (part b 13 8)) (blk_same m 0 b l h)

pub oldest_on_other : (m : List ℕ) (k : ℕ) (b : List ℕ) → length b ≡ 512 → 0 ≢ k → oldest_on (put m k b) ≡ oldest_on m
oldest_on_other m k b l n =
    oldest_on_is (put m k b) ∙ ap (λ (b : List ℕ). dec (part b 13 8)) (blk_other m k b 0 l n) ∙ sym (oldest_on_is m)

-- a master that was stored
pub oldest_on_stored : (m : List ℕ) (f : Fields) → 512 ≤ length m → FieldsSized f → oldest_on (put m 0 (master_bytes f)) ≡ f.oldest
oldest_on_stored m f h s = oldest_on_same m (master_bytes f) (length_master_bytes f) h ∙ sym (parts (master_bytes f) f (master_at f s)).oldest
