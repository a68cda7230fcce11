-- Stores in place to a slot of a page and to a slot of a cache: the length stays, the slot is the new one, every other slot is
-- as it was, since no two slots overlap. Assumes nothing.
use mathlib.Core.Path.{◌≡◌, refl, sym, ap, ◌∙◌}
use mathlib.Core.Bool.{Bool, true, false}
use mathlib.Core.Logic.{◌≢◌}
use Prim.Native.Nat.{ℕ, ◌+◌, ◌*◌, ◌%◌, ◌^◌, ◌≤◌, ◌<◌}
use native.Mathlib.Omega.{arith}
use mathlib.Core.List.{List}
use lib.Dec.{ltb, eqb}
use lib.ListN.{length, take, set, length-set, length-take}
use lib.Seq.{drop-set-lt, take-set-le, get_or-set_same}
use borrow.Author.Tests.{ltb-true, ltb-false, eqb-true, eqb-false}
use Rattle.fields.specs.Field.{enc, dec}
use Rattle.fields.specs.Part.{part, splice}
use Rattle.fields.specs.Block.{blk, page_of, slot_in}
use Rattle.layout.specs.Slot.{Cell, slot_bytes, stamped}
use Rattle.layout.specs.Page.{page_end, page_used, page_slot, put_cell, stamp_cell, put_version, stamp_version, cache_slot}
use Rattle.fields.proofs.PartLaws.{length_splice, part_before, part_after, part_splice}
use Rattle.fields.proofs.FieldLaws.{length_enc, read_back}
use Rattle.fields.proofs.BlockLaws.{length_put, length_blk, part_blk, blk_same, blk_other}
use Rattle.layout.proofs.PlaceLaws.{slot_at_is, slots_in_page}
use Rattle.fields.proofs.CellLaws.{get_d_before}
use Rattle.layout.proofs.SlotLaws.{length_stamped}
use Rattle.layout.proofs.PageLaws.{length_page_slot}

-- ---- a slot of a page

-- v laid over slot i
slot_same : (p v : List ℕ) (i : ℕ) → length p ≡ 512 → i < 15 → length v ≡ 32 → page_slot (splice p (slot_in i) v) i ≡ v
unfolding page_slot slot_in
slot_same p v i n h w = rw w at (part_splice p (32 + 32 * i) v (omega arith))

slot_other : (p v : List ℕ) (i j : ℕ) → length v ≤ 32 → j ≢ i → page_slot (splice p (slot_in i) v) j ≡ page_slot p j
unfolding page_slot
slot_other p v i j w d = go (ltb j i) refl
  where
    go : (t : Bool) → ltb j i ≡ t → part (splice p (slot_in i) v) (slot_in j) 32 ≡ part p (slot_in j) 32
    go true e = part_before p (slot_in i) v (slot_in j) 32 (slots_in_page j i (ltb-true j i e))
    go false e = let g : i ≤ j = ltb-false j i e in part_after p (slot_in i) v (slot_in j) 32 (omega (arith, slots_in_page i j (omega arith)))

pub length_put_cell : (p : List ℕ) (i e : ℕ) (c : Cell) → length (put_cell p i e c) ≡ length p
unfolding put_cell
length_put_cell p i e c = length_splice (set (splice p 0 (enc 8 e)) 8 (i + 1)) (slot_in i) (slot_bytes c) ∙ length-set (splice p 0 (enc 8 e)) 8 (i + 1) ∙ length_splice p 0 (enc 8 e)

pub length_stamp_cell : (p : List ℕ) (i t : ℕ) → length (stamp_cell p i t) ≡ length p
unfolding stamp_cell
length_stamp_cell p i t = length_splice p (slot_in i) (stamped (page_slot p i) t)

-- the slot itself
pub put_cell_same : (p : List ℕ) (i e : ℕ) (c : Cell) → length p ≡ 512 → i < 15 → length (slot_bytes c) ≡ 32 → page_slot (put_cell p i e c) i ≡ slot_bytes c
unfolding put_cell
put_cell_same p i e c n h w = slot_same (set (splice p 0 (enc 8 e)) 8 (i + 1)) (slot_bytes c) i (length-set (splice p 0 (enc 8 e)) 8 (i + 1) ∙ length_splice p 0 (enc 8 e) ∙ n) h w

length_slot : (p : List ℕ) (i : ℕ) → length (page_slot p i) ≤ 32
unfolding page_slot
length_slot p i = simp length-take (omega arith)

pub stamp_cell_same : (p : List ℕ) (i t : ℕ) → length p ≡ 512 → i < 15 → page_slot (stamp_cell p i t) i ≡ stamped (page_slot p i) t
unfolding stamp_cell
stamp_cell_same p i t n h = slot_same p (stamped (page_slot p i) t) i n h (length_stamped (page_slot p i) t ∙ length_page_slot p i n h)

-- the header's stores reach no slot
header_apart : (p : List ℕ) (e n j : ℕ) → page_slot (set (splice p 0 (enc 8 e)) 8 n) j ≡ page_slot p j
unfolding page_slot slot_in
header_apart p e n j =
    ap (take 32) (drop-set-lt (32 + 32 * j) (splice p 0 (enc 8 e)) 8 n (omega arith))
    ∙ part_after p 0 (enc 8 e) (32 + 32 * j) 32 (rw length_enc (omega arith))

-- the other slots
pub put_cell_other : (p : List ℕ) (i e : ℕ) (c : Cell) (j : ℕ) → length (slot_bytes c) ≡ 32 → j ≢ i → page_slot (put_cell p i e c) j ≡ page_slot p j
unfolding put_cell
put_cell_other p i e c j w d =
    slot_other (set (splice p 0 (enc 8 e)) 8 (i + 1)) (slot_bytes c) i j (omega arith) d
    ∙ header_apart p e (i + 1) j

pub stamp_cell_other : (p : List ℕ) (i t j : ℕ) → j ≢ i → page_slot (stamp_cell p i t) j ≡ page_slot p j
unfolding stamp_cell
stamp_cell_other p i t j d = slot_other p (stamped (page_slot p i) t) i j (rw (length_stamped (page_slot p i) t) (length_slot p i)) d

-- end place and used slots
pub put_cell_end : (p : List ℕ) (i e : ℕ) (c : Cell) → length p ≡ 512 → e < 2 ^ 64 → page_end (put_cell p i e c) ≡ e
unfolding page_end put_cell slot_in
put_cell_end p i e c n h =
    let q = set (splice p 0 (enc 8 e)) 8 (i + 1) in
    ap dec (part_before q (32 + 32 * i) (slot_bytes c) 0 8 (omega arith) ∙ take-set-le 8 (splice p 0 (enc 8 e)) 8 (i + 1) (omega arith))
    ∙ read_back p 0 8 e (omega arith) h

pub put_cell_used : (p : List ℕ) (i e : ℕ) (c : Cell) → length p ≡ 512 → page_used (put_cell p i e c) ≡ i + 1
unfolding page_used put_cell slot_in
put_cell_used p i e c n =
    get_d_before (set (splice p 0 (enc 8 e)) 8 (i + 1)) (32 + 32 * i) (slot_bytes c) 8 0 (omega arith)
    ∙ get_or-set_same (splice p 0 (enc 8 e)) 8 (i + 1) 0 (rw (length_splice p 0 (enc 8 e)) (omega arith))

pub stamp_cell_end : (p : List ℕ) (i t : ℕ) → page_end (stamp_cell p i t) ≡ page_end p
unfolding page_end stamp_cell slot_in
stamp_cell_end p i t = ap dec (part_before p (32 + 32 * i) (stamped (page_slot p i) t) 0 8 (omega arith))

pub stamp_cell_used : (p : List ℕ) (i t : ℕ) → page_used (stamp_cell p i t) ≡ page_used p
unfolding page_used stamp_cell slot_in
stamp_cell_used p i t = get_d_before p (32 + 32 * i) (stamped (page_slot p i) t) 8 0 (omega arith)

-- ---- a slot of a cache

slot_room : (n : ℕ) → slot_in (n % 15) + 32 ≤ 512
unfolding slot_in
slot_room n = omega arith

slots_differ : (m n : ℕ) → m ≢ n → page_of m ≡ page_of n → m % 15 ≢ n % 15
unfolding page_of
slots_differ m n d q e = d (omega arith)

-- slot n of a cache lies in its page
pub cache_slot_law : (c : List ℕ) (n : ℕ) → cache_slot c n ≡ page_slot (blk c (page_of n)) (n % 15)
unfolding cache_slot page_slot
cache_slot_law c n = ap (λ (at : ℕ). part c at 32) (slot_at_is n) ∙ sym (part_blk c (page_of n) (slot_in (n % 15)) 32 (slot_room n))

pub length_put_version : (c : List ℕ) (n e : ℕ) (v : Cell) → length (put_version c n e v) ≡ length c
unfolding put_version
length_put_version c n e v = length_put c (page_of n) _

pub length_stamp_version : (c : List ℕ) (n t : ℕ) → length (stamp_version c n t) ≡ length c
unfolding stamp_version
length_stamp_version c n t = length_put c (page_of n) _

module _ (c : List ℕ) (n : ℕ) (within : 512 * page_of n + 512 ≤ length c) where
  page_size : length (blk c (page_of n)) ≡ 512
  page_size = length_blk c (page_of n) within

  -- the page of the slot, and the others
  pub put_version_page : (e : ℕ) (v : Cell) → blk (put_version c n e v) (page_of n) ≡ put_cell (blk c (page_of n)) (n % 15) e v
  unfolding put_version
  put_version_page e v = blk_same c (page_of n) _ (length_put_cell (blk c (page_of n)) (n % 15) e v ∙ page_size) within

  pub put_version_beside : (e : ℕ) (v : Cell) (k : ℕ) → k ≢ page_of n → blk (put_version c n e v) k ≡ blk c k
  unfolding put_version
  put_version_beside e v k d = blk_other c (page_of n) _ k (length_put_cell (blk c (page_of n)) (n % 15) e v ∙ page_size) d

  pub stamp_version_page : (t : ℕ) → blk (stamp_version c n t) (page_of n) ≡ stamp_cell (blk c (page_of n)) (n % 15) t
  unfolding stamp_version
  stamp_version_page t = blk_same c (page_of n) _ (length_stamp_cell (blk c (page_of n)) (n % 15) t ∙ page_size) within

  pub stamp_version_beside : (t k : ℕ) → k ≢ page_of n → blk (stamp_version c n t) k ≡ blk c k
  unfolding stamp_version
  stamp_version_beside t k d = blk_other c (page_of n) _ k (length_stamp_cell (blk c (page_of n)) (n % 15) t ∙ page_size) d

  -- the slot, and the others
  pub put_version_same : (e : ℕ) (v : Cell) → length (slot_bytes v) ≡ 32 → cache_slot (put_version c n e v) n ≡ slot_bytes v
  put_version_same e v w =
      cache_slot_law (put_version c n e v) n
      ∙ ap (λ (p : List ℕ). page_slot p (n % 15)) (put_version_page e v)
      ∙ put_cell_same (blk c (page_of n)) (n % 15) e v page_size (omega arith) w

  pub stamp_version_same : (t : ℕ) → cache_slot (stamp_version c n t) n ≡ stamped (cache_slot c n) t
  stamp_version_same t =
      cache_slot_law (stamp_version c n t) n
      ∙ ap (λ (p : List ℕ). page_slot p (n % 15)) (stamp_version_page t)
      ∙ stamp_cell_same (blk c (page_of n)) (n % 15) t page_size (omega arith)
      ∙ ap (λ (s : List ℕ). stamped s t) (sym (cache_slot_law c n))

  -- a cache c' that differs from c in slot n of its page only
  others : (c' p : List ℕ) → blk c' (page_of n) ≡ p → ((j : ℕ) → j ≢ n % 15 → page_slot p j ≡ page_slot (blk c (page_of n)) j)
      → ((k : ℕ) → k ≢ page_of n → blk c' k ≡ blk c k) → (m : ℕ) → m ≢ n → cache_slot c' m ≡ cache_slot c m
  others c' p same slots pages m d = cache_slot_law c' m ∙ go (eqb (page_of m) (page_of n)) refl ∙ sym (cache_slot_law c m)
    where
      go : (t : Bool) → eqb (page_of m) (page_of n) ≡ t → page_slot (blk c' (page_of m)) (m % 15) ≡ page_slot (blk c (page_of m)) (m % 15)
      go true e =
          let q : page_of m ≡ page_of n = eqb-true (page_of m) (page_of n) e in
          rw (q, same) (slots (m % 15) (slots_differ m n d q))
      go false e = ap (λ (l : List ℕ). page_slot l (m % 15)) (pages (page_of m) (eqb-false (page_of m) (page_of n) e))

  pub put_version_other : (e : ℕ) (v : Cell) (m : ℕ) → length (slot_bytes v) ≡ 32 → m ≢ n → cache_slot (put_version c n e v) m ≡ cache_slot c m
  put_version_other e v m w d =
      others (put_version c n e v) _ (put_version_page e v) (λ j h. put_cell_other (blk c (page_of n)) (n % 15) e v j w h) (put_version_beside e v) m d

  pub stamp_version_other : (t m : ℕ) → m ≢ n → cache_slot (stamp_version c n t) m ≡ cache_slot c m
  stamp_version_other t m d =
      others (stamp_version c n t) _ (stamp_version_page t) (λ j h. stamp_cell_other (blk c (page_of n)) (n % 15) t j h) (stamp_version_beside t) m d
