-- The laws of a page: the header of 32 bytes stands in front of a row of slots, so they are the laws of a row of cells, behind a
-- header. A page in form is the page of its end place and its cells. Assumes nothing.
use mathlib.Core.Path.{◌≡◌, refl, sym, ap, ◌∙◌}
use mathlib.Core.Bool.{Bool, true, false, ◌&&◌}
use mathlib.Core.Logic.{◌≢◌}
use Prim.Native.Nat.{ℕ, zero, suc, ◌+◌, ◌-◌, ◌*◌, ◌^◌, ◌≤◌, ◌<◌}
use native.Mathlib.Nat.{add-zero}
use native.Mathlib.Omega.{arith}
use mathlib.Core.List.{List, [], ◌∷◌, ◌++◌}
use Rattle.std.specs.List.{list_all, range_with_len}
use lib.Dec.{ltb, leb, eqb}
use lib.ListN.{length, drop, get_or, set, length-append, length-set, length-replicate, replicate-append-replicate}
use lib.Seq.{take_all}
use borrow.Author.Tests.{lt-ltb, le-ltb, le-leb, leb-true, ltb-true, ltb-false, eqb-true, eqb-false}
use Rattle.fields.specs.Field.{enc}
use Rattle.fields.specs.Part.{part, splice}
use Rattle.fields.specs.Equal.{all_zero}
use Rattle.fields.specs.Block.{zeros, slot_in}
use Rattle.fields.specs.Cells.{flat}
use Rattle.layout.specs.Slot.{Cell, slot_bytes, cell_of, stamped, slot_form}
use Rattle.layout.specs.Page.{page_bytes, page_end, page_used, page_slot, cells_from, page_cells, put_cell, stamp_cell, slot_form_at, slots_form, page_form}
use Rattle.layout.specs.declared.slot.Slot.TheVariants.{Empty}
use Rattle.fields.proofs.Choose.{and_0, and_1}
use Rattle.fields.proofs.PartLaws.{length_part}
use Rattle.fields.proofs.FieldLaws.{Bytes, length_enc, dec_enc, bytes_take, bytes_drop, bytes_enc}
use Rattle.fields.proofs.EqualLaws.{zero_true, zero_zeros}
use Rattle.fields.proofs.ReadLaws.{part_join, part_cons, enc_part}
use Rattle.fields.proofs.CellLaws.{Each, bytes_cons, bytes_append, bytes_zeros, bytes_flat, each_at, each_map, Cells, splice_behind, part_behind, length_flat, cell_at, cell_set, cell_add}
use Rattle.layout.proofs.SlotLaws.{SlotSized, SlotHolds, cell_stamped, length_slot_bytes, sized_length, bytes_slot_bytes, cell_slot_bytes, form_slot_bytes, slot_again, cell_sized, cell_holds, stamped_bytes}

-- ---- the slots, as `all` goes over them

pub slots_all : (p : List ℕ) (i k : ℕ) → slots_form p i k ≡ list_all (slot_form_at p) (range_with_len i k)
unfolding slots_form
slots_all p i zero = refl
slots_all p i (suc k) = ap (λ (t : Bool). slot_form_at p i && t) (slots_all p (i + 1) k)

-- ---- the bytes of a page

-- what stands for a slot beyond the row
abbrev pub no_cell : Cell
no_cell = record { state = Empty; key = 0; kind = 0; earlier = 0; value = [] }

-- header and row
abbrev header : ℕ → ℕ → List ℕ
header e n = enc 8 e ++ (n ∷ zeros 23)

abbrev row : List Cell → List ℕ
row cs = flat slot_bytes cs ++ zeros (480 - 32 * length cs)

cells_sized : (cs : List Cell) → Each SlotSized cs → Cells slot_bytes 32 cs
cells_sized cs s = each_map SlotSized (λ (c : Cell). length (slot_bytes c) ≡ 32) cs sized_length s

splice_row : (e n : ℕ) (l : List ℕ) (i : ℕ) (v : List ℕ) → splice (header e n ++ l) (slot_in i) v ≡ header e n ++ splice l (32 * i) v
unfolding enc slot_in
splice_row e n l i v = splice_behind (header e n) l (32 * i) v

part_row : (e n : ℕ) (l : List ℕ) (i k : ℕ) → part (header e n ++ l) (slot_in i) k ≡ part l (32 * i) k
unfolding enc slot_in
part_row e n l i k = part_behind (header e n) l (32 * i) k

pub length_page_bytes : (e : ℕ) (cs : List Cell) → Each SlotSized cs → length cs ≤ 15 → length (page_bytes e cs) ≡ 512
unfolding page_bytes
length_page_bytes e cs s h =
    simp (length-append, length_enc, length-replicate, length_flat slot_bytes 32 cs (cells_sized cs s)) (omega arith)

pub bytes_page_bytes : (e : ℕ) (cs : List Cell) → Each SlotSized cs → length cs ≤ 15 → Bytes (page_bytes e cs)
unfolding page_bytes
bytes_page_bytes e cs s h =
    bytes_append (header e (length cs)) (row cs)
    (bytes_append (enc 8 e) (length cs ∷ zeros 23) (bytes_enc 8 e) (bytes_cons (length cs) (zeros 23) (omega arith) (bytes_zeros 23)))
    (bytes_append (flat slot_bytes cs) (zeros (480 - 32 * length cs))
    (bytes_flat slot_bytes cs (each_map SlotSized (λ (c : Cell). Bytes (slot_bytes c)) cs bytes_slot_bytes s))
    (bytes_zeros (480 - 32 * length cs)))

pub page_empty : page_bytes 0 [] ≡ zeros 512
unfolding page_bytes enc flat
page_empty = refl

pub end_page_bytes : (e : ℕ) (cs : List Cell) → e < 2 ^ 64 → page_end (page_bytes e cs) ≡ e
unfolding page_end page_bytes enc
end_page_bytes e cs h = dec_enc 8 e h

pub used_page_bytes : (e : ℕ) (cs : List Cell) → page_used (page_bytes e cs) ≡ length cs
unfolding page_used page_bytes enc
used_page_bytes e cs = refl

pub slot_page_bytes : (e : ℕ) (cs : List Cell) (i : ℕ) → Each SlotSized cs → i < length cs → page_slot (page_bytes e cs) i ≡ slot_bytes (get_or cs i no_cell)
unfolding page_slot page_bytes
slot_page_bytes e cs i s h =
    part_row e (length cs) (row cs) i 32
    ∙ cell_at slot_bytes 32 cs i no_cell (zeros (480 - 32 * length cs)) (cells_sized cs s) h

pub part_zeros : (n at k : ℕ) → at + k ≤ n → part (zeros n) at k ≡ zeros k
part_zeros n zero zero h = refl
part_zeros zero zero (suc k) h = absurd (omega arith)
part_zeros (suc n) zero (suc k) h = ap (λ (t : List ℕ). 0 ∷ t) (part_zeros n zero k (omega arith))
part_zeros zero (suc at) k h = absurd (omega arith)
part_zeros (suc n) (suc at) k h = part_zeros n at k (omega arith)

-- a slot behind the used ones
pub free_page_bytes : (e : ℕ) (cs : List Cell) (i : ℕ) → Each SlotSized cs → length cs ≤ i → i < 15 → page_slot (page_bytes e cs) i ≡ zeros 32
unfolding page_slot page_bytes
free_page_bytes e cs i s h k =
    let z = zeros (480 - 32 * length cs) in
    let m : 32 * i ≡ length (flat slot_bytes cs) + (32 * i - 32 * length cs) = omega (arith, length_flat slot_bytes 32 cs (cells_sized cs s)) in
    part_row e (length cs) (row cs) i 32
    ∙ ap (λ (at : ℕ). part (row cs) at 32) m
    ∙ part_behind (flat slot_bytes cs) z (32 * i - 32 * length cs) 32
    ∙ part_zeros (480 - 32 * length cs) (32 * i - 32 * length cs) 32 (omega arith)

cells_from_law : (p : List ℕ) (cs : List Cell) (i : ℕ) → ((j : ℕ) → j < length cs → cell_of (page_slot p (i + j)) ≡ get_or cs j no_cell) → cells_from p i (length cs) ≡ cs
unfolding cells_from
cells_from_law p [] i f = refl
cells_from_law p (c ∷ cs) i f =
    let z : cell_of (page_slot p i) ≡ c = simp add-zero at (f 0 (omega arith)) in
    let r : cells_from p (i + 1) (length cs) ≡ cs = cells_from_law p cs (i + 1) (λ j h. let e : i + 1 + j ≡ i + suc j = omega arith in rw e (f (suc j) (omega arith))) in
    rw (z, r)

pub cells_page_bytes : (e : ℕ) (cs : List Cell) → Each SlotSized cs → page_cells (page_bytes e cs) ≡ cs
unfolding page_cells
cells_page_bytes e cs s =
    ap (cells_from (page_bytes e cs) 0) (used_page_bytes e cs)
    ∙ cells_from_law (page_bytes e cs) cs 0
    (λ j h. let z : 0 + j ≡ j = omega arith in
    rw z (ap cell_of (slot_page_bytes e cs j s h) ∙ cell_slot_bytes (get_or cs j no_cell) (each_at SlotSized cs j no_cell s h)))

header_put : (e e' n : ℕ) (l : List ℕ) → set (splice (header e n ++ l) 0 (enc 8 e')) 8 (n + 1) ≡ header e' (n + 1) ++ l
unfolding enc splice
header_put e e' n l = refl

-- one version more
pub put_page_bytes : (e e' : ℕ) (cs : List Cell) (c : Cell) → Each SlotSized cs → SlotSized c → length cs < 15
    → put_cell (page_bytes e cs) (length cs) e' c ≡ page_bytes e' (cs ++ (c ∷ []))
unfolding put_cell page_bytes
put_page_bytes e e' cs c s sc h =
    let n : length (cs ++ (c ∷ [])) ≡ length cs + 1 = length-append cs (c ∷ []) in
    let z : 480 - 32 * length cs - 32 ≡ 480 - 32 * (length cs + 1) = omega arith in
    ap (λ (l : List ℕ). splice l (slot_in (length cs)) (slot_bytes c)) (header_put e e' (length cs) (row cs))
    ∙ splice_row e' (length cs + 1) (row cs) (length cs) (slot_bytes c)
    ∙ ap (λ (l : List ℕ). header e' (length cs + 1) ++ l)
    (cell_add slot_bytes 32 cs c (480 - 32 * length cs) (cells_sized cs s) (sized_length c sc) (omega arith))
    ∙ rw (n, z)

-- a slot replaced
pub set_page_bytes : (e : ℕ) (cs : List Cell) (i : ℕ) (c : Cell) → Each SlotSized cs → length (slot_bytes c) ≡ 32 → i < length cs
    → splice (page_bytes e cs) (slot_in i) (slot_bytes c) ≡ page_bytes e (set cs i c)
unfolding page_bytes
set_page_bytes e cs i c s w h =
    splice_row e (length cs) (row cs) i (slot_bytes c)
    ∙ ap (λ (l : List ℕ). header e (length cs) ++ l) (cell_set slot_bytes 32 cs i c (zeros (480 - 32 * length cs)) (cells_sized cs s) w h)
    ∙ rw (length-set cs i c)

-- slot i stamped
pub stamp_page_bytes : (e : ℕ) (cs : List Cell) (i t : ℕ) → Each SlotSized cs → i < length cs
    → stamp_cell (page_bytes e cs) i t ≡ page_bytes e (set cs i (cell_stamped (get_or cs i no_cell) t))
unfolding stamp_cell
stamp_page_bytes e cs i t s h =
    let c = get_or cs i no_cell in
    ap (λ (l : List ℕ). splice (page_bytes e cs) (slot_in i) (stamped l t)) (slot_page_bytes e cs i s h)
    ∙ ap (splice (page_bytes e cs) (slot_in i)) (stamped_bytes c t)
    ∙ set_page_bytes e cs i (cell_stamped c t) s (length_slot_bytes (cell_stamped c t) (each_at SlotSized cs i no_cell s h).size) h

-- ---- a page read and written again

length_cells_from : (p : List ℕ) (i k : ℕ) → length (cells_from p i k) ≡ k
unfolding cells_from
length_cells_from p i zero = refl
length_cells_from p i (suc k) = ap suc (length_cells_from p (i + 1) k)

pub length_page_cells : (p : List ℕ) → length (page_cells p) ≡ page_used p
unfolding page_cells
length_page_cells p = length_cells_from p 0 (page_used p)

form_at : (p : List ℕ) (i k j : ℕ) → slots_form p i k ≡ true → i ≤ j → j < i + k → slot_form_at p j ≡ true
unfolding slots_form
form_at p i zero j f a b = absurd (omega arith)
form_at p i (suc k) j f a b = go (eqb i j) refl (λ h. form_at p (i + 1) k j (and_1 (slot_form_at p i) (slots_form p (i + 1) k) f) h (omega arith))
  where
    go : (t : Bool) → eqb i j ≡ t → (i + 1 ≤ j → slot_form_at p j ≡ true) → slot_form_at p j ≡ true
    go true e ih = rw (eqb-true i j e) at (and_0 (slot_form_at p i) (slots_form p (i + 1) k) f)
    go false e ih = let d : i ≢ j = eqb-false i j e in ih (omega arith)

form_all : (p : List ℕ) (i k : ℕ) → ((j : ℕ) → i ≤ j → j < i + k → slot_form_at p j ≡ true) → slots_form p i k ≡ true
unfolding slots_form
form_all p i zero f = refl
form_all p i (suc k) f = rw (f i (omega arith) (omega arith)) (form_all p (i + 1) k (λ j a b. f j (omega arith) (omega arith)))

pub length_page_slot : (p : List ℕ) (i : ℕ) → length p ≡ 512 → i < 15 → length (page_slot p i) ≡ 32
unfolding page_slot slot_in
length_page_slot p i n h = length_part p (32 + 32 * i) 32 (omega arith)

pub bytes_page_slot : (p : List ℕ) (i : ℕ) → Bytes p → Bytes (page_slot p i)
unfolding page_slot
bytes_page_slot p i b = bytes_take 32 (drop (slot_in i) p) (bytes_drop (slot_in i) p b)

-- what the form of a page says of it
pub record PageForm (p : List ℕ) : Type 0 where
  pub used : page_used p ≤ 15
  pub header : all_zero (part p 9 23) ≡ true
  pub holds : (i : ℕ) → i < page_used p → slot_form (page_slot p i) ≡ true
  pub free : (i : ℕ) → page_used p ≤ i → i < 15 → all_zero (page_slot p i) ≡ true

pub page_form_law : (p : List ℕ) → page_form p ≡ true → PageForm p
unfolding page_form slot_form_at
page_form_law p f =
    let u : page_used p ≤ 15 = leb-true (page_used p) 15 (and_0 (leb (page_used p) 15) (all_zero (part p 9 23) && slots_form p 0 15) f) in
    let g = and_1 (leb (page_used p) 15) (all_zero (part p 9 23) && slots_form p 0 15) f in
    let s = and_1 (all_zero (part p 9 23)) (slots_form p 0 15) g in
    record {
      used = u;
      header = and_0 (all_zero (part p 9 23)) (slots_form p 0 15) g;
      holds = λ i h. simp (lt-ltb i (page_used p) h) at (form_at p 0 15 i s (omega arith) (omega arith));
      free = λ i h k. simp (le-ltb i (page_used p) h) at (form_at p 0 15 i s (omega arith) (omega arith));
    }

pub form_page : (p : List ℕ) → PageForm p → page_form p ≡ true
unfolding page_form slot_form_at
form_page p f = rw (le-leb (page_used p) 15 f.used, f.header) (form_all p 0 15 (λ j a b. go j b (ltb j (page_used p)) refl))
  where
    go : (j : ℕ) → j < 0 + 15 → (t : Bool) → ltb j (page_used p) ≡ t → slot_form_at p j ≡ true
    go j b true e = rw e (f.holds j (ltb-true j (page_used p) e))
    go j b false e = rw e (f.free j (ltb-false j (page_used p) e) (omega arith))

header_zero : (e n : ℕ) (l : List ℕ) → all_zero (part (header e n ++ l) 9 23) ≡ true
unfolding enc all_zero
header_zero e n l = refl

free_header : (e : ℕ) (cs : List Cell) → all_zero (part (page_bytes e cs) 9 23) ≡ true
unfolding page_bytes
free_header e cs = header_zero e (length cs) (row cs)

pub form_page_bytes : (e : ℕ) (cs : List Cell) → Each SlotSized cs → Each SlotHolds cs → length cs ≤ 15 → page_form (page_bytes e cs) ≡ true
form_page_bytes e cs s f h = form_page (page_bytes e cs) (record {
  used = rw (used_page_bytes e cs) h;
  header = free_header e cs;
  holds = λ i k. holds i (rw (used_page_bytes e cs) at k);
  free = λ i k l. rw (free_page_bytes e cs i s (rw (used_page_bytes e cs) at k) l) (zero_zeros 32);
})
  where
    holds : (i : ℕ) → i < length cs → slot_form (page_slot (page_bytes e cs) i) ≡ true
    holds i k = rw (slot_page_bytes e cs i s k) (form_slot_bytes (get_or cs i no_cell) (each_at SlotSized cs i no_cell s k) (each_at SlotHolds cs i no_cell f k))

-- a slot and what follows it
slot_row : (p : List ℕ) (i n : ℕ) → page_slot p i ++ part p (slot_in i + 32) n ≡ part p (slot_in i) (32 + n)
unfolding page_slot
slot_row p i n = part_join p (slot_in i) 32 n

slot_next : (p : List ℕ) (i n : ℕ) → part p (slot_in (i + 1)) n ≡ part p (slot_in i + 32) n
unfolding slot_in
slot_next p i n = let e : 32 + 32 * (i + 1) ≡ 32 + 32 * i + 32 = omega arith in rw e

-- the used slots, byte by byte
row_used : (p : List ℕ) (i k : ℕ) → length p ≡ 512 → Bytes p → PageForm p → i + k ≤ page_used p → flat slot_bytes (cells_from p i k) ≡ part p (slot_in i) (32 * k)
unfolding flat cells_from
row_used p i zero n b f h = refl
row_used p i (suc k) n b f h =
    let a : 32 + 32 * k ≡ 32 * suc k = omega arith in
    let l : i < 15 = omega (arith, f.used) in
    let q : flat slot_bytes (cells_from p (i + 1) k) ≡ part p (slot_in i + 32) (32 * k) = row_used p (i + 1) k n b f (omega arith) ∙ slot_next p i (32 * k) in
    rw (slot_again (page_slot p i) (length_page_slot p i n l) (bytes_page_slot p i b) (f.holds i (omega arith)), q)
    (slot_row p i (32 * k) ∙ ap (part p (slot_in i)) a)

-- and the free ones
row_free : (p : List ℕ) (i k : ℕ) → length p ≡ 512 → PageForm p → page_used p ≤ i → i + k ≤ 15 → part p (slot_in i) (32 * k) ≡ zeros (32 * k)
row_free p i zero n f h m = refl
row_free p i (suc k) n f h m =
    let a : 32 + 32 * k ≡ 32 * suc k = omega arith in
    let z : page_slot p i ≡ zeros 32 = zero_true (page_slot p i) (f.free i h (omega arith)) ∙ rw (length_page_slot p i n (omega arith)) in
    let q : part p (slot_in i + 32) (32 * k) ≡ zeros (32 * k) = sym (slot_next p i (32 * k)) ∙ row_free p (i + 1) k n f (omega arith) (omega arith) in
    rw (← a, ← slot_row p i (32 * k), z, q) (replicate-append-replicate 32 (32 * k) 0)

cells_row : (p : List ℕ) → length p ≡ 512 → Bytes p → PageForm p → flat slot_bytes (page_cells p) ≡ part p 32 (32 * page_used p)
unfolding page_cells slot_in
cells_row p n b f = row_used p 0 (page_used p) n b f (omega arith)

free_row : (p : List ℕ) → length p ≡ 512 → PageForm p → zeros (480 - 32 * page_used p) ≡ part p (32 + 32 * page_used p) (480 - 32 * page_used p)
unfolding slot_in
free_row p n f =
    let m : 32 * (15 - page_used p) ≡ 480 - 32 * page_used p = omega (arith, f.used) in
    sym (rw m at (row_free p (page_used p) (15 - page_used p) n f (omega arith) (omega (arith, f.used))))

whole : (p : List ℕ) → length p ≡ 512 → (part p 0 8 ++ (page_used p ∷ part p 9 23)) ++ part p 32 480 ≡ p
unfolding page_used
whole p n =
    rw (part_cons p 8 23 (omega arith), part_join p 0 8 24, part_join p 0 32 480) (take_all 512 p (omega arith))

pub page_again : (p : List ℕ) → length p ≡ 512 → Bytes p → page_form p ≡ true → page_bytes (page_end p) (page_cells p) ≡ p
unfolding page_bytes page_end
page_again p n b pf =
    let f = page_form_law p pf in
    let u = page_used p in
    let z : zeros 23 ≡ part p 9 23 = sym (zero_true (part p 9 23) f.header ∙ rw (length_part p 9 23 (omega arith))) in
    let r : flat slot_bytes (page_cells p) ≡ part p 32 (32 * u) = cells_row p n b f in
    let o : zeros (480 - 32 * u) ≡ part p (32 + 32 * u) (480 - 32 * u) = free_row p n f in
    let w : 32 * u + (480 - 32 * u) ≡ 480 = omega (arith, f.used) in
    rw (length_page_cells p, r, o, part_join p 32 (32 * u) (480 - 32 * u), w, enc_part p 0 8 (omega arith) b)
    (ap (λ (l : List ℕ). (part p 0 8 ++ (u ∷ l)) ++ part p 32 480) z ∙ whole p n)

-- ---- the cells of a page

cell_from : (p : List ℕ) (i k j : ℕ) → j < k → get_or (cells_from p i k) j no_cell ≡ cell_of (page_slot p (i + j))
unfolding cells_from
cell_from p i zero j h = absurd (omega arith)
cell_from p i (suc k) zero h = simp add-zero
cell_from p i (suc k) (suc j) h =
    let e : i + 1 + j ≡ i + suc j = omega arith in
    rw (cell_from p (i + 1) k j (omega arith), e)

pub cell_page_cells : (p : List ℕ) (i : ℕ) → i < page_used p → get_or (page_cells p) i no_cell ≡ cell_of (page_slot p i)
unfolding page_cells
cell_page_cells p i h = let e : 0 + i ≡ i = omega arith in rw e at (cell_from p 0 (page_used p) i h)

each_from : (P : Cell → Type 0) (p : List ℕ) (i k : ℕ) → ((j : ℕ) → j < i + k → P (cell_of (page_slot p j))) → Each P (cells_from p i k)
unfolding cells_from
each_from P p i zero f = tt
each_from P p i (suc k) f = (f i (omega arith), each_from P p (i + 1) k (λ j h. f j (omega arith)))

pub sized_page_cells : (p : List ℕ) → length p ≡ 512 → Bytes p → page_used p ≤ 15 → Each SlotSized (page_cells p)
unfolding page_cells
sized_page_cells p n b u =
    each_from SlotSized p 0 (page_used p) (λ j h. cell_sized (page_slot p j) (length_page_slot p j n (omega arith)) (bytes_page_slot p j b))

pub holds_page_cells : (p : List ℕ) → Bytes p → PageForm p → Each SlotHolds (page_cells p)
unfolding page_cells
holds_page_cells p b f =
    each_from SlotHolds p 0 (page_used p) (λ j h. cell_holds (page_slot p j) (bytes_page_slot p j b) (f.holds j (omega arith)))
