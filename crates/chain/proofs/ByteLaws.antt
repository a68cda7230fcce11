-- A slot's kind and value as the code reads them from the cache, and a line as it writes it: fields at fixed places. Assumes
-- nothing.
use mathlib.Core.Path.{◌≡◌, refl, ap, ◌∙◌}
use mathlib.Core.Bool.{Bool, true, not, ◌&&◌}
use lib.Dec.{eqb}
use borrow.Author.Tests.{eq-eqb, ne_eqb}
use lib.Pointwise.{pointwise}
use Prim.Native.Nat.{ℕ, ◌+◌, ◌-◌, ◌≤◌}
use native.Mathlib.Omega.{arith}
use mathlib.Core.List.{List, [], ◌∷◌}
use lib.ListN.{length, take, drop, get_or, set, length-set}
use borrow.Rule.Slice.PartMut.{put_mid}
use Rattle.fields.specs.Field.{enc}
use Rattle.fields.specs.Part.{part, splice}
use Rattle.fields.specs.Equal.{eq_list}
use Rattle.fields.specs.Block.{zeros, slot_at}
use Rattle.layout.specs.Slot.{cell_of}
use Rattle.layout.specs.Page.{cache_slot}
use Rattle.fields.proofs.PartLaws.{length_splice, length_part, lent_part, lent_laid}
use Rattle.fields.proofs.WriteLaws.{splice_whole}
use Rattle.fields.proofs.CellLaws.{lay, lay_set}
use Rattle.store.specs.Chain.{cell_at}
use Rattle.store.specs.Changes.{line_bytes, differs}
use Rattle.cached.proofs.RoomLaws.{kind_read, value_read}

-- what `==` answers at two slices
pub eq_pointwise : (a b : List ℕ) → pointwise eqb a b ≡ eq_list a b
unfolding eq_list
eq_pointwise [] [] = refl
eq_pointwise [] (y ∷ b) = refl
eq_pointwise (x ∷ a) [] = refl
eq_pointwise (x ∷ a) (y ∷ b) = ap (λ (t : Bool). eqb x y && t) (eq_pointwise a b)

-- ---- two slots that begin at x and y: r is what the comparison of their values gave

pub differ_kind : (c : List ℕ) (a b x y : ℕ) → x ≡ slot_at a → y ≡ slot_at b → (get_or c (x + 2) 0 ≡ get_or c (y + 2) 0 → ⊥)
    → true ≡ differs (cell_at c a) (cell_at c b)
unfolding differs
differ_kind c a b x y ex ey n = simp (← kind_read c a x ex, ← kind_read c b y ey, ne_eqb _ _ n)

pub differ_value : (c : List ℕ) (a b x y : ℕ) (r : Bool) → x ≡ slot_at a → y ≡ slot_at b → get_or c (x + 2) 0 ≡ get_or c (y + 2) 0
    → r ≡ eq_list (take (x + 16 + 16 - (x + 16)) (drop (x + 16) c)) (take (y + 16 + 16 - (y + 16)) (drop (y + 16) c))
    → not r ≡ differs (cell_at c a) (cell_at c b)
unfolding differs
differ_value c a b x y r ex ey k e =
    let z : r ≡ eq_list (cell_at c a).value (cell_at c b).value =
    rw (lent_part c (x + 16) 16, lent_part c (y + 16) 16, value_read c a x ex, value_read c b y ey) at e in
    simp (← kind_read c a x ex, ← kind_read c b y ey, eq-eqb _ _ k, ← z)

-- ---- a line

-- the stores of `put_line`, one behind the other: a is what the first left, z and v the parts that the last two fill
pub line_laid : (l a z v : List ℕ) (time kind : ℕ) (value : List ℕ) → length l ≡ 32 → length value ≡ 16 → a ≡ splice l 0 (enc 8 time)
    → z ≡ zeros (length (part (set a 8 kind) 9 7)) → v ≡ value
    → put_mid 16 16 (put_mid 9 7 (set a 8 kind) z) v ≡ line_bytes (record { time = time; kind = kind; value = value })
unfolding enc line_bytes
line_laid l a z v time kind value hl hv ea es ev =
    let n : length (set a 8 kind) ≡ 32 = length-set a 8 kind ∙ ap length ea ∙ length_splice l 0 (enc 8 time) ∙ hl in
    let ez : z ≡ zeros 7 = rw (length_part (set a 8 kind) 9 7 (omega arith)) at es in
    let s1 = lay_set l _ 8 kind refl ea in
    let m : put_mid 9 7 (set a 8 kind) z ≡ splice (set a 8 kind) 9 (zeros 7) =
    lent_laid (set a 8 kind) z 9 7 (omega arith) (ap length ez) ∙ ap (splice (set a 8 kind) 9) ez in
    let s2 = lay l _ (zeros 7) 9 refl s1 in
    let k : length (splice (set a 8 kind) 9 (zeros 7)) ≡ 32 = length_splice (set a 8 kind) 9 (zeros 7) ∙ n in
    ap (λ (x : List ℕ). put_mid 16 16 x v) m
    ∙ lent_laid (splice (set a 8 kind) 9 (zeros 7)) v 16 16 (omega arith) (ap length ev ∙ hv)
    ∙ ap (splice (splice (set a 8 kind) 9 (zeros 7)) 16) ev
    ∙ lay l _ value 16 refl s2
    ∙ splice_whole l _ (omega arith)

-- the line of the slot that begins at x, as the code reads its kind and value
pub slot_line : (c v : List ℕ) (s x t : ℕ) → x ≡ slot_at s
    → v ≡ line_bytes (record { time = t; kind = get_or c (x + 2) 0; value = take (x + 16 + 16 - (x + 16)) (drop (x + 16) c) })
    → v ≡ line_bytes (record { time = t; kind = (cell_at c s).kind; value = (cell_at c s).value })
slot_line c v s x t e h = rw (lent_part c (x + 16) 16, kind_read c s x e, value_read c s x e) at h

-- the line of a slot that lies in the cache has 32 bytes
pub line_length : (c : List ℕ) (n t : ℕ) → slot_at n + 32 ≤ length c
    → length (line_bytes (record { time = t; kind = (cell_at c n).kind; value = (cell_at c n).value })) ≡ 32
unfolding cell_at cell_of cache_slot line_bytes enc
line_length c n t h =
    let k = length_part c (slot_at n) 32 h in
    let v = length_part (part c (slot_at n) 32) 16 16 (omega arith) in
    omega arith
