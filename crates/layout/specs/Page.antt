-- A page: 32 header bytes, then 15 slots.
use Rattle.std.specs.Prelude.{ℕ, zero, suc, ◌+◌, ◌-◌, ◌*◌, ◌%◌, Bool, true, cond, ◌&&◌, List, [], ◌∷◌, ◌++◌, length, get_or, set, leb, ltb}
use Rattle.fields.specs.Field.{enc, dec}
use Rattle.fields.specs.Part.{part, splice}
use Rattle.fields.specs.Equal.{all_zero}
use Rattle.fields.specs.Block.{zeros, slot_in, slot_at, page_of, blk, put}
use Rattle.fields.specs.Cells.{flat}
use Rattle.layout.specs.Slot.{Cell, slot_bytes, cell_of, stamped, slot_form}

-- 01: "32 header bytes (end place of the last record put in it, 8; used slots, 1; zeros), then 15 slots of 32 bytes"
unfoldable pub page_bytes : ℕ → List Cell → List ℕ
page_bytes e cs =
    (enc 8 e ++ (length cs ∷ zeros 23)) ++ (flat slot_bytes cs ++ zeros (480 - 32 * length cs))

unfoldable pub page_end : List ℕ → ℕ
page_end p = dec (part p 0 8)

unfoldable pub page_used : List ℕ → ℕ
page_used p = get_or p 8 0

-- the 32 bytes of slot i
unfoldable pub page_slot : List ℕ → ℕ → List ℕ
page_slot p i = part p (slot_in i) 32

-- the k slots of a page from slot i on
unfoldable pub cells_from : List ℕ → ℕ → ℕ → List Cell
cells_from p i zero = []
cells_from p i (suc k) = cell_of (page_slot p i) ∷ cells_from p (i + 1) k

-- the used slots of a page
unfoldable pub page_cells : List ℕ → List Cell
page_cells p = cells_from p 0 (page_used p)

-- a version put into slot i of a page: its end place and used slots follow
unfoldable pub put_cell : List ℕ → ℕ → ℕ → Cell → List ℕ
put_cell p i e c = splice (set (splice p 0 (enc 8 e)) 8 (i + 1)) (slot_in i) (slot_bytes c)

-- slot i of a page stamped
unfoldable pub stamp_cell : List ℕ → ℕ → ℕ → List ℕ
stamp_cell p i t = splice p (slot_in i) (stamped (page_slot p i) t)

-- slot i of a page is in form: a version's below the used ones, zeros from there on
unfoldable pub slot_form_at : List ℕ → ℕ → Bool
slot_form_at p i = cond (ltb i (page_used p)) (slot_form (page_slot p i)) (all_zero (page_slot p i))

-- so are the k slots from slot i on
unfoldable pub slots_form : List ℕ → ℕ → ℕ → Bool
slots_form p i zero = true
slots_form p i (suc k) = slot_form_at p i && slots_form p (i + 1) k

unfoldable pub page_form : List ℕ → Bool
page_form p = leb (page_used p) 15 && (all_zero (part p 9 23) && slots_form p 0 15)

-- a version put into slot n of the store, in its page of the cache
unfoldable pub put_version : List ℕ → ℕ → ℕ → Cell → List ℕ
put_version c n e cell = put c (page_of n) (put_cell (blk c (page_of n)) (n % 15) e cell)

-- slot n of the store stamped, in its page of the cache
unfoldable pub stamp_version : List ℕ → ℕ → ℕ → List ℕ
stamp_version c n t = put c (page_of n) (stamp_cell (blk c (page_of n)) (n % 15) t)

-- the 32 bytes of slot n of a cache
unfoldable pub cache_slot : List ℕ → ℕ → List ℕ
cache_slot c n = part c (slot_at n) 32
