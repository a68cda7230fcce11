-- The master: five fields, then zeros.
use Rattle.std.specs.Prelude.{ℕ, cond, Option, Some, None, List, ◌++◌, drop, eqb}
use Rattle.fields.specs.Field.{enc, dec}
use Rattle.fields.specs.Part.{part}
use Rattle.fields.specs.Equal.{all_zero}
use Rattle.fields.specs.Block.{zeros}
use Rattle.layout.specs.Item.{item_bytes, item_of}
use Rattle.layout.specs.declared.item.Area.TheVariants.{Master as InMaster}
use Rattle.layout.specs.declared.item.Item.{Item}
use Rattle.layout.specs.declared.item.Item.TheVariants.{End, Version, Commit, Number, Damaged}
use Rattle.layout.specs.declared.master.Fields.{Fields}

-- 01: "Tag 1: L, 2 bytes. Tag 2: D, 2 bytes. Tag 3: oldest log block's sequence, 8 bytes. Tag 4: next transaction
-- number, 8. Tag 5: last stored commit time, 8", "in this order, then zeros"
unfoldable pub master_bytes : Fields → List ℕ
master_bytes f =
    item_bytes 1 (enc 2 f.blocks)
    ++ (item_bytes 2 (enc 2 f.pages)
    ++ (item_bytes 3 (enc 8 f.oldest)
    ++ (item_bytes 4 (enc 8 f.next.0)
    ++ (item_bytes 5 (enc 8 f.last.0)
    ++ zeros 469))))

-- the number of the field with the tag at the front of the bytes; anything else is damage
abbrev pub number_of : Item → ℕ → Option ℕ
number_of End tag = None
number_of (Version h) tag = None
number_of (Commit p) tag = None
number_of (Number t n) tag = cond (eqb t tag) (Some n) None
number_of Damaged tag = None

unfoldable pub field_of : ℕ → List ℕ → Option ℕ
field_of tag bs = number_of (item_of InMaster bs) tag

abbrev pub fetch : Option ℕ → (ℕ → Option Fields) → Option Fields
fetch (Some n) rest = rest n
fetch None rest = None

unfoldable pub master_of : List ℕ → Option Fields
master_of b =
    fetch (field_of 1 b) (λ l.
    fetch (field_of 2 (drop 5 b)) (λ d.
    fetch (field_of 3 (drop 10 b)) (λ o.
    fetch (field_of 4 (drop 21 b)) (λ n.
    fetch (field_of 5 (drop 32 b)) (λ t.
    cond (all_zero (drop 43 b))
    (Some (record { blocks = l; pages = d; oldest = o; next = record { 0 = n }; last = record { 0 = t } }))
    None)))))

-- 01: "the master's on the medium (its bytes 13 to 20)"
unfoldable pub oldest_on : List ℕ → ℕ
oldest_on m = dec (part m 13 8)
