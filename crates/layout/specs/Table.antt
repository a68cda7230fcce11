-- The pair table: 64 places of 16 bytes in blocks 1 and 2.
use Rattle.std.specs.Prelude.{ℕ, ◌+◌, ◌*◌, Bool, ◌||◌, not, List, ◌++◌, eqb}
use Rattle.fields.specs.Field.{enc}
use Rattle.fields.specs.Part.{part, splice}
use Rattle.layout.specs.Item.{pair_of}
use Rattle.layout.specs.declared.item.Pair.{Pair}

-- 01: "number then commit time"
unfoldable pub pair_bytes : Pair → List ℕ
pair_bytes p = enc 8 p.number.0 ++ enc 8 p.time.0

-- the offset of place i on the medium
unfoldable pub pair_at : ℕ → ℕ
pair_at i = 512 + 16 * i

-- place i of the medium's table
unfoldable pub table_pair : List ℕ → ℕ → Pair
table_pair m i = pair_of (part m (pair_at i) 16)

-- place i of one of the table's blocks
unfoldable pub block_pair : List ℕ → ℕ → Pair
block_pair b i = pair_of (part b (16 * i) 16)

unfoldable pub put_pair : List ℕ → ℕ → Pair → List ℕ
put_pair b i p = splice b (16 * i) (pair_bytes p)

-- 01: "Number 0 is an empty place, with time 0"
unfoldable pub pair_form : Pair → Bool
pair_form p = not (eqb p.number.0 0) || eqb p.time.0 0
