-- The bytes of a room, in the input and in the output.
use Rattle.std.specs.Prelude.{ℕ, ◌+◌, ◌*◌, cond, ◌&&◌, List, ◌++◌, length, map, leb, Option, Some, None}
use Rattle.fields.specs.Field.{enc, dec}
use Rattle.fields.specs.Part.{part}
use Rattle.fields.specs.Cells.{flat}
use Rattle.std.specs.List.{range_with_len}
use Rattle.relief.specs.declared.form.Sizes.{Sizes}

-- relief: "the length of the medium and that of the cache (8 bytes each ..)"
abbrev pub medium_in : List ℕ → ℕ
medium_in head = dec (part head 0 8)

-- relief: "the length of the medium and that of the cache (8 bytes each ..)"
abbrev pub cache_in : List ℕ → ℕ
cache_in head = dec (part head 8 8)

-- relief: "The run ends .. at a medium above 50,688 bytes or a cache above 32,768"
unfoldable pub sizes_of : List ℕ → Option Sizes
sizes_of head =
    cond (leb (medium_in head) 50688 && leb (cache_in head) 32768)
    (Some (record { medium = medium_in head; cache = cache_in head })) None

-- relief: "the 448 words of the state (8 bytes each)"
unfoldable pub words_in : List ℕ → List ℕ
words_in head = map (λ i. dec (part head (16 + 8 * i) 8)) (range_with_len 0 448)

-- relief: "the tail (512 bytes)"
unfoldable pub tail_in : List ℕ → List ℕ
tail_in head = part head 3600 512

-- relief: "the length of the medium and that of the cache .., the 448 words of the state .., the tail .., the medium, the
-- cache"
unfoldable pub room_bytes : List ℕ → List ℕ → List ℕ → List ℕ → List ℕ
room_bytes words tail m c =
    enc 8 (length m) ++ (enc 8 (length c) ++ (flat (enc 8) words ++ (tail ++ (m ++ c))))
