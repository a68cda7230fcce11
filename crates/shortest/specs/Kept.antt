-- Scripts and choices as the code keeps them: twelve places, of which those behind the script's end are never chosen.
use Rattle.std.specs.Prelude.{ℕ, ◌-◌, ◌^◌, Bool, false, cond, List, ◌++◌, length, replicate, eqb, Option, None}
use Rattle.book.specs.declared.call.Call.{Call}
use Rattle.shortest.specs.Script.{calls_of, end_of}
use Rattle.shortest.specs.Choice.{chosen_of, size_of, picked}
use Rattle.shortest.specs.Search.{best_from}

-- 02, #112: "of up to 12 lines": the calls of a script in twelve places
abbrev pub places_of : List (List ℕ) → List (Option Call)
places_of ls = calls_of ls ++ replicate (12 - length ls) None

-- 02, #112: "in their order and with the last one": choice j of m + 1 lines, in twelve places
unfoldable pub flags_of : ℕ → ℕ → List Bool
flags_of m j = chosen_of m j ++ replicate (11 - m) false

-- 02, #112: "the fewest of its lines": how many choice j of m + 1 lines has
unfoldable pub size_in : ℕ → ℕ → ℕ
size_in m j = size_of (flags_of m j)

-- 02, #112: "that still end in that number": does choice j of m + 1 lines end in r?
unfoldable pub ends_in : List (Option Call) → ℕ → ℕ → ℕ → Bool
ends_in cs m r j = eqb (end_of (picked (flags_of m j) cs)) r

-- 02, #112: "the fewest of its lines, .., that still end in that number": the best of all choices that end in r
unfoldable pub best_in : List (Option Call) → ℕ → ℕ → ℕ
best_in cs m r = best_from (size_in m) (ends_in cs m r) 0 0 (2 ^ m)

-- 02, #112: "ends in a refusal (otherwise nothing is printed)": the lines to be printed of m + 1 that end in r
unfoldable pub flags_by : List (Option Call) → ℕ → ℕ → List Bool
flags_by cs m r = cond (eqb r 0) (replicate 12 false) (flags_of m (best_in cs m r))

-- 02, #112: "ends in a refusal (otherwise nothing is printed)": the lines to be printed of m + 1
unfoldable pub kept_flags : List (Option Call) → ℕ → List Bool
kept_flags cs m = flags_by cs m (end_of (picked (flags_of m 0) cs))
