-- What is printed for a whole input.
use Rattle.std.specs.Prelude.{ℕ, ◌-◌, Bool, cond, List, [], length, eqb, ltb}
use Rattle.script.specs.Words.{lines_of}
use Rattle.shortest.specs.Script.{script_of, calls_of, end_of, text_of}
use Rattle.shortest.specs.Choice.{chosen_of, picked}
use Rattle.shortest.specs.Search.{shortest_of}

-- 02, #112: "of up to 12 lines": has a script more?
unfoldable pub too_long : List (List ℕ) → Bool
too_long ls = ltb 12 (length ls)

-- 02, #112: "A program shall print the fewest of its lines": the lines of the shortest choice, of m + 1 lines
unfoldable pub shortest_text : ℕ → List (List ℕ) → List ℕ
shortest_text m ls = text_of (picked (chosen_of m (shortest_of m (calls_of ls))) ls)

-- 02, #112: "A `stripbook` script of up to 12 lines ends in a refusal (otherwise nothing is printed)"
unfoldable pub shortened : List (List ℕ) → List ℕ
shortened ls = cond (too_long ls) [] (cond (eqb (end_of (calls_of ls)) 0) [] (shortest_text (length ls - 1) ls))

-- 02, #112: "a line of another form ends it, uncounted": for an input
unfoldable pub prints_of : List ℕ → List ℕ
prints_of input = shortened (script_of (lines_of input))
