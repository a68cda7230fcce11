-- A script to shorten: its lines, the calls that they ask for, and the number that these end in.
use Rattle.std.specs.Prelude.{ℕ, cond, List, [], ◌∷◌, ◌++◌, map, Option, None, Some, Ok, is_some}
use Rattle.store.specs.declared.Answer.TheVariants.{Done}
use Rattle.store.specs.Answer.{Outcome, answer_number, leaves}
use Rattle.book.specs.declared.call.Call.{Call}
use Rattle.book.specs.Line.{line_of}
use Rattle.book.specs.Room.{outcome_of}
use Rattle.book.specs.Steps.{World, left_by}
use Rattle.book.specs.Whole.{start}

-- 02, #112: "a line of another form ends it, uncounted": the lines in front of the first of another form
unfoldable pub script_of : List (List ℕ) → List (List ℕ)
script_of [] = []
script_of (l ∷ ls) = cond (is_some (line_of l)) (l ∷ script_of ls) []

-- 02, #112: "Numbers in the lines are taken as they are": what the lines ask for
abbrev pub calls_of : List (List ℕ) → List (Option Call)
calls_of ls = map line_of ls

-- 01: "Each call gets the state, medium and cache that the call before it left"; a line of another form makes none
abbrev pub outcome_in : World → Option Call → Outcome
outcome_in w None = leaves (Ok Done) w.state w.medium w.cache
outcome_in w (Some call) = outcome_of call w.state w.medium w.cache

-- 02, #112: "ends in a refusal": 0 or the refusal of the last of the calls, made one after the other from a world on; r
-- is that of the call before them
unfoldable pub end_from : World → ℕ → List (Option Call) → ℕ
end_from w r [] = r
end_from w r (call ∷ cs) = end_from (left_by (outcome_in w call)) (answer_number (outcome_in w call).answer) cs

-- 02, #112: "ends in a refusal": 0 or the number that the calls end in, on a store that was formatted and opened for
-- them
unfoldable pub end_of : List (Option Call) → ℕ
end_of cs = end_from start 0 cs

-- 02, #112: "print the fewest of its lines": lines as they are printed, each with its newline
unfoldable pub text_of : List (List ℕ) → List ℕ
text_of [] = []
text_of (l ∷ ls) = l ++ (10 ∷ text_of ls)
