-- Request #112 in plain words: a choice of lines is a list of line numbers, and what is printed is the first, in the
-- order that the request gives, of the choices that end in the number.
use Rattle.std.specs.Prelude.{ℕ, ◌-◌, ◌≤◌, ◌<◌, ◌≡◌, ◌⊎◌, List, [], ◌∷◌, ◌++◌, length, get_or, Option, None}
use Rattle.script.specs.Words.{lines_of}
use Rattle.book.specs.Room.{line_text}
use Rattle.book.specs.Whole.{prints_of as book_prints_of}
use Rattle.shortest.specs.Script.{script_of, calls_of, end_of, text_of}
use Rattle.shortest.specs.Prints.{prints_of}

-- 02, #112: "in their order": numbers that rise from above i, up to n
unfoldable pub Rises : ℕ → List ℕ → ℕ → Type 0
Rises i [] n = i ≡ n
Rises i (a ∷ ns) n = (i < a) × Rises a ns n

-- 02, #112: "in their order and with the last one": a choice of n lines, by their numbers, from 1 on
abbrev pub IsChoice : ℕ → List ℕ → Type 0
IsChoice n ns = Rises 0 ns n

-- 02, #112: "of its lines": those with these numbers
unfoldable pub lines_at : List (List ℕ) → List ℕ → List (List ℕ)
lines_at ls [] = []
lines_at ls (a ∷ ns) = get_or ls (a - 1) [] ∷ lines_at ls ns

-- 02, #112: "whose line numbers come first when compared from the left"
unfoldable pub Earlier : List ℕ → List ℕ → Type 0
Earlier [] ms = ⊥
Earlier (a ∷ ns) [] = ⊥
Earlier (a ∷ ns) (b ∷ ms) = (a < b) ⊎ ((a ≡ b) × Earlier ns ms)

-- 02, #112: "the fewest of its lines"; "among equals, the choice whose line numbers come first when compared from the
-- left"
unfoldable pub Before : List ℕ → List ℕ → Type 0
Before ns ms = (length ns < length ms) ⊎ ((length ns ≡ length ms) × Earlier ns ms)

-- 02, #112: "that still end in that number"
unfoldable pub EndsAlike : List (List ℕ) → List ℕ → Type 0
EndsAlike ls ns = end_of (calls_of (lines_at ls ns)) ≡ end_of (calls_of ls)

-- 02, #112: "It must be shown that no smaller choice does so": a choice that ends in the number of the whole script,
-- before every other choice that does
pub record Shortest (ls : List (List ℕ)) (ns : List ℕ) : Type 0 where
  pub choice : IsChoice (length ls) ns
  pub ends : EndsAlike ls ns
  pub least : (ms : List ℕ) → IsChoice (length ls) ms → EndsAlike ls ms → (ms ≡ ns) ⊎ Before ns ms

-- 02, #112: "a line of another form ends it, uncounted": the script of an input
abbrev pub script : List ℕ → List (List ℕ)
script input = script_of (lines_of input)

-- 02, #112: "A `stripbook` script of up to 12 lines (..) ends in a refusal": the script of an input is one
pub record Shortenable (input : List ℕ) : Type 0 where
  pub few : length (script input) ≤ 12
  pub refused : end_of (calls_of (script input)) ≡ 0 → ⊥

-- 02, #112: "end in that number": the number that lines end in is the one in the last line that `stripbook` prints for
-- them
unfoldable pub EndShown : List (List ℕ) → Type 0
EndShown ls =
    (letter : ℕ) × (result : Option ℕ) × (a : List ℕ)
    × (book_prints_of (text_of ls) ≡ a ++ line_text letter (end_of (calls_of ls)) result)

-- 02, #112: "that still end in that number": `stripbook` prints, for two inputs, the same last line, with this refusal
unfoldable pub ShownAlike : ℕ → List ℕ → List ℕ → Type 0
ShownAlike r input other =
    (letter : ℕ) × (a : List ℕ) × (b : List ℕ)
    × (book_prints_of input ≡ a ++ line_text letter r None) × (book_prints_of other ≡ b ++ line_text letter r None)

-- 02, #112: "A program shall print the fewest of its lines", "(otherwise nothing is printed)": what is printed for
-- every input, something just where the script ends in a refusal; there is no second choice like it; the number that
-- any choice ends in is the one that `stripbook` shows, and of what is printed it shows the same last line as of the
-- input
pub record ShortScript : Type 0 where
  pub shortest : (input : List ℕ) → Shortenable input
      → (ns : List ℕ) × Shortest (script input) ns × (prints_of input ≡ text_of (lines_at (script input) ns))
  pub something : (input : List ℕ) → Shortenable input → prints_of input ≡ [] → ⊥
  pub nothing : (input : List ℕ) → (Shortenable input → ⊥) → prints_of input ≡ []
  pub unique : (ls : List (List ℕ)) (ns ms : List ℕ) → Shortest ls ns → Shortest ls ms → ns ≡ ms
  pub ends : (input ns : List ℕ) → 0 < length (script input) → IsChoice (length (script input)) ns
      → EndShown (lines_at (script input) ns)
  pub shown : (input : List ℕ) → Shortenable input
      → ShownAlike (end_of (calls_of (script input))) input (prints_of input)
