-- The form of a line: a letter, then words, each behind one space. All words but the last are decimal numbers. The last
-- is read as a decimal number and as hex digits, and the letter decides which of the two it takes.
use Rattle.std.specs.Prelude.{ℕ, Bool, true, cond, List, [], ◌∷◌, length, ltb, Option, None, Some}
use Rattle.script.specs.Words.{is_in, words_of, number_of, hex_bytes}

-- replay: "numbers decimal", "values as 32 hex digits", "one byte (two hex digits)": a word read in these three ways
pub record Word : Type 0 where
  pub number : Option ℕ
  pub value : Option (List ℕ)
  pub byte : Option (List ℕ)

-- replay: "numbers decimal", "values as 32 hex digits": what a word is, read in each way
unfoldable pub word_of : List ℕ → Word
word_of w = record { number = number_of w; value = hex_bytes 16 w; byte = hex_bytes 1 w }

-- 01: "the first line of another form"
pub data Form : Type 0 where
  other : Form
  bare : ℕ → Form  -- a letter alone
  ending : ℕ → List ℕ → Word → Form  -- a letter, numbers, and the last word

-- 01: "W number record byte" and the like: a number in front of those of a form
abbrev pub behind : Option ℕ → Form → Form
behind None f = other
behind (Some n) other = other
behind (Some n) (bare k) = other
behind (Some n) (ending k ns w) = ending k (n ∷ ns) w

-- 01: "per line the letter": the words behind it
unfoldable pub after_letter : ℕ → List (List ℕ) → Form
after_letter k [] = bare k
after_letter k (w ∷ []) = ending k [] (word_of w)
after_letter k (w ∷ (v ∷ ws)) = behind (number_of w) (after_letter k (v ∷ ws))

-- 01: "the letter": A to Z and a to z
unfoldable pub is_letter : ℕ → Bool
is_letter b = cond (is_in 65 90 b) true (is_in 97 122 b)

-- 01: "per line the letter": the first word is one letter
abbrev pub by_words : List (List ℕ) → Form
by_words [] = other
by_words ([] ∷ ws) = other
by_words ((k ∷ []) ∷ ws) = cond (is_letter k) (after_letter k ws) other
by_words ((a ∷ (b ∷ w)) ∷ ws) = other

-- replay: `H flight from to clock clock`: no letter takes more than five words
unfoldable pub limited : Form → Form
limited other = other
limited (bare k) = bare k
limited (ending k ns w) = cond (ltb 4 (length ns)) other (ending k ns w)

-- 01: "the first line of another form": the form of a line, given by its bytes without the newline
unfoldable pub form_of : List ℕ → Form
form_of bs = limited (by_words (words_of bs))
