-- The lines of a script, the words of a line, and the numbers that words are.
use Rattle.std.specs.Prelude.{ℕ, ◌+◌, ◌-◌, ◌*◌, ◌^◌, Bool, true, cond, ◌&&◌, List, [], ◌∷◌, length, eqb, ltb, leb, Option, None, Some}

-- 01: "reads lines": a byte in front of the first of the lines behind it, or of the words
abbrev pub ahead : ℕ → List (List ℕ) → List (List ℕ)
ahead b [] = (b ∷ []) ∷ []
ahead b (w ∷ ws) = (b ∷ w) ∷ ws

-- 01: "reads lines"; reading 17: "A last line without a newline counts"
unfoldable pub lines_of : List ℕ → List (List ℕ)
lines_of [] = []
lines_of (b ∷ bs) = cond (eqb b 10) ([] ∷ lines_of bs) (ahead b (lines_of bs))

-- reading 17: "Words are separated by exactly one space, with nothing before or after": a word may be empty, and such a
-- word is none of a script's
unfoldable pub words_of : List ℕ → List (List ℕ)
words_of [] = [] ∷ []
words_of (b ∷ bs) = cond (eqb b 32) ([] ∷ words_of bs) (ahead b (words_of bs))

-- 01: "Numbers are decimal": is a byte one of those from low to high?
unfoldable pub is_in : ℕ → ℕ → ℕ → Bool
is_in low high b = leb low b && leb b high

-- 01: "Numbers are decimal": the digits 0 to 9
unfoldable pub is_digit : ℕ → Bool
is_digit b = is_in 48 57 b

-- 01: "Numbers are decimal": digits alone
unfoldable pub all_digits : List ℕ → Bool
all_digits [] = true
all_digits (b ∷ w) = is_digit b && all_digits w

-- 01: "Numbers are decimal": what the digits say behind a number n
unfoldable pub value_from : ℕ → List ℕ → ℕ
value_from n [] = n
value_from n (b ∷ w) = value_from (10 * n + (b - 48)) w

-- reading 17: "A number is one or more decimal digits, leading zeros allowed, below 2^64"
unfoldable pub number_of : List ℕ → Option ℕ
number_of [] = None
number_of (b ∷ w) =
    cond (all_digits (b ∷ w) && ltb (value_from 0 (b ∷ w)) (2 ^ 64)) (Some (value_from 0 (b ∷ w))) None

-- 01: "W number record byte" and the like: a number and those behind it, if all are numbers
abbrev pub joined : Option ℕ → Option (List ℕ) → Option (List ℕ)
joined None ns = None
joined (Some n) None = None
joined (Some n) (Some ns) = Some (n ∷ ns)

-- 01: "Numbers are decimal": the numbers that the words are, if each is one
unfoldable pub numbers_of : List (List ℕ) → Option (List ℕ)
numbers_of [] = Some []
numbers_of (w ∷ ws) = joined (number_of w) (numbers_of ws)

-- replay: "hex digits, lower case": 0 to 9 and a to f; 16 for a byte that is none
unfoldable pub hex_digit : ℕ → ℕ
hex_digit b = cond (is_digit b) (b - 48) (cond (is_in 97 102 b) (b - 87) 16)

-- replay: "hex digits, lower case": hex digits alone
unfoldable pub all_hex : List ℕ → Bool
all_hex [] = true
all_hex (b ∷ w) = ltb (hex_digit b) 16 && all_hex w

-- replay: "hex digits": two digits are a byte
unfoldable pub bytes_of : List ℕ → List ℕ
bytes_of [] = []
bytes_of (a ∷ []) = []
bytes_of (a ∷ (b ∷ w)) = (16 * hex_digit a + hex_digit b) ∷ bytes_of w

-- replay: "values as 32 hex digits", "one byte (two hex digits)": the k bytes that a word of hex digits is
unfoldable pub hex_bytes : ℕ → List ℕ → Option (List ℕ)
hex_bytes k w = cond (all_hex w && eqb (length w) (2 * k)) (Some (bytes_of w)) None
