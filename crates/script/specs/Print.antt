-- How numbers and bytes are printed.
use Rattle.std.specs.Prelude.{ℕ, zero, suc, ◌+◌, ◌/◌, ◌%◌, cond, List, [], ◌∷◌, ◌++◌, ltb}
use Rattle.io.specs.Digits.{hex_digit_ascii}

-- 01: "Numbers are decimal": without leading zeros; a number below 2^64 has at most 20 digits
unfoldable pub decimal_from : ℕ → ℕ → List ℕ
decimal_from zero n = []
decimal_from (suc k) n = cond (ltb n 10) ((48 + n) ∷ []) (decimal_from k (n / 10) ++ ((48 + n % 10) ∷ []))

-- 01: "Numbers are decimal"
unfoldable pub decimal : ℕ → List ℕ
decimal n = decimal_from 20 n

-- replay: "values as 32 hex digits, lower case": two digits for each byte
unfoldable pub hex_of : List ℕ → List ℕ
hex_of [] = []
hex_of (b ∷ bs) = hex_digit_ascii (b / 16) ∷ (hex_digit_ascii (b % 16) ∷ hex_of bs)
