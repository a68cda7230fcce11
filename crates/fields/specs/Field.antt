-- Little-endian fields of any width.
use Rattle.std.specs.Prelude.{ℕ, zero, suc, ◌+◌, ◌*◌, ◌/◌, ◌%◌, List, [], ◌∷◌}

-- 01: "All numbers are little-endian": the w bytes of n, the lowest first
unfoldable pub enc : ℕ → ℕ → List ℕ
enc zero n = []
enc (suc w) n = n % 256 ∷ enc w (n / 256)

-- the number that the bytes are, the lowest first
unfoldable pub dec : List ℕ → ℕ
dec [] = 0
dec (b ∷ bs) = b + 256 * dec bs
