-- The first line of some bytes, and the bytes behind it.
use Rattle.std.specs.Prelude.{ℕ, cond, List, [], ◌∷◌, eqb}

-- 01: "reads lines": the bytes in front of the first newline
unfoldable pub line_in : List ℕ → List ℕ
line_in [] = []
line_in (b ∷ bs) = cond (eqb b 10) [] (b ∷ line_in bs)

-- 01: "reads lines": the bytes behind the first newline
unfoldable pub past_line : List ℕ → List ℕ
past_line [] = []
past_line (b ∷ bs) = cond (eqb b 10) bs (past_line bs)
