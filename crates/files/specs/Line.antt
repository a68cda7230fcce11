-- What the program says on standard error.
use Rattle.std.specs.Prelude.{ℕ, List, ◌++◌, codes}

-- striproom: "in one line on standard error, `striproom: FILE: ..`"
abbrev pub complaint : List ℕ → List ℕ → List ℕ
complaint name what = codes "striproom: " ++ name ++ codes ": " ++ what ++ codes "\n"
