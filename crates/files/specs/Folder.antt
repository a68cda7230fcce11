-- The folder of a file.
use Rattle.std.specs.Prelude.{ℕ, zero, suc, cond, List, length, get_or, eqb}

-- striproom, "`F L D` makes or formats the file": the last slash (47) among the first n bytes of a name, counted with it
unfoldable pub slash_up_to : List ℕ → ℕ → ℕ
slash_up_to name zero = 0
slash_up_to name (suc n) = cond (eqb (get_or name n 0) 47) (suc n) (slash_up_to name n)

-- striproom, "`F L D` makes or formats the file": so many bytes of a file's name are its folder's; none: the one the program runs in
unfoldable pub folder_length : List ℕ → ℕ
folder_length name = slash_up_to name (length name)
