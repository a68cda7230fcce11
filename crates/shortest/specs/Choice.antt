-- Choices of lines, by numbers: a script of m + 1 lines has 2^m choices with its last line. They are numbered so that
-- of two with as many lines the one with the lower number comes first.
use Rattle.std.specs.Prelude.{ℕ, zero, suc, ◌-◌, ◌^◌, Bool, true, false, cond, List, [], ◌∷◌, ltb}

-- 02, #112: "in their order and with the last one": for each line whether it is chosen; the lower half of the choices
-- are those with the first line, and the last line is in all of them
unfoldable pub chosen_of : ℕ → ℕ → List Bool
chosen_of zero j = true ∷ []
chosen_of (suc m) j = cond (ltb j (2 ^ m)) (true ∷ chosen_of m j) (false ∷ chosen_of m (j - 2 ^ m))

-- 02, #112: "the fewest of its lines": how many are chosen
unfoldable pub size_of : List Bool → ℕ
size_of [] = 0
size_of (true ∷ c) = suc (size_of c)
size_of (false ∷ c) = size_of c

-- 02, #112: "in their order": those that are chosen
unfoldable pub picked : {A : Type 0} → List Bool → List A → List A
picked [] ls = []
picked (b ∷ c) [] = []
picked (true ∷ c) (l ∷ ls) = l ∷ picked c ls
picked (false ∷ c) (l ∷ ls) = picked c ls
