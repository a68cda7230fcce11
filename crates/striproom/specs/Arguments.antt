-- The arguments: a file, and perhaps the descriptor of the exit code.
use Rattle.std.specs.Prelude.{ℕ, ◌+◌, ◌*◌, ◌-◌, Bool, false, cond, List, [], ◌∷◌, eqb, ltb, Option, Some, None}

-- striproom: "the program writes its exit code to descriptor 8": a descriptor of one digit; below 3 are the standard
-- streams
abbrev pub one_digit : ℕ → Option ℕ
one_digit a = cond (ltb a 51) None (cond (ltb 57 a) None (Some (a - 48)))

-- striproom: "to descriptor 8": a descriptor of two digits
abbrev pub two_digits : ℕ → ℕ → Option ℕ
two_digits a b =
    cond (ltb a 49) None
    (cond (ltb 57 a) None (cond (ltb b 48) None (cond (ltb 57 b) None (Some (10 * (a - 48) + (b - 48))))))

-- striproom: "to descriptor 8": the descriptor that a word names
abbrev pub descriptor_of : List ℕ → Option ℕ
descriptor_of [] = None
descriptor_of (a ∷ []) = one_digit a
descriptor_of (a ∷ b ∷ []) = two_digits a b
descriptor_of (a ∷ b ∷ c ∷ rest) = None

-- striproom, code 2: "no argument, or more than one", where the program's own name counts as one, and the launcher adds the
-- descriptor: so many arguments, a name of n bytes, and whether the exit code has where to go
abbrev pub is_right : ℕ → ℕ → Bool → Bool
is_right count n known = cond (ltb count 2) false (cond (ltb 3 count) false (cond (eqb n 0) false known))
