-- The search: all choices one after the other, and of those that pass the first with the fewest lines.
use Rattle.std.specs.Prelude.{ℕ, zero, suc, ◌+◌, ◌^◌, Bool, cond, List, eqb, ltb, Option}
use Rattle.book.specs.declared.call.Call.{Call}
use Rattle.shortest.specs.Script.{end_of}
use Rattle.shortest.specs.Choice.{chosen_of, size_of, picked}

-- 02, #112: "the fewest of its lines": choice j instead of the best so far, if it has fewer lines and passes
unfoldable pub better_of : (ℕ → ℕ) → (ℕ → Bool) → ℕ → ℕ → ℕ
better_of size passes best j = cond (ltb (size j) (size best)) (cond (passes j) j best) best

-- 02, #112: "the fewest of its lines": the best of the choices up to here, and of the k from j on
unfoldable pub best_from : (ℕ → ℕ) → (ℕ → Bool) → ℕ → ℕ → ℕ → ℕ
best_from size passes best j zero = best
best_from size passes best j (suc k) = best_from size passes (better_of size passes best j) (j + 1) k

-- 02, #112: "that still end in that number": does choice j of these m + 1 calls?
unfoldable pub ends_as : ℕ → List (Option Call) → ℕ → Bool
ends_as m cs j = eqb (end_of (picked (chosen_of m j) cs)) (end_of cs)

-- 02, #112: "the fewest of its lines, in their order and with the last one, that still end in that number": the number
-- of the choice, of m + 1 calls
unfoldable pub shortest_of : ℕ → List (Option Call) → ℕ
shortest_of m cs = best_from (λ j. size_of (chosen_of m j)) (ends_as m cs) 0 0 (2 ^ m)
