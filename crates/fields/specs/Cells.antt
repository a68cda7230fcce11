-- A row of cells of the same size: slots of a page, places of the pair table.
use Rattle.std.specs.Prelude.{ℕ, List, [], ◌∷◌, ◌++◌}

-- the bytes of the cells, one after the other
unfoldable pub flat : {A : Type 0} → (A → List ℕ) → List A → List ℕ
flat bytes [] = []
flat bytes (x ∷ xs) = bytes x ++ flat bytes xs
