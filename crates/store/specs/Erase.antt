-- Erase.
use Rattle.std.specs.Prelude.{ℕ, List}
use Rattle.fields.specs.Block.{zeros}
use Rattle.store.specs.declared.State.{State}
use Rattle.store.specs.Answer.{Outcome}
use Rattle.store.specs.Write.{add_of}

-- 01: "kind (0 present, 1 erased)", "An empty slot and an erased value are zeros"
unfoldable pub erase_of : State → List ℕ → List ℕ → ℕ → ℕ → Outcome
erase_of s m c n key = add_of s m c n key 1 (zeros 16)
