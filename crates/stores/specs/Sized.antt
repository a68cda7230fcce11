-- What question 16 says of the sizes.
use Rattle.std.specs.Prelude.{ℕ, ◌+◌, ◌*◌, ◌≤◌, ◌≡◌}
use Rattle.store.specs.declared.State.{State}

-- m and c are the lengths of medium and cache
pub record Sized (s : State) (m c : ℕ) : Type 0 where
  pub blocks : s.blocks ≤ 32
  pub pages : s.pages ≤ 64
  pub medium : m ≡ 512 * (3 + s.blocks + s.pages)
  pub cache : c ≡ 512 * s.pages
