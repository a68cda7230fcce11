-- What the functions over a cache ask of it.
use Rattle.layout.specs.declared.CommitTime.{CommitTime}
use Rattle.std.specs.Prelude.{ℕ, suc, ◌*◌, ◌≤◌, ◌≡◌, Option, Some, None}

-- a cache of some pages, and slots below n in them
pub record Room (cache n : ℕ) : Type 0 where
  pub pages : ℕ
  pub few : pages ≤ 64
  pub size : cache ≡ 512 * pages
  pub below : n ≤ 15 * pages

-- a slot that a search found lies in the cache
abbrev pub Head : Option ℕ → ℕ → Type 0
Head (Some s) cache = Room cache (suc s)
Head None cache = Unit {0}

abbrev pub Within : Option (ℕ × CommitTime) → ℕ → Type 0
Within (Some (s, t)) cache = Room cache (suc s)
Within None cache = Unit {0}
