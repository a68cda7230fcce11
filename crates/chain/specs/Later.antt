-- The best of the higher slots against the best of the lower ones.
use Rattle.layout.specs.declared.CommitTime.{CommitTime}
use Rattle.std.specs.Prelude.{ℕ, Option, Some, None}
use Rattle.store.specs.Chain.{later_of}

-- the later of the two, the higher slot among equals
unfoldable pub or_later : Option (ℕ × CommitTime) → Option (ℕ × CommitTime) → Option (ℕ × CommitTime)
or_later None rest = rest
or_later (Some (s, t)) rest = later_of s t rest
