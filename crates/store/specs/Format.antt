-- Format.
use Rattle.std.specs.Prelude.{ℕ, ◌+◌, ◌*◌, Bool, ◌&&◌, List, [], ◌∷◌, ◌++◌, length, eqb, Option, None, Some, Err, Ok, Result}
use Rattle.fields.specs.Block.{zeros, medium_length}
use Rattle.layout.specs.Master.{master_bytes}
use Rattle.store.specs.declared.Refusal.{Refusal}
use Rattle.store.specs.declared.Refusal.TheVariants.{BadSizes}
use Rattle.store.specs.declared.Answer.{Answer}
use Rattle.store.specs.declared.Answer.TheVariants.{Done}
use Rattle.store.specs.Answer.{ask}
use Rattle.store.specs.State.{in_range}

-- 01: "Formatting .. starts a new history": what it leaves; it has neither state nor cache
pub record Formatted : Type 0 where
  pub answer : Result Answer Refusal
  pub medium : List ℕ

-- 01: "L, D (the caller's) in range, medium length right? 1"
abbrev pub format_asks : List ℕ → ℕ → ℕ → List (Bool × Refusal)
format_asks m l d = (in_range l d && eqb (length m) (medium_length l d), BadSizes) ∷ []

-- 01: "A fresh store has oldest sequence 1, next number 1, time 0, and zeros in all other blocks"
unfoldable pub fresh_medium : ℕ → ℕ → List ℕ
fresh_medium l d =
    master_bytes (record { blocks = l; pages = d; oldest = 1; next = record { 0 = 1 }; last = record { 0 = 0 } })
    ++ zeros (512 * (2 + l + d))

-- 01: "on "no", this number with zeros, all buffers unchanged": refused, or the fresh medium
unfoldable pub format_if : Option Refusal → List ℕ → ℕ → ℕ → Formatted
format_if (Some r) m l d = record { answer = Err r; medium = m }
format_if None m l d = record { answer = Ok Done; medium = fresh_medium l d }

-- 01: "In this order, those that fit the call": formatting's outcome, its first "no" or the fresh medium
unfoldable pub format_of : List ℕ → ℕ → ℕ → Formatted
format_of m l d = format_if (ask (format_asks m l d)) m l d
