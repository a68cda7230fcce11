-- What the code leaves behind a call: a world, and the number of the call's answer.
use Rattle.std.specs.Prelude.{ℕ, Option}
use Rattle.store.specs.Answer.{Outcome, answer_number}
use Rattle.book.specs.declared.call.Call.{Call}
use Rattle.book.specs.Steps.{World, left_by}
use Rattle.shortest.specs.Script.{outcome_in}

-- 01: "per line the letter, 0 or the refusal": the world behind a call, and its number
pub record Made : Type 0 where
  pub world : World
  pub number : ℕ

-- 01: "per line the letter, 0 or the refusal": by its parts
abbrev pub made : World → ℕ → Made
made w r = record { world = w; number = r }

-- 01: "Each call gets the state, medium and cache that the call before it left": of a call with this outcome
abbrev pub made_by : Outcome → Made
made_by o = made (left_by o) (answer_number o.answer)

-- 01: "Each call gets the state, medium and cache that the call before it left": of a call
unfoldable pub made_of : World → Option Call → Made
made_of w call = made_by (outcome_in w call)
