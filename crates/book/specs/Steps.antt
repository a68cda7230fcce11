-- What a line does to the world, by the call that it asks for.
use Rattle.std.specs.Prelude.{ℕ, List, Option, None, Some}
use Rattle.store.specs.declared.State.{State}
use Rattle.store.specs.Answer.{Outcome}
use Rattle.script.specs.declared.line.Line.{Line}
use Rattle.script.specs.Run.{Step, stops, goes}
use Rattle.book.specs.declared.call.Call.{Call}
use Rattle.book.specs.Line.{meaning_of}
use Rattle.book.specs.Room.{outcome_of, printed}

-- 01: "Each call gets the state, medium and cache that the call before it left"
pub record World : Type 0 where
  pub state : State
  pub medium : List ℕ
  pub cache : List ℕ

-- 01: "Each call gets the state, medium and cache that the call before it left": by its parts
abbrev pub world : State → List ℕ → List ℕ → World
world s m c = record { state = s; medium = m; cache = c }

-- 01: "Each call gets the state, medium and cache that the call before it left": what a call with this outcome leaves
-- to the next
abbrev pub left_by : Outcome → World
left_by o = world o.state o.medium o.cache

-- 01: "per line the letter, 0 or the refusal, and a result": the call of a line left this outcome, and its line is
-- printed
abbrev pub made : Call → Outcome → Step World
made call o = goes (left_by o) (printed call o)

-- 01: "Each call gets the state, medium and cache that the call before it left"
abbrev pub called : World → Call → Step World
called w call = made call (outcome_of call w.state w.medium w.cache)

-- 01: "the first line of another form ends the run": what a line does that asks for this
unfoldable pub step_by : World → Option Call → Step World
step_by w None = stops
step_by w (Some call) = called w call

-- 01: "reads lines": what a line does that was taken byte by byte
abbrev pub does : World → Line → Step World
does w l = step_by w (meaning_of l)
