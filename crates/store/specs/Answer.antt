-- Answers and refusals in 01's numbers, what a call leaves, and how its questions are put.
use Rattle.std.specs.Prelude.{ℕ, Bool, cond, List, [], ◌∷◌, Option, None, Some, Err, Ok, Result}
use Rattle.fields.specs.Block.{zeros}
use Rattle.store.specs.declared.Refusal.{Refusal}
use Rattle.store.specs.declared.Refusal.TheVariants.{BadSizes, BadCache, Malformed, NoPlace, NotActive, Held, NoSlot, LogFull, NoTime, NotYet, NoPage, NotLogged, Unchanged, ShortBuffer, NoNumber, Unfit, NoRecord}
use Rattle.store.specs.declared.Answer.{Answer}
use Rattle.store.specs.declared.Answer.TheVariants.{Done, Begun, Written, Committed, Opened, Missing, Erased, Present, Listed}
use Rattle.store.specs.declared.State.{State}

-- 01, 'Questions put to a call': the number behind each question; 02, #104: "18, is the record number below 1,024?"
unfoldable pub refusal_number : Refusal → ℕ
refusal_number BadSizes = 1
refusal_number BadCache = 2
refusal_number Malformed = 3
refusal_number NoPlace = 4
refusal_number NotActive = 5
refusal_number Held = 6
refusal_number NoSlot = 7
refusal_number LogFull = 8
refusal_number NoTime = 9
refusal_number NotYet = 10
refusal_number NoPage = 11
refusal_number NotLogged = 12
refusal_number Unchanged = 13
refusal_number ShortBuffer = 14
refusal_number NoNumber = 15
refusal_number Unfit = 16
refusal_number NoRecord = 18

-- 01: "a definition gives this paper's number and values for every case": 0, or the refusal's number
unfoldable pub answer_number : Result Answer Refusal → ℕ
answer_number (Err r) = refusal_number r
answer_number (Ok Done) = 0
answer_number (Ok (Begun n)) = 0
answer_number (Ok (Written s)) = 0
answer_number (Ok (Committed t)) = 0
answer_number (Ok (Opened t)) = 0
answer_number (Ok Missing) = 0
answer_number (Ok Erased) = 0
answer_number (Ok Present) = 0
answer_number (Ok (Listed k)) = 0

-- 01: "this paper's number and values for every case": the number, slot, time or count, 0 where there is none
unfoldable pub answer_value : Result Answer Refusal → ℕ
answer_value (Err r) = 0
answer_value (Ok Done) = 0
answer_value (Ok (Begun n)) = n.0
answer_value (Ok (Written s)) = s
answer_value (Ok (Committed t)) = t.0
answer_value (Ok (Opened t)) = t.0
answer_value (Ok Missing) = 0
answer_value (Ok Erased) = 0
answer_value (Ok Present) = 0
answer_value (Ok (Listed k)) = k

-- 01: "the statement about a call fixes result, state, medium and cache": all that a call leaves, with the 16 bytes
-- beside a read's answer (zeros for any other) and the answer buffer
pub record Outcome : Type 0 where
  pub answer : Result Answer Refusal
  pub value : List ℕ
  pub state : State
  pub medium : List ℕ
  pub cache : List ℕ
  pub buffer : List ℕ

-- 01: "fixes result, state, medium and cache": these four, for a call with neither a value nor an answer buffer
abbrev pub leaves : Result Answer Refusal → State → List ℕ → List ℕ → Outcome
leaves a s m c = record { answer = a; value = zeros 16; state = s; medium = m; cache = c; buffer = [] }

-- 01: "on "no", this number with zeros, all buffers unchanged"
abbrev pub refuses : Refusal → State → List ℕ → List ℕ → Outcome
refuses r s m c = leaves (Err r) s m c

-- 01: "In this order, those that fit the call": each question with its refusal, and the first "no"
abbrev pub ask : List (Bool × Refusal) → Option Refusal
ask [] = None
ask (q ∷ qs) = cond q.0 (ask qs) (Some q.1)
