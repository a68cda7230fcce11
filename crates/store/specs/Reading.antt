-- What a read says, as the answer and the value of its outcome.
use Rattle.std.specs.Prelude.{ℕ, List, Result, Ok, Err}
use Rattle.fields.specs.Block.{zeros}
use Rattle.store.specs.declared.Answer.{Answer}
use Rattle.store.specs.declared.Answer.TheVariants.{Missing, Erased, Present}
use Rattle.store.specs.declared.Reading.{Reading}
use Rattle.store.specs.declared.Reading.TheVariants.{Missing as NoVersion, Erased as ErasedVersion, Present as Strip}
use Rattle.store.specs.declared.Refusal.{Refusal}

-- 01: "none or erased are results": the answer to a read
abbrev pub answer_of : Reading → Answer
answer_of NoVersion = Missing
answer_of ErasedVersion = Erased
answer_of (Strip v) = Present

-- 01: "a definition gives this paper's number and values for every case": the strip, zeros where there is none
abbrev pub value_of : Reading → List ℕ
value_of NoVersion = zeros 16
value_of ErasedVersion = zeros 16
value_of (Strip v) = v

-- 01: "on "no", this number with zeros": the same of a read that may be refused
abbrev pub answer_in : Result Reading Refusal → Result Answer Refusal
answer_in (Ok r) = Ok (answer_of r)
answer_in (Err why) = Err why

-- 01: "on "no", this number with zeros"
abbrev pub value_in : Result Reading Refusal → List ℕ
value_in (Ok r) = value_of r
value_in (Err why) = zeros 16
