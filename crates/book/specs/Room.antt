-- What a line does to state, medium and cache, and what it prints.
use Rattle.store.specs.declared.Refusal.{Refusal}
use Rattle.std.specs.Prelude.{ℕ, List, [], ◌∷◌, ◌++◌, length, replicate, get_or, Option, None, Some, Err, Ok, Result}
use Rattle.fields.specs.Block.{zeros}
use Rattle.store.specs.declared.Answer.{Answer}
use Rattle.store.specs.declared.Answer.TheVariants.{Done, Begun, Written, Committed, Opened, Missing, Erased, Present, Listed}
use Rattle.store.specs.declared.State.{State}
use Rattle.store.specs.Answer.{Outcome, leaves, refusal_number, answer_number}
use Rattle.store.specs.Begin.{begin_of}
use Rattle.store.specs.Write.{write_of}
use Rattle.store.specs.Commit.{commit_of}
use Rattle.store.specs.AsOf.{as_of_of}
use Rattle.store.specs.Open.{open_of}
use Rattle.script.specs.Print.{decimal}
use Rattle.book.specs.declared.call.Call.{Call}
use Rattle.book.specs.declared.call.Call.TheVariants.{Begin, Write, Commit, Query, Cut}

-- 01: "B clock; W number record byte (sixteen equal bytes); C number clock; Q record time; X (cut, open)": the call
-- that a line makes; L = 4 and D = 2, and a cut leaves the medium only
unfoldable pub outcome_of : Call → State → List ℕ → List ℕ → Outcome
outcome_of (Begin clock) s m c = begin_of s m c clock
outcome_of (Write number key byte) s m c = write_of s m c number key (replicate 16 byte)
outcome_of (Commit number clock) s m c = commit_of s m c number clock
outcome_of (Query key time) s m c = as_of_of s m c key time
outcome_of Cut s m c = open_of m (zeros (length c)) 4 2

-- 01: "Q record time": the outcome of a query
unfoldable pub query_of : Call → State → List ℕ → List ℕ → Outcome
query_of (Begin clock) s m c = leaves (Ok Done) s m c
query_of (Write number key byte) s m c = leaves (Ok Done) s m c
query_of (Commit number clock) s m c = leaves (Ok Done) s m c
query_of (Query key time) s m c = outcome_of (Query key time) s m c
query_of Cut s m c = leaves (Ok Done) s m c

-- 01: "a result (number, slot, time, byte, last time; `-` for none, no time, erased or refused)"
unfoldable pub result_of : Result Answer Refusal → ℕ → Option ℕ
result_of (Err r) byte = None
result_of (Ok Done) byte = None
result_of (Ok (Begun n)) byte = Some n.0
result_of (Ok (Written slot)) byte = Some slot
result_of (Ok (Committed t)) byte = Some t.0
result_of (Ok (Opened t)) byte = Some t.0
result_of (Ok Missing) byte = None
result_of (Ok Erased) byte = None
result_of (Ok Present) byte = Some byte
result_of (Ok (Listed k)) byte = Some k

-- 01: "`-` for none"
unfoldable pub result_text : Option ℕ → List ℕ
result_text None = 45 ∷ []
result_text (Some n) = decimal n

-- 01: "per line the letter, 0 or the refusal, and a result", with a space between two and a newline behind
unfoldable pub line_text : ℕ → ℕ → Option ℕ → List ℕ
line_text letter refusal result = letter ∷ (32 ∷ (decimal refusal ++ (32 ∷ (result_text result ++ (10 ∷ [])))))

-- 01: "per line the letter"
unfoldable pub letter_of : Call → ℕ
letter_of (Begin clock) = 66
letter_of (Write number key byte) = 87
letter_of (Commit number clock) = 67
letter_of (Query key time) = 81
letter_of Cut = 88

-- 01: "0 or the refusal, and a result": what is said of an answer, beside a value whose first byte is this
abbrev pub said_by : Result Answer Refusal → ℕ → Result (Option ℕ) Refusal
said_by (Err r) byte = Err r
said_by (Ok a) byte = Ok (result_of (Ok a) byte)

-- 01: "0 or the refusal, and a result": what is said of a call with this outcome
unfoldable pub said_of : Outcome → Result (Option ℕ) Refusal
said_of o = said_by o.answer (get_or o.value 0 0)

-- 01: "0 or the refusal": of a call of which this is said
abbrev pub said_number : Result (Option ℕ) Refusal → ℕ
said_number (Err r) = refusal_number r
said_number (Ok result) = 0

-- 01: "a result, .. `-` for none, .. or refused": the same
abbrev pub said_result : Result (Option ℕ) Refusal → Option ℕ
said_result (Err r) = None
said_result (Ok result) = result

-- 01: "per line": what a line prints whose call has this outcome
unfoldable pub printed : Call → Outcome → List ℕ
printed call o = line_text (letter_of call) (answer_number o.answer) (result_of o.answer (get_or o.value 0 0))
