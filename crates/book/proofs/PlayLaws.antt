-- A turn of the loop over the bytes of a read: the run behind a line is that of the line's call, made and printed.
use Rattle.std.specs.Prelude.{Option, None, Some, Result, Ok, Err}
use mathlib.Core.Path.{◌≡◌, refl, sym, ap, ◌∙◌}
use mathlib.Core.Bool.{true, false}
use mathlib.Core.List.{List, ◌++◌}
use Prim.Native.Nat.{ℕ, ◌<◌}
use lib.ListN.{length, drop, get_or}
use Rattle.store.specs.declared.Answer.{Answer}
use Rattle.store.specs.declared.Answer.TheVariants.{Done, Begun, Written, Committed, Opened, Missing, Erased, Present, Listed}
use Rattle.store.specs.declared.Refusal.{Refusal}
use Rattle.store.specs.Answer.{Outcome, answer_number}
use Rattle.script.specs.declared.line.Line.{Line}
use Rattle.script.specs.declared.line.Taken.{Taken}
use Rattle.script.specs.Reader.{no_line, take_of}
use Rattle.script.specs.Run.{Step, stand, stepped, play_of}
use Rattle.script.proofs.RunLaws.{play_off}
use Rattle.script.proofs.TakeLaws.{step_ends}
use Rattle.book.specs.declared.call.Call.{Call}
use Rattle.book.specs.Line.{meaning_of}
use Rattle.book.specs.Room.{outcome_of, result_of, line_text, letter_of, printed, said_by, said_of, said_number}
use Rattle.book.specs.Room.{said_result}
use Rattle.book.specs.Steps.{World, left_by, step_by, does}

said_number_law : (a : Result Answer Refusal) (byte : ℕ) → said_number (said_by a byte) ≡ answer_number a
unfolding answer_number
said_number_law (Err why) byte = refl
said_number_law (Ok Done) byte = refl
said_number_law (Ok (Begun n)) byte = refl
said_number_law (Ok (Written n)) byte = refl
said_number_law (Ok (Committed t)) byte = refl
said_number_law (Ok (Opened t)) byte = refl
said_number_law (Ok Missing) byte = refl
said_number_law (Ok Erased) byte = refl
said_number_law (Ok Present) byte = refl
said_number_law (Ok (Listed n)) byte = refl

said_result_law : (a : Result Answer Refusal) (byte : ℕ) → said_result (said_by a byte) ≡ result_of a byte
unfolding result_of
said_result_law (Err why) byte = refl
said_result_law (Ok a) byte = refl

pub number_law : (o : Outcome) → said_number (said_of o) ≡ answer_number o.answer
unfolding said_of
number_law o = said_number_law o.answer (get_or o.value 0 0)

result_law : (o : Outcome) → said_result (said_of o) ≡ result_of o.answer (get_or o.value 0 0)
unfolding said_of
result_law o = said_result_law o.answer (get_or o.value 0 0)

-- l was begun, and r is what `take` made of it from place i on; asked is what the line asks for
module _ (bytes : List ℕ) (l : Line) (i : ℕ) (r : Taken) (h : i < length bytes) (e : r ≡ take_of l (drop i bytes) i)
    (f : r.ended ≡ true) (w : World) (o : List ℕ) (n : Line) (q : n ≡ no_line) where
  -- a line of another form ends the run
  pub step_other : meaning_of r.line ≡ None → play_of does (stand l w true o) (drop i bytes) ≡ stand n w false o
  unfolding step_by
  step_other z =
      step_ends bytes l i r h e does w o f
      ∙ ap (λ (t : Step World). play_of does (stepped t w o) (drop r.next bytes)) (ap (step_by w) z)
      ∙ play_off does no_line w o (drop r.next bytes)
      ∙ ap (λ (t : Line). stand t w false o) (sym q)

  -- a call is made and its line printed
  pub step_call : (call : Call) (k : ℕ) (v : World) (said : Result (Option ℕ) Refusal) (x : List ℕ)
      → meaning_of r.line ≡ Some call → k ≡ letter_of call
      → v ≡ left_by (outcome_of call w.state w.medium w.cache)
      → said ≡ said_of (outcome_of call w.state w.medium w.cache)
      → x ≡ o ++ line_text k (said_number said) (said_result said)
      → play_of does (stand n v true x) (drop r.next bytes) ≡ play_of does (stand l w true o) (drop i bytes)
  unfolding step_by printed
  step_call call k v said x z p t s y =
      sym
      (step_ends bytes l i r h e does w o f
      ∙ ap (λ (t : Step World). play_of does (stepped t w o) (drop r.next bytes)) (ap (step_by w) z)
      ∙ simp (t, y, s, p, q, number_law, result_law))
