-- What a line of `replay` means: the table of its language.
use Rattle.std.specs.Prelude.{ℕ, cond, List, [], ◌∷◌, eqb, ltb, Option, None, Some}
use Rattle.fields.specs.Block.{zeros}
use Rattle.script.specs.declared.call.Call.{Call}
use Rattle.script.specs.declared.call.Call.TheVariants.{Format, Open, OpenSized, Cut, Begin, Write, Erase, Read, Commit}
use Rattle.script.specs.declared.call.Call.TheVariants.{Abort, Hand, AsOf, Changes, StoreLog, StorePage, Checkpoint}
use Rattle.script.specs.declared.call.Call.TheVariants.{Block, Page, Poke, Other}
use Rattle.script.specs.declared.call.Asked.{Asked}
use Rattle.script.specs.declared.line.Line.{Line}
use Rattle.script.specs.Form.{Word, Form, other, bare, ending, form_of}
use Rattle.script.specs.Reader.{seen_of}

-- replay: "One call to a line": a call with no value
unfoldable pub plain : Call → Asked
plain call = record { call = call; value = zeros 16 }

-- replay: "a record or a flight at most 65,535, a sector or a byte at most 255", "at most 40000"
unfoldable pub at_most : ℕ → ℕ → Call → Call
at_most most n call = cond (ltb most n) Other call

-- replay: "The first line of another form": a call needs its last word
abbrev pub given : Option ℕ → (ℕ → Call) → Call
given None call = Other
given (Some n) call = call n

-- replay: `X`, `S`, `K`
unfoldable pub wordless : ℕ → Call
wordless k = cond (eqb k 88) Cut (cond (eqb k 83) StoreLog (cond (eqb k 75) Checkpoint Other))

-- replay: `O byte`, `o bytes`, `B clock`, `A number`, `P page`, `M block`, `V page`
unfoldable pub one_number : ℕ → ℕ → Call
one_number k n =
    cond (eqb k 79) (at_most 255 n (Open n))
    (cond (eqb k 111) (at_most 40000 n (OpenSized n))
    (cond (eqb k 66) (Begin n)
    (cond (eqb k 65) (Abort n)
    (cond (eqb k 80) (StorePage n) (cond (eqb k 77) (Block n) (cond (eqb k 86) (Page n) Other))))))

-- replay: `F L D`, `E number record`, `R number record`, `C number clock`, `Q record time`
unfoldable pub two_numbers : ℕ → ℕ → ℕ → Call
two_numbers k a n =
    cond (eqb k 70) (Format a n)
    (cond (eqb k 69) (at_most 65535 n (Erase a n))
    (cond (eqb k 82) (at_most 65535 n (Read a n))
    (cond (eqb k 67) (Commit a n) (cond (eqb k 81) (at_most 65535 a (AsOf a n)) Other))))

-- replay: `Z offset hexbyte`
abbrev pub poke_by : ℕ → Option (List ℕ) → Call
poke_by a None = Other
poke_by a (Some []) = Other
poke_by a (Some (b ∷ bs)) = Poke a b

-- replay: `Z offset hexbyte`, and the calls of two numbers
unfoldable pub two_words : ℕ → ℕ → Word → Call
two_words k a w = cond (eqb k 90) (poke_by a w.byte) (given w.number (two_numbers k a))

-- replay: `W number record value`
abbrev pub write_by : ℕ → ℕ → Option (List ℕ) → Asked
write_by n key None = plain Other
write_by n key (Some v) = cond (ltb 65535 key) (plain Other) (record { call = Write n key; value = v })

-- replay: `L record t1 t2 bytes`
unfoldable pub four_numbers : ℕ → ℕ → ℕ → ℕ → ℕ → Call
four_numbers k a b c n = cond (eqb k 76) (at_most 65535 a (at_most 40000 n (Changes a b c n))) Other

-- replay: `H flight from to clock clock`
unfoldable pub five_numbers : ℕ → ℕ → ℕ → ℕ → ℕ → ℕ → Call
five_numbers k a b c d n = cond (eqb k 72) (at_most 65535 a (at_most 255 b (at_most 255 c (Hand a b c d n)))) Other

-- replay: "One call to a line": what a form means
unfoldable pub replay_of : Form → Asked
replay_of other = plain Other
replay_of (bare k) = plain (wordless k)
replay_of (ending k [] w) = plain (given w.number (one_number k))
replay_of (ending k (a ∷ []) w) = plain (two_words k a w)
replay_of (ending k (a ∷ (b ∷ [])) w) = cond (eqb k 87) (write_by a b w.value) (plain Other)
replay_of (ending k (a ∷ (b ∷ (c ∷ []))) w) = plain (given w.number (four_numbers k a b c))
replay_of (ending k (a ∷ (b ∷ (c ∷ (d ∷ [])))) w) = plain (given w.number (five_numbers k a b c d))
replay_of (ending k (a ∷ (b ∷ (c ∷ (d ∷ (e ∷ ns))))) w) = plain Other

-- replay: "One call to a line": what a line means, given by its bytes without the newline
unfoldable pub line_of : List ℕ → Asked
line_of bs = replay_of (form_of bs)

-- replay: "One call to a line": what a line means that was taken byte by byte and ends here
unfoldable pub meaning_of : Line → Asked
meaning_of l = replay_of (seen_of l)
