-- What a line of `stripbook` means: from its bytes, without the newline, to the call that it asks for.
use Rattle.std.specs.Prelude.{ℕ, cond, List, [], ◌∷◌, ◌++◌, eqb, ltb, Option, None, Some}
use Rattle.script.specs.declared.line.Line.{Line}
use Rattle.script.specs.Words.{words_of, numbers_of}
use Rattle.script.specs.Form.{Form, other, bare, ending}
use Rattle.script.specs.Reader.{seen_of}
use Rattle.book.specs.declared.call.Call.{Call}
use Rattle.book.specs.declared.call.Call.TheVariants.{Begin, Write, Commit, Query, Cut}

-- 01: "a record or byte at most 255": a write
unfoldable pub write_if : ℕ → ℕ → ℕ → Option Call
write_if n key byte = cond (ltb 255 key) None (cond (ltb 255 byte) None (Some (Write n key byte)))

-- 01: "a record or byte at most 255": a query
unfoldable pub query_if : ℕ → ℕ → Option Call
query_if key time = cond (ltb 255 key) None (Some (Query key time))

-- 01: "B clock"
abbrev pub begin_by : List ℕ → Option Call
begin_by [] = None
begin_by (clock ∷ []) = Some (Begin clock)
begin_by (a ∷ (b ∷ ns)) = None

-- 01: "W number record byte"
abbrev pub write_by : List ℕ → Option Call
write_by [] = None
write_by (a ∷ []) = None
write_by (a ∷ (b ∷ [])) = None
write_by (number ∷ (key ∷ (byte ∷ []))) = write_if number key byte
write_by (a ∷ (b ∷ (c ∷ (d ∷ ns)))) = None

-- 01: "C number clock"
abbrev pub commit_by : List ℕ → Option Call
commit_by [] = None
commit_by (a ∷ []) = None
commit_by (number ∷ (clock ∷ [])) = Some (Commit number clock)
commit_by (a ∷ (b ∷ (c ∷ ns))) = None

-- 01: "Q record time"
abbrev pub query_by : List ℕ → Option Call
query_by [] = None
query_by (a ∷ []) = None
query_by (key ∷ (time ∷ [])) = query_if key time
query_by (a ∷ (b ∷ (c ∷ ns))) = None

-- 01: "X (cut, open)"
abbrev pub cut_by : List ℕ → Option Call
cut_by [] = Some Cut
cut_by (a ∷ ns) = None

-- 01: "B clock; W number record byte (sixteen equal bytes); C number clock; Q record time; X (cut, open)"
unfoldable pub call_of : ℕ → List ℕ → Option Call
call_of letter ns =
    cond (eqb letter 66) (begin_by ns)
    (cond (eqb letter 87) (write_by ns)
    (cond (eqb letter 67) (commit_by ns) (cond (eqb letter 81) (query_by ns) (cond (eqb letter 88) (cut_by ns) None))))

-- 01: "the first line of another form": so is a line whose words are not all numbers
abbrev pub call_if : ℕ → Option (List ℕ) → Option Call
call_if letter None = None
call_if letter (Some ns) = call_of letter ns

-- 01: "per line the letter": the first word is one letter, the others are its numbers
abbrev pub by_words : List (List ℕ) → Option Call
by_words [] = None
by_words ([] ∷ ws) = None
by_words ((letter ∷ []) ∷ ws) = call_if letter (numbers_of ws)
by_words ((a ∷ (b ∷ w)) ∷ ws) = None

-- 01: "the first line of another form ends the run": what a line asks for, None for another form
unfoldable pub line_of : List ℕ → Option Call
line_of bs = by_words (words_of bs)

-- 01: "Numbers are decimal": the last number behind the others, if the last word is one
abbrev pub closed : List ℕ → Option ℕ → Option (List ℕ)
closed ns None = None
closed ns (Some n) = Some (ns ++ (n ∷ []))

-- 01: "the first line of another form": what the form of a line asks for
unfoldable pub form_call : Form → Option Call
form_call other = None
form_call (bare k) = call_of k []
form_call (ending k ns w) = call_if k (closed ns w.number)

-- 01: "reads lines": what a line asks for that was taken byte by byte and ends here
unfoldable pub meaning_of : Line → Option Call
meaning_of l = form_call (seen_of l)
