-- A run of a program over a script: what the lines of an input print one after the other, and where the run stands when
-- the bytes of the input come one by one. W is the program's world: what a line finds and leaves.
use Rattle.std.specs.Prelude.{ℕ, Bool, true, false, cond, List, [], ◌∷◌, ◌++◌, eqb}
use Rattle.script.specs.declared.line.Line.{Line}
use Rattle.script.specs.Reader.{no_line, grown}

-- 01: "the first line of another form ends the run": a line ends the run, or leaves a world and prints
pub data Step (W : Type 0) : Type 0 where
  stops : Step W
  goes : W → List ℕ → Step W

-- 01: "per line": what a line prints, and then the lines behind it from the world that it leaves
abbrev pub followed : {W : Type 0} → Step W → (W → List ℕ) → List ℕ
followed stops rest = []
followed (goes w o) rest = o ++ rest w

-- 01: "It prints no header; per line": the lines one after the other, from a world on
unfoldable pub prints_from : {W : Type 0} → (W → List ℕ → Step W) → W → List (List ℕ) → List ℕ
prints_from does w [] = []
prints_from does w (l ∷ ls) = followed (does w l) (λ v. prints_from does v ls)

-- 01: "reads lines": where a run stands: the line begun, the world, whether it goes on, and what it printed
pub record Stand (W : Type 0) : Type 0 where
  pub line : Line
  pub world : W
  pub on : Bool
  pub out : List ℕ

-- 01: "reads lines": a place of a run by its parts
abbrev pub stand : {W : Type 0} → Line → W → Bool → List ℕ → Stand W
stand l w on out = record { line = l; world = w; on = on; out = out }

-- 01: "the first line of another form ends the run": a line has ended
abbrev pub stepped : {W : Type 0} → Step W → W → List ℕ → Stand W
stepped stops w out = stand no_line w false out
stepped (goes v o) w out = stand no_line v true (out ++ o)

-- 01: "reads lines": one byte more; a newline ends the line
unfoldable pub turned : {W : Type 0} → (W → Line → Step W) → Stand W → ℕ → Stand W
turned does t b =
    cond t.on
    (cond (eqb b 10) (stepped (does t.world t.line) t.world t.out) (stand (grown t.line b) t.world true t.out)) t

-- 01: "reads lines": the bytes of a read
unfoldable pub play_of : {W : Type 0} → (W → Line → Step W) → Stand W → List ℕ → Stand W
play_of does t [] = t
play_of does t (b ∷ bs) = play_of does (turned does t b) bs

-- reading 17: "A last line without a newline counts": what was printed once the input ends
unfoldable pub finished : {W : Type 0} → (W → Line → Step W) → Stand W → List ℕ
finished does t = cond t.on (cond (eqb t.line.letter 0) t.out (turned does t 10).out) t.out

-- 01: "It prints no header": what was printed is written out
unfoldable pub written : {W : Type 0} → Stand W → Stand W
written t = stand t.line t.world t.on []

-- 01: "It prints no header": what a program writes out over the reads of an input, however they cut it
unfoldable pub over_reads : {W : Type 0} → (W → Line → Step W) → Stand W → List (List ℕ) → List ℕ
over_reads does t [] = finished does t
over_reads does t (p ∷ ps) = (play_of does t p).out ++ over_reads does (written (play_of does t p)) ps

-- 01: "reads lines": the reads put together
unfoldable pub joined_reads : List (List ℕ) → List ℕ
joined_reads [] = []
joined_reads (p ∷ ps) = p ++ joined_reads ps
