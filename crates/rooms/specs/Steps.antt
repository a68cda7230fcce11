-- What a line does to the room, by its bytes.
use Rattle.std.specs.Prelude.{ℕ, cond, List}
use Rattle.script.specs.declared.call.Asked.{Asked}
use Rattle.script.specs.declared.line.Line.{Line}
use Rattle.script.specs.Replay.{line_of, meaning_of}
use Rattle.script.specs.Run.{Step, stops, goes}
use Rattle.rooms.specs.Room.{Room, plays, Turn, turn_of}

-- replay, the columns "call" and "prints": what a line leaves, and what it prints
abbrev pub leaving : Turn → Step Room
leaving t = goes t.room t.text

-- replay: "ends the run (it and what follows print nothing)": a line is played, or ends the run
unfoldable pub step_of : Asked → Room → Step Room
step_of a r = cond (plays a.call r) (leaving (turn_of a r)) stops

-- replay: "One call to a line": what a line does, given by its bytes
unfoldable pub says : Room → List ℕ → Step Room
says r bytes = step_of (line_of bytes) r

-- replay: "One call to a line": the same for a line that was taken byte by byte
unfoldable pub does : Room → Line → Step Room
does r l = step_of (meaning_of l) r
