-- What `replay` prints for a whole input.
use Rattle.std.specs.Prelude.{ℕ, List}
use Rattle.script.specs.Words.{lines_of}
use Rattle.script.specs.Run.{prints_from}
use Rattle.rooms.specs.Room.{gone}
use Rattle.rooms.specs.Steps.{says}

-- replay: "One call to a line", and "any other line but `F` then ends the run": at first there is no medium
unfoldable pub prints_of : List ℕ → List ℕ
prints_of input = prints_from says gone (lines_of input)
