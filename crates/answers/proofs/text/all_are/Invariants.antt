-- The bytes are all this one just if those before b are and those from b on are.
use Rattle.std.proofs.Common.{◌≡◌, drop}
use mathlib.Core.Bool.{◌&&◌}
use Rattle.answers.specs.Text.{all_are}
use Rattle.answers.proofs.text.all_are.Given as goal

abbrev pub invariant-loop-b : goal.invariant-loop-b
invariant-loop-b l = l.same && all_are l.byte (drop l.b-index l.bytes) ≡ all_are l.byte l.bytes
