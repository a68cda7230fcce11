-- Invariant: the digits of the first bytes stand behind the first n.
use mathlib.Core.Path.{◌≡◌}
use mathlib.Core.List.{◌++◌}
use Prim.Native.Nat.{◌+◌, ◌*◌}
use lib.ListN.{take}
use Rattle.script.specs.Print.{hex_of}
use Rattle.script.proofs.print.hex.Given as goal

abbrev pub invariant-loop-b : goal.invariant-loop-b
invariant-loop-b l =
    (l.at ≡ l.n + 2 * l.b-index)
    × (take l.at l.out ≡ take l.n l.initial.out ++ hex_of (take l.b-index l.text))
