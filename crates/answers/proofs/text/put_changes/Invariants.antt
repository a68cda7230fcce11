-- The lines put and the lines left are the whole list.
use mathlib.Core.Path.{◌≡◌}
use Prim.Native.Nat.{◌+◌, ◌-◌, ◌*◌, ◌≤◌}
use mathlib.Core.List.{◌++◌}
use lib.ListN.{take, drop}
use Rattle.answers.specs.Text.{changes_text}
use Rattle.answers.proofs.text.put_changes.Given as goal

abbrev pub invariant-loop-i : goal.invariant-loop-i
invariant-loop-i l =
    (l.end ≤ l.n + 75 * l.i)
    × (take l.end l.out ++ changes_text (l.count - l.i) (drop (32 * l.i) l.buffer)
    ≡ take l.n l.initial.out ++ changes_text l.count l.buffer)
