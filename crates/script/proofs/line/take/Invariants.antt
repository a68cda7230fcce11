-- Invariant: going on from here gives what going on from the start does.
use mathlib.Core.Path.{◌≡◌}
use lib.ListN.{drop}
use Rattle.script.specs.Reader.{take_of}
use Rattle.script.proofs.line.take.Given as goal

abbrev pub invariant-loop-i : goal.invariant-loop-i
invariant-loop-i l = take_of l.line (drop l.i l.bytes) l.i ≡ take_of l.fn.line (drop l.from l.bytes) l.from
