-- Invariant: the chosen lines that are left make up the whole with what is put; no more bytes are put than were gone
-- past.
use mathlib.Core.Path.{◌≡◌}
use mathlib.Core.List.{◌++◌}
use Prim.Native.Nat.{◌+◌, ◌≤◌}
use lib.ListN.{length, take}
use Rattle.script.specs.Words.{lines_of}
use Rattle.shortest.specs.Script.{text_of}
use Rattle.shortest.specs.Choice.{picked}
use Rattle.shortest.proofs.PutLaws.{text_at}
use Rattle.shortest.proofs.lines.put.Given as goal

abbrev pub invariant-loop-chosen : goal.invariant-loop-chosen
invariant-loop-chosen l = record {
  put : l.n ≤ l.at;
  place : l.at ≤ length l.bytes + 1;
  same : take l.n l.out ++ text_at l.fn.flags l.bytes l.chosen-index l.at ≡ text_of (picked l.fn.flags (lines_of l.bytes));
}
