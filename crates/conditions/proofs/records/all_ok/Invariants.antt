-- Those seen were in order, and what is left decides; a record that fails ends it. The tallies are the highest so far.
use Rattle.conditions.specs.Cursor.{Valid, rest_of}
use Rattle.conditions.proofs.CursorLaws.{measure}
use Rattle.conditions.proofs.RecordsLaws.{Judged}
use Rattle.conditions.proofs.records.all_ok.Given as goal

abbrev pub invariant-loop-next : goal.invariant-loop-next
invariant-loop-next l = record {
  valid : Valid l.cursor;
  judged : Judged l.pairs.medium.now (rest_of l.pairs.medium.now l.pairs.blocks l.initial.cursor) l.above l.latest (rest_of l.pairs.medium.now l.pairs.blocks l.cursor);
}

abbrev pub decreases-loop-next : goal.decreases-loop-next
decreases-loop-next l = measure l.cursor
