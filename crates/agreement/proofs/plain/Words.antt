-- Demand 3 in plain words, whole: each statement follows from the invariant's agreement at every moment of a run.
use Rattle.runs.specs.Plain.{PlainWords}
use Rattle.agreement.proofs.plain.Times.{known, rising_rows, rising_answers, one_time}
use Rattle.agreement.proofs.plain.Reads.{clean_as_of, clean_lists, clean_current}
use Rattle.agreement.proofs.plain.Begun.{one_begin}
use Rattle.agreement.proofs.plain.Ended.{aborted, cut_off}
use Rattle.agreement.proofs.plain.Found.{kept, durable}
use Rattle.agreement.proofs.plain.Since.{first, found}

pub plain_words : PlainWords
plain_words = record {
  first = first;
  found = found;
  kept = kept;
  durable = durable;
  one_time = one_time;
  clean_as_of = clean_as_of;
  clean_lists = clean_lists;
  clean_current = clean_current;
  aborted = aborted;
  cut_off = cut_off;
  one_begin = one_begin;
  known = known;
  rising_rows = rising_rows;
  rising_answers = rising_answers;
}
