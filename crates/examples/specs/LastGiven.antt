-- Why request #102 compares times with the last stored commit time. By 01's own question, which compares them with the last
-- one given, a run can answer the same read as of a time twice, and differently, with a cut between. 01's question is kept
-- here alone.
use Rattle.std.specs.Prelude.{ℕ, ◌≡◌, Bool, true, ◌&&◌, List, [], ◌∷◌, ◌++◌, length, leb}
use Rattle.store.specs.declared.Refusal.{Refusal}
use Rattle.store.specs.declared.Refusal.TheVariants.{Unfit, NotYet}
use Rattle.store.specs.declared.State.{State}
use Rattle.store.specs.Answer.{Outcome, ask}
use Rattle.store.specs.State.{fits}
use Rattle.store.specs.AsOf.{as_of_if}
use Rattle.runs.specs.Event.{Call, Event, opening, cut, call, begin, write, erase, current_read, commit, abort, as_of, changes, store_log, store_page, checkpoint, present, typed}
use Rattle.runs.specs.Machine.{World, down, up, Step, after, called, seen_of, step, allowed, formatted}
use Rattle.examples.specs.Words.{bytes, opened}
use Rattle.examples.specs.Table.{Shown, shown, Row, done, reads, tail}

-- ---- runs by 01's own question

-- 01: "state and buffers fit .. ? 16", "t (t2) not above the last commit time? 10": the last one given, stored or not
abbrev given_asks : State → List ℕ → List ℕ → ℕ → List (Bool × Refusal)
given_asks s m c t = (fits s (length m) (length c), Unfit) ∷ (leb t s.last.0, NotYet) ∷ []

-- the read as of t by this question
unfoldable pub given_as_of : State → List ℕ → List ℕ → ℕ → ℕ → Outcome
given_as_of s m c key t = as_of_if (ask (given_asks s m c t)) s m c key t

-- the calls, with this read
unfoldable pub given_called : List ℕ → List ℕ → State → Call → Outcome
given_called m c s (as_of key t) = given_as_of s m c key t
given_called m c s (begin k) = called m c s (begin k)
given_called m c s (write n key v) = called m c s (write n key v)
given_called m c s (erase n key) = called m c s (erase n key)
given_called m c s (current_read n key) = called m c s (current_read n key)
given_called m c s (commit n k u) = called m c s (commit n k u)
given_called m c s (abort n) = called m c s (abort n)
given_called m c s (changes key t1 t2 b) = called m c s (changes key t1 t2 b)
given_called m c s store_log = called m c s store_log
given_called m c s (store_page p) = called m c s (store_page p)
given_called m c s checkpoint = called m c s checkpoint

-- what events answer, and whether they are a run
pub record Given : Type 0 where
  pub answers : List Shown
  pub run : Bool

module _ (l d a : ℕ) where
  -- the room, with these calls
  unfoldable pub given_step : World → Event → Step
  given_step (down m) e = step l d a (down m) e
  given_step (up m c s) (opening y) = step l d a (up m c s) (opening y)
  given_step (up m c s) cut = step l d a (up m c s) cut
  given_step (up m c s) (call k) = record { world = after (given_called m c s k); seen = seen_of l m (given_called m c s k) [] }

  -- events in this room
  unfoldable pub given_ran : World → List Event → Given
  given_ran w [] = record { answers = []; run = true }
  given_ran w (e ∷ es) =
      let x = given_step w e in
      let r = given_ran x.world es in
      record { answers = shown x.seen ∷ r.answers; run = typed e && (allowed l d a w e && r.run) }

-- ---- a run that answers a read twice

-- a strip is committed at 10
abbrev pub printed : List Event
printed = opened 1 ∷ call (begin 10) ∷ call (write 1 7 (bytes 65)) ∷ call (commit 1 10 0) ∷ []

-- the power fails before the log is stored; then another strip is committed at 10, for no stored commit has that time
abbrev pub lost : List Event
lost = cut ∷ opened 1 ∷ call (begin 10) ∷ call (write 1 7 (bytes 66)) ∷ call (commit 1 10 0) ∷ []

-- the strip is read as of 10 after both
abbrev pub two_reads : List Event
two_reads = printed ++ (call (as_of 7 10) ∷ (lost ++ (call (as_of 7 10) ∷ [])))

-- by 01's question that is a run, and both reads are answered, 65 first and then 66
unfoldable pub Differ : Type 0
Differ = given_ran 2 1 0 (formatted 2 1 0) two_reads ≡ record {
  answers = done 0 ∷ done 1 ∷ done 0 ∷ done 10 ∷ reads (present (bytes 65))
      ∷ done 0 ∷ done 0 ∷ done 1 ∷ done 0 ∷ done 10 ∷ reads (present (bytes 66)) ∷ [];
  run = true;
}

-- ---- by the question of #102

-- neither of these reads is answered (`readUnstored` in Repeats). With the log stored before the first of them both are, and
-- alike, for the later commit gets a later time
abbrev pub survives : Row
survives = record {
  blocks = 2;
  pages = 1;
  area = 0;
  script = printed ++ (call store_log ∷ call (as_of 7 10)
      ∷ cut ∷ opened 1 ∷ call (begin 10) ∷ call (write 2 7 (bytes 66)) ∷ call (commit 2 10 0) ∷ call (as_of 7 10) ∷ []);
  answers = done 0 ∷ done 1 ∷ done 0 ∷ done 10 ∷ done 0 ∷ reads (present (bytes 65))
      ∷ done 0 ∷ done 10 ∷ done 2 ∷ done 1 ∷ done 11 ∷ reads (present (bytes 65)) ∷ [];
  tail = tail 1 116;
}
