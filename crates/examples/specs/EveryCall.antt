-- One run in which every call is made and accepted and every kind of answer comes: demand 3 says something of each.
use Rattle.std.specs.Prelude.{ℕ, ◌≡◌, Bool, true, ◌&&◌, List, [], ◌∷◌, ◌++◌, map, replicate, eqb, Some}
use Rattle.runs.specs.Event.{Event, cut, call, begin, write, erase, current_read, commit, abort, as_of, changes}
use Rattle.runs.specs.Event.{store_log, store_page, checkpoint, missing, erased, present, Observation}
use Rattle.runs.specs.Moments.{Run, trace_at}
use Rattle.examples.specs.Words.{bytes, opened, answers, stores, reads, lists, finds, at, waits}

-- an event, and what is seen of it
pub record Line : Type 0 where
  pub event : Event
  pub seen : Observation

abbrev line : Event → Observation → Line
line e o = record { event = e; seen = o }

-- n in a field of 8 bytes, for n below 256
abbrev field : ℕ → List ℕ
field n = n ∷ replicate 7 0

-- 01: "time 8, kind 1, zeros 7, value 16": record 7 has a value from time 10 on, and is erased at 11; a byte of the
-- buffer stays behind the two lines
abbrev changed : List ℕ
changed = (field 10 ++ (field 0 ++ bytes 65)) ++ ((field 11 ++ (field 1 ++ bytes 0)) ++ (255 ∷ []))

-- two log blocks and one page
abbrev pub lines : List Line
lines =
    line (opened 1) (finds 0 [])
    ∷ line (call (begin 10)) (answers 1)
    ∷ line (call (current_read 1 7)) (reads missing)
    ∷ line (call (write 1 7 (bytes 65))) (answers 0)
    ∷ line (call (current_read 1 7)) (reads (present (bytes 65)))
    ∷ line (call (commit 1 5)) (answers 10)
    ∷ line (call (begin 3)) (answers 2)
    ∷ line (call (erase 2 7)) (answers 1)
    ∷ line (call (current_read 2 7)) (reads erased)
    ∷ line (call (commit 2 3)) (answers 11)
    -- a transaction without versions
    ∷ line (call (begin 3)) (answers 3)
    ∷ line (call (commit 3 3)) (answers 0)
    -- the times given can be read once they are stored
    ∷ line (call store_log) (stores 0)
    ∷ line (call (as_of 7 9)) (reads missing)
    ∷ line (call (as_of 7 10)) (reads (present (bytes 65)))
    ∷ line (call (as_of 7 11)) (reads erased)
    ∷ line (call (changes 7 1 11 (replicate 65 255))) (lists 2 changed)
    ∷ line (call (store_page 0)) (answers 0)
    ∷ line (call checkpoint) (answers 0)
    ∷ line (call checkpoint) (answers 0)
    ∷ line (call checkpoint) (answers 0)
    ∷ line (call (begin 3)) (answers 4)
    ∷ line (call (write 4 8 (bytes 66))) (answers 2)
    ∷ line (call (abort 4)) (answers 0)
    ∷ line (call store_log) (stores 0)
    ∷ line cut (answers 0)
    -- a value and an erasure with their times, and a version that has none
    ∷ line (opened 1)
    (finds 11 (at 10 7 65 ∷ record { key = 7; kind = 1; value = bytes 0; time = Some 11 } ∷ waits 8 66 ∷ []))
    ∷ []

abbrev pub events : List Event
events = map (λ (x : Line). x.event) lines

abbrev pub answered : List Observation
answered = map (λ (x : Line). x.seen) lines

-- are all of them accepted?
unfoldable pub all_accepted : List Observation → Bool
all_accepted [] = true
all_accepted (o ∷ os) = eqb o.refusal 0 && all_accepted os

-- the events are a run, in which this is seen, with no refusal
pub record Occurs : Type 0 where
  pub run : Run 2 1 events
  pub seen : trace_at 2 1 [] events ≡ answered
  pub accepted : all_accepted answered ≡ true
