-- What a line of `replay` does to the room, and what it prints.
use Rattle.std.specs.Prelude.{ℕ, Bool, true, false, cond, List, [], ◌++◌, set, replicate, eqb, leb, Ok}
use Rattle.fields.specs.Block.{zeros, medium_length, cache_length}
use Rattle.store.specs.declared.Answer.TheVariants.{Done}
use Rattle.store.specs.declared.State.{State}
use Rattle.store.specs.Answer.{Outcome, answer_number, leaves}
use Rattle.store.specs.State.{in_range}
use Rattle.store.specs.Format.{Formatted, format_of}
use Rattle.store.specs.Open.{open_of}
use Rattle.store.specs.Begin.{begin_of}
use Rattle.store.specs.Write.{write_of}
use Rattle.store.specs.Erase.{erase_of}
use Rattle.store.specs.CurrentRead.{current_of}
use Rattle.store.specs.Commit.{commit_of}
use Rattle.store.specs.Abort.{abort_of}
use Rattle.store.specs.AsOf.{as_of_of}
use Rattle.store.specs.Changes.{changes_of}
use Rattle.store.specs.StoreLog.{store_log_of}
use Rattle.store.specs.StorePage.{store_page_of}
use Rattle.store.specs.Checkpoint.{checkpoint_of}
use Rattle.handover.specs.declared.Transfer.{Transfer}
use Rattle.handover.specs.Hand.{HandOutcome, hand_of}
use Rattle.script.specs.declared.call.Call.{Call}
use Rattle.script.specs.declared.call.Call.TheVariants.{Format, Open, OpenSized, Cut, Begin, Write, Erase, Read, Commit}
use Rattle.script.specs.declared.call.Call.TheVariants.{Abort, Hand, AsOf, Changes, StoreLog, StorePage, Checkpoint}
use Rattle.script.specs.declared.call.Call.TheVariants.{Block, Page, Poke, Other}
use Rattle.script.specs.declared.call.Asked.{Asked}
use Rattle.rooms.specs.declared.plan.Plan.{Plan}
use Rattle.answers.specs.Text.{answer_text, handed_text, list_text, shown_text}

-- replay: "there is no medium", "After `F` or `X`, until an accepted `O`": no medium; a medium with its sizes L and D,
-- shut; and opened, with a cache and a state
pub data Room : Type 0 where
  gone : Room
  shut : ℕ → ℕ → List ℕ → Room  -- L, D, medium
  ready : ℕ → ℕ → List ℕ → List ℕ → State → Room  -- L, D, medium, cache, state

-- replay: "the sizes of the last accepted `F`": L
abbrev pub blocks_in : Room → ℕ
blocks_in gone = 0
blocks_in (shut l d m) = l
blocks_in (ready l d m c s) = l

-- replay: "the sizes of the last accepted `F`": D
abbrev pub pages_in : Room → ℕ
pages_in gone = 0
pages_in (shut l d m) = d
pages_in (ready l d m c s) = d

-- replay: "that block of the medium"
abbrev pub medium_in : Room → List ℕ
medium_in gone = []
medium_in (shut l d m) = m
medium_in (ready l d m c s) = m

-- replay: "that cached page; closed ..: `V -`"
abbrev pub cache_in : Room → List ℕ
cache_in gone = []
cache_in (shut l d m) = []
cache_in (ready l d m c s) = c

-- replay: "any other line but `F`", "the only calls are `O`, `o`, `X`, `F` (and `M`, `V`, `Z`)": 1 without a medium, 2
-- with one, 3 with one that is opened
abbrev pub stage_in : Room → ℕ
stage_in gone = 1
stage_in (shut l d m) = 2
stage_in (ready l d m c s) = 3

-- replay, `o bytes` and `L`: "at most 40000": no line asks for more, and no stage plays a call that would
unfoldable pub within_buffer : ℕ → ℕ → ℕ
within_buffer bytes stage = cond (leb bytes 40000) stage 4

abbrev plan : ℕ → ℕ → Bool → Plan
plan letter stage looks = record { letter = letter; stage = stage; looks = looks }

-- replay, the table: a line's letter, the stage from which on it is played, and whether it leaves the room as it is
unfoldable pub plan_of : Call → Plan
plan_of (Format l d) = plan 70 1 false
plan_of (Open byte) = plan 79 2 false
plan_of (OpenSized bytes) = plan 111 (within_buffer bytes 2) false
plan_of Cut = plan 88 2 false
plan_of (Begin clock) = plan 66 3 false
plan_of (Write number key) = plan 87 3 false
plan_of (Erase number key) = plan 69 3 false
plan_of (Read number key) = plan 82 3 true
plan_of (Commit number clock) = plan 67 3 false
plan_of (Abort number) = plan 65 3 false
plan_of (Hand flight from to began ended) = plan 72 3 false
plan_of (AsOf key time) = plan 81 3 true
plan_of (Changes key t1 t2 bytes) = plan 76 (within_buffer bytes 3) true
plan_of StoreLog = plan 83 3 false
plan_of (StorePage page) = plan 80 3 false
plan_of Checkpoint = plan 75 3 false
plan_of (Block block) = plan 77 2 true
plan_of (Page page) = plan 86 2 true
plan_of (Poke offset byte) = plan 90 2 false
plan_of Other = plan 0 4 false

-- replay: "The first line of another form ends the run", "any other line ends the run": is the line played?
unfoldable pub plays : Call → Room → Bool
plays call r = leb (plan_of call).stage (stage_in r)

-- replay, the columns "call" and "prints": what a line leaves, and what it prints
pub record Turn : Type 0 where
  pub room : Room
  pub text : List ℕ

-- replay, `F L D`: "format a fresh medium with these sizes": its length; out of range there is none
unfoldable pub fresh_length : ℕ → ℕ → ℕ
fresh_length l d = cond (in_range l d) (medium_length l d) 0

-- replay, `F L D`: "drops state and cache", "after a refusal, there is no medium"
unfoldable pub formatted : ℕ → ℕ → Formatted → Turn
formatted l d f = record {
  room = cond (eqb (answer_number f.answer) 0) (shut l d f.medium) gone;
  text = answer_text 70 f.answer (zeros 16);
}

-- replay, `O byte`: "a cache of right length"; D is at most 64 in an accepted `F`
unfoldable pub right_length : ℕ → ℕ
right_length d = cond (leb d 64) (cache_length d) 0

-- replay: "until an accepted `O`": a refused one leaves the room as it is
unfoldable pub opened : ℕ → Room → Outcome → Turn
opened letter r o = record {
  room = cond (eqb (answer_number o.answer) 0) (ready (blocks_in r) (pages_in r) o.medium o.cache o.state) r;
  text = answer_text letter o.answer (zeros 16);
}

-- replay, `O byte`, `o bytes`: "open with the sizes of the last accepted `F`" and this cache
unfoldable pub opening : ℕ → Room → List ℕ → Turn
opening letter r given = opened letter r (open_of (medium_in r) given (blocks_in r) (pages_in r))

-- replay, `X`: "a power cut: state and cache are lost"
unfoldable pub cut : Room → Room
cut gone = gone
cut (shut l d m) = shut l d m
cut (ready l d m c s) = shut l d m

-- replay, `Z offset hexbyte`: "puts one byte (two hex digits) into the medium; out of range: nothing"
unfoldable pub poked : Room → ℕ → ℕ → Room
poked gone at byte = gone
poked (shut l d m) at byte = shut l d (set m at byte)
poked (ready l d m c s) at byte = ready l d (set m at byte) c s

-- replay: "begin", "write", "erase", "current read", "commit", "abort", "read as of", "list of changes into an answer
-- buffer of that many bytes .., filled with 170 before", "store log", "store page", "checkpoint call"; v is a write's
-- value
unfoldable pub outcome_of : Call → List ℕ → State → List ℕ → List ℕ → Outcome
outcome_of (Format l d) v s m c = leaves (Ok Done) s m c
outcome_of (Open byte) v s m c = leaves (Ok Done) s m c
outcome_of (OpenSized bytes) v s m c = leaves (Ok Done) s m c
outcome_of Cut v s m c = leaves (Ok Done) s m c
outcome_of (Begin clock) v s m c = begin_of s m c clock
outcome_of (Write number key) v s m c = write_of s m c number key v
outcome_of (Erase number key) v s m c = erase_of s m c number key
outcome_of (Read number key) v s m c = current_of s m c number key
outcome_of (Commit number clock) v s m c = commit_of s m c number clock
outcome_of (Abort number) v s m c = abort_of s m c number
outcome_of (Hand flight from to began ended) v s m c = leaves (Ok Done) s m c
outcome_of (AsOf key time) v s m c = as_of_of s m c key time
outcome_of (Changes key t1 t2 bytes) v s m c = changes_of s m c (replicate bytes 170) key t1 t2
outcome_of StoreLog v s m c = store_log_of s m c
outcome_of (StorePage page) v s m c = store_page_of s m c page
outcome_of Checkpoint v s m c = checkpoint_of s m c
outcome_of (Block block) v s m c = leaves (Ok Done) s m c
outcome_of (Page page) v s m c = leaves (Ok Done) s m c
outcome_of (Poke offset byte) v s m c = leaves (Ok Done) s m c
outcome_of Other v s m c = leaves (Ok Done) s m c

-- replay: "Every accepted-form line prints exactly one line, except `L`"
unfoldable pub called : ℕ → ℕ → ℕ → Outcome → Turn
called letter l d o = record {
  room = ready l d o.medium o.cache o.state;
  text = answer_text letter o.answer o.value ++ cond (eqb letter 76) (list_text o.answer o.buffer) [];
}

-- replay: "any other line ends the run": the same on a room; one that is not opened stays, for it does not play the
-- line
unfoldable pub calling : Call → List ℕ → Room → Turn
calling call v gone = record { room = gone; text = [] }
calling call v (shut l d m) = record { room = shut l d m; text = [] }
calling call v (ready l d m c s) = called (plan_of call).letter l d (outcome_of call v s m c)

-- replay, `H`: "`H 0 time` or `H n -`": a handover leaves an opened room, and prints its answer
unfoldable pub handed : ℕ → ℕ → HandOutcome → Turn
handed l d o = record { room = ready l d o.medium o.cache o.state; text = handed_text o.answer }

-- replay, `H`: "hand the flight over from one sector to the other": on a room; one that is not opened stays, for it
-- does not play the line
unfoldable pub handing : Transfer → Room → Turn
handing h gone = record { room = gone; text = [] }
handing h (shut l d m) = record { room = shut l d m; text = [] }
handing h (ready l d m c s) = handed l d (hand_of s m c h)

-- replay, `M` and `V`: "(no call)"
abbrev pub stays : Room → List ℕ → Turn
stays r text = record { room = r; text = text }

-- replay: "`X 0 0`", "`Z 0 0`"
abbrev pub moves : ℕ → Room → Turn
moves letter r = record { room = r; text = answer_text letter (Ok Done) (zeros 16) }

-- replay, the table: what a line leaves and prints where it is played
unfoldable pub turn_by : Call → List ℕ → Room → Turn
turn_by (Format l d) v r = formatted l d (format_of (zeros (fresh_length l d)) l d)
turn_by (Open byte) v r = opening 79 r (replicate (right_length (pages_in r)) byte)
turn_by (OpenSized bytes) v r = opening 111 r (zeros bytes)
turn_by Cut v r = moves 88 (cut r)
turn_by (Begin clock) v r = calling (Begin clock) v r
turn_by (Write number key) v r = calling (Write number key) v r
turn_by (Erase number key) v r = calling (Erase number key) v r
turn_by (Read number key) v r = calling (Read number key) v r
turn_by (Commit number clock) v r = calling (Commit number clock) v r
turn_by (Abort number) v r = calling (Abort number) v r
turn_by (Hand flight from to began ended) v r =
    handing (record { flight = flight; from = from; to = to; began = began; ended = ended }) r
turn_by (AsOf key time) v r = calling (AsOf key time) v r
turn_by (Changes key t1 t2 bytes) v r = calling (Changes key t1 t2 bytes) v r
turn_by StoreLog v r = calling StoreLog v r
turn_by (StorePage page) v r = calling (StorePage page) v r
turn_by Checkpoint v r = calling Checkpoint v r
turn_by (Block block) v r = stays r (shown_text 77 (medium_in r) block)
turn_by (Page page) v r = stays r (shown_text 86 (cache_in r) page)
turn_by (Poke offset byte) v r = moves 90 (poked r offset byte)
turn_by Other v r = stays r []

-- replay, the table: a line with the value beside its call
unfoldable pub turn_of : Asked → Room → Turn
turn_of a r = turn_by a.call a.value r
