-- The room as a machine: the medium, and while it is open the cache and the state. Each step is by the definitions of
-- the calls.
use Rattle.store.specs.declared.Refusal.{Refusal}
use Rattle.layout.specs.declared.CommitTime.{CommitTime}
use Rattle.std.specs.Prelude.{ℕ, zero, suc, ◌+◌, ◌*◌, Bool, true, false, not, ◌&&◌, List, [], ◌∷◌, Option, None, Some, Err, Ok, Result}
use Rattle.fields.specs.Part.{part}
use Rattle.fields.specs.Equal.{eq_list}
use Rattle.store.specs.declared.Answer.{Answer}
use Rattle.store.specs.declared.Answer.TheVariants.{Done, Begun, Written, Committed, Opened, Missing, Erased, Present, Listed}
use Rattle.store.specs.declared.Place.{Place}
use Rattle.store.specs.declared.State.{State}
use Rattle.store.specs.Answer.{Outcome, answer_number, answer_value}
use Rattle.store.specs.Places.{time_under}
use Rattle.store.specs.Chain.{cell_at, version_time}
use Rattle.store.specs.Format.{fresh_medium}
use Rattle.store.specs.Open.{open_of}
use Rattle.store.specs.Begin.{begin_of}
use Rattle.store.specs.Write.{write_of}
use Rattle.store.specs.Erase.{erase_of}
use Rattle.store.specs.CurrentRead.{current_of}
use Rattle.store.specs.Commit.{commit_of}
use Rattle.store.specs.Abort.{abort_of}
use Rattle.store.specs.AsOf.{as_of_of}
use Rattle.store.specs.Changes.{changes_of}
use Rattle.store.specs.StoreLog.{store_log_of}
use Rattle.store.specs.StorePage.{store_page_of}
use Rattle.store.specs.Checkpoint.{checkpoint_of}
use Rattle.runs.specs.Event.{Call, Event, opening, cut, call, begin, write, erase, current_read, commit, abort, as_of}
use Rattle.runs.specs.Event.{changes, store_log, store_page, checkpoint, Strip, missing, erased, present, Sight}
use Rattle.runs.specs.Event.{Observation, typed}

-- 01: "leaves the medium only": after formatting or a cut the medium; from an accepted opening on, cache and state too
pub data World : Type 0 where
  down : List ℕ → World  -- medium
  up : List ℕ → List ℕ → State → World  -- medium, cache, state

-- 01: "Each call gets the state, medium and cache that the call before it left": what an event leaves, and what is seen
pub record Step : Type 0 where
  pub world : World
  pub seen : Observation

-- 01: "leaves the medium only": the medium, whether the store is open or not
abbrev pub medium_of : World → List ℕ
medium_of (down m) = m
medium_of (up m c s) = m

-- 01: "none or erased are results": what a read's answer says
abbrev pub strip_of : Result Answer Refusal → List ℕ → Strip
strip_of (Err r) v = missing
strip_of (Ok Done) v = missing
strip_of (Ok (Begun n)) v = missing
strip_of (Ok (Written k)) v = missing
strip_of (Ok (Committed t)) v = missing
strip_of (Ok (Opened t)) v = missing
strip_of (Ok Missing) v = missing
strip_of (Ok Erased) v = erased
strip_of (Ok Present) v = present v
strip_of (Ok (Listed k)) v = missing

-- 01: "its time or none": a version's time, if it has one
abbrev pub time_in : Option CommitTime → Option ℕ
time_in (Some t) = Some t.0
time_in None = None

-- 01: "each with its row's record, kind and value, and its time or none": what stands in slot n
unfoldable pub sight_at : List ℕ → List Place → ℕ → Sight
sight_at c ps n = record {
  key = (cell_at c n).key;
  kind = (cell_at c n).kind;
  value = (cell_at c n).value;
  time = time_in (version_time (time_under ps) (cell_at c n).state);
}

-- 01: "as many used slots as version rows": what stands in the k slots from slot n on
unfoldable pub sights_from : List ℕ → List Place → ℕ → ℕ → List Sight
sights_from c ps n zero = []
sights_from c ps n (suc k) = sight_at c ps n ∷ sights_from c ps (n + 1) k

-- 01: "changed a log block on the medium": do the log blocks of m and n differ?
unfoldable pub log_changed : ℕ → List ℕ → List ℕ → Bool
log_changed l m n = not (eq_list (part m (512 * 3) (512 * l)) (part n (512 * 3) (512 * l)))

-- 01: "answers, and whether a write, erase or commit changed a log block": what is seen of an outcome
unfoldable pub seen_of : ℕ → List ℕ → Outcome → List Sight → Observation
seen_of l m o found = record {
  refusal = answer_number o.answer;
  result = answer_value o.answer;
  strip = strip_of o.answer o.value;
  changed = log_changed l m o.medium;
  buffer = o.buffer;
  found = found;
}

-- 01: "Each call gets the state, medium and cache": the outcome of a call on an open store
unfoldable pub called : List ℕ → List ℕ → State → Call → Outcome
called m c s (begin k) = begin_of s m c k
called m c s (write n key v) = write_of s m c n key v
called m c s (erase n key) = erase_of s m c n key
called m c s (current_read n key) = current_of s m c n key
called m c s (commit n k) = commit_of s m c n k
called m c s (abort n) = abort_of s m c n
called m c s (as_of key t) = as_of_of s m c key t
called m c s (changes key t1 t2 b) = changes_of s m c b key t1 t2
called m c s store_log = store_log_of s m c
called m c s (store_page p) = store_page_of s m c p
called m c s checkpoint = checkpoint_of s m c

-- 01: "Each call gets the state, medium and cache that the call before it left"
abbrev pub after : Outcome → World
after o = up o.medium o.cache o.state

-- 01: "if of wrong length, it is refused 2 and the run goes on as it stood": so with any refused opening
abbrev pub opened_to : Result Answer Refusal → World → Outcome → World
opened_to (Err r) w o = w
opened_to (Ok Done) w o = after o
opened_to (Ok (Begun n)) w o = after o
opened_to (Ok (Written k)) w o = after o
opened_to (Ok (Committed t)) w o = after o
opened_to (Ok (Opened t)) w o = after o
opened_to (Ok Missing) w o = after o
opened_to (Ok Erased) w o = after o
opened_to (Ok Present) w o = after o
opened_to (Ok (Listed k)) w o = after o

-- 01: "it falls between calls": what is seen of a cut, and of a call while the store is shut: the number r alone
unfoldable pub quiet : ℕ → Observation
quiet r = record { refusal = r; result = 0; strip = missing; changed = false; buffer = []; found = [] }

module _ (l d : ℕ) where
  -- 01: "An opening brings the formatting's sizes and any cache"
  unfoldable pub opens : World → Outcome → Step
  opens w o = record {
    world = opened_to o.answer w o;
    seen = seen_of l (medium_of w) o (sights_from o.cache o.state.places 0 o.state.slots);
  }

  -- 01: a cut "leaves the medium only"; while the store is shut a call finds no state, and none comes in a run
  unfoldable pub step : World → Event → Step
  step w (opening c) = opens w (open_of (medium_of w) c l d)
  step w cut = record { world = down (medium_of w); seen = quiet 0 }
  step (down m) (call k) = record { world = down m; seen = quiet 16 }
  step (up m c s) (call k) =
      record { world = after (called m c s k); seen = seen_of l m (called m c s k) [] }

  -- 01: "From formatting or a cut to an accepted opening, only openings and cuts come"
  abbrev pub allowed : World → Event → Bool
  allowed (down m) (opening c) = true
  allowed (down m) cut = true
  allowed (down m) (call k) = false
  allowed (up m c s) (opening d) = true
  allowed (up m c s) cut = true
  allowed (up m c s) (call k) = true

  -- 01: "A run starts", "only openings and cuts come": is the list of events a run from here on?
  unfoldable pub is_run : World → List Event → Bool
  is_run w [] = true
  is_run w (e ∷ es) = typed e && (allowed w e && is_run (step w e).world es)

  -- 01: "Each call gets .. that the call before it left": what is seen of the events, one after the other
  unfoldable pub trace : World → List Event → List Observation
  trace w [] = []
  trace w (e ∷ es) = (step w e).seen ∷ trace (step w e).world es

  -- 01: "A run starts on the medium just formatted"
  unfoldable pub formatted : World
  formatted = down (fresh_medium l d)
