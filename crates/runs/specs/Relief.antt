-- Out of a full log: the claims of request #114, for a store without lines of users (A = 0). After a refusal 8 a short
-- list of stores and checkpoint calls makes room in the log, and asking which call comes next gives this list.
use Rattle.std.specs.Prelude.{ℕ, zero, suc, ◌+◌, ◌-◌, ◌^◌, ◌≤◌, ◌<◌, ◌≡◌, ◌⊎◌, Bool, true, not, cond, List, [], ◌∷◌}
use Rattle.std.specs.Prelude.{◌++◌, length, eqb, Option, Some, None}
use Rattle.fields.specs.Block.{put}
use Rattle.layout.specs.Journal.{sequence_of}
use Rattle.store.specs.declared.Phase.{Phase}
use Rattle.store.specs.declared.Phase.TheVariants.{Idle, FirstStored, SecondStored}
use Rattle.store.specs.declared.Relief.{Relief}
use Rattle.store.specs.declared.Relief.TheVariants.{StoreLog, StorePage, Checkpoint}
use Rattle.store.specs.Relief.{relief_of}
use Rattle.runs.specs.Event.{Call, Event, call, store_log, store_page, checkpoint, Observation}
use Rattle.runs.specs.Machine.{World, up, down, medium_of, step, is_run, trace, formatted}
use Rattle.runs.specs.Moments.{Run, world_after, seen_at}

-- ---- the list of calls

-- 02, #114: "finish a checkpoint under way": those of its three calls that are left
abbrev pub left_of : Phase → List Event
left_of Idle = []
left_of (FirstStored o t) = call checkpoint ∷ call checkpoint ∷ []
left_of (SecondStored o t) = call checkpoint ∷ []

-- 02, #114: "finish a checkpoint under way": in a running store
abbrev pub left : World → List Event
left (down m) = []
left (up m c s) = left_of s.phase

-- 02, #114: "make one more": 01: "A checkpoint is three calls"
abbrev pub one_more : List Event
one_more = call checkpoint ∷ call checkpoint ∷ call checkpoint ∷ []

-- 02, #114: "each page": the stores of the k pages from page p on
unfoldable pub pages_from : ℕ → ℕ → List Call
pages_from p zero = []
pages_from p (suc k) = store_page p ∷ pages_from (p + 1) k

module _ (l d : ℕ) where
  -- 02, #114: "if it differs", "that differs": 01's "would a byte on the medium change? 13" is not answered "no"
  unfoldable pub differs : World → Call → Bool
  differs w k = not (eqb (step l d w (call k)).seen.refusal 13)

  -- 02, #114: "store the log if it differs, each page that differs": of these stores those that differ, each judged
  -- when those before it are done
  unfoldable pub differing : World → List Call → List Event
  differing w [] = []
  differing w (k ∷ ks) = cond (differs w k) (call k ∷ differing (step l d w (call k)).world ks) (differing w ks)

  -- 02, #114: "store the log if it differs, each page that differs, finish a checkpoint under way, and make one more"
  unfoldable pub relief : World → List Event
  relief w = differing w (store_log ∷ pages_from 0 d) ++ (left w ++ one_more)

-- ---- the calls that a room's program is told

-- 02, #114: "store the log .., each page .., a checkpoint": the call that is named, if one is left
abbrev pub named : Option Relief → List Event
named (Some StoreLog) = call store_log ∷ []
named (Some (StorePage p)) = call (store_page p) ∷ []
named (Some Checkpoint) = call checkpoint ∷ []
named None = []

-- 02, #114: "store the log .., each page .., a checkpoint": the call that comes next in a running store, if one is left
unfoldable pub next_in : World → List Event
next_in (down m) = []
next_in (up m c s) = named (relief_of s m c)

-- 02, #114: "store the log .., each page .., a checkpoint": the calls of a program that asks n times, and makes the
-- call that it is told before it asks again
unfoldable pub asking : ℕ → ℕ → ℕ → World → List Event
asking l d zero w = []
asking l d (suc n) w = next_in w ++ asking l d n (world_after l d w (next_in w))

-- ---- what they lead to

-- 01: "Where not refused": none of these was
abbrev pub AllAccepted : List Observation → Type 0
AllAccepted [] = Unit {0}
AllAccepted (o ∷ os) = (o.refusal ≡ 0) × AllAccepted os

-- 01: "A store replaces one block": what an event that makes at most one store makes of the medium m. It leaves it
-- alone, or replaces one block of 512 bytes.
pub data OneStore (m : List ℕ) : List ℕ → Type 0 where
  alone : OneStore m m
  replaced : (k : ℕ) (block : List ℕ) → length block ≡ 512 → OneStore m (put m k block)

-- 01: "Each call but formatting makes at most one store": so with each of these events, from w on
abbrev pub OneEach : ℕ → ℕ → World → List Event → Type 0
OneEach l d w [] = Unit {0}
OneEach l d w (e ∷ es) =
    OneStore (medium_of w) (medium_of (step l d w e).world) × OneEach l d (step l d w e).world es

-- 02, #114: "The same call is then not refused 8. This takes at most 1 + D + 5 stores where A = 0": what the calls es
-- do from w on, where k was refused 8. There are at most 1 + D + 5 of them, and each makes at most one store.
pub record Frees (l d : ℕ) (w : World) (k : Call) (es : List Event) : Type 0 where
  pub goes_on : is_run l d w (es ++ (call k ∷ [])) ≡ true  -- the run may go on so
  pub accepted : AllAccepted (trace l d w es)
  pub few : length es ≤ 1 + d + 5
  pub one_each : OneEach l d w es
  pub again : (step l d (world_after l d w es) (call k)).seen.refusal ≡ 0  -- not refused 8, nor otherwise

-- 02, #114: "the tail .. sequence": in a running store
abbrev pub tail_in : World → ℕ
tail_in (down m) = 0
tail_in (up m c s) = sequence_of s.tail

-- 02, #114: "In a run, after an 8 with the tail below sequence 2^48 - 1 and no other call between": the run's last
-- event is the call k, refused 8, and w is what it leaves
pub record Full (l d : ℕ) (es : List Event) (k : Call) (w : World) : Type 0 where
  pub run : Run l d (es ++ (call k ∷ []))
  pub full : (seen_at l d es (call k)).refusal ≡ 8
  pub leaves : world_after l d (formatted l d) (es ++ (call k ∷ [])) ≡ w
  pub below : tail_in w < 2 ^ 48 - 1

-- 02, #114: "store the log if it differs, each page that differs, finish a checkpoint under way, and make one more. The
-- same call is then not refused 8."
unfoldable pub OutOfFull : Type 0
OutOfFull = (l d : ℕ) (es : List Event) (k : Call) (w : World) → Full l d es k w → Frees l d w k (relief l d w)

-- 02, #114: "store the log .. and make one more": the calls of a program that asks 1 + D + 5 times. They are the list,
-- or, where the checkpoint under way has made the tail the oldest block, the list without one more.
pub record Told (l d : ℕ) (w : World) (k : Call) (es : List Event) : Type 0 where
  pub list : (es ≡ relief l d w) ⊎ (es ++ one_more ≡ relief l d w)
  pub ends : next_in (world_after l d w es) ≡ []  -- nothing is left
  pub frees : Frees l d w k es

-- 02, #114: "after an 8 .. The same call is then not refused 8": so it is after asking
unfoldable pub ByAsking : Type 0
ByAsking =
    (l d : ℕ) (es : List Event) (k : Call) (w : World) → Full l d es k w → Told l d w k (asking l d (1 + d + 5) w)
