-- List of changes.
use Rattle.layout.specs.declared.CommitTime.{CommitTime}
use Rattle.std.specs.Prelude.{ℕ, zero, suc, ◌*◌, Bool, true, cond, not, ◌&&◌, List, [], ◌∷◌, ◌++◌, length, eqb, leb, ltb, Option, None, Some, Err, Ok}
use Rattle.fields.specs.Field.{enc}
use Rattle.fields.specs.Part.{splice}
use Rattle.fields.specs.Equal.{eq_list}
use Rattle.fields.specs.Block.{zeros}
use Rattle.fields.specs.Cells.{flat}
use Rattle.layout.specs.Slot.{Cell, key_form}
use Rattle.store.specs.declared.Refusal.{Refusal}
use Rattle.store.specs.declared.Refusal.TheVariants.{Unfit, NoRecord, NotYet, ShortBuffer}
use Rattle.store.specs.declared.Answer.TheVariants.{Listed}
use Rattle.store.specs.declared.State.{State}
use Rattle.store.specs.Answer.{Outcome, ask}
use Rattle.store.specs.Places.{time_under}
use Rattle.store.specs.State.{fits}
use Rattle.store.specs.Chain.{newest, cell_at, best_of}

-- 01: "listed in 32 bytes (time 8, kind 1, zeros 7, value 16)": what one line of the list says
pub record Line : Type 0 where
  pub time : ℕ
  pub kind : ℕ
  pub value : List ℕ

-- 01: "32 bytes (time 8, kind 1, zeros 7, value 16)"
unfoldable pub line_bytes : Line → List ℕ
line_bytes l = enc 8 l.time ++ (l.kind ∷ (zeros 7 ++ l.value))

-- 01: "its kind or value differs from the one before": two versions compared
unfoldable pub differs : Cell → Cell → Bool
differs a b = not (eqb a.kind b.kind && eq_list a.value b.value)

-- 01: "The first of all counts as different": slot n against the version before, if there is one
abbrev pub differs_from : List ℕ → ℕ → Option (ℕ × CommitTime) → Bool
differs_from c n None = true
differs_from c n (Some (r, u)) = differs (cell_at c n) (cell_at c r)

-- 01: "its last version under each commit time .. listed": the line of slot n under its time t
abbrev pub line_of : List ℕ → ℕ → ℕ → List Line
line_of c n t = record { time = t; kind = (cell_at c n).kind; value = (cell_at c n).value } ∷ []

module _ (c : List ℕ) (pair : ℕ → Option CommitTime) (head : Option ℕ) where
  -- 01: "the one before, in range or not": the last version under the greatest commit time below t
  unfoldable pub before : ℕ → Option (ℕ × CommitTime)
  before zero = None
  before (suc t) = best_of head c pair t

  -- 01: "its last version under each commit time, in time order, listed .. if its time is in range and its kind or
  -- value differs from the one before, in range or not": the last version found, behind the lines below its time
  abbrev pub lines_at : (ℕ → List Line) → ℕ → Option (ℕ × CommitTime) → List Line
  lines_at rest t1 None = []
  lines_at rest t1 (Some (n, u)) =
      cond (ltb u.0 t1) [] (rest u.0 ++ cond (differs_from c n (before u.0)) (line_of c n u.0) [])

  -- 01: "in time order .. if its time is in range": the lines from t1 on with times below t; k bounds the steps
  unfoldable pub lines_below : ℕ → ℕ → ℕ → List Line
  lines_below t1 zero t = []
  lines_below t1 (suc k) t = lines_at (lines_below t1 k) t1 (before t)

-- 01: "Changes of a record from t1 to t2": its lines, found from its newest version
unfoldable pub change_lines : State → List ℕ → ℕ → ℕ → ℕ → List Line
change_lines s c key t1 t2 = lines_below c (time_under s.places) (newest c key s.slots) t1 (suc (suc t2)) (suc t2)

-- 01: "state and buffers fit .. ? 16", "t (t2) not above the last commit time? 10", "answer buffer at least 32 bytes
-- per line listed? 14"; 02, #102: "compare their time with the last stored commit time"; 02, #104: "18, is the record number
-- below 1,024? It comes .. before 10"
abbrev pub changes_asks : State → List ℕ → List ℕ → ℕ → ℕ → ℕ → ℕ → List (Bool × Refusal)
changes_asks s m c key t1 t2 room =
    (fits s (length m) (length c), Unfit)
    ∷ (key_form key, NoRecord)
    ∷ (leb t2 s.saved.0, NotYet)
    ∷ (leb (32 * length (change_lines s c key t1 t2)) room, ShortBuffer)
    ∷ []

-- 01: "The answer is the number of lines", "bytes after the list stay unchanged"
unfoldable pub changes_if : Option Refusal → State → List ℕ → List ℕ → List ℕ → List Line → Outcome
changes_if (Some r) s m c b ls =
    record { answer = Err r; value = zeros 16; state = s; medium = m; cache = c; buffer = b }
changes_if None s m c b ls =
    record { answer = Ok (Listed (length ls)); value = zeros 16; state = s; medium = m; cache = c; buffer = splice b 0 (flat line_bytes ls) }

-- 01: "In this order, those that fit the call": the outcome of a list of changes, its first "no" or its lines
unfoldable pub changes_of : State → List ℕ → List ℕ → List ℕ → ℕ → ℕ → ℕ → Outcome
changes_of s m c b key t1 t2 =
    changes_if (ask (changes_asks s m c key t1 t2 (length b))) s m c b (change_lines s c key t1 t2)
