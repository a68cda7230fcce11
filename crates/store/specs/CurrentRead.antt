-- Current read.
use Rattle.std.specs.Prelude.{ℕ, Bool, cond, not, List, [], ◌∷◌, length, eqb, Option, None, Some, Ok, Result}
use Rattle.fields.specs.Block.{zeros}
use Rattle.layout.specs.Slot.{Cell, key_form}
use Rattle.store.specs.declared.Refusal.{Refusal}
use Rattle.store.specs.declared.Refusal.TheVariants.{Unfit, NoRecord, NotActive, Held}
use Rattle.store.specs.declared.Answer.{Answer}
use Rattle.store.specs.declared.Answer.TheVariants.{Missing, Erased, Present}
use Rattle.store.specs.declared.State.{State}
use Rattle.store.specs.Answer.{Outcome, refuses, ask}
use Rattle.store.specs.Places.{is_at, find_active, time_under}
use Rattle.store.specs.State.{fits}
use Rattle.store.specs.Chain.{newest, held, cell_at, visible_of}

-- 01: "state and buffers fit .. ? 16", "number active? 5", "not held by another? 6"; 02, #104: "18, is the record number below
-- 1,024? It comes before 5"
abbrev pub current_asks : State → List ℕ → List ℕ → ℕ → ℕ → List (Bool × Refusal)
current_asks s m c n key =
    (fits s (length m) (length c), Unfit)
    ∷ (key_form key, NoRecord)
    ∷ (is_at (find_active s.places n), NotActive)
    ∷ (not (held c s.places s.slots key n), Held)
    ∷ []

-- 01: "fixes result, state, medium and cache": a read's answer and the value beside it; the other three stay
abbrev pub reads : Result Answer Refusal → List ℕ → State → List ℕ → List ℕ → Outcome
reads a value s m c = record { answer = a; value = value; state = s; medium = m; cache = c; buffer = [] }

-- 01: "none or erased are results": what a version says
unfoldable pub read_cell : Cell → State → List ℕ → List ℕ → Outcome
read_cell v s m c = cond (eqb v.kind 1) (reads (Ok Erased) (zeros 16) s m c) (reads (Ok Present) v.value s m c)

-- 01: "none or erased are results": what the version found says, or missing
abbrev pub current_at : Option ℕ → State → List ℕ → List ℕ → Outcome
current_at None s m c = reads (Ok Missing) (zeros 16) s m c
current_at (Some i) s m c = read_cell (cell_at c i) s m c

-- 01: "on "no", this number with zeros": refused, or the search from the record's newest version
unfoldable pub current_if : Option Refusal → State → List ℕ → List ℕ → ℕ → ℕ → Outcome
current_if (Some r) s m c n key = refuses r s m c
current_if None s m c n key = current_at (visible_of (newest c key s.slots) c (time_under s.places) n) s m c

-- 01: "In this order, those that fit the call": a current read's outcome, its first "no" or its step
unfoldable pub current_of : State → List ℕ → List ℕ → ℕ → ℕ → Outcome
current_of s m c n key = current_if (ask (current_asks s m c n key)) s m c n key
