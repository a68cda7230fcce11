-- Read as of a time.
use Rattle.layout.specs.declared.CommitTime.{CommitTime}
use Rattle.std.specs.Prelude.{ℕ, Bool, List, [], ◌∷◌, length, leb, Option, None, Some, Ok}
use Rattle.fields.specs.Block.{zeros}
use Rattle.layout.specs.Slot.{key_form}
use Rattle.store.specs.declared.Refusal.{Refusal}
use Rattle.store.specs.declared.Refusal.TheVariants.{Unfit, NoRecord, NotYet}
use Rattle.store.specs.declared.Answer.TheVariants.{Missing}
use Rattle.store.specs.declared.State.{State}
use Rattle.store.specs.Answer.{Outcome, refuses, ask}
use Rattle.store.specs.Places.{time_under}
use Rattle.store.specs.State.{fits}
use Rattle.store.specs.Chain.{newest, cell_at, best_of}
use Rattle.store.specs.CurrentRead.{reads, read_cell}

-- 01: "state and buffers fit .. ? 16", "t (t2) not above the last commit time? 10"; 02, #102: "compare their time with the
-- last stored commit time"; 02, #104: "18, is the record number below 1,024? It comes .. before 10"
abbrev pub as_of_asks : State → List ℕ → List ℕ → ℕ → ℕ → List (Bool × Refusal)
as_of_asks s m c key t =
    (fits s (length m) (length c), Unfit) ∷ (key_form key, NoRecord) ∷ (leb t s.saved.0, NotYet) ∷ []

-- 01: "As of t: the committed version .. none or erased are results": what the version found says, or missing
abbrev pub as_of_at : Option (ℕ × CommitTime) → State → List ℕ → List ℕ → Outcome
as_of_at None s m c = reads (Ok Missing) (zeros 16) s m c
as_of_at (Some (n, t)) s m c = read_cell (cell_at c n) s m c

-- 01: "on "no", this number with zeros": refused, or the search from the record's newest version
unfoldable pub as_of_if : Option Refusal → State → List ℕ → List ℕ → ℕ → ℕ → Outcome
as_of_if (Some r) s m c key t = refuses r s m c
as_of_if None s m c key t = as_of_at (best_of (newest c key s.slots) c (time_under s.places) t) s m c

-- 01: "In this order, those that fit the call": the outcome of a read as of t, its first "no" or its step
unfoldable pub as_of_of : State → List ℕ → List ℕ → ℕ → ℕ → Outcome
as_of_of s m c key t = as_of_if (ask (as_of_asks s m c key t)) s m c key t
