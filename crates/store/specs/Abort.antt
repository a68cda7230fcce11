-- Abort.
use Rattle.std.specs.Prelude.{ℕ, Bool, List, [], ◌∷◌, length, Option, None, Some, Ok}
use Rattle.store.specs.declared.Refusal.{Refusal}
use Rattle.store.specs.declared.Refusal.TheVariants.{Unfit, NotActive}
use Rattle.store.specs.declared.Answer.TheVariants.{Done}
use Rattle.store.specs.declared.State.{State}
use Rattle.store.specs.Answer.{Outcome, leaves, refuses, ask}
use Rattle.store.specs.Places.{is_at, find_active, free_place}
use Rattle.store.specs.State.{fits, with_place}

-- 01: "state and buffers fit .. ? 16", "number active? 5"
abbrev pub abort_asks : State → List ℕ → List ℕ → ℕ → List (Bool × Refusal)
abort_asks s m c n = (fits s (length m) (length c), Unfit) ∷ (is_at (find_active s.places n), NotActive) ∷ []

-- 01: "Abort writes nothing": the place is free, and the versions wait under a number that is not live
abbrev pub abort_at : Option ℕ → State → List ℕ → List ℕ → Outcome
abort_at None s m c = refuses NotActive s m c
abort_at (Some i) s m c = leaves (Ok Done) (with_place s i free_place) m c

-- 01: "on "no", this number with zeros": abort refused, or done at the number's place
unfoldable pub abort_if : Option Refusal → State → List ℕ → List ℕ → ℕ → Outcome
abort_if (Some r) s m c n = refuses r s m c
abort_if None s m c n = abort_at (find_active s.places n) s m c

-- 01: "In this order, those that fit the call": abort's outcome, its first "no" or its step
unfoldable pub abort_of : State → List ℕ → List ℕ → ℕ → Outcome
abort_of s m c n = abort_if (ask (abort_asks s m c n)) s m c n
