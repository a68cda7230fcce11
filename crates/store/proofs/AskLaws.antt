-- The questions put to a call: none refused just if every answer is "yes", by induction on the list of questions.
use Rattle.std.specs.Prelude.{None}
use Prim.Native.Nat.{ℕ}
use native.Mathlib.Omega.{arith}
use mathlib.Core.Path.{◌≡◌, refl}
use mathlib.Core.Bool.{Bool, true, false}
use mathlib.Core.List.{List, [], ◌∷◌}
use Rattle.store.specs.declared.Refusal.{Refusal}
use Rattle.store.specs.Answer.{ask}

abbrev pub Passed : List (Bool × Refusal) → Type 0
Passed [] = Unit {0}
Passed (q ∷ qs) = (q.0 ≡ true) × Passed qs

pub passed : (qs : List (Bool × Refusal)) → ask qs ≡ None → Passed qs
passed [] e = tt
passed ((true, r) ∷ qs) e = (refl, passed qs e)
passed ((false, r) ∷ qs) e = let z : ◌≡◌ {A = ℕ} 0 1 = cc in absurd (omega arith)

pub passes : (qs : List (Bool × Refusal)) → Passed qs → ask qs ≡ None
passes [] p = refl
passes (q ∷ qs) p = rw p.0 (passes qs p.1)
