-- The table of repeated reads holds: computed by the definitions, each shows what it should.
use native.Mathlib.Omega.{arith}
use mathlib.Core.Path.{◌≡◌, refl, sym, ap, ◌∙◌}
use mathlib.Core.List.{List, [], ◌∷◌}
use Rattle.store.specs.State.{in_range}
use Rattle.runs.specs.Event.{Observation}
use Rattle.examples.specs.Compute.{computed}
use Rattle.examples.specs.Repeats.{Repeat, Shows, Unlike, Told, read_unstored, read_lost, repeats}
use Rattle.examples.proofs.Reread.{shows, read_unstored_unlike, read_lost_unlike}

abbrev Each : List Repeat → Type 0
Each [] = Unit {0}
Each (c ∷ cs) = Told c × Each cs

-- the first read is refused, so it is not answered
told_by : (c : Repeat) → Shows c c.right → c.right.first.refusal ≡ 10 → Unlike c.wrong → Told c
told_by c s r u = record {
  shows = s;
  never = λ t.
      let e : c.right.first.refusal ≡ c.wrong.first.refusal =
      ap (λ (o : Observation). o.refusal) (sym s.first ∙ t.first) in
      omega (arith, u.answered);
  unlike = u;
}

read_unstored_told : Told read_unstored
unfolding computed in_range
read_unstored_told =
    told_by read_unstored (shows read_unstored read_unstored.right refl refl refl) refl read_unstored_unlike

read_lost_told : Told read_lost
unfolding computed in_range
read_lost_told = told_by read_lost (shows read_lost read_lost.right refl refl refl) refl read_lost_unlike

pub told : Each repeats
told = (read_unstored_told, (read_lost_told, tt))
