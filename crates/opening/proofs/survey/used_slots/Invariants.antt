-- Each turn counts one page.
use mathlib.Core.Path.{◌≡◌}
use Prim.Native.Nat.{◌*◌, ◌≤◌}
use Rattle.store.specs.OpenRedo.{used_in}
use Rattle.opening.proofs.survey.used_slots.Given as goal

abbrev pub invariant-loop-page : goal.invariant-loop-page
invariant-loop-page l = (l.used ≤ 255 * l.page) × (l.used ≡ used_in l.cache l.page)
