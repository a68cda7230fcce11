-- The places that were found before a turn are counted down.
use Rattle.std.specs.Prelude.{fold, take, ◌≡◌}
use Rattle.store.specs.StorePage.{lower_at}
use Rattle.pages.proofs.settle.Given as goal

abbrev pub invariant-loop-place : goal.invariant-loop-place
invariant-loop-place l = l.places ≡ fold (λ ps p. lower_at p ps) l.initial.places (take l.place-index l.found)
