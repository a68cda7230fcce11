-- The pairs that a row of places puts in the table.
use Rattle.std.specs.Prelude.{ℕ, List, map}
use Rattle.layout.specs.declared.item.Pair.{Pair}
use Rattle.store.specs.declared.Place.{Place}
use Rattle.store.specs.Checkpoint.{pair_below}

-- each place's pair, where o is the new oldest block
abbrev pub pairs_of : ℕ → List Place → List Pair
pairs_of o ps = map (λ p. pair_below o p.life) ps
