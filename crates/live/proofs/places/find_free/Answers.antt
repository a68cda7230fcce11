-- `find` gives the least number that passes the test; the code takes `ring` in its range before it adds.
use Rattle.std.proofs.Common.{rules, tests}
use Rattle.std.proofs.lemmas.Iterator.{first_from_Range}
use Prim.Native.Nat.{ℕ, ◌+◌, ◌%◌}
use native.Mathlib.Omega.{arith}
use mathlib.Core.Path.{◌≡◌}
use mathlib.Core.Bool.{true, false}
use Rattle.store.specs.Places.{place_at, is_free, find_free, ring_place}
use Rattle.live.proofs.FirstLaws.{found_first}
use Rattle.live.proofs.places.find_free.Goals as goal

in_range : (ring k : ℕ) → (ring + k) % 64 ≡ (ring % 64 + k) % 64
in_range ring k = omega arith

pub returns : goal.returns
unfolding find_free ring_place place_at
returns c =
    let p = λ (k : ℕ). is_free (place_at c.args.places.now (ring_place c.args.ring k)).life in
    found_first p 64 c.find.result
    (first_from_Range _ _ _ _ (λ k. p k ≡ true) (λ k. p k ≡ false) c.find.ensures.ran (λ x q k. rw (in_range c.args.ring x) (search (rules, tests)))
    (λ x q k. rw (in_range c.args.ring x) (search (rules, tests))))
