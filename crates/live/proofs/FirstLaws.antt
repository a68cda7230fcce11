-- `first` is what a search finds that tries the numbers of its range from the lowest on: one law for a list that is searched
-- by `position`, one for a range searched by `find`, and three for a loop that counts up. Then what is known of a number that
-- was found.
use Rattle.std.specs.Prelude.{Option, Some, None}
use Rattle.std.specs.Option.{MatchOption}
use Rattle.std.specs.List.{position_from, position_or_len}
use Rattle.std.proofs.lemmas.Iterator.Adapters.{position_from-zero}
use Prim.Native.Nat.{ℕ, suc, ◌+◌, ◌-◌, ◌≤◌, ◌<◌}
use native.Mathlib.Nat.{zero-add}
use native.Mathlib.Numerals.{unary_clauses}
use native.Mathlib.Omega.{arith}
use lib.Dec.{ltb}
use lib.ListN.{length, get_or}
use mathlib.Core.Bool.{Bool, true, false, cond}
use mathlib.Core.List.{List, [], ◌∷◌}
use mathlib.Core.Path.{◌≡◌, refl, sym, ◌∙◌}
use Rattle.store.proofs.SearchLaws as search
use Rattle.store.proofs.SearchLaws.{first_found}
use Rattle.store.specs.declared.Place.{Place}
use Rattle.store.specs.Places.{first, find_active, find_committed, find_free, place_at, free_place}

-- ---- searches of std

from_first : {X : Type 0} (p : X → Bool) (d : X) (xs : List X) (q : ℕ → Bool) (i : ℕ)
    → ((k : ℕ) → k < length xs → q (i + k) ≡ p (get_or xs k d)) → position_from p i xs ≡ first q (length xs) i
unfolding first
from_first p d [] q i h = refl
from_first p d (x ∷ xs) q i h =
    let e : q i ≡ p x = simp unary_clauses at (h 0 (omega arith)) in
    rw (e, from_first p d xs q (i + 1) (λ k l. let m : i + 1 + k ≡ i + suc k = omega arith in rw m (h (suc k) (omega arith)))) refl

-- what `position` finds among the places
pub position_first : (p : Place → Bool) (ps : List Place) (r : Option ℕ) → length ps ≡ 64
    → r ≡ cond (ltb (position_or_len p ps) (length ps)) (Some (position_or_len p ps)) None → r ≡ first (λ i. p (place_at ps i)) 64 0
unfolding place_at
position_first p ps r len e =
    e ∙ position_from-zero p ps ∙ from_first p free_place ps (λ i. p (get_or ps i free_place)) 0 (λ k l. simp zero-add) ∙ rw len refl

-- what `find` finds in a range
pub found_first : (p : ℕ → Bool) (n : ℕ) (r : Option ℕ)
    → MatchOption r ((k : ℕ) → 0 ≤ k → k < n → p k ≡ false)
    (λ i. (0 ≤ i) × (i < n) × (p i ≡ true) × ((k : ℕ) → 0 ≤ k → k < i → p k ≡ false))
    → r ≡ first p n 0
found_first p n None h = sym (search.first_none p n 0 (λ k a b. h k a (omega arith)))
found_first p n (Some i) h = sym (search.first_least p n 0 i h.0 (omega arith) h.3 h.2)

-- ---- a loop that counts i up to n: where the test passes, where it does not, and at the end; b is what the code computed
-- for the test at i

pub first_hit : (p : ℕ → Bool) (n i : ℕ) (b : Bool) → i < n → b ≡ p i → b ≡ true → first p (n - i) i ≡ Some i
unfolding first
first_hit p n i b h e t = let m : n - i ≡ suc (n - (i + 1)) = omega arith in simp (m, ← e, t)

pub first_miss : (p : ℕ → Bool) (n i : ℕ) (b : Bool) → i < n → b ≡ p i → b ≡ false → first p (n - (i + 1)) (i + 1) ≡ first p (n - i) i
unfolding first
first_miss p n i b h e t = let m : n - i ≡ suc (n - (i + 1)) = omega arith in simp (m, ← e, t)

pub first_none : (p : ℕ → Bool) (n i : ℕ) → n ≤ i → first p (n - i) i ≡ None
unfolding first
first_none p n i h = let m : n - i ≡ 0 = omega arith in simp m

-- ---- what was found lies in the range

pub active_below : (ps : List Place) (n k : ℕ) → find_active ps n ≡ Some k → k < 64
unfolding find_active
active_below ps n k e = (first_found _ 64 0 k e).1

pub committed_below : (ps : List Place) (n k : ℕ) → find_committed ps n ≡ Some k → k < 64
unfolding find_committed
committed_below ps n k e = (first_found _ 64 0 k e).1

pub free_below : (ps : List Place) (ring k : ℕ) → find_free ps ring ≡ Some k → k < 64
unfolding find_free
free_below ps ring k e = (first_found _ 64 0 k e).1
