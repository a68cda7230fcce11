-- The pair table: the search for a number's place, and a number's time. Assumes nothing.
use Rattle.std.specs.Prelude.{Option, None, Some}
use Rattle.std.specs.Option.{option_map}
use mathlib.Core.Path.{◌≡◌, refl, sym, ap, ◌∙◌}
use mathlib.Core.Bool.{Bool, false}
use mathlib.Core.List.{List}
use Prim.Native.Nat.{ℕ, zero, suc, ◌+◌, ◌-◌, ◌≤◌, ◌<◌}
use native.Mathlib.Nat.{zero-add}
use native.Mathlib.Omega.{arith}
use lib.Dec.{eqb}
use borrow.Author.Tests.{ne_eqb}
use Rattle.fields.specs.Block.{medium_length}
use Rattle.layout.specs.Table.{table_pair}
use Rattle.fields.proofs.Choose.{cond_cases}
use Rattle.store.specs.Places.{first}
use Rattle.store.specs.OpenLog.{Placed, Commitment, commit_under}
use Rattle.store.specs.OpenPairs.{table_find, time_of_commitment, pair_time}
use Rattle.store.proofs.SearchLaws.{first_found}
use Rattle.conditions.specs.Cursor.{Ready}
use Rattle.conditions.specs.Lookup.{Extent, match_of}

-- does place i hold the number?
abbrev pub numbered : List ℕ → ℕ → ℕ → Bool
numbered m n i = eqb (table_pair m i).number.0 n

-- a medium of right length has the table
pub ready_table : (l n : ℕ) → Ready l n → 1536 ≤ n
unfolding medium_length
ready_table l n r = rw r.medium (omega (arith, r.low))

-- the place of a number
pub find_none : (m : List ℕ) (n : ℕ) → n ≡ 0 → table_find m n ≡ None
unfolding table_find
find_none m n e = simp e

find_some : (m : List ℕ) (n : ℕ) → (n ≡ 0 → ⊥) → table_find m n ≡ first (numbered m n) 64 0
unfolding table_find
find_some m n e = simp (ne_eqb _ _ e)

-- empty places at the end add nothing to the search for a number
first_none_of : (p : ℕ → Bool) (k i : ℕ) → ((j : ℕ) → i ≤ j → j < i + k → p j ≡ false) → first p k i ≡ None
unfolding first
first_none_of p zero i h = refl
first_none_of p (suc k) i h = rw (h i (omega arith) (omega arith)) (first_none_of p k (i + 1) (λ j a b. h j (omega arith) (omega arith)))

first_shorter : (p : ℕ → Bool) (k r i : ℕ) → ((j : ℕ) → i + k ≤ j → j < i + k + r → p j ≡ false) → first p k i ≡ first p (k + r) i
unfolding first
first_shorter p zero r i h = sym (rw (zero-add r) (first_none_of p r i (λ j a b. h j (omega arith) (omega arith))))
first_shorter p (suc k) r i h =
    let e : suc k + r ≡ suc (k + r) = omega arith in
    rw (e, first_shorter p k r (i + 1) (λ j a b. h j (omega arith) (omega arith)))

pub find_used : (m : List ℕ) (used n : ℕ) → Extent m used → (n ≡ 0 → ⊥) → table_find m n ≡ first (numbered m n) used 0
find_used m used n x e =
    let h : used ≤ 64 = x.few in
    let k : used + (64 - used) ≡ 64 = omega arith in
    find_some m n e
    ∙ sym (first_shorter (numbered m n) used (64 - used) 0 (λ j a b. rw (x.empty j (omega arith) (omega arith)) (ne_eqb 0 n (λ q. e (sym q))))
    ∙ ap (λ (j : ℕ). first (numbered m n) j 0) k)

pub found_below : (m : List ℕ) (n i : ℕ) → table_find m n ≡ Some i → i < 64
unfolding table_find
found_below m n i e =
    cond_cases (eqb n 0) e (λ t (r : ◌≡◌ {A = Option ℕ} None (Some i)). let z : ◌≡◌ {A = ℕ} 0 1 = cc in absurd (omega arith))
    (λ t r. (first_found (numbered m n) 64 0 i r).1)

-- a number's time: the table's, else that of a commitment of the log
pub time_found : (m : List ℕ) (log : List Placed) (n : ℕ) (i : ℕ) → Some i ≡ table_find m n → Some (table_pair m i).time ≡ pair_time m log n
unfolding pair_time
time_found m log n i e = simp (← e)

pub time_logged : (m : List ℕ) (log : List Placed) (n : ℕ) → None ≡ table_find m n → option_map (λ x. x.0) (match_of (commit_under log n)) ≡ pair_time m log n
unfolding pair_time
time_logged m log n e = simp (← e) (go (commit_under log n))
  where
    go : (o : Option Commitment) → option_map (λ x. x.0) (match_of o) ≡ time_of_commitment o
    go None = refl
    go (Some x) = refl
