-- The laws of `all_of` and `first` over ranges, as `all` and `find` go through them: for a loop that counts i up to n, where b is
-- what the code computed for the test at i, and that the test holds of each number. Assumes nothing.
use Rattle.std.specs.Prelude.{List, Option, None, Some}
use Rattle.std.specs.Option.{option_map, is_some, MatchOption, IsSomeAnd}
use Rattle.std.specs.Bool.{⊤}
use Rattle.std.specs.Fn.{Called, CalledAt}
use Rattle.std.specs.Iterator.{YieldsThen}
use Rattle.std.specs.List.{list_all, find, range_with_len, FoldsTo}
use Rattle.std.proofs.iter.Yields.{nat_range_steps}
use Rattle.std.proofs.lemmas.Iterator.{YieldsList-from_range}
use Rattle.std.proofs.lemmas.Iterator.Adapters.{option_map_id}
use Rattle.std.proofs.lemmas.Iterator.Search.{all_from_yields_List, find_from_yields_List}
use native.Mathlib.Nat.{sub-zero}
use denote.Param.Members.{Mut}
use denote.Ref.{Bor}
use mathlib.Core.Path.{◌≡◌, refl, sym, ap, ◌∙◌}
use mathlib.Core.Bool.{Bool, true, false, cond, not, ◌&&◌, false≢true}
use mathlib.Core.Logic.{◌≢◌}
use Prim.Native.Nat.{ℕ, zero, suc, ◌+◌, ◌-◌, ◌≤◌, ◌<◌}
use native.Mathlib.Omega.{arith}
use lib.Dec.{eqb}
use borrow.Author.Tests.{eqb-true, eqb-false}
use Rattle.fields.proofs.Choose.{and_0, and_1}
use Rattle.store.specs.Places.{first, is_at}
use Rattle.conditions.specs.Passes.{all_of}

-- a range's numbers, one after the other
all_listed : (f : ℕ → Bool) (i k : ℕ) → list_all f (range_with_len i k) ≡ all_of f i k
unfolding all_of
all_listed f i zero = refl
all_listed f i (suc k) = ap (λ (b : Bool). f i && b) (all_listed f (i + 1) k)

first_listed : (f : ℕ → Bool) (i k : ℕ) → find f (range_with_len i k) ≡ first f k i
unfolding first
first_listed f i zero = refl
first_listed f i (suc k) = ap (cond (f i) (Some i)) (first_listed f (i + 1) k)

-- what `all` and `find` give over the numbers below n, where the closure computes f
pub all_ranged : {F : Type 0} {g : Mut F (ℕ × Unit {0}) Bool} (f : ℕ → Bool) (n : ℕ) (u : _) (j : F) (r : Bool)
    → (xs : List ℕ) × (o : Option ℕ) × (k : F) × YieldsThen nat_range_steps (record { start = 0; end = n }) xs o u × FoldsTo (λ p x q. Called g p (x, tt) true q) j xs k
    × MatchOption o (r ≡ true) (λ x. (r ≡ false) × ((h : F) × Called g k (x, tt) false h))
    → ((x : ℕ) (b : Bool) (q : F) → Called g j (x, tt) b q → (q ≡ j) × (b ≡ f x)) → r ≡ all_of f 0 n
all_ranged f n u j r ran h = all_from_yields_List f u j r ran (YieldsList-from_range 0 n n refl (sub-zero n)) h ∙ all_listed f 0 n

pub first_ranged : {F : Type 0} {g : Mut F (Bor ℕ × Unit {0}) Bool} (f : ℕ → Bool) (n : ℕ) (u : _) (j : F) (r : Option ℕ)
    → (xs : List ℕ) × (k : F) × YieldsThen nat_range_steps (record { start = 0; end = n }) xs r u × FoldsTo (λ p x q. CalledAt g p x false q) j xs k
    × MatchOption r ⊤ (λ x. (h : F) × CalledAt g k x true h)
    → ((x : ℕ) (b : Bool) (q : F) → CalledAt g j x b q → (q ≡ j) × (b ≡ f x)) → r ≡ first f n 0
first_ranged f n u j r ran h =
    sym (option_map_id r) ∙ find_from_yields_List f u j r ran (YieldsList-from_range 0 n n refl (sub-zero n)) h ∙ first_listed f 0 n

pub option_twice : {A B C : Type 0} (f : B → C) (g : A → B) (o : Option A) → option_map f (option_map g o) ≡ option_map (λ x. f (g x)) o
option_twice f g None = refl
option_twice f g (Some x) = refl

-- what `map` gives, where the closure computes h
pub option_mapped : {A B : Type 0} (h : A → B) (P : A → B → Type 0) (o : Option A) (r : Option B) → MatchOption o (r ≡ None) (λ x. IsSomeAnd r (P x))
    → ((x : A) (y : B) → P x y → y ≡ h x) → r ≡ option_map h o
option_mapped h P None r e f = e
option_mapped h P (Some x) (Some y) e f = ap Some (f x y e)
option_mapped h P (Some x) None e f = absurd e

pub none_at : (o : Option ℕ) (b : Bool) → is_some o ≡ not b → b ≡ not (is_at o)
none_at None true e = refl
none_at (Some x) false e = refl
none_at None false e = absurd (false≢true e)
none_at (Some x) true e = absurd (false≢true (sym e))

pub all_turn : (f : ℕ → Bool) (n i : ℕ) (b : Bool) → i < n → b ≡ f i → b ≡ true → all_of f (i + 1) (n - (i + 1)) ≡ all_of f i (n - i)
unfolding all_of
all_turn f n i b h e t = let m : n - i ≡ suc (n - (i + 1)) = omega arith in simp (m, ← e, t)

pub all_stop : (f : ℕ → Bool) (n i : ℕ) (b : Bool) → i < n → b ≡ f i → b ≡ false → false ≡ all_of f i (n - i)
unfolding all_of
all_stop f n i b h e t = let m : n - i ≡ suc (n - (i + 1)) = omega arith in simp (m, ← e, t)

pub all_end : (f : ℕ → Bool) (n i : ℕ) → n ≤ i → true ≡ all_of f i (n - i)
unfolding all_of
all_end f n i h = let m : n - i ≡ 0 = omega arith in simp m

pub all_at : (f : ℕ → Bool) (i k j : ℕ) → all_of f i k ≡ true → i ≤ j → j < i + k → f j ≡ true
unfolding all_of
all_at f i zero j e a b = absurd (omega arith)
all_at f i (suc k) j e a b = go (eqb i j) refl (λ h. all_at f (i + 1) k j (and_1 (f i) (all_of f (i + 1) k) e) h (omega arith))
  where
    go : (t : Bool) → eqb i j ≡ t → (i + 1 ≤ j → f j ≡ true) → f j ≡ true
    go true q ih = rw (eqb-true i j q) at (and_0 (f i) (all_of f (i + 1) k) e)
    go false q ih = let d : i ≢ j = eqb-false i j q in ih (omega arith)
