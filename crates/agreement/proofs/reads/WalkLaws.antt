-- A walk along earlier slots gives what a fold over all versions of the record gives: by induction on the slots, since
-- the earlier slot is the next lower one of the record and those between are of other records. Assumes nothing.
use Rattle.std.specs.Prelude.{Option, Some, None}
use Prim.Native.Nat.{ℕ, zero, suc, ◌≤◌, ◌<◌}
use native.Mathlib.Omega.{arith}
use mathlib.Core.Bool.{Bool, true, false, cond}
use mathlib.Core.List.{List}
use mathlib.Core.Path.{◌≡◌, refl, ap, ◌∙◌}
use lib.Dec.{eqb}
use lib.ListN.{length}
use borrow.Author.Tests.{eqb-true, lt-ltb, le-ltb}
use Rattle.store.specs.Chain.{down_to}
use Rattle.store.specs.Write.{or_none}
use Rattle.agreement.proofs.history.Ghost.{LoggedVersion, at, newest_of}
use Rattle.agreement.proofs.history.VersionLaws.{newest_at}

-- of the record's versions below slot n, by rising slot: `step` takes a slot and what the lower ones gave
module _ {A : Type 0} (stop : A) (step : ℕ → A → A) (vs : List LoggedVersion) (key : ℕ) where
  unfoldable pub over_all : ℕ → A
  over_all zero = stop
  over_all (suc n) = cond (eqb (at vs n).key key) (step n (over_all n)) (over_all n)

-- a walk with steps enough gives a from the slot found, or a is the end of a walk
abbrev pub Reaches : {A : Type 0} → (ℕ → ℕ → A) → A → Option ℕ → A → Type 0
Reaches walk stop (Some s) a = (k : ℕ) → s < k → walk k s ≡ a
Reaches walk stop None a = stop ≡ a

module _ {A : Type 0} (stop : A) (step : ℕ → A → A) (earlier : ℕ → ℕ) (walk : ℕ → ℕ → A)
    (walks : (k s : ℕ) → walk (suc k) s ≡ step s (down_to (earlier s) s stop (walk k))) where
  -- the walk goes on from what was found below slot n
  on : (f : Option ℕ) (n k : ℕ) (a : A) → n ≤ k → n < 65535 → ((s : ℕ) → f ≡ Some s → s < n) → Reaches walk stop f a
      → down_to (or_none f) n stop (walk k) ≡ a
  on (Some s) n k a h r below reached = rw (lt-ltb s n (below s refl)) (reached k (omega (arith, below s refl)))
  on None n k a h r below reached = rw (le-ltb 65535 n (omega arith)) reached

  pub walked : (vs : List LoggedVersion) (key : ℕ) → length vs ≤ 65535
      → ((n : ℕ) → n < length vs → earlier n ≡ or_none (newest_of vs (at vs n).key n))
      → (n : ℕ) → n ≤ length vs → Reaches walk stop (newest_of vs key n) (over_all stop step vs key n)
  unfolding newest_of over_all
  walked vs key r chain zero h = refl
  walked vs key r chain (suc n) h = go (walked vs key r chain n (omega arith)) (eqb (at vs n).key key) refl
    where
      rest : A
      rest = over_all stop step vs key n

      go : Reaches walk stop (newest_of vs key n) rest → (t : Bool) → eqb (at vs n).key key ≡ t
          → Reaches walk stop (cond t (Some n) (newest_of vs key n)) (cond t (step n rest) rest)
      go ih false q = ih
      go ih true q = up
        where
          true_chain : earlier n ≡ or_none (newest_of vs key n)
          true_chain = chain n h ∙ ap (λ (x : ℕ). or_none (newest_of vs x n)) (eqb-true _ _ q)

          up : (k : ℕ) → n < k → walk k n ≡ step n rest
          up zero g = absurd (omega arith)
          up (suc k) g =
              walks k n
              ∙ ap (step n) (ap (λ (e : ℕ). down_to e n stop (walk k)) true_chain
              ∙ on (newest_of vs key n) n k rest (omega arith) (omega arith) (λ s e. (newest_at vs key n s e).below) ih)
