-- What taking a record makes of the tail: it stands behind the others, or begins the next block; so the end of the log
-- moves on by at least its size.
use Rattle.std.specs.Prelude.{Some}
use Prim.Native.Nat.{ℕ, ◌+◌, ◌-◌, ◌^◌, ◌≤◌, ◌<◌, min}
use native.Mathlib.Omega.{arith}
use mathlib.Core.Path.{◌≡◌, refl, ap, ◌∙◌}
use mathlib.Core.Bool.{Bool, true, false}
use mathlib.Core.Logic.{◌⊎◌, inl, inr, ◌≢◌}
use mathlib.Core.List.{List}
use lib.ListN.{length, set}
use lib.Dec.{leb}
use borrow.Author.Tests.{ne_eqb, leb-true, leb-false}
use Rattle.fields.specs.Block.{end_place}
use Rattle.layout.specs.Journal.{Record, record_size, sequence_of, used_of, empty_block}
use Rattle.layout.proofs.JournalLaws.{length_empty_block, sequence_empty_block, used_empty_block, sequence_add_record}
use Rattle.layout.proofs.JournalLaws.{used_add_record}
use Rattle.store.specs.declared.Life.{Life}
use Rattle.store.specs.declared.State.{State}
use Rattle.store.specs.Places.{place_at, active_as, find_active, raised}
use Rattle.store.specs.Write.{written}
use Rattle.store.specs.Commit.{no_versions}
use Rattle.store.specs.Tail.{tail_fits, tail_end, Logged, logged_if, logged}
use Rattle.store.proofs.FitLaws.{TailFit}
use Rattle.agreement.proofs.history.ListLaws.{same?}
use Rattle.agreement.proofs.invariant.PlaceSet.{place_at_same, place_at_other}
use Rattle.store.proofs.SearchLaws.{first_same}

pub data Takes (s : State) (m : List ℕ) (size : ℕ) (g : Logged) : Type 0 where
  behind : used_of s.tail + size ≤ 512 → g.medium ≡ m → used_of g.tail ≡ used_of s.tail + size
      → sequence_of g.tail ≡ sequence_of s.tail → Takes s m size g
  next : 512 < used_of s.tail + size → used_of g.tail ≡ 10 + size → sequence_of g.tail ≡ sequence_of s.tail + 1
      → Takes s m size g

pub takes : (s : State) (m : List ℕ) (r : Record) → TailFit s.tail → 10 + record_size r ≤ 512
    → Takes s m (record_size r) (logged s m r)
unfolding logged logged_if tail_fits
takes s m r f h = go (leb (used_of s.tail + record_size r) 512) refl
  where
    go : (t : Bool) → leb (used_of s.tail + record_size r) 512 ≡ t → Takes s m (record_size r) (logged_if t s m r)
    go true e =
        let z : used_of s.tail + record_size r ≤ 512 = leb-true (used_of s.tail + record_size r) 512 e in
        behind z refl (used_add_record s.tail r f.size z) (sequence_add_record s.tail r (omega (arith, f.used_low)))
    go false e =
        let b = empty_block (sequence_of s.tail + 1) in
        let u : used_of b ≡ 10 = used_empty_block (sequence_of s.tail + 1) in
        next (omega (arith, leb-false (used_of s.tail + record_size r) 512 e))
        (used_add_record b r (length_empty_block (sequence_of s.tail + 1)) (omega (arith, u))
        ∙ ap (λ (n : ℕ). n + record_size r) u)
        (sequence_add_record b r (omega (arith, u))
        ∙ sequence_empty_block (sequence_of s.tail + 1) (omega (arith, f.sequence_high)))

-- the end of the log
pub takes_end : (s : State) (m : List ℕ) (size : ℕ) (g : Logged) → used_of s.tail ≤ 512 → Takes s m size g
    → (tail_end s.tail).0 + size ≤ (tail_end g.tail).0
unfolding tail_end end_place
takes_end s m size g h (behind a b c d) = omega arith
takes_end s m size g h (next a c d) = omega arith

-- ---- a version more, in place i of its active number

module _ (s : State) (size : length s.places ≡ 64) (n i : ℕ) (f : find_active s.places n ≡ Some i) (inside : i < 64)
    (g : Logged) where
  pub still_active : find_active (written s i g).places n ≡ Some i
  unfolding find_active written raised
  still_active =
      first_same (λ j. active_as (place_at (set s.places i (raised (place_at s.places i))) j).life n)
      (λ j. active_as (place_at s.places j).life n) 64 0
      (λ j h. ap (λ (x : Life). active_as x n) (go j (same? j i)))
      ∙ f
    where
      go : (j : ℕ) → (j ≡ i) ⊎ (j ≢ i) → (place_at (set s.places i (raised (place_at s.places i))) j).life
          ≡ (place_at s.places j).life
      go j (inl q) = rw (q, place_at_same s.places i (raised (place_at s.places i)) size inside)
      go j (inr q) = rw (place_at_other s.places i j (raised (place_at s.places i)) q)

  one_waits : no_versions (Some i) (written s i g) ≡ false
  unfolding written raised
  one_waits =
      rw (place_at_same s.places i (raised (place_at s.places i)) size inside)
      (ne_eqb (min ((place_at s.places i).waiting + 1) (2 ^ 64 - 1)) 0 (omega arith))

  pub has_version : no_versions (find_active (written s i g).places n) (written s i g) ≡ false
  has_version = rw still_active one_waits
