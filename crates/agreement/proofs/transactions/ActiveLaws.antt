-- What holds of an active number, found in place i: it has no commit, no pair in the table, no other place, and all its
-- versions wait. By the invariant of the places.
use Rattle.std.specs.Prelude.{Some}
use Prim.Native.Nat.{ℕ, ◌-◌, ◌^◌, ◌<◌}
use native.Mathlib.Omega.{arith}
use mathlib.Core.List.{List, [], ◌∷◌, ◌++◌}
use mathlib.Core.Logic.{◌≢◌}
use mathlib.Core.Path.{◌≡◌, refl, sym, ap, ◌∙◌}
use lib.ListN.{length}
use Rattle.layout.specs.Journal.{Record}
use Rattle.layout.specs.Slot.{Cell}
use Rattle.store.specs.declared.State.{State}
use Rattle.store.specs.Places.{find_active, place_at}
use Rattle.runs.specs.Book.{Book}
use Rattle.agreement.proofs.history.Ghost.{versions_of, commits_of, LoggedVersion, at, LoggedCommit, find, cell}
use Rattle.agreement.proofs.history.Ghost.{waiting_cell, Match, still, marked, count, Disk}
use Rattle.agreement.proofs.invariant.PlaceFacts.{active_found}
use Rattle.agreement.proofs.invariant.MediumFacts.{find_stored}
use Rattle.agreement.proofs.invariant.Invariant.{num_at, time_at, table_num, Up}

module _ {l d : ℕ} {m c : List ℕ} {s : State} {b : Book} {disk : Disk} {closed : List (List Record)}
    {tail : List Record} (u : Up l d m c s b disk closed tail)
    (n i : ℕ) (f : find_active s.places n ≡ Some i) where
  pub active_place : i < 64
  active_place = (active_found u.living n i f).0

  pub active_low : 0 < n
  active_low = (active_found u.living n i f).1

  pub active_num : num_at s.places i ≡ n
  active_num = (active_found u.living n i f).2

  pub active_time : time_at s.places i ≡ 0
  active_time = (active_found u.living n i f).3

  pub active_next : n < s.next.0
  active_next = omega (arith, active_num, (u.living.each i active_place).small)

  pub active_high : n < 2 ^ 64 - 1
  active_high = omega (arith, active_next, u.state.next_high)

  -- it has no commit
  pub uncommitted : (find (commits_of (closed ++ (tail ∷ []))) n).time ≡ 0
  uncommitted =
      rw active_num at ((u.living.each i active_place).unended (omega (arith, active_num, active_low)) active_time)

  pub active_waits : (place_at s.places i).waiting ≡ count n disk.cells
  active_waits = rw active_num at ((u.living.each i active_place).waits (omega (arith, active_num, active_low)))

  pub elsewhere : (j : ℕ) → j < 64 → j ≢ i → num_at s.places j ≢ n
  elsewhere j h e q = e (u.living.distinct j i h active_place (omega (arith, active_low)) (q ∙ sym active_num))

  -- its number is in no place of the table
  pub unpaired : (j : ℕ) → j < 64 → table_num m j ≢ n
  unpaired j h e =
      let p = u.medium.table.pair j h (omega (arith, active_low)) in
      let g : 0 < (find (commits_of disk.stored) n).time =
      omega (arith, p, ap (λ (y : ℕ). (find (commits_of disk.stored) y).time) e) in
      omega (arith, uncommitted, g, ap (λ (y : LoggedCommit). y.time) (find_stored u.medium n g))

  -- all its versions wait
  pub all_wait : (j : ℕ) → j < length (versions_of (closed ++ (tail ∷ [])))
      → (at (versions_of (closed ++ (tail ∷ []))) j).num ≡ n
      → cell disk.cells j ≡ waiting_cell (at (versions_of (closed ++ (tail ∷ []))) j)
  all_wait j h e =
      go (at (versions_of (closed ++ (tail ∷ []))) j) (cell disk.cells j) e (u.medium.pages.slots.match j h)
    where
      go : (v : LoggedVersion) (x : Cell) → v.num ≡ n → Match (commits_of disk.stored) v x → x ≡ waiting_cell v
      go v x e still = refl
      go v x e (marked t z q) =
          let g : 0 < (find (commits_of disk.stored) n).time =
          omega (arith, q, ap (λ (y : ℕ). (find (commits_of disk.stored) y).time) e) in
          absurd (omega (arith, uncommitted, g, ap (λ (y : LoggedCommit). y.time) (find_stored u.medium n g)))

  -- and after its version of a record only its own come
  pub alone : (j y : ℕ) → j < y → y < length (versions_of (closed ++ (tail ∷ [])))
      → (at (versions_of (closed ++ (tail ∷ []))) j).num ≡ n
      → (at (versions_of (closed ++ (tail ∷ []))) j).key ≡ (at (versions_of (closed ++ (tail ∷ []))) y).key
      → (at (versions_of (closed ++ (tail ∷ []))) y).num ≡ n
  alone = rw active_num at (u.opens.held i active_place (omega (arith, active_num, active_low)) active_time)
