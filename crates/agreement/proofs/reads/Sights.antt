-- What the slots of a running store show is what the book's rows say: a slot has its version's fields, and its stamp or
-- its number's place gives the time of the commit row.
use Rattle.std.specs.Prelude.{Some}
use Prim.Native.Nat.{ℕ, zero, suc, ◌+◌, ◌<◌}
use native.Mathlib.Numerals.{add-one}
use native.Mathlib.Omega.{arith}
use mathlib.Core.List.{List, [], ◌∷◌, ◌++◌}
use mathlib.Core.Path.{◌≡◌, refl, sym, ap, ◌∙◌}
use lib.ListN.{length, drop, drop_of_length-le}
use lib.Seq.{drop-cons}
use Rattle.layout.specs.Journal.{Record}
use Rattle.layout.specs.Slot.{Cell}
use Rattle.store.specs.declared.State.{State}
use Rattle.store.specs.Places.{time_under}
use Rattle.store.specs.Chain.{cell_at, version_time}
use Rattle.runs.specs.Book.{Book, versions, sight, sights, last_time}
use Rattle.runs.specs.Event.{Sight}
use Rattle.runs.specs.Machine.{sights_from, sight_at}
use Rattle.agreement.proofs.history.Ghost.{versions_of, commits_of, records, LoggedVersion, no_version, at}
use Rattle.agreement.proofs.history.Ghost.{LoggedCommit, Match, still, marked, rows_in, find, timing, cell, Disk}
use Rattle.agreement.proofs.invariant.Invariant.{Up}
use Rattle.agreement.proofs.invariant.MediumFacts.{sound_at, cell_fields, cell_cached, find_stored, counted}
use Rattle.agreement.proofs.invariant.PlaceFacts.{time_under_law}
use Rattle.agreement.proofs.history.RowLaws.{row_for, rows_for, versions_are, time_row, last_row}

module _ {l d : ℕ} {m c : List ℕ} {s : State} {b : Book} {disk : Disk} {closed : List (List Record)}
    {tail : List Record} (u : Up l d m c s b disk closed tail) where
  -- a version's time: its stamp is its number's commit's (match, find_stored), or its number is waited for
  -- (PlaceFacts.time_under_law)
  pub version_time_law : (n : ℕ) → n < length (versions_of (closed ++ (tail ∷ [])))
      → version_time (time_under s.places) (cell_at c n).state
      ≡ timing (find (commits_of (closed ++ (tail ∷ []))) (at (versions_of (closed ++ (tail ∷ []))) n).num).time
  unfolding version_time
  version_time_law n h =
      rw (cell_cached u.medium u.cache n h) (go (cell disk.cells n) refl (u.medium.pages.slots.match n h))
    where
      v : LoggedVersion
      v = at (versions_of (closed ++ (tail ∷ []))) n

      timed : (t : ℕ) → 0 < t → Some (record { 0 = t }) ≡ timing t
      timed zero z = absurd (omega arith)
      timed (suc t) z = refl

      go : (x : Cell) → cell disk.cells n ≡ x
          → Match (commits_of disk.stored) (at (versions_of (closed ++ (tail ∷ []))) n) x
          → version_time (time_under s.places) x.state ≡ timing
          (find (commits_of (closed ++ (tail ∷ []))) (at (versions_of (closed ++ (tail ∷ []))) n).num).time
      go x e still =
          time_under_law u.living (at (versions_of (closed ++ (tail ∷ []))) n).num
          (omega (arith, (sound_at u.medium n h).low))
          (counted u.medium (at (versions_of (closed ++ (tail ∷ []))) n).num n h refl e)
      go x e (marked t z q) =
          timed t z ∙ ap timing (sym q ∙ sym
          (ap (λ (c : LoggedCommit). c.time)
          (find_stored u.medium (at (versions_of (closed ++ (tail ∷ []))) n).num (omega arith))))

  sight_is : (n : ℕ) → n < length (versions_of (closed ++ (tail ∷ [])))
      → sight_at c s.places n ≡ sight (rows_in (records (closed ++ (tail ∷ []))))
      (row_for (at (versions_of (closed ++ (tail ∷ []))) n))
  unfolding sight_at sight
  sight_is n h =
      let q = cell_fields u.medium n h in
      rw (
        version_time_law n h,
        time_row (records (closed ++ (tail ∷ []))) 0 u.medium.numbers.rising
            (at (versions_of (closed ++ (tail ∷ []))) n).num,
        cell_cached u.medium u.cache n h,
        q.1,
        q.2,
        q.4,
      )

  up_to : (j n : ℕ) → n + j ≡ length (versions_of (closed ++ (tail ∷ [])))
      → sights_from c s.places n j ≡ sights (rows_in (records (closed ++ (tail ∷ []))))
      (rows_for (drop n (versions_of (closed ++ (tail ∷ [])))))
  unfolding sights_from sights rows_for
  up_to zero n e = rw (drop_of_length-le (versions_of (closed ++ (tail ∷ []))) {i = n} (omega arith))
  up_to (suc j) n e =
      rw (drop-cons (versions_of (closed ++ (tail ∷ []))) n no_version (omega arith), sight_is n (omega arith), add-one)
      (ap (λ (xs : List Sight). sight (rows_in (records (closed ++ (tail ∷ []))))
      (row_for (at (versions_of (closed ++ (tail ∷ []))) n)) ∷ xs)
      (rw add-one at (up_to j (n + 1) (omega arith))))

  pub sights_are : sights_from c s.places 0 s.slots ≡ sights b.rows (versions b.rows)
  sights_are =
      rw (u.state.slots, u.rows, versions_are (records (closed ++ (tail ∷ []))))
      (up_to (length (versions_of (closed ++ (tail ∷ [])))) 0 (omega arith))

  pub last_is : s.last.0 ≡ last_time b.rows
  last_is =
      u.state.last ∙ sym (ap last_time u.rows ∙ last_row (records (closed ++ (tail ∷ []))) u.medium.numbers.rising)
