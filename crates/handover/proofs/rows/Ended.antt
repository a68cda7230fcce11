-- How a handover in a run ends, as the stages of its calls find it: definitions only. `b` and `s` are the book and the state
-- before it.
use Rattle.layout.specs.declared.CommitTime.{CommitTime}
use Rattle.std.specs.Prelude.{None, Ok, Result}
use Prim.Native.Nat.{ℕ, ◌+◌, ◌≤◌, ◌<◌, max}
use mathlib.Core.Path.{◌≡◌}
use mathlib.Core.Logic.{◌≢◌}
use mathlib.Core.Bool.{true, false}
use mathlib.Core.List.{List, [], ◌∷◌, ◌++◌}
use lib.ListN.{length}
use Rattle.layout.specs.Slot.{key_form}
use Rattle.store.specs.declared.State.{State}
use Rattle.store.specs.Places.{is_at, find_active}
use Rattle.runs.specs.Event.{present}
use Rattle.runs.specs.Book.{Book, Row, Version, version, committed, versions, last_time, has_row, is_open}
use Rattle.runs.specs.Machine.{up}
use Rattle.agreement.proofs.invariant.Invariant.{Inv}
use Rattle.handover.specs.declared.Transfer.{Transfer}
use Rattle.handover.specs.declared.HandRefusal.{HandRefusal}
use Rattle.handover.specs.Hand.{HandOutcome, hand_number, owner_of, with_owner}
use Rattle.handover.specs.Promise.{read_by}
use Rattle.handover.proofs.rows.Held.{newest_under, held_row}

-- the number x is new
pub record New (b : Book) (s : State) (x : ℕ) : Type 0 where
  pub rowless : has_row b.rows x ≡ false
  pub shut : is_open b.opened x ≡ false
  pub idle : is_at (find_active s.places x) ≡ false

-- the check is passed: the strip v was read, so there is such a record, and nobody holds its flight
pub record Checked (b : Book) (s : State) (h : Transfer) (x : ℕ) (v : List ℕ) : Type 0 where
  pub form : key_form h.flight ≡ true
  pub free : (n : ℕ) → held_row (newest_under h.flight None (versions b.rows)) s.places n ≡ false
  pub strip : read_by b x h.flight ≡ present v
  pub size : length v ≡ 16
  pub owner : owner_of v ≡ h.from
  pub giver : h.from ≢ 0
  pub taker : h.to ≢ 0

-- the version written, and its row
abbrev pub new_version : Transfer → ℕ → List ℕ → Version
new_version h x v = record { number = x; key = h.flight; kind = 0; value = with_owner v h.to }

abbrev pub new_row : Transfer → ℕ → List ℕ → Row
new_row h x v = version (new_version h x v)

-- the rows, by the answer: as before; with the version; with its commit row too
pub data RowsEnd (b : Book) (s : State) (h : Transfer) (rows : List Row) : Result CommitTime HandRefusal → Type 0 where
  unwritten : (a : Result CommitTime HandRefusal) → 0 < hand_number a → rows ≡ b.rows → RowsEnd b s h rows a
  aborted : (a : Result CommitTime HandRefusal) (x : ℕ) (v : List ℕ) → 0 < hand_number a → New b s x → Checked b s h x v
      → rows ≡ b.rows ++ (new_row h x v ∷ []) → RowsEnd b s h rows a
  handed : (x : ℕ) (v : List ℕ) (t : ℕ) → New b s x → Checked b s h x v → t ≡ max h.began (max h.ended (last_time b.rows + 1))
      → rows ≡ (b.rows ++ (new_row h x v ∷ [])) ++ (committed x t ∷ []) → RowsEnd b s h rows (Ok (record { 0 = t }))

-- the invariant goes on, the same numbers are active, what is stored stays so, and the rows stand as said
pub record Ended (l d : ℕ) (b : Book) (s : State) (h : Transfer) (o : HandOutcome) (after : Book) : Type 0 where
  pub inv : Inv l d (up o.medium o.cache o.state) after
  pub active : (n : ℕ) → is_at (find_active o.state.places n) ≡ is_at (find_active s.places n)
  pub stored : s.saved.0 ≤ o.state.saved.0
  pub rows : RowsEnd b s h after.rows o.answer
