-- Storing a page: what it leaves of page and places, and what is looked up once for each of its slots.
use Rattle.layout.specs.declared.CommitTime.{CommitTime}
use Rattle.std.specs.Prelude.{ℕ, ◌<◌, ◌≡◌, List, get_or, Option, Some, None}
use Rattle.layout.specs.declared.slot.Slot.{Slot}
use Rattle.layout.specs.declared.slot.Slot.TheVariants.{Empty, Waiting, Stamped}
use Rattle.store.specs.declared.Place.{Place}
use Rattle.store.specs.Places.{place_at, find_committed, stored_under, time_up_to}
use Rattle.store.specs.StorePage.{stamp_from, settle_from}

-- the page stamped where the log is stored up to an end place, and the places once its versions are counted
unfoldable pub stamped_under : List Place → ℕ → List ℕ → List ℕ
stamped_under ps end page = stamp_from (stored_under ps end) page 0 15

unfoldable pub settled_under : List Place → ℕ → List ℕ → List Place
settled_under ps end page = settle_from (stored_under ps end) ps page ps 0 15

-- a place with its time, if it has one
abbrev pub with_time : ℕ → Option CommitTime → Option (ℕ × CommitTime)
with_time i (Some t) = Some (i, t)
with_time i None = None

-- the place found, with its time if its commit record is stored
abbrev pub stamp_at : List Place → ℕ → Option ℕ → Option (ℕ × CommitTime)
stamp_at ps end (Some i) = with_time i (time_up_to (place_at ps i).life end)
stamp_at ps end None = None

-- the place of a slot's transaction, and the time with which the slot is stamped
unfoldable pub stamp_for : List Place → ℕ → Slot → Option (ℕ × CommitTime)
stamp_for ps end Empty = None
stamp_for ps end (Waiting n) = stamp_at ps end (find_committed ps n.0)
stamp_for ps end (Stamped t) = None

-- the place alone
abbrev pub place_of : Option (ℕ × CommitTime) → Option ℕ
place_of (Some (i, t)) = Some i
place_of None = None

unfoldable pub place_for : List Place → ℕ → Slot → Option ℕ
place_for ps end slot = place_of (stamp_for ps end slot)

-- places that were found are among the 64
abbrev pub AmongPlaces : List (Option ℕ) → Type 0
AmongPlaces found = (k i : ℕ) → get_or found k None ≡ Some i → i < 64
