-- A record's versions in the cache: the newest, their times, and what is found by following earlier slots. A key is
-- 01's record number.
use Rattle.std.specs.Prelude.{ℕ, zero, suc, Bool, true, false, cond, not, ◌&&◌, ◌||◌, List, eqb, leb, ltb, Option, Some, None}
use Rattle.layout.specs.Page.{cache_slot}
use Rattle.layout.specs.Slot.{Cell, cell_of}
use Rattle.layout.specs.declared.CommitTime.{CommitTime}
use Rattle.layout.specs.declared.slot.Slot.{Slot}
use Rattle.layout.specs.declared.slot.Slot.TheVariants.{Empty, Waiting, Stamped}
use Rattle.store.specs.declared.Place.{Place}
use Rattle.store.specs.Places.{is_at, find_active}

-- 01: "Slot n of the store is in page n div 15": what slot n of the cache holds
unfoldable pub cell_at : List ℕ → ℕ → Cell
cell_at c n = cell_of (cache_slot c n)

-- 01: "A slot is empty, waiting under a number, or stamped with a time": an empty slot is no version
abbrev pub is_version : Slot → Bool
is_version Empty = false
is_version (Waiting n) = true
is_version (Stamped t) = true

-- 01: "Slot bytes: 0 state, 1 record number"; 02, #104: "slot byte 3 is the high byte": does slot n hold a version with this
-- key?
unfoldable pub version_of : List ℕ → ℕ → ℕ → Bool
version_of c key n = is_version (cell_at c n).state && eqb (cell_at c n).key key

-- 01: "from the record's newest": the highest slot below n that holds a version of the record
unfoldable pub newest : List ℕ → ℕ → ℕ → Option ℕ
newest c key zero = None
newest c key (suc n) = cond (version_of c key n) (Some n) (newest c key n)

-- 01: "A version's time is its stamp or its pair's time"; `pair` gives the time of a number, if it has one
unfoldable pub version_time : (ℕ → Option CommitTime) → Slot → Option CommitTime
version_time pair Empty = None
version_time pair (Waiting n) = pair n.0
version_time pair (Stamped t) = Some t

-- 01: "The record is held while its newest version waits under another active number"
abbrev pub held_as : Slot → List Place → ℕ → Bool
held_as Empty ps n = false
held_as (Waiting m) ps n = not (eqb m.0 n) && is_at (find_active ps m.0)
held_as (Stamped t) ps n = false

-- 01: "while its newest version waits under another active number": a record without versions is not held
abbrev pub held_at : Option ℕ → List ℕ → List Place → ℕ → Bool
held_at (Some s) c ps n = held_as (cell_at c s).state ps n
held_at None c ps n = false

-- 01: "The record is held": its newest version among the used slots decides
unfoldable pub held : List ℕ → List Place → ℕ → ℕ → ℕ → Bool
held c ps slots key n = held_at (newest c key slots) c ps n

-- 01: "following earlier slots, each step on the lower slot alone": what is found from the earlier slot, if it is lower
abbrev pub down_to : {A : Type 0} → ℕ → ℕ → A → (ℕ → A) → A
down_to earlier s stop go = cond (ltb earlier s) (go earlier) stop

-- 01: "A version's time is its stamp or its pair's time": is there one?
abbrev pub is_timed : Option CommitTime → Bool
is_timed (Some t) = true
is_timed None = false

-- 01: "A current read gives the record's newest version that is committed or its own"
abbrev pub visible : Slot → (ℕ → Option CommitTime) → ℕ → Bool
visible Empty pair n = false
visible (Waiting m) pair n = eqb m.0 n || is_timed (pair m.0)
visible (Stamped t) pair n = true

-- 01: "A slot is empty, waiting under a number, or stamped with a time": an empty slot ends the search
abbrev pub unless_empty : {A : Type 0} → Slot → A → A → A
unless_empty Empty stop go = stop
unless_empty (Waiting n) stop go = go
unless_empty (Stamped t) stop go = go

-- 01: "the record's newest version that is committed or its own": from slot s down; k bounds the steps
unfoldable pub visible_from : List ℕ → (ℕ → Option CommitTime) → ℕ → ℕ → ℕ → Option ℕ
visible_from c pair n zero s = None
visible_from c pair n (suc k) s =
    unless_empty (cell_at c s).state None
    (cond (visible (cell_at c s).state pair n) (Some s)
    (down_to (cell_at c s).earlier s None (visible_from c pair n k)))

-- 01: "the record's newest version that is committed or its own": from its newest, if it has versions
unfoldable pub visible_of : Option ℕ → List ℕ → (ℕ → Option CommitTime) → ℕ → Option ℕ
visible_of (Some s) c pair n = visible_from c pair n (suc s) s
visible_of None c pair n = None

-- 01: "As of t: the committed version with greatest time not above t, the later slot among equals": slot s against the
-- best of the lower ones
abbrev pub later_of : ℕ → CommitTime → Option (ℕ × CommitTime) → Option (ℕ × CommitTime)
later_of s t None = Some (s, t)
later_of s t (Some (r, u)) = cond (leb u.0 t.0) (Some (s, t)) (Some (r, u))

-- 01: "the committed version with greatest time not above t": slot s counts if it has a time not above t
abbrev pub better_of : Option CommitTime → ℕ → ℕ → Option (ℕ × CommitTime) → Option (ℕ × CommitTime)
better_of None s t rest = rest
better_of (Some u) s t rest = cond (leb u.0 t) (later_of s u rest) rest

-- 01: "the committed version with greatest time not above t": from slot s down; k bounds the steps
unfoldable pub best_from : List ℕ → (ℕ → Option CommitTime) → ℕ → ℕ → ℕ → Option (ℕ × CommitTime)
best_from c pair t zero s = None
best_from c pair t (suc k) s =
    unless_empty (cell_at c s).state None
    (better_of (version_time pair (cell_at c s).state) s t
    (down_to (cell_at c s).earlier s None (best_from c pair t k)))

-- 01: "found by following earlier slots .. from the record's newest": the best of these, if it has versions
unfoldable pub best_of : Option ℕ → List ℕ → (ℕ → Option CommitTime) → ℕ → Option (ℕ × CommitTime)
best_of (Some s) c pair t = best_from c pair t (suc s) s
best_of None c pair t = None
