-- The places of live transactions.
use Rattle.layout.specs.declared.CommitTime.{CommitTime}
use Rattle.std.specs.Prelude.{ℕ, zero, suc, ◌+◌, ◌-◌, ◌%◌, ◌^◌, min, Bool, true, false, cond, List, get_or, eqb, leb, Option, Some, None}
use Rattle.store.specs.declared.Life.{Life}
use Rattle.store.specs.declared.Life.TheVariants.{Free, Active, Committed}
use Rattle.store.specs.declared.Place.{Place}

-- 01: "the first free place": the first of the k numbers from i on that passes a test
unfoldable pub first : (ℕ → Bool) → ℕ → ℕ → Option ℕ
first p zero i = None
first p (suc k) i = cond (p i) (Some i) (first p k (i + 1))

-- 01: "Free place? 4", "number active? 5": was one found?
abbrev pub is_at : Option ℕ → Bool
is_at (Some i) = true
is_at None = false

-- 01: "places 0 to 63: active, or committed with waiting versions": a place that is neither
abbrev pub free_place : Place
free_place = record { life = Free; waiting = 0 }

-- 01: "kept in places 0 to 63": place i, a free one where there is none
unfoldable pub place_at : List Place → ℕ → Place
place_at ps i = get_or ps i free_place

-- 01: "Free place? 4": neither active nor committed
abbrev pub is_free : Life → Bool
is_free Free = true
is_free (Active n k) = false
is_free (Committed n t e) = false

-- 01: "number active? 5": is a place active under the number n?
abbrev pub active_as : Life → ℕ → Bool
active_as Free n = false
active_as (Active m k) n = eqb m.0 n
active_as (Committed m t e) n = false

-- 01: "committed with waiting versions": is a place committed under the number n?
abbrev pub committed_as : Life → ℕ → Bool
committed_as Free n = false
committed_as (Active m k) n = false
committed_as (Committed m t e) n = eqb m.0 n

-- 01: "number active? 5": the first place that is active under a number
unfoldable pub find_active : List Place → ℕ → Option ℕ
find_active ps n = first (λ i. active_as (place_at ps i).life n) 64 0

-- 01: "committed with waiting versions": the first place that is committed under a number
unfoldable pub find_committed : List Place → ℕ → Option ℕ
find_committed ps n = first (λ i. committed_as (place_at ps i).life n) 64 0

-- 01: "round the ring": the place that is k from `ring`
unfoldable pub ring_place : ℕ → ℕ → ℕ
ring_place ring k = (ring + k) % 64

-- 01: "the first free place after the last one given, round the ring": how far from `ring` it is
unfoldable pub find_free : List Place → ℕ → Option ℕ
find_free ps ring = first (λ k. is_free (place_at ps (ring_place ring k)).life) 64 0

-- 01: "the clock at begin": that of an active number, 0 where there is none
abbrev pub clock_of : Life → ℕ
clock_of Free = 0
clock_of (Active n k) = k
clock_of (Committed n t e) = 0

-- 01: "its pair's time": the commit time of a committed place, none for another
abbrev pub time_of : Life → Option CommitTime
time_of Free = None
time_of (Active n k) = None
time_of (Committed n t e) = Some t

-- 01: "whose commit record is **stored**": the commit time if the record ends at or before an end place
abbrev pub time_up_to : Life → ℕ → Option CommitTime
time_up_to Free limit = None
time_up_to (Active n k) limit = None
time_up_to (Committed n t e) limit = cond (leb e.0 limit) (Some t) None

-- 01: "its pair's time": the time by the place found, none if none was found
abbrev pub at_found : Option ℕ → (ℕ → Option CommitTime) → Option CommitTime
at_found (Some i) f = f i
at_found None f = None

-- 01: "A version's time is its stamp or its pair's time": the commit time of a number by its place
unfoldable pub time_under : List Place → ℕ → Option CommitTime
time_under ps n = at_found (find_committed ps n) (λ i. time_of (place_at ps i).life)

-- 01: "whose commit record is **stored**": the commit time of a number by its place, if that record is stored
unfoldable pub stored_under : List Place → ℕ → ℕ → Option CommitTime
stored_under ps limit n = at_found (find_committed ps n) (λ i. time_up_to (place_at ps i).life limit)

-- 01: "A live transaction's waiting count is its versions not stamped on the medium": one more, which a foreign state
-- could overflow and so stays at the highest
unfoldable pub raised : Place → Place
raised p = record { life = p.life; waiting = min (p.waiting + 1) (2 ^ 64 - 1) }

-- 01: "at 0 a committed one is no longer live": one less, and a free place at 0
unfoldable pub lowered : Place → Place
lowered p = cond (leb p.waiting 1) free_place (record { life = p.life; waiting = p.waiting - 1 })
