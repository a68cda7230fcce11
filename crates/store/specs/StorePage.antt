-- Store page.
use Rattle.layout.specs.declared.CommitTime.{CommitTime}
use Rattle.std.specs.Prelude.{ℕ, zero, suc, ◌+◌, Bool, not, List, [], ◌∷◌, length, set, leb, ltb, Option, None, Some, Ok}
use Rattle.fields.specs.Equal.{eq_list}
use Rattle.fields.specs.Block.{blk, put, page_block_at}
use Rattle.layout.specs.Slot.{slot_state}
use Rattle.layout.specs.Page.{page_slot, page_end, stamp_cell}
use Rattle.layout.specs.declared.slot.Slot.{Slot}
use Rattle.layout.specs.declared.slot.Slot.TheVariants.{Empty, Waiting, Stamped}
use Rattle.store.specs.declared.Place.{Place}
use Rattle.store.specs.declared.Refusal.{Refusal}
use Rattle.store.specs.declared.Refusal.TheVariants.{Unfit, NoPage, NotLogged, Unchanged}
use Rattle.store.specs.declared.Answer.TheVariants.{Done}
use Rattle.store.specs.declared.State.{State}
use Rattle.store.specs.Answer.{Outcome, leaves, refuses, ask}
use Rattle.store.specs.Places.{place_at, find_committed, stored_under, lowered}
use Rattle.store.specs.State.{fits}

-- 01: "stamps its waiting versions": the time with which a slot is stamped, if it waits; `pair` gives the time of a
-- number whose commit record is stored
unfoldable pub stamp_time : (ℕ → Option CommitTime) → Slot → Option CommitTime
stamp_time pair Empty = None
stamp_time pair (Waiting n) = pair n.0
stamp_time pair (Stamped t) = None

-- 01: "Storing a page first stamps its waiting versions": slot i, if there is a time for it
abbrev pub stamp_with : Option CommitTime → List ℕ → ℕ → List ℕ
stamp_with (Some t) page i = stamp_cell page i t.0
stamp_with None page i = page

-- 01: "Storing a page first stamps its waiting versions whose commit record is **stored**": the k slots from slot i on
unfoldable pub stamp_from : (ℕ → Option CommitTime) → List ℕ → ℕ → ℕ → List ℕ
stamp_from pair page i zero = page
stamp_from pair page i (suc k) =
    stamp_from pair (stamp_with (stamp_time pair (slot_state (page_slot page i))) page i) (i + 1) k

-- 01: "whose commit record is **stored**": the time of a number whose record ends at or before the stored end
unfoldable pub stored_pair : State → ℕ → Option CommitTime
stored_pair s n = stored_under s.places s.end.0 n

-- 01: "Storing a page first stamps its waiting versions": all 15 slots of the page
unfoldable pub stamped_page : State → List ℕ → List ℕ
stamped_page s page = stamp_from (stored_pair s) page 0 15

-- 01: "its versions not stamped on the medium": one less in the place found
abbrev pub lower_at : Option ℕ → List Place → List Place
lower_at (Some i) ps = set ps i (lowered (place_at ps i))
lower_at None ps = ps

-- 01: "its versions not stamped on the medium": a version stamped now counts its transaction's place down
abbrev pub settle_with : Option CommitTime → Slot → List Place → List Place → List Place
settle_with None slot old ps = ps
settle_with (Some t) Empty old ps = ps
settle_with (Some t) (Waiting n) old ps = lower_at (find_committed old n.0) ps
settle_with (Some t) (Stamped u) old ps = ps

-- 01: "its versions not stamped on the medium": counted down for the k slots from slot i on
unfoldable pub settle_from : (ℕ → Option CommitTime) → List Place → List ℕ → List Place → ℕ → ℕ → List Place
settle_from pair old page ps i zero = ps
settle_from pair old page ps i (suc k) =
    let slot = slot_state (page_slot page i) in
    settle_from pair old page (settle_with (stamp_time pair slot) slot old ps) (i + 1) k

-- 01: "at 0 a committed one is no longer live": the places once all 15 slots of the page are counted
unfoldable pub settled : State → List ℕ → List Place
settled s page = settle_from (stored_pair s) s.places page s.places 0 15

-- 01: "state and buffers fit .. ? 16", "page below D? 11. Its end place stored? 12", "would a byte on the medium
-- change? 13"
abbrev pub store_page_asks : State → List ℕ → List ℕ → ℕ → List (Bool × Refusal)
store_page_asks s m c p =
    (fits s (length m) (length c), Unfit)
    ∷ (ltb p s.pages, NoPage)
    ∷ (leb (page_end (blk c p)) s.end.0, NotLogged)
    ∷ (not (eq_list (blk m (page_block_at s.blocks p)) (stamped_page s (blk c p))), Unchanged)
    ∷ []

-- 01: "a page not stored since": the state with page p stored, so without a first change, and the places counted
unfoldable pub page_stored : State → ℕ → List ℕ → State
page_stored s p page = record {
  blocks = s.blocks;
  pages = s.pages;
  slots = s.slots;
  next = s.next;
  last = s.last;
  saved = s.saved;
  end = s.end;
  tail = s.tail;
  places = settled s page;
  ring = s.ring;
  first = set s.first p 0;
  phase = s.phase;
}

-- 01: "on "no", this number with zeros", "Storing a page": refused, or the stamped page on the medium and in the cache
unfoldable pub store_page_if : Option Refusal → State → List ℕ → List ℕ → ℕ → Outcome
store_page_if (Some r) s m c p = refuses r s m c
store_page_if None s m c p =
    let page = stamped_page s (blk c p) in
    leaves (Ok Done) (page_stored s p (blk c p)) (put m (page_block_at s.blocks p) page) (put c p page)

-- 01: "In this order, those that fit the call": the outcome of storing a page, its first "no" or its store
unfoldable pub store_page_of : State → List ℕ → List ℕ → ℕ → Outcome
store_page_of s m c p = store_page_if (ask (store_page_asks s m c p)) s m c p
