-- Write, and what it shares with erase.
use Rattle.std.specs.Prelude.{ℕ, ◌+◌, ◌*◌, Bool, cond, not, List, [], ◌∷◌, length, get_or, set, eqb, ltb, Option, None, Some, Ok}
use Rattle.fields.specs.Block.{page_of}
use Rattle.layout.specs.Slot.{Cell, key_form}
use Rattle.layout.specs.Page.{put_version}
use Rattle.layout.specs.Journal.{version, sequence_of}
use Rattle.layout.specs.declared.slot.Slot.TheVariants.{Waiting}
use Rattle.layout.specs.declared.item.Width.TheVariants.{Two}
use Rattle.layout.specs.declared.item.VersionHead.{VersionHead}
use Rattle.store.specs.declared.Refusal.{Refusal}
use Rattle.store.specs.declared.Refusal.TheVariants.{Unfit, NoRecord, NotActive, Held, NoSlot, LogFull}
use Rattle.store.specs.declared.Answer.TheVariants.{Written}
use Rattle.store.specs.declared.State.{State}
use Rattle.store.specs.Answer.{Outcome, leaves, refuses, ask}
use Rattle.store.specs.Places.{is_at, find_active, place_at, raised}
use Rattle.store.specs.State.{fits}
use Rattle.store.specs.Tail.{may_log, logged, Logged, tail_end}
use Rattle.store.specs.Chain.{newest, held}

-- 01: "state and buffers fit .. ? 16", "number active? 5", "not held by another? 6", "next slot below 15 × D? 7", "may
-- the log take it? 8"; 02, #104: "18, is the record number below 1,024? It comes before 5", "records of 34 bytes"
abbrev pub write_asks : State → List ℕ → List ℕ → ℕ → ℕ → List (Bool × Refusal)
write_asks s m c n key =
    (fits s (length m) (length c), Unfit)
    ∷ (key_form key, NoRecord)
    ∷ (is_at (find_active s.places n), NotActive)
    ∷ (not (held c s.places s.slots key n), Held)
    ∷ (ltb s.slots (15 * s.pages), NoSlot)
    ∷ (may_log s m 34, LogFull)
    ∷ []

-- 01: "earlier slot of that record (65535: none)"
abbrev pub or_none : Option ℕ → ℕ
or_none (Some s) = s
or_none None = 65535

-- 01: "A write or erase takes the next slot and a version record"; 02, #104: "new versions use tag 3 only"
unfoldable pub new_head : State → List ℕ → ℕ → ℕ → ℕ → VersionHead
new_head s c n key kind = record {
  width = Two;
  slot = s.slots;
  key = key;
  kind = kind;
  earlier = or_none (newest c key s.slots);
  number = record { 0 = n };
}

-- 01: "waiting under a number": the slot that a version record gives
unfoldable pub cell_for : VersionHead → List ℕ → Cell
cell_for h value = record { state = Waiting h.number; key = h.key; kind = h.kind; earlier = h.earlier; value = value }

-- 01: "block that first changed a page not stored since": page p's, which stays where there is one
unfoldable pub touched : List ℕ → ℕ → ℕ → List ℕ
touched first p seq = set first p (cond (eqb (get_or first p 0) 0) seq (get_or first p 0))

-- 01: "takes the next slot and a version record": the state with both taken and one more version waiting in place i
unfoldable pub written : State → ℕ → Logged → State
written s i g = record {
  blocks = s.blocks;
  pages = s.pages;
  slots = s.slots + 1;
  next = s.next;
  last = s.last;
  saved = g.saved;
  end = g.end;
  tail = g.tail;
  places = set s.places i (raised (place_at s.places i));
  ring = s.ring;
  first = touched s.first (page_of s.slots) (sequence_of g.tail);
  phase = s.phase;
}

-- 01: "takes the next slot and a version record": the outcome, with the version put in the cache
unfoldable pub write_step : State → List ℕ → List ℕ → ℕ → VersionHead → List ℕ → Outcome
write_step s m c i h value =
    let g = logged s m (version h value) in
    leaves (Ok (Written s.slots)) (written s i g) g.medium
    (put_version c s.slots (tail_end g.tail).0 (cell_for h value))

-- 01: "A write or erase takes the next slot": the outcome once the number's place is known
abbrev pub write_at : Option ℕ → State → List ℕ → List ℕ → VersionHead → List ℕ → Outcome
write_at None s m c h value = refuses NotActive s m c
write_at (Some i) s m c h value = write_step s m c i h value

-- 01: "on "no", this number with zeros": a write or erase refused, or done at the number's place
unfoldable pub write_if : Option Refusal → State → List ℕ → List ℕ → ℕ → ℕ → ℕ → List ℕ → Outcome
write_if (Some r) s m c n key kind value = refuses r s m c
write_if None s m c n key kind value = write_at (find_active s.places n) s m c (new_head s c n key kind) value

-- 01: "In this order, those that fit the call": the outcome for a version of either kind, its first "no" or its step
unfoldable pub add_of : State → List ℕ → List ℕ → ℕ → ℕ → ℕ → List ℕ → Outcome
add_of s m c n key kind value = write_if (ask (write_asks s m c n key)) s m c n key kind value

-- 01: "kind (0 present, 1 erased)"
unfoldable pub write_of : State → List ℕ → List ℕ → ℕ → ℕ → List ℕ → Outcome
write_of s m c n key value = add_of s m c n key 0 value
