-- Begin.
use Rattle.std.specs.Prelude.{ℕ, ◌+◌, ◌-◌, ◌%◌, ◌^◌, Bool, List, [], ◌∷◌, length, set, ltb, Option, None, Some, Ok}
use Rattle.store.specs.declared.Life.TheVariants.{Active}
use Rattle.store.specs.declared.Refusal.{Refusal}
use Rattle.store.specs.declared.Refusal.TheVariants.{Unfit, NoNumber, NoPlace}
use Rattle.store.specs.declared.Answer.TheVariants.{Begun}
use Rattle.store.specs.declared.State.{State}
use Rattle.store.specs.Answer.{Outcome, leaves, refuses, ask}
use Rattle.store.specs.Places.{is_at, find_free, ring_place}
use Rattle.store.specs.State.{fits}

-- 01: "do state and buffers fit .. ? 16", "next number below 2^64 - 1? 15. Free place? 4"
abbrev pub begin_asks : State → List ℕ → List ℕ → List (Bool × Refusal)
begin_asks s m c =
    (fits s (length m) (length c), Unfit)
    ∷ (ltb s.next.0 (2 ^ 64 - 1), NoNumber)
    ∷ (is_at (find_free s.places s.ring), NoPlace)
    ∷ []

-- 01: "A new one takes the first free place after the last one given, round the ring"
unfoldable pub begun : State → ℕ → ℕ → State
begun s i clock = record {
  blocks = s.blocks;
  pages = s.pages;
  slots = s.slots;
  next = record { 0 = s.next.0 + 1 };
  last = s.last;
  saved = s.saved;
  end = s.end;
  tail = s.tail;
  places = set s.places i (record { life = Active s.next clock; waiting = 0 });
  ring = (i + 1) % 64;
  first = s.first;
  phase = s.phase;
}

-- 01: "takes the first free place": the outcome once the place is known
abbrev pub begin_at : Option ℕ → State → List ℕ → List ℕ → ℕ → Outcome
begin_at None s m c clock = refuses NoPlace s m c
begin_at (Some k) s m c clock = leaves (Ok (Begun s.next)) (begun s (ring_place s.ring k) clock) m c

-- 01: "on "no", this number with zeros": begin refused, or done at the place found
unfoldable pub begin_if : Option Refusal → State → List ℕ → List ℕ → ℕ → Outcome
begin_if (Some r) s m c clock = refuses r s m c
begin_if None s m c clock = begin_at (find_free s.places s.ring) s m c clock

-- 01: "In this order, those that fit the call": begin's outcome, its first "no" or its step
unfoldable pub begin_of : State → List ℕ → List ℕ → ℕ → Outcome
begin_of s m c clock = begin_if (ask (begin_asks s m c)) s m c clock
