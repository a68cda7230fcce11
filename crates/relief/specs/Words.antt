-- The state as the input and the output have it: 448 words, seven rows of 64, and the tail block. Row 0 has the numbers of the
-- state, row 1 the first changes of the pages, rows 2 to 6 the places: kind, number, time, end place, waiting versions.
use Rattle.std.specs.Prelude.{ℕ, ◌+◌, ◌%◌, ◌≤◌, ◌≡◌, cond, List, get_or, map, eqb}
use Rattle.std.specs.List.{range_with_len}
use Rattle.fields.specs.Part.{part}
use Rattle.store.specs.declared.Life.{Life}
use Rattle.store.specs.declared.Life.TheVariants.{Free, Active, Committed}
use Rattle.store.specs.declared.Place.{Place}
use Rattle.store.specs.declared.Phase.{Phase}
use Rattle.store.specs.declared.Phase.TheVariants.{Idle, FirstStored, SecondStored}
use Rattle.store.specs.declared.State.{State}

-- a place by its kind: 1 active, with its clock as the time, 2 committed, any other free
unfoldable pub life_by : ℕ → ℕ → ℕ → ℕ → Life
life_by kind n t e =
    cond (eqb kind 1) (Active (record { 0 = n }) t)
    (cond (eqb kind 2) (Committed (record { 0 = n }) (record { 0 = t }) (record { 0 = e })) Free)

-- place i: a word of each of its rows
unfoldable pub place_in : List ℕ → ℕ → Place
place_in w i = record {
  life = life_by (get_or w (128 + i) 0) (get_or w (192 + i) 0) (get_or w (256 + i) 0) (get_or w (320 + i) 0);
  waiting = get_or w (384 + i) 0;
}

unfoldable pub places_of : List ℕ → List Place
places_of w = map (place_in w) (range_with_len 0 64)

unfoldable pub first_of : List ℕ → List ℕ
first_of w = part w 64 64

-- a checkpoint under way by its kind: 1 after its first store, 2 after its second, any other none
unfoldable pub phase_by : ℕ → ℕ → ℕ → Phase
phase_by kind o t =
    cond (eqb kind 1) (FirstStored o (record { 0 = t })) (cond (eqb kind 2) (SecondStored o (record { 0 = t })) Idle)

-- the state of words with these places, and this tail
unfoldable pub state_by : List ℕ → List Place → List ℕ → State
state_by w ps tail = record {
  blocks = get_or w 0 0;
  pages = get_or w 1 0;
  slots = get_or w 2 0;
  next = record { 0 = get_or w 3 0 };
  last = record { 0 = get_or w 4 0 };
  saved = record { 0 = get_or w 5 0 };
  end = record { 0 = get_or w 6 0 };
  tail = tail;
  places = ps;
  ring = get_or w 7 0;
  first = first_of w;
  phase = phase_by (get_or w 8 0) (get_or w 9 0) (get_or w 10 0);
}

-- the state that words and tail hold
unfoldable pub state_of : List ℕ → List ℕ → State
state_of w tail = state_by w (places_of w) tail

-- the state with other places
unfoldable pub with_places : State → List Place → State
with_places s ps = record {
  blocks = s.blocks;
  pages = s.pages;
  slots = s.slots;
  next = s.next;
  last = s.last;
  saved = s.saved;
  end = s.end;
  tail = s.tail;
  places = ps;
  ring = s.ring;
  first = s.first;
  phase = s.phase;
}

-- only words of place i are others
abbrev pub KeepsOthers : List ℕ → List ℕ → ℕ → Type 0
KeepsOthers w v i = (k : ℕ) → (128 ≤ k → k % 64 ≡ i → ⊥) → get_or v k 0 ≡ get_or w k 0
