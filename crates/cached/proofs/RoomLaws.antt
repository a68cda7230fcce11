-- A slot below the room lies within the cache, and its fields lie at fixed places in it; a state that fits has room for
-- its slots. Assumes nothing.
use Rattle.std.specs.Prelude.{Option, Some}
use mathlib.Core.Path.{◌≡◌, subst}
use mathlib.Core.Bool.{true}
use Prim.Native.Nat.{ℕ, suc, ◌+◌, ◌≤◌, ◌<◌}
use native.Mathlib.Omega.{arith}
use mathlib.Core.List.{List}
use lib.ListN.{drop, get_or}
use lib.Seq.{get_or-take, get_or-drop}
use Rattle.fields.specs.Part.{part}
use Rattle.fields.specs.Block.{slot_at, cache_length}
use Rattle.layout.specs.Page.{cache_slot}
use Rattle.layout.specs.Slot.{cell_of}
use Rattle.fields.proofs.PartLaws.{part_part}
use Rattle.store.specs.declared.State.{State}
use Rattle.store.specs.Chain.{cell_at}
use Rattle.store.specs.State.{fits}
use Rattle.store.proofs.FitLaws.{fit_of}
use Rattle.cached.specs.Room.{Room, Head}

-- the bytes of a slot end within the cache
pub slot_room : (l n : ℕ) → Room l (suc n) → slot_at n + 32 ≤ l
unfolding slot_at
slot_room l n r = omega arith

-- a state that fits has room for its slots
pub fit_room : (s : State) (m c : ℕ) → fits s m c ≡ true → Room c s.slots
unfolding cache_length
fit_room s m c e =
    let f = fit_of s m c e in
    record { pages = s.pages; few = f.range.pages_high; size = f.cache; below = f.slots }

-- room for a slot is room for a lower one
pub room_lower : (l n m : ℕ) → Room l n → m ≤ n → Room l m
room_lower l n m r h = record { pages = r.pages; few = r.few; size = r.size; below = omega arith }

pub head_at : (head : Option ℕ) (l s : ℕ) → head ≡ Some s → Head head l → Room l (suc s)
head_at head l s e h = subst (λ (f : Option ℕ). Head f l) e h

-- the fields of slot n, which begins at a: v is what the code read
byte_read : (c : List ℕ) (n a i : ℕ) → a ≡ slot_at n → i < 32 → get_or c (a + i) 0 ≡ get_or (cache_slot c n) i 0
unfolding cache_slot
byte_read c n a i e h = rw (e, get_or-take 32 (drop (slot_at n) c) i 0 h, get_or-drop (slot_at n) c i 0)

part_read : (c : List ℕ) (n a i m : ℕ) → a ≡ slot_at n → i + m ≤ 32 → part c (a + i) m ≡ part (cache_slot c n) i m
unfolding cache_slot
part_read c n a i m e h = rw (e, part_part c (slot_at n) 32 i m h)

pub kind_read : (c : List ℕ) (n a : ℕ) → a ≡ slot_at n → get_or c (a + 2) 0 ≡ (cell_at c n).kind
unfolding cell_at cell_of
kind_read c n a e = byte_read c n a 2 e (omega arith)

pub value_read : (c : List ℕ) (n a : ℕ) → a ≡ slot_at n → part c (a + 16) 16 ≡ (cell_at c n).value
unfolding cell_at cell_of
value_read c n a e = part_read c n a 16 16 e (omega arith)
