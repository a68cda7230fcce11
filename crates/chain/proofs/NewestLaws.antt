-- The newest version: a slot that holds one is found, another is passed. Assumes nothing.
use Rattle.std.specs.Prelude.{Option, Some, None}
use mathlib.Core.Path.{◌≡◌, sym, ap, subst, ◌∙◌}
use mathlib.Core.Bool.{Bool, true, false, and-true, and-false}
use Prim.Native.Nat.{ℕ, zero, suc, ◌-◌, ◌%◌, ◌<◌}
use native.Mathlib.Omega.{arith}
use mathlib.Core.List.{List}
use borrow.Author.Tests.{eq-eqb, ne_eqb}
use Rattle.layout.specs.declared.slot.Slot.{Slot}
use Rattle.fields.proofs.Choose.{cond_elim}
use Rattle.store.specs.Chain.{cell_at, is_version, version_of, newest}
use Rattle.cached.specs.Room.{Room, Head}
use Rattle.cached.proofs.RoomLaws.{room_lower}

-- k, b and the low byte are what the code read
pub holds_low : (c : List ℕ) (key n low : ℕ) → low ≡ (cell_at c n).key % 256 → (low ≡ key % 256 → ⊥) → false ≡ version_of c key n
unfolding version_of
holds_low c key n low e h = simp (ne_eqb (cell_at c n).key key (λ q. h (e ∙ ap (λ (k : ℕ). k % 256) q)), and-false)

pub holds_not : (c : List ℕ) (key n k : ℕ) → k ≡ (cell_at c n).key → (k ≡ key → ⊥) → false ≡ version_of c key n
unfolding version_of
holds_not c key n k e h = simp (← e, ne_eqb _ _ h, and-false)

pub holds_as : (c : List ℕ) (key n k : ℕ) (s : Slot) (b : Bool) → k ≡ (cell_at c n).key → k ≡ key → s ≡ (cell_at c n).state → b ≡ is_version s
    → b ≡ version_of c key n
unfolding version_of
holds_as c key n k s b e h f g = simp (← e, eq-eqb _ _ h, and-true, ← f, g)

-- b is what the test of the slot below i gave
pub newest_hit : (c : List ℕ) (key i : ℕ) (b : Bool) → 0 < i → b ≡ version_of c key (i - 1) → b ≡ true → newest c key i ≡ Some (i - 1)
unfolding newest
newest_hit c key i b h e t = let m : i ≡ suc (i - 1) = omega arith in ap (newest c key) m ∙ simp (← e, t)

pub newest_miss : (c : List ℕ) (key i : ℕ) (b : Bool) → 0 < i → b ≡ version_of c key (i - 1) → b ≡ false → newest c key (i - 1) ≡ newest c key i
unfolding newest
newest_miss c key i b h e t = let m : i ≡ suc (i - 1) = omega arith in sym (ap (newest c key) m ∙ simp (← e, t))

pub newest_end : (c : List ℕ) (key i : ℕ) → i ≡ 0 → None ≡ newest c key i
unfolding newest
newest_end c key i h = rw h

-- the slot found lies in the cache: f is what was found
in_room : (c : List ℕ) (key n l : ℕ) → Room l n → Head (newest c key n) l
unfolding newest
in_room c key zero l r = tt
in_room c key (suc n) l r =
    cond_elim (λ (f : Option ℕ). Head f l) (version_of c key n) (λ _. r) (λ _. in_room c key n l (room_lower l (suc n) n r (omega arith)))

pub newest_head : (c : List ℕ) (key n l : ℕ) (f : Option ℕ) → f ≡ newest c key n → Room l n → Head f l
newest_head c key n l f e r = subst (λ (g : Option ℕ). Head g l) (sym e) (in_room c key n l r)
