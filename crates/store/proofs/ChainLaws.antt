-- What a search along earlier slots does at a slot: it ends at an empty one, and goes on at a version. By cases on the slot.
use mathlib.Core.Path.{◌≡◌, refl}
use mathlib.Core.Bool.{true, false}
use Prim.Native.Nat.{ℕ}
use native.Mathlib.Omega.{arith}
use Rattle.layout.specs.declared.slot.Slot.{Slot}
use Rattle.layout.specs.declared.slot.Slot.TheVariants.{Empty, Waiting, Stamped}
use Rattle.store.specs.Chain.{is_version, unless_empty}

pub unless_none : {A : Type 0} (s : Slot) (x y : A) → is_version s ≡ false → unless_empty s x y ≡ x
unless_none Empty x y e = refl
unless_none (Waiting n) x y e = let z : ◌≡◌ {A = ℕ} 0 1 = cc in absurd (omega arith)
unless_none (Stamped t) x y e = let z : ◌≡◌ {A = ℕ} 0 1 = cc in absurd (omega arith)

pub unless_some : {A : Type 0} (s : Slot) (x y : A) → is_version s ≡ true → unless_empty s x y ≡ y
unless_some Empty x y e = let z : ◌≡◌ {A = ℕ} 0 1 = cc in absurd (omega arith)
unless_some (Waiting n) x y e = refl
unless_some (Stamped t) x y e = refl
