-- What a transaction sees from a slot on: one law for each way that a step goes. Assumes nothing.
use Rattle.layout.specs.declared.CommitTime.{CommitTime}
use Rattle.std.specs.Prelude.{Option, Some, None}
use mathlib.Core.Path.{◌≡◌, sym, ap, ◌∙◌}
use mathlib.Core.Bool.{Bool, true, false, cond}
use Prim.Native.Nat.{ℕ, zero, suc, ◌≤◌, ◌<◌}
use native.Mathlib.Omega.{arith}
use mathlib.Core.List.{List}
use lib.Dec.{ltb}
use borrow.Author.Tests.{lt-ltb, le-ltb, ltb-true}
use Rattle.layout.specs.declared.slot.Slot.{Slot}
use Rattle.fields.proofs.Choose.{cond_when}
use Rattle.store.specs.Chain.{cell_at, is_version, visible, unless_empty, visible_from}
use Rattle.store.proofs.ChainLaws.{unless_none, unless_some}

module _ (c : List ℕ) (pair : ℕ → Option CommitTime) (n : ℕ) where
  -- more steps than enough change nothing
  fuel : (k m s : ℕ) → s < k → s < m → visible_from c pair n k s ≡ visible_from c pair n m s
  unfolding visible_from
  fuel zero m s h g = absurd (omega arith)
  fuel (suc k) zero s h g = absurd (omega arith)
  fuel (suc k) (suc m) s h g =
      ap (λ (r : Option ℕ). unless_empty (cell_at c s).state None (cond (visible (cell_at c s).state pair n) (Some s) r))
      (cond_when (ltb (cell_at c s).earlier s) None (λ e.
      let l : (cell_at c s).earlier < s = ltb-true _ _ e in
      fuel k m (cell_at c s).earlier (omega arith) (omega arith)))

  -- st, b and e are what the code found at s: its state, whether n sees it, and its earlier slot
  pub visible_none : (s : ℕ) (st : Slot) → st ≡ (cell_at c s).state → is_version st ≡ false → None ≡ visible_from c pair n (suc s) s
  unfolding visible_from
  visible_none s st es v = sym (rw (← es) (unless_none st _ _ v))

  pub visible_here : (s : ℕ) (st : Slot) (b : Bool) → st ≡ (cell_at c s).state → is_version st ≡ true → b ≡ visible st pair n → b ≡ true
      → Some s ≡ visible_from c pair n (suc s) s
  unfolding visible_from
  visible_here s st b es v eb t = sym (rw (← es) (unless_some st _ _ v ∙ simp (← eb, t)))

  pub visible_end : (s e : ℕ) (st : Slot) (b : Bool) → st ≡ (cell_at c s).state → is_version st ≡ true → b ≡ visible st pair n → b ≡ false
      → e ≡ (cell_at c s).earlier → s ≤ e → None ≡ visible_from c pair n (suc s) s
  unfolding visible_from
  visible_end s e st b es v eb t ee h = sym (rw (← es) (unless_some st _ _ v ∙ simp (← eb, t, ← ee, le-ltb _ _ h)))

  step : (s e : ℕ) (st : Slot) (b : Bool) → st ≡ (cell_at c s).state → is_version st ≡ true → b ≡ visible st pair n → b ≡ false
      → e ≡ (cell_at c s).earlier → e < s → visible_from c pair n (suc s) s ≡ visible_from c pair n s e
  unfolding visible_from
  step s e st b es v eb t ee h = rw (← es) (unless_some st _ _ v ∙ simp (← eb, t, ← ee, lt-ltb _ _ h))

  pub visible_down : (s e : ℕ) (st : Slot) (b : Bool) → st ≡ (cell_at c s).state → is_version st ≡ true → b ≡ visible st pair n → b ≡ false
      → e ≡ (cell_at c s).earlier → e < s → visible_from c pair n (suc e) e ≡ visible_from c pair n (suc s) s
  visible_down s e st b es v eb t ee h = fuel (suc e) s e (omega arith) h ∙ sym (step s e st b es v eb t ee h)
