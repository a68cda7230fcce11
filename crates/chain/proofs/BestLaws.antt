-- The best version from a slot on, held against the best of the higher slots: the later of two is the same however three are
-- grouped, one law for each way that a step goes, and the best lies in the cache. Assumes nothing.
use Rattle.std.specs.Prelude.{Option, Some, None}
use mathlib.Core.Path.{◌≡◌, refl, sym, ap, subst, ◌∙◌}
use mathlib.Core.Bool.{Bool, true, false, cond}
use Prim.Native.Nat.{ℕ, zero, suc, ◌≤◌, ◌<◌}
use native.Mathlib.Decide.{dec_le}
use native.Mathlib.Omega.{arith}
use mathlib.Core.List.{List}
use lib.Dec.{ltb, leb}
use borrow.Author.Tests.{lt-ltb, le-ltb, ltb-true, le-leb, lt-leb}
use Rattle.layout.specs.declared.CommitTime.{CommitTime}
use Rattle.layout.specs.declared.slot.Slot.{Slot}
use Rattle.layout.specs.declared.slot.Slot.TheVariants.{Empty, Waiting, Stamped}
use Rattle.fields.proofs.Choose.{cond_when, cond_elim}
use Rattle.store.specs.Chain.{cell_at, is_version, version_time, unless_empty, later_of, better_of, best_from, best_of}
use Rattle.cached.specs.Room.{Room, Head, Within}
use Rattle.cached.proofs.RoomLaws.{room_lower}
use Rattle.store.proofs.ChainLaws.{unless_none, unless_some}
use Rattle.chain.specs.Later.{or_later}

-- ---- the later of two

pub or_none : (b : Option (ℕ × CommitTime)) → or_later b None ≡ b
unfolding or_later
or_none None = refl
or_none (Some (s, t)) = refl

pub or_group : (a b d : Option (ℕ × CommitTime)) → or_later (or_later a b) d ≡ or_later a (or_later b d)
unfolding or_later
or_group None b d = refl
or_group (Some (s, t)) None d = refl
or_group (Some (s, t)) (Some (r, u)) None = or_none (or_later (Some (s, t)) (Some (r, u)))
or_group (Some (s, t)) (Some (r, u)) (Some (q, v)) = go (dec_le u.0 t.0) (dec_le v.0 u.0)
  where
    go : Dec (u.0 ≤ t.0) → Dec (v.0 ≤ u.0)
        → or_later (or_later (Some (s, t)) (Some (r, u))) (Some (q, v)) ≡ or_later (Some (s, t)) (or_later (Some (r, u)) (Some (q, v)))
    go (yes a) (yes b) = simp (le-leb _ _ a, le-leb _ _ b, le-leb v.0 t.0 (omega arith))
    go (yes a) (no b) = simp (le-leb _ _ a, lt-leb v.0 u.0 (omega arith))
    go (no a) (yes b) = simp (lt-leb u.0 t.0 (omega arith), le-leb _ _ b)
    go (no a) (no b) =
        simp (lt-leb u.0 t.0 (omega arith), lt-leb v.0 u.0 (omega arith), lt-leb v.0 t.0 (omega arith))

pub better_or : (time : Option CommitTime) (s t : ℕ) (rest : Option (ℕ × CommitTime)) → better_of time s t rest ≡ or_later (better_of time s t None) rest
unfolding or_later
better_or None s t rest = refl
better_or (Some u) s t rest = go (leb u.0 t)
  where
    go : (b : Bool) → cond b (later_of s u rest) rest ≡ or_later (cond b (Some (s, u)) None) rest
    go true = refl
    go false = refl

-- ---- a step of the search: st, e and time are what the code found at s

module _ (c : List ℕ) (pair : ℕ → Option CommitTime) (t : ℕ) where
  -- more steps than enough change nothing
  fuel : (k m s : ℕ) → s < k → s < m → best_from c pair t k s ≡ best_from c pair t m s
  unfolding best_from
  fuel zero m s h g = absurd (omega arith)
  fuel (suc k) zero s h g = absurd (omega arith)
  fuel (suc k) (suc m) s h g =
      ap (λ (r : Option (ℕ × CommitTime)). unless_empty (cell_at c s).state None (better_of (version_time pair (cell_at c s).state) s t r))
      (cond_when (ltb (cell_at c s).earlier s) None (λ e.
      let l : (cell_at c s).earlier < s = ltb-true _ _ e in
      fuel k m (cell_at c s).earlier (omega arith) (omega arith)))

  none : (s : ℕ) (st : Slot) → st ≡ (cell_at c s).state → is_version st ≡ false → best_from c pair t (suc s) s ≡ None
  unfolding best_from
  none s st es v = rw (← es) (unless_none st _ _ v)

  end : (s e : ℕ) (st : Slot) (time : Option CommitTime) → st ≡ (cell_at c s).state → is_version st ≡ true → time ≡ version_time pair st
      → e ≡ (cell_at c s).earlier → s ≤ e → best_from c pair t (suc s) s ≡ better_of time s t None
  unfolding best_from
  end s e st time es v et ee h = rw (← es) (unless_some st _ _ v ∙ simp (← et, ← ee, le-ltb _ _ h))

  down : (s e : ℕ) (st : Slot) (time : Option CommitTime) → st ≡ (cell_at c s).state → is_version st ≡ true → time ≡ version_time pair st
      → e ≡ (cell_at c s).earlier → e < s → best_from c pair t (suc s) s ≡ better_of time s t (best_from c pair t s e)
  unfolding best_from
  down s e st time es v et ee h = rw (← es) (unless_some st _ _ v ∙ simp (← et, ← ee, lt-ltb _ _ h))

  -- best is that of the higher slots, own what counts of s, next the later of the two
  pub best_none : (s : ℕ) (st : Slot) (best : Option (ℕ × CommitTime)) → st ≡ (cell_at c s).state → is_version st ≡ false
      → best ≡ or_later best (best_from c pair t (suc s) s)
  best_none s st best es v = sym (ap (or_later best) (none s st es v) ∙ or_none best)

  pub best_end : (s e : ℕ) (st : Slot) (time : Option CommitTime) (best own next : Option (ℕ × CommitTime)) → st ≡ (cell_at c s).state → is_version st ≡ true
      → time ≡ version_time pair st → own ≡ better_of time s t None → next ≡ or_later best own → e ≡ (cell_at c s).earlier → s ≤ e
      → next ≡ or_later best (best_from c pair t (suc s) s)
  best_end s e st time best own next es v et eo en ee h = en ∙ ap (or_later best) (eo ∙ sym (end s e st time es v et ee h))

  pub best_down : (s e : ℕ) (st : Slot) (time : Option CommitTime) (best own next : Option (ℕ × CommitTime)) → st ≡ (cell_at c s).state → is_version st ≡ true
      → time ≡ version_time pair st → own ≡ better_of time s t None → next ≡ or_later best own → e ≡ (cell_at c s).earlier → e < s
      → or_later next (best_from c pair t (suc e) e) ≡ or_later best (best_from c pair t (suc s) s)
  best_down s e st time best own next es v et eo en ee h =
      let rest = best_from c pair t s e in
      rw (en, eo, fuel (suc e) s e (omega arith) h)
      (or_group best (better_of time s t None) rest
      ∙ ap (or_later best) (sym (down s e st time es v et ee h ∙ better_or time s t rest)))

-- ---- the best found lies in the cache

later_in : (l s : ℕ) (v : CommitTime) (rest : Option (ℕ × CommitTime)) → Room l (suc s) → Within rest l → Within (later_of s v rest) l
later_in l s v None r w = r
later_in l s v (Some (q, u)) r w = cond_elim (λ (b : Option (ℕ × CommitTime)). Within b l) (leb u.0 v.0) (λ _. r) (λ _. w)

better_in : (time : Option CommitTime) (l s t : ℕ) (rest : Option (ℕ × CommitTime)) → Room l (suc s) → Within rest l → Within (better_of time s t rest) l
better_in None l s t rest r w = w
better_in (Some v) l s t rest r w = cond_elim (λ (b : Option (ℕ × CommitTime)). Within b l) (leb v.0 t) (λ _. later_in l s v rest r w) (λ _. w)

unless_in : (st : Slot) (l : ℕ) (b : Option (ℕ × CommitTime)) → Within b l → Within (unless_empty st None b) l
unless_in Empty l b w = tt
unless_in (Waiting n) l b w = w
unless_in (Stamped v) l b w = w

from_in : (c : List ℕ) (pair : ℕ → Option CommitTime) (l t k s : ℕ) → Room l (suc s) → Within (best_from c pair t k s) l
unfolding best_from
from_in c pair l t zero s r = tt
from_in c pair l t (suc k) s r =
    unless_in (cell_at c s).state l _ (better_in (version_time pair (cell_at c s).state) l s t _ r
    (cond_elim (λ (b : Option (ℕ × CommitTime)). Within b l) (ltb (cell_at c s).earlier s)
    (λ e.
    let h : (cell_at c s).earlier < s = ltb-true _ _ e in
    from_in c pair l t k (cell_at c s).earlier (room_lower l (suc s) _ r (omega arith)))
    (λ e. tt)))

best_in : (head : Option ℕ) (c : List ℕ) (pair : ℕ → Option CommitTime) (t l : ℕ) → Head head l → Within (best_of head c pair t) l
unfolding best_of
best_in (Some s) c pair t l r = from_in c pair l t (suc s) s r
best_in None c pair t l r = tt

-- b is the best that was found
pub best_within : (head : Option ℕ) (c : List ℕ) (pair : ℕ → Option CommitTime) (t l : ℕ) (b : Option (ℕ × CommitTime)) → b ≡ best_of head c pair t → Head head l → Within b l
best_within head c pair t l b e r = subst (λ (x : Option (ℕ × CommitTime)). Within x l) (sym e) (best_in head c pair t l r)

pub within_at : (b : Option (ℕ × CommitTime)) (l s : ℕ) (u : CommitTime) → b ≡ Some (s, u) → Within b l → Room l (suc s)
within_at b l s u e w = subst (λ (x : Option (ℕ × CommitTime)). Within x l) e w
