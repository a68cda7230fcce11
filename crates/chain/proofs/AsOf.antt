-- What "the best at t" means: of the versions that are found by following earlier slots and have a time not above t, the one
-- with the greatest time, and among equal times the highest slot. By induction on the chain. Assumes nothing.
use Rattle.std.specs.Prelude.{Option, Some, None}
use mathlib.Core.Path.{◌≡◌, refl, sym, ap, subst}
use mathlib.Core.Logic.{◌⊎◌, inl, inr, ⊎_elim}
use mathlib.Core.Bool.{true, cond}
use Prim.Native.Nat.{ℕ, zero, suc, ◌≤◌, ◌<◌}
use native.Mathlib.Decide.{dec_lt}
use native.Mathlib.Omega.{arith}
use mathlib.Core.List.{List}
use lib.Dec.{ltb, leb}
use borrow.Author.Tests.{ltb-true, ltb-false, leb-true, leb-false}
use Rattle.layout.specs.declared.CommitTime.{CommitTime}
use Rattle.layout.specs.declared.slot.Slot.{Slot}
use Rattle.layout.specs.declared.slot.Slot.TheVariants.{Empty, Waiting, Stamped}
use Rattle.fields.proofs.Choose.{cond_elim}
use Rattle.store.specs.Chain.{cell_at, is_version, version_time, unless_empty, later_of, better_of, best_from, best_of}

-- slot q is found from slot s by following earlier slots, each step from a version to a lower slot
pub data Reached (c : List ℕ) : ℕ → ℕ → Type 0 where
  here : {s : ℕ} → is_version (cell_at c s).state ≡ true → Reached c s s
  down : {s q : ℕ} → is_version (cell_at c s).state ≡ true → (cell_at c s).earlier < s → Reached c (cell_at c s).earlier q → Reached c s q

module _ (c : List ℕ) (pair : ℕ → Option CommitTime) (t : ℕ) where
  -- slot q has time v
  abbrev pub Has : ℕ → CommitTime → Type 0
  Has q v = version_time pair (cell_at c q).state ≡ Some v

  -- b is the best at t of the slots in P
  abbrev pub Latest : (ℕ → Type 0) → Option (ℕ × CommitTime) → Type 0
  Latest P None = (q : ℕ) (v : CommitTime) → P q → Has q v → t < v.0
  Latest P (Some (r, u)) =
      P r × Has r u × (u.0 ≤ t)
      × ((q : ℕ) (v : CommitTime) → P q → Has q v → v.0 ≤ t → (v.0 < u.0) ⊎ ((v.0 ≡ u.0) × (q ≤ r)))

  -- the same slots said in another way
  same : (P Q : ℕ → Type 0) (b : Option (ℕ × CommitTime)) → ((q : ℕ) → P q → Q q) → ((q : ℕ) → Q q → P q) → Latest P b → Latest Q b
  same P Q None f g h = λ q v p. h q v (g q p)
  same P Q (Some (r, u)) f g h = (f r h.0, h.1, h.2, λ q v p. h.3 q v (g q p))

  -- s besides the slots in P
  abbrev And : ℕ → (ℕ → Type 0) → ℕ → Type 0
  And s P q = (q ≡ s) ⊎ P q

  one_time : (x : Option CommitTime) (v w : CommitTime) → x ≡ Some v → x ≡ Some w → v.0 ≡ w.0
  one_time x v w e f = let z : v ≡ w = cc in ap (λ (y : CommitTime). y.0) z

  module _ (s : ℕ) (P : ℕ → Type 0) where
    -- s has no time, or one above t
    stays : (b : Option (ℕ × CommitTime)) → ((v : CommitTime) → Has s v → t < v.0) → Latest P b → Latest (And s P) b
    stays None n h = λ q v p e. ⊎_elim (λ z. n v (rw z at e)) (λ k. h q v k e) p
    stays (Some (r, u)) n h =
        (inr h.0, h.1, h.2, λ q v p e l. ⊎_elim (λ z. let a = n v (rw z at e) in absurd (omega arith)) (λ k. h.3 q v k e l) p)

    module _ (low : (q : ℕ) → P q → q < s) (w : CommitTime) (has : Has s w) (fits : w.0 ≤ t) where
      -- s is at least as late as a slot that is lower
      rises : (q : ℕ) (v u : CommitTime) (r : ℕ) → u.0 ≤ w.0 → q < s → (v.0 < u.0) ⊎ ((v.0 ≡ u.0) × (q ≤ r)) → Dec (v.0 < w.0)
          → (v.0 < w.0) ⊎ ((v.0 ≡ w.0) × (q ≤ s))
      rises q v u r m l a (yes k) = inl k
      rises q v u r m l a (no k) =
          let d : v.0 ≤ u.0 = ⊎_elim (λ x. omega arith) (λ x. omega arith) a in
          inr (omega arith, omega arith)

      later_latest : (b : Option (ℕ × CommitTime)) → Latest P b → Latest (And s P) (later_of s w b)
      later_latest None h = (
        inl refl,
        has,
        fits,
        λ q v p e l.
            ⊎_elim (λ z. inr (one_time _ v w (rw z at e) has, omega arith)) (λ k. let a = h q v k e in absurd (omega arith)) p,
      )
      later_latest (Some (r, u)) h =
          cond_elim (Latest (And s P)) (leb u.0 w.0)
          (λ y.
          let m : u.0 ≤ w.0 = leb-true _ _ y in (
            inl refl,
            has,
            fits,
            λ q v p e l.
                ⊎_elim (λ z. inr (one_time _ v w (rw z at e) has, omega arith)) (λ k. rises q v u r m (low q k) (h.3 q v k e l) (dec_lt v.0 w.0)) p,
          ))
          (λ y.
          let m : w.0 < u.0 = leb-false _ _ y in (
            inr h.0,
            h.1,
            h.2,
            λ q v p e l.
                ⊎_elim (λ z. inl (let a = one_time _ v w (rw z at e) has in omega arith)) (λ k. h.3 q v k e l) p,
          ))

    better_latest : (x : Option CommitTime) (b : Option (ℕ × CommitTime)) → version_time pair (cell_at c s).state ≡ x → ((q : ℕ) → P q → q < s) → Latest P b
        → Latest (And s P) (better_of x s t b)
    better_latest None b e low h = stays b (λ v k. let z : ◌≡◌ {A = ℕ} 0 1 = cc in absurd (omega arith)) h
    better_latest (Some w) b e low h =
        cond_elim (Latest (And s P)) (leb w.0 t)
        (λ y. later_latest low w e (leb-true _ _ y) b h)
        (λ y. let m : t < w.0 = leb-false _ _ y in stays b (λ v k. let a = one_time _ v w k e in omega arith) h)

  -- what is reached from s is s, or reached from the earlier slot where that is lower
  abbrev Rest : ℕ → ℕ → Type 0
  Rest s q = ((cell_at c s).earlier < s) × Reached c (cell_at c s).earlier q

  reach : (s q : ℕ) → is_version (cell_at c s).state ≡ true → And s (Rest s) q → Reached c s q
  reach s q e (inl z) = subst (λ (x : ℕ). Reached c s x) (sym z) (here e)
  reach s q e (inr k) = down e k.0 k.1

  reach_back : (s q : ℕ) → Reached c s q → And s (Rest s) q
  reach_back s q (here e) = inl refl
  reach_back s q (down e l k) = inr (l, k)

  reach_low : (s q : ℕ) → Reached c s q → q ≤ s
  reach_low s q (here e) = omega arith
  reach_low s q (down e l k) = let h = reach_low (cell_at c s).earlier q k in omega arith

  reach_some : (s q : ℕ) → Reached c s q → is_version (cell_at c s).state ≡ true
  reach_some s q (here e) = e
  reach_some s q (down e l k) = e

  unless_latest : (st : Slot) (s : ℕ) (b : Option (ℕ × CommitTime)) → (cell_at c s).state ≡ st → (is_version (cell_at c s).state ≡ true → Latest (Reached c s) b)
      → Latest (Reached c s) (unless_empty st None b)
  unless_latest Empty s b e h = λ q v k x. let z = ap is_version e in let y = reach_some s q k in let o : ◌≡◌ {A = ℕ} 0 1 = cc in absurd (omega arith)
  unless_latest (Waiting n) s b e h = h (ap is_version e)
  unless_latest (Stamped v) s b e h = h (ap is_version e)

  -- b is the best from the earlier slot
  rest_latest : (s : ℕ) (b : Option (ℕ × CommitTime)) → ((cell_at c s).earlier < s → Latest (Reached c (cell_at c s).earlier) b)
      → Latest (Rest s) (cond (ltb (cell_at c s).earlier s) b None)
  rest_latest s b h =
      cond_elim (Latest (Rest s)) (ltb (cell_at c s).earlier s) {x = b} {y = None}
      (λ y. let l : (cell_at c s).earlier < s = ltb-true _ _ y in same (Reached c (cell_at c s).earlier) (Rest s) b (λ q p. (l, p)) (λ q p. p.1) (h l))
      (λ y q v p x. let l : s ≤ (cell_at c s).earlier = ltb-false _ _ y in absurd (omega arith))

  version_latest : (s : ℕ) (b : Option (ℕ × CommitTime)) → is_version (cell_at c s).state ≡ true → Latest (Rest s) b
      → Latest (Reached c s) (better_of (version_time pair (cell_at c s).state) s t b)
  version_latest s b e h =
      same (And s (Rest s)) (Reached c s) (better_of (version_time pair (cell_at c s).state) s t b) (λ q p. reach s q e p) (λ q p. reach_back s q p)
      (better_latest s (Rest s) (version_time pair (cell_at c s).state) b refl
      (λ q p. let l = reach_low (cell_at c s).earlier q p.1 in omega arith) h)

  -- the best from s on, with steps enough
  pub best_latest : (k s : ℕ) → s < k → Latest (Reached c s) (best_from c pair t k s)
  unfolding best_from
  best_latest zero s h = absurd (omega arith)
  best_latest (suc k) s h =
      let r = cond (ltb (cell_at c s).earlier s) (best_from c pair t k (cell_at c s).earlier) None in
      unless_latest (cell_at c s).state s (better_of (version_time pair (cell_at c s).state) s t r) refl (λ e.
      version_latest s r e (rest_latest s (best_from c pair t k (cell_at c s).earlier) (λ l. best_latest k (cell_at c s).earlier (omega arith))))

-- as of t from the head
pub as_of : (c : List ℕ) (pair : ℕ → Option CommitTime) (s t : ℕ) → Latest c pair t (Reached c s) (best_of (Some s) c pair t)
unfolding best_of
as_of c pair s t = best_latest c pair t (suc s) s (omega arith)
