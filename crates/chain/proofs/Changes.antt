-- What a list of changes is, said by what is found as of times. A version found as of t is found as of each time from its own to
-- t, so going from a version to the one found before it misses no change. By induction on these steps. Assumes nothing.
use Rattle.std.specs.Prelude.{Option, Some, None}
use mathlib.Core.Path.{◌≡◌, refl, sym, ap, subst, ◌∙◌}
use mathlib.Core.Logic.{◌↔◌, ⊎_elim, ∥∥₁_elim}
use mathlib.Core.Bool.{true, cond}
use mathlib.Core.List.Memᴰ
use mathlib.Core.List.{List, [], ◌∷◌, ◌++◌, Memᴰ, Pairwise, Pairwise-singleton, Pairwise-append}
use Prim.Native.Nat.{ℕ, zero, suc, ◌≤◌, ◌<◌}
use native.Mathlib.Bridge.{le_prop}
use native.Mathlib.Decide.{dec_lt}
use native.Mathlib.Omega.{arith}
use lib.Dec.{ltb, leb}
use borrow.Author.Tests.{ltb-true, ltb-false, leb-true, leb-false, le-leb, lt-leb}
use Rattle.fields.proofs.Choose.{cond_elim, cond_cases}
use Rattle.layout.specs.declared.CommitTime.{CommitTime}
use Rattle.store.specs.declared.State.{State}
use Rattle.store.specs.Places.{time_under}
use Rattle.store.specs.Chain.{newest, cell_at, best_of}
use Rattle.store.specs.Changes.{Line, differs_from, line_of, before, lines_at, lines_below, change_lines}
use Rattle.chain.specs.declared.ranked.Dated.{Dated}
use Rattle.chain.specs.Ranked.{ranked_of}
use Rattle.chain.proofs.RankedLaws.{first_at, ranked_best}

-- ---- a version found as of t is found as of each time from its own to t

-- the time of the version found, 0 if there is none
abbrev time_of : Option (ℕ × CommitTime) → ℕ
time_of None = 0
time_of (Some (n, u)) = u.0

first_since : (t : ℕ) (es : List Dated) {b : Option (ℕ × CommitTime)} → first_at es t ≡ b
    → (time_of b ≤ t) × ((v : ℕ) → time_of b ≤ v → v ≤ t → first_at es v ≡ b)
unfolding first_at
first_since t [] q = (omega (arith, ap time_of q), λ v h l. q)
first_since t (e ∷ es) q =
    cond_cases (leb e.time.0 t) q
    (λ y p. (omega (arith, leb-true e.time.0 t y, ap time_of p), λ v h l. simp (le-leb e.time.0 v (omega (arith, ap time_of p))) p))
    (λ y p.
    let r = first_since t es p in
    (r.0, λ v h l. simp (lt-leb e.time.0 v (omega (arith, leb-false e.time.0 t y))) (r.1 v h l)))

best_since : (c : List ℕ) (pair : ℕ → Option CommitTime) (head : Option ℕ) (t : ℕ) {b : Option (ℕ × CommitTime)} → best_of head c pair t ≡ b
    → (time_of b ≤ t) × ((v : ℕ) → time_of b ≤ v → v ≤ t → best_of head c pair v ≡ b)
best_since c pair head t e =
    let r = first_since t (ranked_of head c pair t) (ranked_best c pair t head t (omega arith) ∙ e) in
    (r.0, λ v h l. sym (ranked_best c pair t head v l) ∙ r.1 v h l)

-- ---- changes and their lines

-- the times rise
abbrev pub Rises : List Line → Type 0
Rises = Pairwise (λ (x y : Line). x.time < y.time)

module _ (c : List ℕ) (pair : ℕ → Option CommitTime) (head : Option ℕ) (t1 t2 : ℕ) where
  -- x is the line of a change from t1 to t2: as of its time a version of just that time is found, and it differs from the one
  -- found as of the moment before
  pub record Change (x : Line) : Type 0 where
    pub slot : ℕ
    pub found : best_of head c pair x.time ≡ Some (slot, (record { 0 = x.time }))
    pub from : t1 ≤ x.time
    pub up_to : x.time ≤ t2
    pub differs : differs_from c slot (before c pair head x.time) ≡ true
    pub kind : x.kind ≡ (cell_at c slot).kind
    pub value : x.value ≡ (cell_at c slot).value

  -- ls are the lines of the changes below t
  record Changes (t : ℕ) (ls : List Line) : Type 0 where
    rise : Rises ls
    sound : (x : Line) → Memᴰ x ls → Change x × (x.time < t)
    whole : (x : Line) → Change x → x.time < t → Memᴰ x ls

  none : (t : ℕ) → ((x : Line) → Change x → x.time < t → ⊥) → Changes t []
  none t h = record { rise = Pairwise.nil; sound = λ x i. absurd (Memᴰ.not-nil i); whole = λ x k l. absurd (h x k l) }

  -- the line of a version, if it differs
  abbrev line_if : Option (ℕ × CommitTime) → List Line
  line_if None = []
  line_if (Some (n, u)) = cond (differs_from c n (before c pair head u.0)) (line_of c n u.0) []

  has_line : (x : Line) (h : Change x) → Memᴰ x (line_if (Some (h.slot, (record { 0 = x.time }))))
  has_line x h = rw (h.differs, ← h.kind, ← h.value) (Memᴰ.head refl)

  -- a change no earlier than the version found as of t is that version
  is_found : (t : ℕ) {b : Option (ℕ × CommitTime)} → best_of head c pair t ≡ b → (x : Line) (h : Change x) → time_of b ≤ x.time → x.time < suc t
      → Some (h.slot, (record { 0 = x.time })) ≡ b
  is_found t e x h l g = sym h.found ∙ (best_since c pair head t e).1 x.time l (omega arith)

  -- the version found as of t, behind the lines of earlier changes
  module _ (t n : ℕ) (u : CommitTime) (e : best_of head c pair t ≡ Some (n, u)) (from : t1 ≤ u.0) (up_to : t ≤ t2)
      (ls : List Line) (r : Changes u.0 ls) where
    low : u.0 ≤ t
    low = (best_since c pair head t e).0

    is_change : (x : Line) → Memᴰ x (line_if (Some (n, u))) → Change x × (x.time ≡ u.0)
    is_change x =
        cond_elim (λ (l : List Line). Memᴰ x l → Change x × (x.time ≡ u.0)) (differs_from c n (before c pair head u.0))
        (λ y i.
        subst (λ (z : Line). Change z × (z.time ≡ u.0)) (sym (Memᴰ.eq_of_singleton i)) (
          record {
            slot = n;
            found = (best_since c pair head t e).1 u.0 (omega arith) low;
            from = from;
            up_to = omega (arith, low);
            differs = y;
            kind = refl;
            value = refl;
          },
          refl,
        ))
        (λ _ i. absurd (Memᴰ.not-nil i))

    is_listed : (x : Line) → Change x → x.time < suc t → Dec (x.time < u.0) → Memᴰ x (ls ++ line_if (Some (n, u)))
    is_listed x h l (yes a) = Memᴰ.append_left _ (r.whole x h a)
    is_listed x h l (no a) =
        Memᴰ.append_right ls (subst (λ (b : Option (ℕ × CommitTime)). Memᴰ x (line_if b)) (is_found t e x h (omega arith) l) (has_line x h))

    more : Changes (suc t) (ls ++ line_if (Some (n, u)))
    more = record {
      rise =
          (Pairwise-append (λ x y. le_prop)).1 (
            r.rise,
            cond_elim Rises (differs_from c n (before c pair head u.0)) (λ _. Pairwise-singleton _ _) (λ _. Pairwise.nil),
            λ x i y j. ∥∥₁_elim i le_prop (λ a. ∥∥₁_elim j le_prop (λ b. omega (arith, (r.sound x a).1, (is_change y b).1))),
          );
      sound = λ x i.
          ⊎_elim
          (λ j. let (h, l) = r.sound x j in (h, omega (arith, low)))
          (λ j. let (h, p) = is_change x j in (h, omega (arith, low))) (Memᴰ.append_cases ls i);
      whole = λ x h l. is_listed x h l (dec_lt x.time u.0);
    }

  changes_below : (k t : ℕ) → t ≤ k → t ≤ suc t2 → Changes t (lines_below c pair head t1 k t)
  unfolding lines_below before
  changes_below zero t h l = none t (λ x _ g. omega arith)
  changes_below (suc k) zero h l = none zero (λ x _ g. omega arith)
  changes_below (suc k) (suc t) h l = step (best_of head c pair t) refl (λ u g. changes_below k u (omega arith) (omega arith))
    where
      step : (b : Option (ℕ × CommitTime)) → best_of head c pair t ≡ b → ((u : ℕ) → u ≤ t → Changes u (lines_below c pair head t1 k u))
          → Changes (suc t) (lines_at c pair head (lines_below c pair head t1 k) t1 b)
      step None e r = none (suc t) (λ x i g. let p = is_found t e x i (omega arith) g in let z : ◌≡◌ {A = ℕ} 0 1 = cc in omega arith)
      step (Some (n, u)) e r =
          cond_elim (Changes (suc t)) (ltb u.0 t1)
          (λ y.
          let m : u.0 < t1 = ltb-true _ _ y in
          none (suc t) (λ x i g. omega (arith, ap time_of (is_found t e x i (omega (arith, i.from)) g))))
          (λ y. more t n u e (ltb-false _ _ y) (omega arith) (lines_below c pair head t1 k u.0) (r u.0 (best_since c pair head t e).0))

-- the list of changes of a record: its times rise, and a line is in it just if it is the line of a change
pub changes_are : (s : State) (c : List ℕ) (key t1 t2 : ℕ)
    → Rises (change_lines s c key t1 t2)
    × ((x : Line) → Memᴰ x (change_lines s c key t1 t2) ↔ Change c (time_under s.places) (newest c key s.slots) t1 t2 x)
unfolding change_lines
changes_are s c key t1 t2 =
    let r = changes_below c (time_under s.places) (newest c key s.slots) t1 t2 (suc (suc t2)) (suc t2) (omega arith) (omega arith) in
    (r.rise, λ x. (λ i. (r.sound x i).0, λ h. r.whole x h (omega arith)))
