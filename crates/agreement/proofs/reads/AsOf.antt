-- A read as of a time finds, along earlier slots, the version that the book's fold over all version rows gives: both
-- are a fold over the record's versions by rising slot (WalkLaws), and they agree at each slot.
use Rattle.std.specs.Prelude.{Option, None, Some}
use Prim.Native.Nat.{ℕ, zero, suc, ◌≤◌, ◌<◌}
use native.Mathlib.Omega.{arith}
use mathlib.Core.Bool.{Bool, true, false, cond, ◌&&◌}
use mathlib.Core.List.{List, [], ◌∷◌, ◌++◌}
use mathlib.Core.Path.{◌≡◌, refl, ap, ◌∙◌}
use lib.Dec.{eqb, leb, ltb}
use lib.ListN.{length, take}
use borrow.Author.Tests.{leb-true, leb-false, lt-ltb, le-ltb}
use Rattle.layout.specs.Journal.{Record}
use Rattle.layout.specs.Slot.{Cell}
use Rattle.layout.specs.declared.CommitTime.{CommitTime}
use Rattle.store.proofs.ChainLaws.{unless_some}
use Rattle.store.specs.declared.State.{State}
use Rattle.store.specs.Places.{time_under}
use Rattle.store.specs.Chain.{newest, cell_at, is_version, version_time, unless_empty, better_of, best_from, best_of}
use Rattle.store.specs.AsOf.{as_of_at}
use Rattle.store.specs.Changes.{before}
use Rattle.runs.specs.Book.{Book, Row, Dated, time_of, dated_of, best_below, last_below, strip_at, versions}
use Rattle.runs.specs.Book.{Version as RowVersion, later_of as later_row}
use Rattle.runs.specs.Machine.{strip_of, time_in}
use Rattle.agreement.proofs.transactions.WriteLaws.{newest_is}
use Rattle.agreement.proofs.history.Ghost.{versions_of, commits_of, LoggedVersion, at, find, timing, Disk}
use Rattle.agreement.proofs.invariant.Invariant.{Up}
use Rattle.agreement.proofs.invariant.MediumFacts.{cell_fields, cell_cached}
use Rattle.agreement.proofs.history.RowLaws.{row_for, rows_for}
use Rattle.agreement.proofs.reads.Sights.{version_time_law}
use Rattle.agreement.proofs.reads.WalkLaws.{over_all, Reaches, walked}
use Rattle.agreement.proofs.reads.ReadFacts.{rows_for_step, all_rows, row_time_law, chain_cached, kind_cached}
use Rattle.agreement.proofs.reads.ReadFacts.{value_cached, few_slots}
use Rattle.agreement.proofs.reads.CurrentRead.{cell_strip}

-- ---- the book's fold

pub best_append : (rs : List Row) (key limit : ℕ) (best : Option Dated) (vs ws : List RowVersion)
    → best_below rs key limit best (vs ++ ws) ≡ best_below rs key limit (best_below rs key limit best vs) ws
unfolding best_below
best_append rs key limit best [] ws = refl
best_append rs key limit best (x ∷ vs) ws =
    best_append rs key limit (cond (eqb x.key key) (dated_of (time_of rs x.number) best limit x) best) vs ws

pub best_snoc : (rs : List Row) (key limit : ℕ) (best : Option Dated) (vs : List RowVersion) (v : RowVersion)
    → best_below rs key limit best (vs ++ (v ∷ []))
    ≡ cond (eqb v.key key) (dated_of (time_of rs v.number) (best_below rs key limit best vs) limit v)
    (best_below rs key limit best vs)
unfolding best_below
best_snoc rs key limit best vs v = best_append rs key limit best vs (v ∷ [])

-- nothing has a time below 0
pub none_below : (rs : List Row) (key : ℕ) → last_below rs key 0 ≡ None
unfolding last_below best_below
none_below rs key = go (versions rs)
  where
    dated : (t : Option ℕ) (v : RowVersion) → dated_of t None 0 v ≡ None
    dated None v = refl
    dated (Some t) v = rw (le-ltb t 0 (omega arith))

    same : (t : Bool) (x : Option Dated) → x ≡ None → cond t x None ≡ None
    same true x e = e
    same false x e = refl

    go : (vs : List RowVersion) → best_below rs key 0 None vs ≡ None
    go [] = refl
    go (v ∷ vs) =
        ap (λ (x : Option Dated). best_below rs key 0 x vs)
        (same (eqb v.key key) (dated_of (time_of rs v.number) None 0 v) (dated (time_of rs v.number) v))
        ∙ go vs

-- ---- a slot found and the book's dated version are the same

pub data Agree (vs : List LoggedVersion) : Option (ℕ × CommitTime) → Option Dated → Type 0 where
  neither : Agree vs None None
  either : (n : ℕ) (t : CommitTime) → n < length vs
      → Agree vs (Some (n, t)) (Some (record { time = t.0; kind = (at vs n).kind; value = (at vs n).value }))

below_next : (a t : ℕ) → ltb a (suc t) ≡ leb a t
below_next a t = go (leb a t) refl
  where
    go : (x : Bool) → leb a t ≡ x → ltb a (suc t) ≡ x
    go true e = lt-ltb a (suc t) (omega (arith, leb-true a t e))
    go false e = le-ltb a (suc t) (omega (arith, leb-false a t e))

better_is : (vs : List LoggedVersion) (x n t : ℕ) (rest : Option (ℕ × CommitTime)) (best : Option Dated) → n < length vs
    → Agree vs rest best
    → Agree vs (better_of (timing x) n t rest) (dated_of (time_in (timing x)) best (suc t) (row_for (at vs n)))
better_is vs zero n t rest best h a = a
better_is vs (suc x) n t rest best h a = go rest best a
  where
    me : CommitTime
    me = record { 0 = suc x }

    row : Dated
    row = record { time = suc x; kind = (at vs n).kind; value = (at vs n).value }

    go : (rest : Option (ℕ × CommitTime)) (best : Option Dated) → Agree vs rest best
        → Agree vs (better_of (timing (suc x)) n t rest)
        (later_row best (suc t) (record { time = suc x; kind = (at vs n).kind; value = (at vs n).value }))
    go rest best neither = rw (below_next (suc x) t) (by (leb (suc x) t))
      where
        by : (y : Bool) → Agree vs (cond y (Some (n, me)) None) (cond y (Some row) None)
        by true = either n me h
        by false = neither
    go rest best (either r w g) = rw (below_next (suc x) t) (by (leb (suc x) t) (leb w.0 (suc x)))
      where
        old : Dated
        old = record { time = w.0; kind = (at vs r).kind; value = (at vs r).value }

        by : (y z : Bool) → Agree vs (cond y (cond z (Some (n, me)) (Some (r, w))) (Some (r, w)))
            (cond (y && z) (Some row) (Some old))
        by true true = either n me h
        by true false = either r w g
        by false z = either r w g

-- ---- the walk

-- a slot of the walk: it counts if it has a time not above t
abbrev counting : List ℕ → (ℕ → Option CommitTime) → ℕ → ℕ → Option (ℕ × CommitTime) → Option (ℕ × CommitTime)
counting c pair t j rest =
    unless_empty (cell_at c j).state None (better_of (version_time pair (cell_at c j).state) j t rest)

best_reached : (c : List ℕ) (pair : ℕ → Option CommitTime) (t : ℕ) (f : Option ℕ) (a : Option (ℕ × CommitTime))
    → Reaches (best_from c pair t) None f a → best_of f c pair t ≡ a
unfolding best_of
best_reached c pair t (Some j) a r = r (suc j) (omega arith)
best_reached c pair t None a r = r

module _ {l d : ℕ} {m c : List ℕ} {s : State} {b : Book} {disk : Disk} {closed : List (List Record)}
    {tail : List Record} (u : Up l d m c s b disk closed tail) where
  counting_is : (t j : ℕ) (rest : Option (ℕ × CommitTime)) → j < length (versions_of (closed ++ (tail ∷ [])))
      → counting c (time_under s.places) t j rest
      ≡ better_of
      (timing (find (commits_of (closed ++ (tail ∷ []))) (at (versions_of (closed ++ (tail ∷ []))) j).num).time) j t
      rest
  counting_is t j rest h =
      unless_some (cell_at c j).state None _
      (ap (λ (x : Cell). is_version x.state) (cell_cached u.medium u.cache j h) ∙ (cell_fields u.medium j h).0)
      ∙ ap (λ (x : Option CommitTime). better_of x j t rest) (version_time_law u j h)

  folds : (key t j : ℕ) → j ≤ length (versions_of (closed ++ (tail ∷ [])))
      → Agree (versions_of (closed ++ (tail ∷ [])))
      (over_all None (counting c (time_under s.places) t) (versions_of (closed ++ (tail ∷ []))) key j)
      (best_below b.rows key (suc t) None (rows_for (take j (versions_of (closed ++ (tail ∷ []))))))
  unfolding over_all rows_for best_below
  folds key t zero h = neither
  folds key t (suc j) h =
      rw (
        counting_is t j (over_all None (counting c (time_under s.places) t)
            (versions_of (closed ++ (tail ∷ []))) key j) h,
        rows_for_step (versions_of (closed ++ (tail ∷ []))) j h,
        best_snoc b.rows key (suc t) None (rows_for (take j (versions_of (closed ++ (tail ∷ [])))))
            (row_for (at (versions_of (closed ++ (tail ∷ []))) j)),
        row_time_law u (at (versions_of (closed ++ (tail ∷ []))) j).num,
      )
      (go (eqb (at (versions_of (closed ++ (tail ∷ []))) j).key key) _ _ (folds key t j (omega arith)))
    where
      go : (y : Bool) (rest : Option (ℕ × CommitTime)) (best : Option Dated) → Agree (versions_of (closed ++ (tail ∷ []))) rest best
          → Agree (versions_of (closed ++ (tail ∷ [])))
          (cond y (better_of
          (timing (find (commits_of (closed ++ (tail ∷ [])))
          (at (versions_of (closed ++ (tail ∷ []))) j).num).time) j t rest) rest)
          (cond y (dated_of
          (time_in
          (timing (find (commits_of (closed ++ (tail ∷ [])))
          (at (versions_of (closed ++ (tail ∷ []))) j).num).time)) best (suc t)
          (row_for (at (versions_of (closed ++ (tail ∷ []))) j))) best)
      go true rest best a =
          better_is (versions_of (closed ++ (tail ∷ [])))
          (find (commits_of (closed ++ (tail ∷ []))) (at (versions_of (closed ++ (tail ∷ []))) j).num).time j t
          rest best h a
      go false rest best a = a

  pub best_found : (key t : ℕ)
      → Agree (versions_of (closed ++ (tail ∷ []))) (best_of (newest c key s.slots) c (time_under s.places) t)
      (last_below b.rows key (suc t))
  unfolding best_from last_below
  best_found key t =
      let e : best_of (newest c key s.slots) c (time_under s.places) t
      ≡ over_all None (counting c (time_under s.places) t) (versions_of (closed ++ (tail ∷ []))) key
      (length (versions_of (closed ++ (tail ∷ [])))) =
      ap (λ (f : Option ℕ). best_of f c (time_under s.places) t) (newest_is u key)
      ∙ best_reached c (time_under s.places) t _ _
      (walked None (counting c (time_under s.places) t) (λ j. (cell_at c j).earlier)
      (best_from c (time_under s.places) t) (λ i j. refl)
      (versions_of (closed ++ (tail ∷ []))) key (few_slots u) (chain_cached u)
      (length (versions_of (closed ++ (tail ∷ [])))) (omega arith)) in
      rw (e, all_rows u) (folds key t (length (versions_of (closed ++ (tail ∷ [])))) (omega arith))

  -- the last version below a time
  pub before_is : (key t : ℕ)
      → Agree (versions_of (closed ++ (tail ∷ []))) (before c (time_under s.places) (newest c key s.slots) t)
      (last_below b.rows key t)
  unfolding before
  before_is key zero = rw (none_below b.rows key) neither
  before_is key (suc t) = best_found key t

  -- what is read
  pub best_strip : (x : Option (ℕ × CommitTime)) (y : Option Dated) → Agree (versions_of (closed ++ (tail ∷ []))) x y
      → strip_of (as_of_at x s m c).answer (as_of_at x s m c).value ≡ strip_at y
  best_strip x y neither = refl
  best_strip x y (either n t h) = cell_strip (cell_at c n) s m c ∙ rw (kind_cached u n h, value_cached u n h)
