-- Whether a key is held, by the book's rows and the active numbers: its newest version's number decides (Again), and the newest
-- logged version is the newest version row, since the rows are those versions in their order.
use Rattle.std.specs.Prelude.{Option, None, Some}
use Prim.Native.Nat.{ℕ, zero, suc, ◌≤◌}
use native.Mathlib.Omega.{arith}
use mathlib.Core.Path.{◌≡◌, refl, sym, ap, ◌∙◌}
use mathlib.Core.Logic.{inl, inr, ◌≢◌}
use mathlib.Core.Bool.{Bool, true, false, cond, not, ◌&&◌}
use mathlib.Core.List.{List, [], ◌∷◌, ◌++◌}
use lib.ListN.{length, take}
use lib.Dec.{eqb}
use Rattle.layout.specs.Journal.{Record}
use Rattle.store.specs.declared.Place.{Place}
use Rattle.store.specs.declared.State.{State}
use Rattle.store.specs.Places.{is_at, find_active}
use Rattle.store.specs.Chain.{held}
use Rattle.runs.specs.Book.{Book, Version, versions}
use Rattle.runs.specs.Moments.{Among}
use Rattle.agreement.proofs.history.Ghost.{LoggedVersion, at, newest_of, Disk}
use Rattle.agreement.proofs.history.RowLaws.{row_for, rows_for}
use Rattle.agreement.proofs.invariant.Invariant.{Up}
use Rattle.agreement.proofs.reads.ReadFacts.{rows_for_step, all_rows}
use Rattle.agreement.proofs.transactions.ActiveLaws.{active_next}
use Rattle.agreement.proofs.relief.Again.{holder, vs as logged, held_is as held_logged}

-- ---- the newest version of a key

-- its number, of versions by rising slot
unfoldable pub newest_under : ℕ → Option ℕ → List Version → Option ℕ
newest_under key before [] = before
newest_under key before (v ∷ vs) = newest_under key (cond (eqb v.key key) (Some v.number) before) vs

pub newest_snoc : (key : ℕ) (before : Option ℕ) (vs : List Version) (v : Version)
    → newest_under key before (vs ++ (v ∷ [])) ≡ cond (eqb v.key key) (Some v.number) (newest_under key before vs)
unfolding newest_under
newest_snoc key before [] v = refl
newest_snoc key before (w ∷ vs) v = newest_snoc key (cond (eqb w.key key) (Some w.number) before) vs v

-- it is another than a number without versions
pub data Another (n : ℕ) : Option ℕ → Type 0 where
  nobody : Another n None
  another : (k : ℕ) → k ≢ n → Another n (Some k)

pub newest_another : (n key : ℕ) (before : Option ℕ) (vs : List Version) → ((v : Version) → Among v vs → v.number ≢ n) → Another n before
    → Another n (newest_under key before vs)
unfolding newest_under
newest_another n key before [] f a = a
newest_another n key before (v ∷ vs) f a =
    newest_another n key (cond (eqb v.key key) (Some v.number) before) vs (λ w h. f w (inr h)) (go (eqb v.key key))
  where
    go : (same : Bool) → Another n (cond same (Some v.number) before)
    go true = another v.number (f v (inl refl))
    go false = a

-- ---- held

-- against n: the newest is under another number, which is active
abbrev pub held_row : Option ℕ → List Place → ℕ → Bool
held_row None ps n = false
held_row (Some k) ps n = not (eqb k n) && is_at (find_active ps k)

-- the number of a logged version that was found
abbrev number_at : Option ℕ → List LoggedVersion → Option ℕ
number_at None vs = None
number_at (Some slot) vs = Some (at vs slot).num

newest_logged : (vs : List LoggedVersion) (key j : ℕ) → j ≤ length vs → number_at (newest_of vs key j) vs ≡ newest_under key None (rows_for (take j vs))
unfolding newest_of rows_for newest_under
newest_logged vs key zero h = refl
newest_logged vs key (suc j) h =
    rw (rows_for_step vs j h, newest_snoc key None (rows_for (take j vs)) (row_for (at vs j)))
    (go (eqb (at vs j).key key) (newest_logged vs key j (omega arith)))
  where
    go : (same : Bool) → number_at (newest_of vs key j) vs ≡ newest_under key None (rows_for (take j vs))
        → number_at (cond same (Some j) (newest_of vs key j)) vs ≡ cond same (Some (at vs j).num) (newest_under key None (rows_for (take j vs)))
    go true ih = refl
    go false ih = ih

module _ {l d : ℕ} {m c : List ℕ} {s : State} {b : Book} {disk : Disk} {closed : List (List Record)} {tail : List Record} (u : Up l d m c s b disk closed tail) where
  pub held_is : (key n : ℕ) → held c s.places s.slots key n ≡ held_row (newest_under key None (versions b.rows)) s.places n
  held_is key n =
      held_logged u key n
      ∙ go (newest_of (logged u) key (length (logged u)))
      ∙ ap (λ (k : Option ℕ). held_row k s.places n) (newest_logged (logged u) key (length (logged u)) (omega arith)
      ∙ ap (newest_under key None) (sym (all_rows u)))
    where
      go : (f : Option ℕ) → holder f (logged u) s.places n ≡ held_row (number_at f (logged u)) s.places n
      go None = refl
      go (Some slot) = refl

  -- active numbers are below the next
  pub idle_next : is_at (find_active s.places s.next.0) ≡ false
  idle_next = go (find_active s.places s.next.0) refl
    where
      go : (f : Option ℕ) → find_active s.places s.next.0 ≡ f → is_at f ≡ false
      go None e = refl
      go (Some i) e = absurd (omega (arith, active_next u s.next.0 i e))
