-- Each event makes at most one store: a call leaves the medium alone or replaces one block (OneBlock), and openings and
-- cuts leave it alone.
use Rattle.store.specs.declared.Refusal.{Refusal}
use Rattle.std.specs.Prelude.{Err, Ok, Result}
use Prim.Native.Nat.{ℕ}
use mathlib.Core.Path.{◌≡◌, refl, sym, subst}
use mathlib.Core.List.{List, [], ◌∷◌}
use Rattle.store.specs.declared.Answer.{Answer}
use Rattle.store.specs.declared.Answer.TheVariants.{Done, Begun, Written, Committed, Opened, Missing, Erased, Present, Listed}
use Rattle.store.specs.Answer.{Outcome}
use Rattle.store.specs.Open.{open_of}
use Rattle.runs.specs.Event.{Event, opening, cut, call}
use Rattle.runs.specs.Machine.{World, up, down, medium_of, opened_to, opens, step}
use Rattle.runs.specs.Relief.{OneStore, alone, replaced, OneEach}
use Rattle.runs.proofs.OneBlock.{Stores, nothing, block, stores}
use Rattle.runs.proofs.Refusals.{open_medium}

opened_alone : (a : Result Answer Refusal) (w : World) (o : Outcome) → o.medium ≡ medium_of w
    → medium_of (opened_to a w o) ≡ medium_of w
opened_alone (Err r) w o e = refl
opened_alone (Ok Done) w o e = e
opened_alone (Ok (Begun n)) w o e = e
opened_alone (Ok (Written k)) w o e = e
opened_alone (Ok (Committed t)) w o e = e
opened_alone (Ok (Opened t)) w o e = e
opened_alone (Ok Missing) w o e = e
opened_alone (Ok Erased) w o e = e
opened_alone (Ok Present) w o e = e
opened_alone (Ok (Listed k)) w o e = e

pub one_of : {m n : List ℕ} {k : ℕ} → Stores m k n → OneStore m n
one_of {m = m} s = go s
  where
    go : {k : ℕ} {n : List ℕ} → Stores m k n → OneStore m n
    go nothing = alone
    go {k = k} (block b e) = replaced k b e

one_store : (l d : ℕ) (w : World) (e : Event) → OneStore (medium_of w) (medium_of (step l d w e).world)
unfolding step opens
one_store l d w (opening c) =
    subst (OneStore (medium_of w))
    (sym (opened_alone (open_of (medium_of w) c l d).answer w (open_of (medium_of w) c l d)
    (open_medium (medium_of w) c l d))) alone
one_store l d w cut = alone
one_store l d (down m) (call k) = alone
one_store l d (up m c s) (call k) = one_of (stores m c s k)

pub one_each : (l d : ℕ) (w : World) (es : List Event) → OneEach l d w es
one_each l d w [] = tt
one_each l d w (e ∷ es) = (one_store l d w e, one_each l d (step l d w e).world es)
