-- The time is that of the place found, and only a committed one has a time.
use Rattle.std.specs.Prelude.{ℕ, None}
use mathlib.Core.Logic.{◌⊎◌, inl, inr}
use mathlib.Core.Path.{◌≡◌, refl}
use Rattle.layout.specs.declared.TxNumber.{TxNumber}
use Rattle.store.specs.declared.Life.{Life}
use Rattle.store.specs.declared.Life.TheVariants.{Free, Active}
use Rattle.store.specs.Places.{place_at, time_of, time_under}
use Rattle.live.proofs.times.time_under.Goals as goal

no_time : (l : Life) → (l ≡ Free) ⊎ ((n : TxNumber) × (k : ℕ) × (l ≡ Active n k)) → time_of l ≡ None
no_time l (inl e) = rw e refl
no_time l (inr (n, k, e)) = rw e refl

pub returns-in_err-i : goal.returns-in_err-i
unfolding time_under
returns-in_err-i c = simp (← c.find_committed.ensures, c.in_err-i.was, c.from_residual.ensures)

pub returns-in-Committed : goal.returns-in-Committed
unfolding time_under place_at
returns-in-Committed c = simp (← c.find_committed.ensures, c.in_ok-i.was, c.in-Committed.is)

pub returns-in-Free : goal.returns-in-Free
unfolding time_under place_at
returns-in-Free c = simp (← c.find_committed.ensures, c.in_ok-i.was, no_time _ c.in-Free.is)
