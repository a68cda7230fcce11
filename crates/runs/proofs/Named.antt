-- The call that `relief` names is accepted, whatever state, medium and cache are: it is named only where each of its
-- questions is answered "yes".
use Rattle.std.specs.Prelude.{None, Option, Some}
use Prim.Native.Nat.{ℕ}
use mathlib.Core.Path.{◌≡◌, refl}
use mathlib.Core.Bool.{Bool, true, false, cond, false≢true}
use mathlib.Core.List.{List, [], ◌∷◌}
use lib.ListN.{length}
use Rattle.store.specs.declared.Phase.{Phase}
use Rattle.store.specs.declared.Phase.TheVariants.{Idle, FirstStored, SecondStored}
use Rattle.store.specs.declared.Refusal.{Refusal}
use Rattle.store.specs.declared.Relief.TheVariants.{StoreLog}
use Rattle.store.specs.declared.State.{State}
use Rattle.store.specs.Answer.{ask, answer_number}
use Rattle.store.specs.State.{fits}
use Rattle.store.specs.StoreLog.{store_log_asks, store_log_if, store_log_of}
use Rattle.store.specs.StorePage.{store_page_asks, store_page_if, store_page_of}
use Rattle.store.specs.Checkpoint.{checkpoint_asks, checkpoint_step, checkpoint_if, checkpoint_of}
use Rattle.store.specs.Relief.{all_yes, page_left, checkpoint_left, after_log, relief_of}
use Rattle.store.proofs.SearchLaws.{first_found}
use Rattle.runs.specs.Event.{Call, call, store_log, store_page, checkpoint}
use Rattle.runs.specs.Machine.{up, called, seen_of, step, trace}
use Rattle.runs.specs.Relief.{named, next_in, AllAccepted}

all_yes_law : (qs : List (Bool × Refusal)) → all_yes qs ≡ true → ask qs ≡ None
all_yes_law [] e = refl
all_yes_law ((true, r) ∷ qs) e = all_yes_law qs e
all_yes_law ((false, r) ∷ qs) e = absurd (false≢true e)

module _ (l d : ℕ) (m c : List ℕ) (s : State) where
  one_call : (k : Call) → answer_number (called m c s k).answer ≡ 0 → AllAccepted (trace l d (up m c s) (call k ∷ []))
  unfolding trace step seen_of
  one_call k e = (e, tt)

  log_done : ask (store_log_asks s m c) ≡ None → answer_number (called m c s store_log).answer ≡ 0
  unfolding called store_log_of store_log_if answer_number
  log_done e = rw e

  page_done : (p : ℕ) → ask (store_page_asks s m c p) ≡ None → answer_number (called m c s (store_page p)).answer ≡ 0
  unfolding called store_page_of store_page_if answer_number
  page_done p e = rw e

  step_done : (ph : Phase) → answer_number (checkpoint_step ph s m c).answer ≡ 0
  unfolding checkpoint_step answer_number
  step_done Idle = refl
  step_done (FirstStored o t) = refl
  step_done (SecondStored o t) = refl

  checkpoint_done : fits s (length m) (length c) ≡ true → answer_number (called m c s checkpoint).answer ≡ 0
  unfolding called checkpoint_of checkpoint_if
  checkpoint_done e = rw (all_yes_law (checkpoint_asks s m c) (rw e)) (step_done s.phase)

  -- the log does not differ
  after_log_law : fits s (length m) (length c) ≡ true → (f : Option ℕ) → page_left s m c ≡ f → (more : Bool)
      → AllAccepted (trace l d (up m c s) (named (after_log f more)))
  unfolding page_left trace
  after_log_law h (Some p) e more =
      one_call (store_page p) (page_done p
      (all_yes_law (store_page_asks s m c p)
      (first_found (λ i. all_yes (store_page_asks s m c i)) s.pages 0 p e).2))
  after_log_law h None e true = one_call checkpoint (checkpoint_done h)
  after_log_law h None e false = tt

  pub named_accepted : AllAccepted (trace l d (up m c s) (next_in (up m c s)))
  unfolding next_in relief_of trace
  named_accepted = go (fits s (length m) (length c)) refl
    where
      log : (t : Bool) → all_yes (store_log_asks s m c) ≡ t → fits s (length m) (length c) ≡ true
          → AllAccepted (trace l d (up m c s)
          (named (cond t (Some StoreLog) (after_log (page_left s m c) (checkpoint_left s m)))))
      log true e h = one_call store_log (log_done (all_yes_law (store_log_asks s m c) e))
      log false e h = after_log_law h (page_left s m c) refl (checkpoint_left s m)

      go : (t : Bool) → fits s (length m) (length c) ≡ t
          → AllAccepted (trace l d (up m c s)
          (named
          (cond t (cond (all_yes (store_log_asks s m c)) (Some StoreLog) (after_log (page_left s m c) (checkpoint_left s m)))
          None)))
      go true h = log (all_yes (store_log_asks s m c)) refl h
      go false h = tt
