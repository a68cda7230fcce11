-- What was printed and what the definition still prints make up the whole: a turn of the loop is one step of the definition,
-- whatever the state is.
use Rattle.std.specs.Prelude.{false, Option, Some, None, Result}
use mathlib.Core.Path.{◌≡◌, refl, sym, ap, ◌∙◌}
use mathlib.Core.List.{List, ◌++◌, append_assoc}
use Prim.Native.Nat.{ℕ, zero, suc, ◌+◌, ◌-◌, ◌≤◌, ◌<◌}
use native.Mathlib.Omega.{arith}
use lib.ListN.{length}
use Rattle.store.specs.declared.Answer.{Answer}
use Rattle.store.specs.declared.Refusal.{Refusal}
use Rattle.store.specs.declared.Relief.{Relief}
use Rattle.store.specs.declared.Relief.TheVariants.{StoreLog, StorePage, Checkpoint}
use Rattle.store.specs.declared.Phase.{Phase}
use Rattle.store.specs.declared.Phase.TheVariants.{Idle, FirstStored, SecondStored}
use Rattle.store.specs.declared.Place.{Place}
use Rattle.store.specs.declared.State.{State}
use Rattle.store.specs.Answer.{answer_number, leaves, ask}
use Rattle.store.specs.State.{fits, with_phase}
use Rattle.store.specs.StoreLog.{store_log_asks, log_stored, store_log_if, store_log_of}
use Rattle.store.specs.StorePage.{store_page_asks, page_stored, store_page_if, store_page_of}
use Rattle.store.specs.Checkpoint.{checkpoint_asks, checkpoint_step, checkpoint_if, checkpoint_of}
use Rattle.store.specs.Relief.{relief_of}
use Rattle.relief.specs.Free.{made_of, call_text, end_text, Freed, freed, behind, freed_by, freed_from, LeftAs}
use Rattle.relief.specs.Words.{state_of, with_places}

-- of a room in which this comes next; x is what was printed, and w the whole
module _ (s : State) (m c x : List ℕ) (i : ℕ) (w : Freed) (h : behind x (freed_from (70 - i) s m c) ≡ w) where
  pub free_turn : (next : Relief) → Some next ≡ relief_of s m c → (a : Result Answer Refusal) (t : State) (n d y : List ℕ) → i < 70
      → leaves a t n d ≡ made_of next s m c → y ≡ x ++ call_text next (answer_number a) → behind y (freed_from (70 - (i + 1)) t n d) ≡ w
  unfolding freed_from
  free_turn next e a t n d y j o p =
      let k : 70 - i ≡ suc (70 - (i + 1)) = omega arith in
      simp (p, append_assoc) (simp (k, ← e, ← o) at h)

  pub free_none : None ≡ relief_of s m c → (y : List ℕ) → y ≡ x ++ end_text None → freed y s m c ≡ w
  unfolding freed_from
  free_none e y p = go (70 - i) h
    where
      go : (k : ℕ) → behind x (freed_from k s m c) ≡ w → freed y s m c ≡ w
      go zero g = simp p (simp (← e) at g)
      go (suc k) g = simp p (simp (← e) at g)

  pub free_last : 70 ≤ i → (next : Option Relief) → next ≡ relief_of s m c → (y : List ℕ) → y ≡ x ++ end_text next → freed y s m c ≡ w
  unfolding freed_from
  free_last j next e y p =
      let k : 70 - i ≡ 0 = omega arith in
      simp (p, e) (rw k at h)

-- no call changes the tail
made_tail : (next : Relief) (s : State) (m c : List ℕ) → (made_of next s m c).state.tail ≡ s.tail
unfolding made_of store_log_of store_log_if log_stored store_page_of store_page_if page_stored checkpoint_of checkpoint_if checkpoint_step with_phase
made_tail StoreLog s m c = go (ask (store_log_asks s m c))
  where
    go : (r : Option Refusal) → (store_log_if r s m c).state.tail ≡ s.tail
    go (Some r) = refl
    go None = refl
made_tail (StorePage p) s m c = go (ask (store_page_asks s m c p))
  where
    go : (r : Option Refusal) → (store_page_if r s m c p).state.tail ≡ s.tail
    go (Some r) = refl
    go None = refl
made_tail Checkpoint s m c = go (ask (checkpoint_asks s m c))
  where
    step : (ph : Phase) → (checkpoint_step ph s m c).state.tail ≡ s.tail
    step Idle = refl
    step (FirstStored o t) = refl
    step (SecondStored o t) = refl

    go : (r : Option Refusal) → (checkpoint_if r s m c).state.tail ≡ s.tail
    go (Some r) = refl
    go None = step s.phase

pub freed_tail : (n : ℕ) (s : State) (m c : List ℕ) → (freed_from n s m c).state.tail ≡ s.tail
unfolding freed_from
freed_tail zero s m c = refl
freed_tail (suc n) s m c = go (relief_of s m c) (freed_tail n)
  where
    go : (next : Option Relief) → ((t : State) (k d : List ℕ) → (freed_from n t k d).state.tail ≡ t.tail)
        → (freed_by next (freed_from n) s m c).state.tail ≡ s.tail
    go (Some next) rest = let o = made_of next s m c in rest o.state o.medium o.cache ∙ made_tail next s m c
    go None rest = refl

-- what was printed and is left, where the words v hold its state
pub held : {f : Freed} {t : List ℕ} {s : State} {m c : List ℕ} → freed t s m c ≡ f → (v tail : List ℕ) → f.state.tail ≡ tail
    → state_of v s.tail ≡ s → freed t (state_of v tail) m c ≡ f
held {t = t} {m = m} {c = c} e v tail k h =
    let same = ap (λ (g : Freed). g.state.tail) e ∙ k in
    ap (λ r. freed t r m c) (ap (state_of v) (sym same) ∙ h) ∙ e

-- what is left, where the words v hold its state
pub left_as : {f : Freed} {t : List ℕ} {s : State} {m c : List ℕ} → freed t s m c ≡ f → (v tail : List ℕ) → f.state.tail ≡ tail
    → state_of v s.tail ≡ s → LeftAs f (state_of v tail) m c
left_as e v tail k h =
    let g = held e v tail k h in
    (ap (λ (f : Freed). f.state) g, ap (λ (f : Freed). f.medium) g, ap (λ (f : Freed). f.cache) g)

-- whether a state fits, its places do not say
pub fit_alike : (s : State) (ps : List Place) (m c : ℕ) → length s.places ≡ length ps → fits s m c ≡ fits (with_places s ps) m c
unfolding fits with_places
fit_alike s ps m c h = rw h refl

-- no call is left where it does not
pub unfit : (s : State) (m c : List ℕ) → fits s (length m) (length c) ≡ false → None ≡ relief_of s m c
unfolding relief_of
unfit s m c h = rw h refl
