-- Calls one after the other: that they are a run, that each is accepted, and that asking names each of them when its
-- turn comes. All by putting lists together as their calls are.
use Prim.Native.Nat.{ℕ, zero, suc, ◌+◌}
use native.Mathlib.Omega.{arith}
use mathlib.Core.Path.{◌≡◌, refl, sym, ap, ◌∙◌}
use mathlib.Core.Bool.{true}
use mathlib.Core.List.{List, [], ◌∷◌, ◌++◌, append_assoc}
use lib.ListN.{length, length-append}
use Rattle.fields.proofs.Choose.{and_0, and_1}
use Rattle.store.specs.declared.State.{State}
use Rattle.runs.specs.Event.{Call, Event, call, call_typed, typed}
use Rattle.runs.specs.Machine.{World, up, step, allowed, is_run, trace}
use Rattle.runs.specs.Moments.{world_after}
use Rattle.runs.specs.Relief.{AllAccepted, next_in, asking}
use Rattle.agreement.proofs.plain.Runs.{world_append}

-- the events are a run, none is refused, and P holds of the world that they lead to
pub record Leads (l d : ℕ) (w : World) (es : List Event) (P : World → Type 0) : Type 0 where
  pub run : is_run l d w es ≡ true
  pub accepted : AllAccepted (trace l d w es)
  pub there : P (world_after l d w es)

module _ (l d : ℕ) where
  pub leads_none : (w : World) (P : World → Type 0) → P w → Leads l d w [] P
  unfolding is_run trace world_after
  leads_none w P p = record { run = refl; accepted = tt; there = p }

  pub leads_call : (m c : List ℕ) (s : State) (x : Call) (es : List Event) (P : World → Type 0) → call_typed x ≡ true
      → (step l d (up m c s) (call x)).seen.refusal ≡ 0
      → Leads l d (step l d (up m c s) (call x)).world es P → Leads l d (up m c s) (call x ∷ es) P
  unfolding is_run trace world_after typed
  leads_call m c s x es P t z q = record { run = rw t q.run; accepted = (z, q.accepted); there = q.there }

  pub leads_then : (w : World) (es fs : List Event) (P Q : World → Type 0) → Leads l d w es P
      → ((v : World) → P v → Leads l d v fs Q) → Leads l d w (es ++ fs) Q
  unfolding is_run trace world_after
  leads_then w [] fs P Q a f = f w a.there
  leads_then w (e ∷ es) fs P Q a f =
      let r = and_1 (typed e) _ a.run in
      let q : Leads l d (step l d w e).world (es ++ fs) Q =
      leads_then (step l d w e).world es fs P Q
      (record { run = and_1 (allowed l d w e) _ r; accepted = a.accepted.1; there = a.there }) f in
      record {
        run = rw (and_0 (typed e) _ a.run, and_0 (allowed l d w e) _ r) q.run;
        accepted = (a.accepted.0, q.accepted);
        there = q.there;
      }

  -- ---- asking

  -- whoever asks is told these events, and then goes on from where they lead
  abbrev pub Asked : World → List Event → Type 0
  Asked w es = (n : ℕ) → asking l d (length es + n) w ≡ es ++ asking l d n (world_after l d w es)

  pub asked_none : (w : World) → Asked w []
  unfolding world_after
  asked_none w n = ap (λ (k : ℕ). asking l d k w) (omega arith)

  pub asked_call : (w : World) (x : Call) (es : List Event) → next_in w ≡ call x ∷ []
      → Asked (step l d w (call x)).world es → Asked w (call x ∷ es)
  unfolding asking world_after
  asked_call w x es e q n =
      let z : suc (length es) + n ≡ suc (length es + n) = omega arith in
      ap (λ (k : ℕ). asking l d k w) z ∙ ap
      (λ (es' : List Event). es' ++ asking l d (length es + n) (world_after l d w es')) e
      ∙ ap (λ (fs : List Event). call x ∷ fs) (q n)

  pub asked_then : (w : World) (es fs : List Event) → Asked w es → Asked (world_after l d w es) fs → Asked w (es ++ fs)
  asked_then w es fs a b n =
      let z : length (es ++ fs) + n ≡ length es + (length fs + n) = omega (arith, length-append es fs) in
      ap (λ (k : ℕ). asking l d k w) z ∙ a (length fs + n) ∙ ap (λ (gs : List Event). es ++ gs) (b n)
      ∙ sym (append_assoc es fs (asking l d n (world_after l d (world_after l d w es) fs)))
      ∙ ap (λ (v : World). (es ++ fs) ++ asking l d n v) (sym (world_append l d es fs w))

  -- nothing is left: no more calls come, however often one asks
  pub asked_last : (n : ℕ) (w : World) → next_in w ≡ [] → asking l d n w ≡ []
  unfolding asking world_after
  asked_last zero w e = refl
  asked_last (suc n) w e = ap (λ (es : List Event). es ++ asking l d n (world_after l d w es)) e ∙ asked_last n w e

-- ---- both

-- the events lead to P, and asking names them
pub record Follows (l d : ℕ) (w : World) (es : List Event) (P : World → Type 0) : Type 0 where
  pub leads : Leads l d w es P
  pub asked : Asked l d w es

module _ (l d : ℕ) where
  pub follows_none : (w : World) (P : World → Type 0) → P w → Follows l d w [] P
  follows_none w P p = record { leads = leads_none l d w P p; asked = asked_none l d w }

  pub follows_call : (m c : List ℕ) (s : State) (x : Call) (es : List Event) (P : World → Type 0) → call_typed x ≡ true
      → (step l d (up m c s) (call x)).seen.refusal ≡ 0
      → next_in (up m c s) ≡ call x ∷ [] → Follows l d (step l d (up m c s) (call x)).world es P
      → Follows l d (up m c s) (call x ∷ es) P
  follows_call m c s x es P t z e q =
      record { leads = leads_call l d m c s x es P t z q.leads; asked = asked_call l d (up m c s) x es e q.asked }

  pub follows_then : (w : World) (es fs : List Event) (P Q : World → Type 0) → Follows l d w es P
      → ((v : World) → P v → Follows l d v fs Q) → Follows l d w (es ++ fs) Q
  follows_then w es fs P Q a f = record {
    leads = leads_then l d w es fs P Q a.leads (λ v p. (f v p).leads);
    asked = asked_then l d w es fs a.asked (f (world_after l d w es) a.leads.there).asked;
  }
