-- A call changes no block but the one that `block_of` names: it is the block that the call stores, and where sizes or
-- page are out of range the call is refused and stores nothing. So with a handover, which stores the tail's block or
-- nothing.
use mathlib.Core.Path.{◌≡◌, refl, sym, ap, ◌∙◌}
use mathlib.Core.Bool.{false}
use mathlib.Core.List.{List}
use Prim.Native.Nat.{ℕ, ◌*◌}
use native.Mathlib.Omega.{arith}
use lib.ListN.{length}
use lib.Dec.{ltb}
use Rattle.fields.specs.Block.{put}
use Rattle.store.specs.declared.Phase.{Phase}
use Rattle.store.specs.declared.Phase.TheVariants.{Idle, FirstStored, SecondStored}
use Rattle.store.specs.declared.State.{State}
use Rattle.store.specs.Answer.{Outcome}
use Rattle.store.specs.State.{in_range, fits}
use Rattle.fields.proofs.Choose.{bool_case, no}
use Rattle.runs.specs.Event.{Call, write, erase, commit, store_log, store_page, checkpoint}
use Rattle.runs.specs.Machine.{called}
use Rattle.runs.proofs.Asks.{Way, refused, begins, writes, erases, looks, commits, ends, aborts, logs, pages, checks}
use Rattle.runs.proofs.Asks.{way}
use Rattle.runs.proofs.OneBlock.{Stores, nothing, block, phase_block as stored_in, store_block, stores}
use Rattle.handover.specs.declared.Transfer.{Transfer}
use Rattle.handover.specs.Hand.{hand_of}
use Rattle.handover.proofs.OneStore.{hand_stores, hand_unfit}
use Rattle.disk.specs.Block.{log_block, page_block, phase_block}
use Rattle.disk.proofs.AlikeLaws.{Alike, alike_same, alike_is, alike_splice}

pub alike_put : {m n : List ℕ} {k : ℕ} → Stores m k n → Alike m k n
unfolding put
alike_put {m = m} s = go s
  where
    go : {k : ℕ} {n : List ℕ} → Stores m k n → Alike m k n
    go {k = k} nothing = alike_same m k
    go {k = k} (block b e) = alike_splice m k (512 * k) b (omega arith) (omega arith)

-- ---- a call on a store that does not fit is refused

unfit : {m c : List ℕ} {s : State} {k : Call} {o : Outcome} → Way m c s k o → fits s (length m) (length c) ≡ false
    → o.medium ≡ m
unfit (refused k r w) f = refl
unfit (begins clock i p w) f = refl
unfit (writes n key i v p w) f = no (sym f ∙ p.0)
unfit (erases n key i p w) f = no (sym f ∙ p.0)
unfit (looks k a v b h p n w) f = refl
unfit (commits n clock i p w z) f = no (sym f ∙ p.0)
unfit (ends n clock i p w z) f = refl
unfit (aborts n i p w) f = refl
unfit (logs p) f = no (sym f ∙ p.0)
unfit (pages n p) f = no (sym f ∙ p.0)
unfit (checks h p w) f = no (sym f ∙ p.0)

unfit_range : (s : State) (m c : ℕ) → in_range s.blocks s.pages ≡ false → fits s m c ≡ false
unfolding fits
unfit_range s m c e = simp e

no_page : {m c : List ℕ} {s : State} {q : ℕ} {k : Call} {o : Outcome} → Way m c s k o → k ≡ store_page q
    → ltb q s.pages ≡ false → o.medium ≡ m
no_page (refused k r w) e f = refl
no_page (begins clock i p w) e f = refl
no_page (writes n key i v p w) e f = cc
no_page (erases n key i p w) e f = cc
no_page (looks k a v b h p n w) e f = refl
no_page (commits n clock i p w z) e f = cc
no_page (ends n clock i p w z) e f = refl
no_page (aborts n i p w) e f = refl
no_page (logs p) e f = cc
no_page {s = s} {q = q} (pages n p) e f =
    let z : n ≡ q = cc in no (sym f ∙ ap (λ (j : ℕ). ltb j s.pages) (sym z) ∙ p.1.0)
no_page (checks h p w) e f = cc

same_phase : (h : Phase) → phase_block h ≡ stored_in h
unfolding phase_block
same_phase Idle = refl
same_phase (FirstStored o t) = refl
same_phase (SecondStored o t) = refl

module _ (m c : List ℕ) (s : State) where
  -- a call that stores the tail
  in_log : (k : Call) → store_block s k ≡ store_block s store_log → Alike m (log_block s) (called m c s k).medium
  unfolding log_block
  in_log k e = bool_case (in_range s.blocks s.pages)
      (λ t. simp (t, ← e) (alike_put (stores m c s k)))
      (λ t. simp t (alike_is (unfit (way m c s k) (unfit_range s _ _ t))))

  pub alike_write : (n key : ℕ) (v : List ℕ) → Alike m (log_block s) (called m c s (write n key v)).medium
  alike_write n key v = in_log (write n key v) refl

  pub alike_erase : (n key : ℕ) → Alike m (log_block s) (called m c s (erase n key)).medium
  alike_erase n key = in_log (erase n key) refl

  pub alike_commit : (n clock : ℕ) → Alike m (log_block s) (called m c s (commit n clock)).medium
  alike_commit n clock = in_log (commit n clock) refl

  pub alike_log : Alike m (log_block s) (called m c s store_log).medium
  alike_log = in_log store_log refl

  pub alike_hand : (h : Transfer) → Alike m (log_block s) (hand_of s m c h).medium
  unfolding log_block
  alike_hand h = bool_case (in_range s.blocks s.pages)
      (λ t. simp t (alike_put (hand_stores s m c h)))
      (λ t. simp t (alike_is (hand_unfit s m c h (unfit_range s _ _ t))))

  pub alike_page : (p : ℕ) → Alike m (page_block s p) (called m c s (store_page p)).medium
  unfolding page_block
  alike_page p = bool_case (in_range s.blocks s.pages)
      (λ t. bool_case (ltb p s.pages)
      (λ u. simp (t, u) (alike_put (stores m c s (store_page p))))
      (λ u. simp (t, u) (alike_is (no_page (way m c s (store_page p)) refl u))))
      (λ t. simp t (alike_is (unfit (way m c s (store_page p)) (unfit_range s _ _ t))))

  pub alike_checkpoint : Alike m (phase_block s.phase) (called m c s checkpoint).medium
  alike_checkpoint = rw (same_phase s.phase) (alike_put (stores m c s checkpoint))
