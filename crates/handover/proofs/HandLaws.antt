-- The definition of a handover goes from call to call as the code does. An accepted begin gives a number; an accepted write counts a
-- version in its transaction's place, and so a commit behind it that is accepted gives a time.
use Rattle.std.specs.Prelude.{None, Some, Err, Ok, Result, is_err}
use Prim.Native.Nat.{ℕ, ◌≤◌}
use native.Mathlib.Omega.{arith}
use mathlib.Core.Path.{◌≡◌, refl, sym, ap, ◌∙◌}
use mathlib.Core.Bool.{false, true, false≢true}
use mathlib.Core.List.{List}
use borrow.Author.Tests.{eqb-true}
use Rattle.layout.specs.declared.TxNumber.{TxNumber}
use Rattle.layout.specs.declared.CommitTime.{CommitTime}
use Rattle.store.specs.declared.Answer.{Answer}
use Rattle.store.specs.declared.Answer.TheVariants.{Done, Begun, Committed, Present}
use Rattle.store.specs.declared.Refusal.{Refusal}
use Rattle.store.specs.declared.Reading.{Reading}
use Rattle.store.specs.declared.Reading.TheVariants.{Missing as NoVersion, Erased as ErasedVersion, Present as Strip}
use Rattle.store.specs.declared.State.{State}
use Rattle.store.specs.Answer.{Outcome, answer_value, leaves}
use Rattle.store.specs.Reading.{answer_of}
use Rattle.store.specs.Places.{find_active, place_at, raised}
use Rattle.store.specs.Begin.{begin_of}
use Rattle.store.specs.CurrentRead.{reads, current_of}
use Rattle.store.specs.Write.{written, write_step, write_of}
use Rattle.store.specs.Commit.{commit_time, commit_step, commit_of}
use Rattle.store.specs.Abort.{abort_of}
use Rattle.store.proofs.FitLaws.{fit_of}
use Rattle.runs.specs.Event.{begin, write, commit}
use Rattle.runs.specs.Machine.{called}
use Rattle.runs.proofs.Asks.{Way, refused, begins, writes, looks, commits, ends, way}
use Rattle.agreement.proofs.invariant.PlaceSet.{place_at_same}
use Rattle.handover.specs.declared.Transfer.{Transfer}
use Rattle.handover.specs.declared.HandRefusal.{HandRefusal}
use Rattle.handover.specs.declared.HandRefusal.TheVariants.{Denied}
use Rattle.handover.specs.Hand.{HandOutcome, refusal_in, is_present, with_owner, may_hand, hand_leaves, gives_up, after_commit, after_write, after_check, after_read, after_begin, hand_ends, or_aborted, hand_of}
use Rattle.handover.proofs.calls.Active.{found_active}
use Rattle.handover.proofs.calls.Answers.{none_some}
use Rattle.handover.proofs.calls.Ways.{written_active}

-- ---- begin

begun_way : {m c : List ℕ} {s : State} {clock : ℕ} {o : Outcome} → Way m c s (begin clock) o → (a : Answer) → o.answer ≡ Ok a
    → ((n : TxNumber) → a ≡ Begun n → ⊥) → ⊥
begun_way (refused k r w) a e other = cc
begun_way {s = s} (begins clock i p w) a e other = let z : a ≡ Begun s.next = cc in other s.next z
begun_way (looks k b v x h p n w) a e other = absurd (false≢true h)

pub begin_gives : (s t : State) (m c : List ℕ) (clock : ℕ) (a : Answer) → leaves (Ok a) t m c ≡ begin_of s m c clock
    → ((n : TxNumber) → a ≡ Begun n → ⊥) → ⊥
unfolding called
begin_gives s t m c clock a e = begun_way (way m c s (begin clock)) a (sym (ap (λ (o : Outcome). o.answer) e))

-- ---- a read that finds no strip

pub not_present : (r : Reading) → ((v : List ℕ) → r ≡ Strip v → ⊥) → is_present (Ok (answer_of r)) ≡ false
not_present NoVersion h = refl
not_present ErasedVersion h = refl
not_present (Strip v) h = absurd (h v refl)

-- ---- write and commit

-- the transaction n has a place, in which a version is counted
record Waits (s : State) (n : ℕ) : Type 0 where
  place : ℕ
  found : find_active s.places n ≡ Some place
  waiting : 1 ≤ (place_at s.places place).waiting

write_waits : {m c : List ℕ} {s : State} {n key : ℕ} {v : List ℕ} {o : Outcome} → Way m c s (write n key v) o → refusal_in o.answer ≡ None
    → Waits o.state n
unfolding write_step written raised
write_waits (refused k r w) e = none_some (sym e)
write_waits {s = s} (writes n key i v p w) e =
    let same = place_at_same s.places i (raised (place_at s.places i)) (fit_of s _ _ p.0).places (found_active s.places n i w).0 in
    record { place = i; found = written_active (writes n key i v p w) n ∙ w; waiting = rw same (omega arith) }
write_waits (looks k a v b h p n w) e = absurd (false≢true h)

commit_way : {m c : List ℕ} {s : State} {n clock : ℕ} {o : Outcome} → Way m c s (commit n clock) o → Waits s n → (a : Answer) → o.answer ≡ Ok a
    → ((t : CommitTime) → a ≡ Committed t → ⊥) → ⊥
unfolding commit_step
commit_way (refused k r w) u a e other = cc
commit_way {s = s} (commits n clock i p w q) u a e other = let z : a ≡ Committed (commit_time s i clock) = cc in other _ z
commit_way {s = s} (ends n clock i p w q) u a e other =
    let j : u.place ≡ i = cc in
    omega (arith, u.waiting, eqb-true _ _ q, ap (λ (k : ℕ). (place_at s.places k).waiting) j)
commit_way (looks k b v x h p n w) u a e other = absurd (false≢true h)

pub commit_gives : (s t u : State) (m m1 m2 c c1 : List ℕ) (n key clock : ℕ) (v : List ℕ) (slot a : Answer)
    → leaves (Ok slot) t m1 c1 ≡ write_of s m c n key v → leaves (Ok a) u m2 c1 ≡ commit_of t m1 c1 n clock
    → ((x : CommitTime) → a ≡ Committed x → ⊥) → ⊥
unfolding called
commit_gives s t u m m1 m2 c c1 n key clock v slot a e f =
    let waits = write_waits (way m c s (write n key v)) (ap (λ (o : Outcome). refusal_in o.answer) (sym e)) in
    commit_way (way m1 c1 t (commit n clock)) (rw (← e) at waits) a (sym (ap (λ (o : Outcome). o.answer) f))

-- ---- the strip v was read, and may be handed over

module _ (s : State) (m c : List ℕ) (n : ℕ) (h : Transfer) (v : List ℕ) (read : reads (Ok Present) v s m c ≡ current_of s m c n h.flight)
    (may : may_hand (Ok Present) v h ≡ true) where
  abbrev Left : HandOutcome → Type 0
  Left o = o ≡ after_begin None (leaves (Ok (Begun (record { 0 = n }))) s m c) h

  pub write_refused : (t : State) (m1 c1 : List ℕ) (r : Refusal) → leaves (Err r) t m1 c1 ≡ write_of s m c n h.flight (with_owner v h.to)
      → Left (gives_up (Err (Denied r)) (leaves (Ok Done) t m1 c1) n)
  unfolding after_begin after_read after_check after_write answer_value
  write_refused t m1 c1 r e = simp (← read, may, ← e)

  module _ (t : State) (m1 c1 : List ℕ) (slot : Answer) (wrote : leaves (Ok slot) t m1 c1 ≡ write_of s m c n h.flight (with_owner v h.to))
      (u : State) (m2 : List ℕ) where
    pub commit_refused : (r : Refusal) → leaves (Err r) u m2 c1 ≡ commit_of t m1 c1 n h.ended → Left (gives_up (Err (Denied r)) (leaves (Ok Done) u m2 c1) n)
    unfolding after_begin after_read after_check after_write after_commit answer_value
    commit_refused r e = simp (← read, may, ← wrote, ← e)

    pub committed_at : (x : CommitTime) → leaves (Ok (Committed x)) u m2 c1 ≡ commit_of t m1 c1 n h.ended → Left (hand_leaves (Ok x) (leaves (Ok Done) u m2 c1))
    unfolding after_begin after_read after_check after_write after_commit answer_value
    committed_at x e = simp (← read, may, ← wrote, ← e)

-- ---- the whole

-- the calls under the number x that begin gave answered a
module _ (s t u : State) (m c m1 c1 : List ℕ) (h : Transfer) (x : TxNumber) (begun : leaves (Ok (Begun x)) t m c ≡ begin_of s m c h.began)
    (a : Result CommitTime HandRefusal)
    (carried : or_aborted a (leaves (Ok Done) u m1 c1) x.0 ≡ after_begin None (leaves (Ok (Begun x)) t m c) h) where
  to_end : after_begin None (leaves (Ok (Begun x)) t m c) h ≡ hand_of s m c h
  unfolding hand_of
  to_end = rw (← begun)

  pub aborted_at : is_err a ≡ true → (b : Result Answer Refusal) (v : State) → leaves b v m1 c1 ≡ abort_of u m1 c1 x.0 → hand_ends a v m1 c1 ≡ hand_of s m c h
  aborted_at e b v f = ap (hand_leaves a) f ∙ given a e ∙ carried ∙ to_end
    where
      given : (a : Result CommitTime HandRefusal) → is_err a ≡ true
          → gives_up a (leaves (Ok Done) u m1 c1) x.0 ≡ or_aborted a (leaves (Ok Done) u m1 c1) x.0
      given (Ok y) e = absurd (false≢true e)
      given (Err y) e = refl

  pub handed_at : is_err a ≡ false → hand_ends a u m1 c1 ≡ hand_of s m c h
  handed_at e = given a e ∙ carried ∙ to_end
    where
      given : (a : Result CommitTime HandRefusal) → is_err a ≡ false → hand_ends a u m1 c1 ≡ or_aborted a (leaves (Ok Done) u m1 c1) x.0
      given (Ok y) e = refl
      given (Err y) e = absurd (false≢true (sym e))
