-- What follows a call is chosen by its answer: once the call is known to have left x, it is what follows x. An answer's variant
-- says whether it is a refusal, whether a strip is there, and what its number is.
use Rattle.std.specs.Prelude.{Option, None, Some, Result, Ok, Err}
use Prim.Native.Nat.{ℕ}
use mathlib.Core.Path.{◌≡◌, refl, sym, ap, ◌∙◌}
use mathlib.Core.Bool.{false, not}
use mathlib.Core.List.{List}
use lib.ListN.{get_or}
use lib.Dec.{eqb}
use borrow.Author.Tests.{eq-eqb, ne_eqb}
use Rattle.layout.specs.declared.TxNumber.{TxNumber}
use Rattle.layout.specs.declared.CommitTime.{CommitTime}
use Rattle.store.specs.declared.Answer.{Answer}
use Rattle.store.specs.declared.Answer.TheVariants.{Done, Begun, Written, Committed, Opened, Missing, Erased, Present, Listed}
use Rattle.store.specs.declared.Refusal.{Refusal}
use Rattle.store.specs.Answer.{Outcome, answer_value, leaves}
use Rattle.handover.specs.declared.Transfer.{Transfer}
use Rattle.handover.specs.Hand.{HandOutcome, hand_ends, refusal_in, is_present, may_hand, reads, after_begin, after_read, after_commit}

module _ (follows : Option Refusal → Outcome → HandOutcome) (x o : Outcome) (e : x ≡ o) where
  pub by_refusal : (r : Refusal) → x.answer ≡ Err r → follows (Some r) x ≡ follows (refusal_in o.answer) o
  by_refusal r a =
      ap (λ (y : Result Answer Refusal). follows (refusal_in y) x) (sym a) ∙ ap (λ (y : Outcome). follows (refusal_in y.answer) y) e

  pub by_answer : refusal_in x.answer ≡ None → follows None x ≡ follows (refusal_in o.answer) o
  by_answer a = ap (λ (y : Option Refusal). follows y x) (sym a) ∙ ap (λ (y : Outcome). follows (refusal_in y.answer) y) e

-- the begin's number is the one that its answer gives
pub under_number : (n : ℕ) (x : Outcome) (h : Transfer) → n ≡ answer_value x.answer
    → after_begin None (leaves (Ok (Begun (record { 0 = n }))) x.state x.medium x.cache) h ≡ after_begin None x h
unfolding after_begin answer_value
under_number n x h e = ap (λ (m : ℕ). after_read (refusal_in (reads x m h).answer) (reads x m h) m h) e

-- the time answered is the one in the commit's answer
pub time_answered : (t : ℕ) (x : Outcome) (n : ℕ) → t ≡ answer_value x.answer
    → hand_ends (Ok (record { 0 = t })) x.state x.medium x.cache ≡ after_commit None x n
unfolding after_commit
time_answered t x n e = ap (λ (v : ℕ). hand_ends (Ok (record { 0 = v })) x.state x.medium x.cache) e

-- the owner is the old one, and somebody: what is left is whether the new one is
pub owner_left : (a : Result Answer Refusal) (strip : List ℕ) (h : Transfer) → a ≡ Ok Present → get_or strip 0 0 ≡ h.from → (h.from ≡ 0 → ⊥)
    → not (eqb h.to 0) ≡ may_hand a strip h
unfolding may_hand
owner_left a strip h p e z = simp (p, eq-eqb _ _ e, ne_eqb _ _ z)

-- an answer that is no refusal
pub not_refused : (a : Result Answer Refusal) → ((r : Refusal) → a ≡ Err r → ⊥) → refusal_in a ≡ None
not_refused (Err r) o = absurd (o r refl)
not_refused (Ok a) o = refl

-- an answer that is not that a strip is there
pub no_strip : (a : Result Answer Refusal) → (a ≡ Ok Present → ⊥) → is_present a ≡ false
no_strip (Err r) o = refl
no_strip (Ok Done) o = refl
no_strip (Ok (Begun n)) o = refl
no_strip (Ok (Written k)) o = refl
no_strip (Ok (Committed t)) o = refl
no_strip (Ok (Opened t)) o = refl
no_strip (Ok Missing) o = refl
no_strip (Ok Erased) o = refl
no_strip (Ok Present) o = absurd (o refl)
no_strip (Ok (Listed k)) o = refl

-- an answer with no number
pub no_value : (a : Result Answer Refusal) → ((n : TxNumber) → a ≡ Ok (Begun n) → ⊥) → ((k : ℕ) → a ≡ Ok (Written k) → ⊥)
    → ((t : CommitTime) → a ≡ Ok (Committed t) → ⊥) → ((t : CommitTime) → a ≡ Ok (Opened t) → ⊥) → ((k : ℕ) → a ≡ Ok (Listed k) → ⊥)
    → 0 ≡ answer_value a
unfolding answer_value
no_value (Err r) b w c o l = refl
no_value (Ok Done) b w c o l = refl
no_value (Ok (Begun n)) b w c o l = absurd (b n refl)
no_value (Ok (Written k)) b w c o l = absurd (w k refl)
no_value (Ok (Committed t)) b w c o l = absurd (c t refl)
no_value (Ok (Opened t)) b w c o l = absurd (o t refl)
no_value (Ok Missing) b w c o l = refl
no_value (Ok Erased) b w c o l = refl
no_value (Ok Present) b w c o l = refl
no_value (Ok (Listed k)) b w c o l = absurd (l k refl)
