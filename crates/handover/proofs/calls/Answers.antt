-- What the store's answers say of a refusal: an answer's number is that of its refusal, or 0. By the cases of an answer.
use Rattle.std.specs.Prelude.{Option, None, Some, Err, Ok, Result}
use Prim.Native.Nat.{ℕ, ◌<◌}
use native.Mathlib.Omega.{arith}
use mathlib.Core.Path.{◌≡◌, refl, sym, ap, ◌∙◌}
use mathlib.Core.Bool.{true, false≢true}
use mathlib.Core.List.{List}
use Rattle.store.specs.declared.Answer.{Answer}
use Rattle.store.specs.declared.Answer.TheVariants.{Done, Begun, Written, Committed, Opened, Missing, Erased, Present, Listed}
use Rattle.store.specs.declared.Refusal.{Refusal}
use Rattle.store.specs.Answer.{refusal_number, answer_number}
use Rattle.runs.specs.Event.{present}
use Rattle.runs.specs.Machine.{strip_of}
use Rattle.agreement.proofs.reads.ReadFacts.{positive}
use Rattle.handover.specs.Hand.{refusal_in, is_present}

-- the number of the first "no", 0 where there is none
abbrev pub number_of : Option Refusal → ℕ
number_of None = 0
number_of (Some r) = refusal_number r

number_is : (a : Result Answer Refusal) → answer_number a ≡ number_of (refusal_in a)
unfolding answer_number
number_is (Err r) = refl
number_is (Ok Done) = refl
number_is (Ok (Begun n)) = refl
number_is (Ok (Written k)) = refl
number_is (Ok (Committed t)) = refl
number_is (Ok (Opened t)) = refl
number_is (Ok Missing) = refl
number_is (Ok Erased) = refl
number_is (Ok Present) = refl
number_is (Ok (Listed k)) = refl

pub number_none : (a : Result Answer Refusal) → refusal_in a ≡ None → answer_number a ≡ 0
number_none a e = number_is a ∙ ap number_of e

pub number_some : (a : Result Answer Refusal) (r : Refusal) → refusal_in a ≡ Some r → 0 < answer_number a
number_some a r e = omega (arith, number_is a, ap number_of e, positive r)

pub zero_none : (a : Result Answer Refusal) → answer_number a ≡ 0 → refusal_in a ≡ None
zero_none a e = go (refusal_in a) (sym (number_is a) ∙ e)
  where
    go : (x : Option Refusal) → number_of x ≡ 0 → x ≡ None
    go None z = refl
    go (Some r) z = absurd (omega (arith, positive r))

-- ---- the refusal itself

pub none_some : {A : Type 0} {r : Refusal} → None ≡ Some r → A
none_some e = let z : ◌≡◌ {A = ℕ} 0 1 = cc in absurd (omega arith)

pub no_refusal : {A : Type 0} (a : Result Answer Refusal) (r : Refusal) → refusal_in a ≡ None → a ≡ Err r → A
no_refusal a r e q = none_some (sym e ∙ ap refusal_in q)

pub in_refusal : (a : Result Answer Refusal) (r : Refusal) → refusal_in a ≡ Some r → a ≡ Err r
in_refusal (Err q) r e = cc
in_refusal (Ok a) r e = none_some e

-- ---- the strip of a read that finds one

pub present_strip : (a : Result Answer Refusal) (v : List ℕ) → is_present a ≡ true → strip_of a v ≡ present v
present_strip (Err r) v e = absurd (false≢true e)
present_strip (Ok Done) v e = absurd (false≢true e)
present_strip (Ok (Begun n)) v e = absurd (false≢true e)
present_strip (Ok (Written k)) v e = absurd (false≢true e)
present_strip (Ok (Committed t)) v e = absurd (false≢true e)
present_strip (Ok (Opened t)) v e = absurd (false≢true e)
present_strip (Ok Missing) v e = absurd (false≢true e)
present_strip (Ok Erased) v e = absurd (false≢true e)
present_strip (Ok Present) v e = refl
present_strip (Ok (Listed k)) v e = absurd (false≢true e)
