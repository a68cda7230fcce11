-- A line of numbers alone: its form closes with the last of them, so that the numbers of the form are those of the
-- words. No letter of the script takes four numbers or more, and another byte takes none.
use Rattle.std.specs.Prelude.{Option, None, Some}
use mathlib.Core.Path.{◌≡◌, refl, sym, ap, ◌∙◌}
use mathlib.Core.Bool.{false}
use mathlib.Core.List.{List, [], ◌∷◌, ◌++◌}
use Prim.Native.Nat.{ℕ, suc, ◌<◌}
use native.Mathlib.Omega.{arith}
use lib.ListN.{length}
use lib.Dec.{eqb}
use borrow.Author.Tests.{eqb-true, lt-ltb}
use Rattle.script.specs.declared.line.Line.{Line}
use Rattle.script.specs.Words.{words_of, is_in, number_of, joined, numbers_of}
use Rattle.script.specs.Form.{word_of, Form, other, bare, ending, behind, after_letter, is_letter, by_words as form_by}
use Rattle.script.specs.Form.{limited, form_of}
use Rattle.script.specs.Reader.{no_line, grown_by}
use Rattle.fields.proofs.Choose.{bool_case, no}
use Rattle.script.proofs.Meaning.{after_case, line_form}
use Rattle.script.proofs.ReaderLaws.{seen_bad, seen_none}
use Rattle.book.specs.Line.{call_of, call_if, by_words, line_of, closed, form_call, meaning_of}

-- the five letters
module _ (k : ℕ) {P : Type 0} (b : k ≡ 66 → P) (w : k ≡ 87 → P) (c : k ≡ 67 → P) (q : k ≡ 81 → P) (x : k ≡ 88 → P)
    (r : ((ns : List ℕ) → call_of k ns ≡ None) → P) where
  letter_case : P
  unfolding call_of
  letter_case =
      bool_case (eqb k 66) (λ e. b (eqb-true k 66 e)) (λ e1.
      bool_case (eqb k 87) (λ e. w (eqb-true k 87 e)) (λ e2.
      bool_case (eqb k 67) (λ e. c (eqb-true k 67 e)) (λ e3.
      bool_case (eqb k 81) (λ e. q (eqb-true k 81 e)) (λ e4.
      bool_case (eqb k 88) (λ e. x (eqb-true k 88 e)) (λ e5. r (λ ns. simp (e1, e2, e3, e4, e5)))))))

four : (k a b c d : ℕ) (ns : List ℕ) → call_of k (a ∷ (b ∷ (c ∷ (d ∷ ns)))) ≡ None
unfolding call_of
four k a b c d ns =
    letter_case k (λ e. simp e) (λ e. simp e) (λ e. simp e) (λ e. simp e) (λ e. simp e)
    (λ f. f (a ∷ (b ∷ (c ∷ (d ∷ ns)))))

not_letter : (k : ℕ) (ns : List ℕ) → is_letter k ≡ false → call_of k ns ≡ None
unfolding is_letter is_in
not_letter k ns t =
    letter_case k (λ e. no (sym (simp e at t))) (λ e. no (sym (simp e at t))) (λ e. no (sym (simp e at t)))
    (λ e. no (sym (simp e at t))) (λ e. no (sym (simp e at t))) (λ f. f ns)

-- the numbers of a form
abbrev numbers_in : Form → Option (List ℕ)
numbers_in other = None
numbers_in (bare k) = Some []
numbers_in (ending k ns w) = closed ns w.number

closed_one : (o : Option ℕ) → closed [] o ≡ joined o (Some [])
closed_one None = refl
closed_one (Some n) = refl

closed_more : (n : ℕ) (ns : List ℕ) (o : Option ℕ) → closed (n ∷ ns) o ≡ joined (Some n) (closed ns o)
closed_more n ns None = refl
closed_more n ns (Some m) = refl

behind_numbers : (o : Option ℕ) (k : ℕ) (v : List ℕ) (vs : List (List ℕ))
    → numbers_in (behind o (after_letter k (v ∷ vs))) ≡ joined o (numbers_in (after_letter k (v ∷ vs)))
behind_numbers None k v vs = refl
behind_numbers (Some n) k v vs =
    after_case (λ f. numbers_in (behind (Some n) f) ≡ joined (Some n) (numbers_in f)) k v vs refl
    (λ ns x. closed_more n ns x.number)

after_numbers : (k : ℕ) (ws : List (List ℕ)) → numbers_in (after_letter k ws) ≡ numbers_of ws
unfolding after_letter numbers_of word_of
after_numbers k [] = refl
after_numbers k (w ∷ []) = closed_one (number_of w)
after_numbers k (w ∷ (v ∷ vs)) =
    behind_numbers (number_of w) k v vs ∙ ap (joined (number_of w)) (after_numbers k (v ∷ vs))

form_call_law : (k : ℕ) (ws : List (List ℕ)) → form_call (after_letter k ws)
    ≡ call_if k (numbers_in (after_letter k ws))
unfolding form_call after_letter
form_call_law k [] = refl
form_call_law k (v ∷ vs) = after_case (λ f. form_call f ≡ call_if k (numbers_in f)) k v vs refl (λ ns x. refl)

-- no letter takes more than three numbers
many_closed : (k a b c d : ℕ) (ns : List ℕ) (o : Option ℕ) → call_if k (closed (a ∷ (b ∷ (c ∷ (d ∷ ns)))) o) ≡ None
many_closed k a b c d ns None = refl
many_closed k a b c d ns (Some n) = four k a b c d (ns ++ (n ∷ []))

limited_call : (f : Form) → form_call (limited f) ≡ form_call f
unfolding form_call limited
limited_call other = refl
limited_call (bare k) = refl
limited_call (ending k [] w) = refl
limited_call (ending k (a ∷ []) w) = refl
limited_call (ending k (a ∷ (b ∷ [])) w) = refl
limited_call (ending k (a ∷ (b ∷ (c ∷ []))) w) = refl
limited_call (ending k (a ∷ (b ∷ (c ∷ (d ∷ [])))) w) = refl
limited_call (ending k (a ∷ (b ∷ (c ∷ (d ∷ (e ∷ ns))))) w) =
    let h : 4 < suc (suc (suc (suc (suc (length ns))))) = omega arith in
    simp (lt-ltb _ _ h) (sym (many_closed k a b c d (e ∷ ns) w.number))

not_call : (k : ℕ) (o : Option (List ℕ)) → is_letter k ≡ false → call_if k o ≡ None
not_call k None t = refl
not_call k (Some ns) t = not_letter k ns t

words_call : (ws : List (List ℕ)) → form_call (form_by ws) ≡ by_words ws
unfolding form_call
words_call [] = refl
words_call ([] ∷ ws) = refl
words_call ((k ∷ []) ∷ ws) =
    bool_case (is_letter k)
    (λ t. simp t (form_call_law k ws ∙ ap (call_if k) (after_numbers k ws)))
    (λ t. simp t (sym (not_call k (numbers_of ws) t)))
words_call ((a ∷ (b ∷ w)) ∷ ws) = refl

-- taken byte by byte, a line asks for what its words say
pub line_call : (bs : List ℕ) → meaning_of (grown_by no_line bs) ≡ line_of bs
unfolding meaning_of line_of form_of
line_call bs = ap form_call (line_form bs) ∙ limited_call (form_by (words_of bs)) ∙ words_call (words_of bs)

module _ (l : Line) where
  pub no_letter : l.letter ≡ 0 → meaning_of l ≡ None
  unfolding meaning_of form_call
  no_letter h = bool_case l.bad (λ b. simp (seen_bad l b)) (λ b. simp (seen_none l b h))
