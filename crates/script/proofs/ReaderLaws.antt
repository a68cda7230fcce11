-- What a begun line shows if it ends: past the first questions its letter, and the numbers by their count.
use mathlib.Core.Path.{◌≡◌, ap}
use mathlib.Core.Bool.{true, false}
use mathlib.Core.List.{List, [], ◌∷◌}
use Prim.Native.Nat.{ℕ, ◌-◌, ◌≤◌}
use native.Mathlib.Omega.{arith}
use lib.ListN.{length, drop, length-drop}
use borrow.Author.Tests.{eq-eqb, ne_eqb}
use Rattle.script.specs.declared.line.Line.{Line}
use Rattle.script.specs.Form.{other, bare, ending}
use Rattle.script.specs.Reader.{done_of, last_word, seen_of}

module _ (l : Line) where
  pub done_at : (k : ℕ) (ns : List ℕ) → 5 - l.count ≡ k → done_of l ns
      ≡ drop k (l.fifth ∷ (l.fourth ∷ (l.third ∷ (l.second ∷ ns))))
  unfolding done_of
  done_at k ns e = ap (λ (n : ℕ). drop n (l.fifth ∷ (l.fourth ∷ (l.third ∷ (l.second ∷ ns))))) e

  pub done_1 : l.count ≡ 1 → done_of l [] ≡ []
  done_1 e = done_at 4 [] (omega arith)

  pub done_2 : l.count ≡ 2 → done_of l [] ≡ l.second ∷ []
  done_2 e = done_at 3 [] (omega arith)

  pub done_3 : l.count ≡ 3 → done_of l [] ≡ l.third ∷ (l.second ∷ [])
  done_3 e = done_at 2 [] (omega arith)

  pub done_4 : l.count ≡ 4 → done_of l [] ≡ l.fourth ∷ (l.third ∷ (l.second ∷ []))
  done_4 e = done_at 1 [] (omega arith)

  pub done_5 : 5 ≤ l.count → done_of l [] ≡ l.fifth ∷ (l.fourth ∷ (l.third ∷ (l.second ∷ [])))
  done_5 e = done_at 0 [] (omega arith)

  pub done_few : length (done_of l []) ≤ 4
  unfolding done_of
  done_few = simp length-drop (omega arith)

  pub seen_bad : l.bad ≡ true → seen_of l ≡ other
  unfolding seen_of
  seen_bad b = simp b

  pub seen_none : l.bad ≡ false → l.letter ≡ 0 → seen_of l ≡ other
  unfolding seen_of
  seen_none b h = simp (b, eq-eqb _ _ h)

  pub seen_bare : l.bad ≡ false → (l.letter ≡ 0 → ⊥) → l.count ≡ 0 → seen_of l ≡ bare l.letter
  unfolding seen_of
  seen_bare b h e = simp (b, ne_eqb _ _ h, eq-eqb _ _ e)

  pub seen_words : l.bad ≡ false → (l.letter ≡ 0 → ⊥) → (l.count ≡ 0 → ⊥)
      → seen_of l ≡ ending l.letter (done_of l []) (last_word l)
  unfolding seen_of
  seen_words b h e = simp (b, ne_eqb _ _ h, ne_eqb _ _ e)

-- what the form of a begun line is, by its count
pub ruleset seen = (seen_bad, seen_none, seen_bare, seen_words, done_1, done_2, done_3, done_4, done_5)
