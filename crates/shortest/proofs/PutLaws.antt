-- The lines that are chosen, put one behind the other: a line's own text, if it is chosen, and then that of the lines
-- behind it.
use mathlib.Core.Path.{◌≡◌, refl, sym, ap, ◌∙◌}
use mathlib.Core.Bool.{Bool, true, false, cond}
use mathlib.Core.List.{List, [], ◌∷◌, ◌++◌, append-nil, append_assoc}
use Prim.Native.Nat.{ℕ, ◌+◌, ◌-◌, ◌≤◌, ◌<◌}
use native.Mathlib.Numerals.{add-one}
use lib.ListN.{length, take, drop, get_or, drop_of_length-le}
use lib.Seq.{drop-cons}
use Rattle.script.specs.Words.{lines_of}
use Rattle.shortest.specs.Script.{text_of}
use Rattle.shortest.specs.Choice.{picked}
use Rattle.shortest.specs.Lines.{line_in}
use Rattle.shortest.proofs.LineLaws.{part_line, lines_next}

-- a line that is chosen, and its newline
pub line_put : (x y z t : List ℕ) → y ≡ x ++ t → z ≡ y ++ (10 ∷ []) → z ≡ x ++ text_of (t ∷ [])
unfolding text_of
line_put x y z t e g = simp (g, e, append_assoc)

picked_none : {A : Type 0} (f : List Bool) → picked {A = A} f [] ≡ []
unfolding picked
picked_none [] = refl
picked_none (b ∷ f) = refl

text_first : (b : Bool) (f : List Bool) (l : List ℕ) (ls : List (List ℕ))
    → text_of (picked (b ∷ f) (l ∷ ls)) ≡ cond b (text_of (l ∷ [])) [] ++ text_of (picked f ls)
unfolding text_of picked
text_first true f l ls = sym (append_assoc l (10 ∷ []) (text_of (picked f ls)))
text_first false f l ls = refl

-- the text of the chosen ones of the lines from place a on, of which the first is line i
abbrev pub text_at : List Bool → List ℕ → ℕ → ℕ → List ℕ
text_at f bs i a = text_of (picked (drop i f) (lines_of (drop a bs)))

-- line i, which begins at place a and ends at e; b says whether it is chosen, and w is the whole text
module _ (f : List Bool) (bs w : List ℕ) (i a e : ℕ) (h : i < length f) (q : a < length bs)
    (p : e ≡ a + length (line_in (drop a bs))) where
  -- the line's own text, with its newline
  abbrev own : Bool → List ℕ
  own b = cond b (text_of (take (e - a) (drop a bs) ∷ [])) []

  text_next : (b : Bool) → b ≡ get_or f i false → text_at f bs i a ≡ own b ++ text_at f bs (i + 1) (e + 1)
  text_next b g =
      ap (λ (k : List Bool). text_of (picked k (lines_of (drop a bs)))) (drop-cons f i false h ∙ rw (← g, add-one i))
      ∙ ap (λ (k : List (List ℕ)). text_of (picked (b ∷ drop (i + 1) f) k))
      (lines_next bs a e q p ∙ rw (part_line bs a e q p))
      ∙ text_first b (drop (i + 1) f) (take (e - a) (drop a bs)) (lines_of (drop (e + 1) bs))

  pub put_turn : (b : Bool) (x y : List ℕ) → b ≡ get_or f i false
      → y ≡ x ++ cond b (text_of (take (e - a) (drop a bs) ∷ [])) [] → x ++ text_at f bs i a ≡ w
      → y ++ text_at f bs (i + 1) (e + 1) ≡ w
  put_turn b x y g t v =
      ap (λ (k : List ℕ). k ++ text_at f bs (i + 1) (e + 1)) t
      ∙ append_assoc x _ _
      ∙ ap (λ (k : List ℕ). x ++ k) (sym (text_next b g))
      ∙ v

-- nothing is left to be put
put_end : (x y w : List ℕ) → y ≡ [] → x ++ y ≡ w → x ≡ w
put_end x y w e v = sym (append-nil x) ∙ ap (λ (k : List ℕ). x ++ k) (sym e) ∙ v

-- no byte is left
pub put_short : (f : List Bool) (bs x w : List ℕ) (i a : ℕ) → length bs ≤ a → x ++ text_at f bs i a ≡ w → x ≡ w
unfolding lines_of text_of
put_short f bs x w i a h v =
    let e = ap (λ (k : List ℕ). text_of (picked (drop i f) (lines_of k))) (drop_of_length-le bs h) in
    put_end x _ w (e ∙ ap text_of (picked_none (drop i f))) v

-- no line is left
pub put_all : (f : List Bool) (bs x w : List ℕ) (i a : ℕ) → length f ≤ i → x ++ text_at f bs i a ≡ w → x ≡ w
unfolding picked text_of
put_all f bs x w i a h v =
    put_end x _ w (ap (λ (k : List Bool). text_of (picked k (lines_of (drop a bs)))) (drop_of_length-le f h)) v
