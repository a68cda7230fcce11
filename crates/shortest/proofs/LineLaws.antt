-- The lines of bytes one after the other: the first ends at the first newline, and the others are those of the bytes
-- behind it.
use mathlib.Core.Path.{◌≡◌, refl, sym, ap, ◌∙◌}
use mathlib.Core.Bool.{Bool}
use mathlib.Core.List.{List, [], ◌∷◌}
use Prim.Native.Nat.{ℕ, suc, ◌+◌, ◌-◌, ◌≤◌, ◌<◌}
use native.Mathlib.Omega.{arith}
use lib.ListN.{length, take, drop, get_or}
use lib.Seq.{drop-cons, drop-drop}
use lib.Dec.{eqb, ltb}
use borrow.Author.Tests.{ltb-false}
use Rattle.std.specs.Prelude.{unwrap_or, position}
use Rattle.std.specs.List.{position_or_len}
use Rattle.std.proofs.lemmas.List.Recursion.{is_position_or_len}
use Rattle.script.specs.declared.line.Line.{Line}
use Rattle.script.specs.declared.line.Taken.{Taken}
use Rattle.script.specs.Words.{ahead, lines_of}
use Rattle.script.specs.Reader.{grown, grown_by, take_of}
use Rattle.script.proofs.TakeLaws.{take_next}
use Rattle.fields.proofs.Choose.{bool_case}
use Rattle.shortest.specs.Lines.{line_in, past_line}

lines_cons : (b : ℕ) (bs : List ℕ) → lines_of (b ∷ bs) ≡ line_in (b ∷ bs) ∷ lines_of (past_line (b ∷ bs))
unfolding lines_of line_in past_line
lines_cons b [] = bool_case (eqb b 10) (λ e. simp e) (λ e. simp e)
lines_cons b (d ∷ bs) =
    bool_case (eqb b 10) (λ e. simp e) (λ e. simp e (ap (ahead b) (lines_cons d bs)))

pub line_part : (bs : List ℕ) → take (length (line_in bs)) bs ≡ line_in bs
unfolding line_in
line_part [] = refl
line_part (b ∷ bs) = bool_case (eqb b 10) (λ e. simp e) (λ e. simp e (ap (λ (t : List ℕ). b ∷ t) (line_part bs)))

pub past_part : (bs : List ℕ) → drop (suc (length (line_in bs))) bs ≡ past_line bs
unfolding line_in past_line
past_part [] = refl
past_part (b ∷ bs) = bool_case (eqb b 10) (λ e. simp e) (λ e. simp e (past_part bs))

-- the lines from a place on
module _ (bs : List ℕ) (i : ℕ) (h : i < length bs) where
  pub lines_past : lines_of (drop i bs) ≡ line_in (drop i bs) ∷ lines_of (past_line (drop i bs))
  lines_past = rw (drop-cons bs i 0 h) (lines_cons (get_or bs i 0) (drop (suc i) bs))

line_short : (bs : List ℕ) → length (line_in bs) ≤ length bs
unfolding line_in
line_short [] = omega arith
line_short (b ∷ bs) =
    bool_case (eqb b 10) (λ e. simp e (omega arith)) (λ e. let h = line_short bs in simp e (omega arith))

abbrev pub is_newline : ℕ → Bool
is_newline b = eqb b 10

line_position : (bs : List ℕ) → length (line_in bs) ≡ position_or_len is_newline bs
unfolding line_in
line_position =
    is_position_or_len (λ (bs : List ℕ). length (line_in bs)) is_newline refl
    (λ b bs. bool_case (eqb b 10) (λ e. simp e) (λ e. simp e (omega arith)))

-- the first newline is where the line ends
pub line_len : (bs : List ℕ) → unwrap_or (position is_newline bs) (length bs) ≡ length (line_in bs)
line_len bs =
    let e = line_position bs in
    let h = line_short bs in
    bool_case (ltb (position_or_len is_newline bs) (length bs))
    (λ t. simp t (sym e))
    (λ t. let g = ltb-false (position_or_len is_newline bs) (length bs) t in simp t (omega arith))

-- up to the end that was found, and from behind it on
module _ (bs : List ℕ) (i e : ℕ) (h : i < length bs) (p : e ≡ i + length (line_in (drop i bs))) where
  pub part_line : take (e - i) (drop i bs) ≡ line_in (drop i bs)
  part_line = let k : e - i ≡ length (line_in (drop i bs)) = omega arith in rw k (line_part (drop i bs))

  pub lines_next : lines_of (drop i bs) ≡ line_in (drop i bs) ∷ lines_of (drop (e + 1) bs)
  lines_next =
      let k : i + suc (length (line_in (drop i bs))) ≡ e + 1 = omega arith in
      let d = drop-drop (suc (length (line_in (drop i bs)))) i bs in
      let q : past_line (drop i bs) ≡ drop (e + 1) bs = sym (past_part (drop i bs)) ∙ d ∙ ap (λ (n : ℕ). drop n bs) k in
      lines_past bs i h ∙ ap (λ (t : List ℕ). line_in (drop i bs) ∷ lines_of t) q

-- a line that is taken byte by byte
pub take_line : (l : Line) (bs : List ℕ) (i : ℕ) → (take_of l bs i).line ≡ grown_by l (line_in bs)
unfolding take_of line_in grown_by
take_line l [] i = refl
take_line l (b ∷ bs) i = bool_case (eqb b 10) (λ e. simp e) (λ e. simp e (take_line (grown l b) bs (i + 1)))

take_rest : (l : Line) (bs : List ℕ) (i : ℕ) → drop ((take_of l bs i).next - i) bs ≡ past_line bs
unfolding take_of past_line
take_rest l [] i = let k : i - i ≡ 0 = omega arith in simp k
take_rest l (b ∷ bs) i =
    let k : i + 1 - i ≡ 1 = omega arith in
    bool_case (eqb b 10) (λ e. simp (e, k))
    (λ e.
    let t = take_of (grown l b) bs (i + 1) in
    let h = take_next (grown l b) bs (i + 1) in
    let n : t.next - i ≡ suc (t.next - (i + 1)) = omega arith in
    simp (e, n) (take_rest (grown l b) bs (i + 1)))

module _ (bs : List ℕ) (l : Line) (i : ℕ) (r : Taken) (h : i < length bs) (e : r ≡ take_of l (drop i bs) i) where
  pub taken_lines : lines_of (drop i bs) ≡ line_in (drop i bs) ∷ lines_of (drop r.next bs)
  taken_lines =
      let t = take_of l (drop i bs) i in
      let g : i ≤ t.next = take_next l (drop i bs) i in
      let k : i + (t.next - i) ≡ t.next = omega arith in
      let n : i + (t.next - i) ≡ r.next = k ∙ ap (λ (y : Taken). y.next) (sym e) in
      let q : past_line (drop i bs) ≡ drop r.next bs =
      sym (take_rest l (drop i bs) i) ∙ drop-drop (t.next - i) i bs ∙ ap (λ (y : ℕ). drop y bs) n in
      lines_past bs i h ∙ ap (λ (t : List ℕ). line_in (drop i bs) ∷ lines_of t) q

  pub taken_line : r.line ≡ grown_by l (line_in (drop i bs))
  taken_line = ap (λ (t : Taken). t.line) e ∙ take_line l (drop i bs) i
