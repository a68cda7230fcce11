-- Taking a line from the bytes of a read: a turn of the loop takes the byte that stands at its place. A line taken at
-- once is its bytes taken one by one.
use mathlib.Core.Path.{◌≡◌, refl, sym, ap, ◌∙◌}
use mathlib.Core.Bool.{Bool, true, false}
use mathlib.Core.List.{List, [], ◌∷◌}
use Prim.Native.Nat.{ℕ, suc, ◌+◌, ◌-◌, ◌≤◌, ◌<◌}
use native.Mathlib.Omega.{arith}
use native.Mathlib.Numerals.{add-one}
use lib.ListN.{length, drop, get_or, length-drop, drop_of_length-le}
use lib.Seq.{drop-cons, drop-drop}
use lib.Dec.{eqb}
use borrow.Author.Tests.{eq-eqb, ne_eqb}
use Rattle.script.specs.declared.line.Line.{Line}
use Rattle.script.specs.declared.line.Taken.{Taken}
use Rattle.script.specs.Reader.{grown, take_of}
use Rattle.script.specs.Run.{Step, Stand, stand, stepped, turned, play_of, finished}
use Rattle.fields.proofs.Choose.{bool_case}

module _ (bs : List ℕ) (l : Line) (i : ℕ) where
  pub take_newline : i < length bs → get_or bs i 0 ≡ 10 → take_of l (drop i bs) i
      ≡ record { line = l; next = i + 1; ended = true }
  unfolding take_of
  take_newline h e = ap (λ (t : List ℕ). take_of l t i) (drop-cons bs i 0 h) ∙ simp (eq-eqb _ _ e)

  pub take_on : (g : Line) → i < length bs → (get_or bs i 0 ≡ 10 → ⊥) → g ≡ grown l (get_or bs i 0)
      → take_of l (drop i bs) i ≡ take_of g (drop (i + 1) bs) (i + 1)
  unfolding take_of
  take_on g h n e = ap (λ (t : List ℕ). take_of l t i) (drop-cons bs i 0 h) ∙ simp (ne_eqb _ _ n, ← e, add-one)

  pub take_end : i ≡ length bs → take_of l (drop i bs) i ≡ record { line = l; next = length bs; ended = false }
  unfolding take_of
  take_end e =
      ap (λ (t : List ℕ). take_of l t i) (drop_of_length-le bs (omega arith))
      ∙ ap (λ (n : ℕ). record { line = l; next = n; ended = false }) e

-- the place behind what was taken
pub take_next : (l : Line) (bs : List ℕ) (i : ℕ) → i ≤ (take_of l bs i).next
unfolding take_of
take_next l [] i = omega arith
take_next l (b ∷ bs) i =
    bool_case (eqb b 10) (λ e. simp e (omega arith))
    (λ e. let h = take_next (grown l b) bs (i + 1) in simp e (omega arith))

take_past : (l : Line) (b : ℕ) (bs : List ℕ) (i : ℕ) → i < (take_of l (b ∷ bs) i).next
unfolding take_of
take_past l b bs i =
    bool_case (eqb b 10) (λ e. simp e (omega arith))
    (λ e. let h = take_next (grown l b) bs (i + 1) in simp e (omega arith))

take_most : (l : Line) (bs : List ℕ) (i : ℕ) → (take_of l bs i).next ≤ i + length bs
unfolding take_of
take_most l [] i = omega arith
take_most l (b ∷ bs) i =
    bool_case (eqb b 10) (λ e. simp e (omega arith))
    (λ e. let h = take_most (grown l b) bs (i + 1) in simp e (omega arith))

module _ {W : Type 0} (does : W → Line → Step W) where
  -- the run behind a line taken
  abbrev resume : Bool → Line → W → List ℕ → List ℕ → Stand W
  resume false l w o bs = stand l w true o
  resume true l w o bs = play_of does (stepped (does w l) w o) bs

  play_take : (l : Line) (bs : List ℕ) (i : ℕ) (w : W) (o : List ℕ)
      → play_of does (stand l w true o) bs ≡ resume (take_of l bs i).ended (take_of l bs i).line w o
      (drop ((take_of l bs i).next - i) bs)
  unfolding take_of play_of turned
  play_take l [] i w o = refl
  play_take l (b ∷ bs) i w o =
      let k : i + 1 - i ≡ 1 = omega arith in
      bool_case (eqb b 10) (λ e. simp (e, k))
      (λ e.
      let h = take_next (grown l b) bs (i + 1) in
      let n : (take_of (grown l b) bs (i + 1)).next - i ≡ suc ((take_of (grown l b) bs (i + 1)).next - (i + 1)) =
      omega arith in
      simp (e, n) (play_take (grown l b) bs (i + 1) w o))

module _ (bytes : List ℕ) (l : Line) (i : ℕ) (r : Taken) (h : i < length bytes)
    (e : r ≡ take_of l (drop i bytes) i) where
  pub step_on : (i < r.next) × (r.next ≤ length bytes)
  step_on =
      let p : i < (take_of l (drop i bytes) i).next =
      rw (drop-cons bytes i 0 h) (take_past l (get_or bytes i 0) (drop (suc i) bytes) i) in
      let q : (take_of l (drop i bytes) i).next ≤ i + length (drop i bytes) = take_most l (drop i bytes) i in
      let k : length (drop i bytes) ≡ length bytes - i = length-drop i bytes in
      let n : r.next ≡ (take_of l (drop i bytes) i).next = ap (λ (t : Taken). t.next) e in
      (omega arith, omega arith)

  module _ {W : Type 0} (does : W → Line → Step W) (w : W) (o : List ℕ) where
    step_play : play_of does (stand l w true o) (drop i bytes) ≡ resume does r.ended r.line w o (drop r.next bytes)
    step_play =
        let q = step_on in
        let k : i + (r.next - i) ≡ r.next = omega arith in
        play_take does l (drop i bytes) i w o
        ∙ ap (λ (t : Taken). resume does t.ended t.line w o (drop (t.next - i) (drop i bytes))) (sym e)
        ∙ ap (λ (t : List ℕ). resume does r.ended r.line w o t)
        (drop-drop (r.next - i) i bytes ∙ ap (λ (n : ℕ). drop n bytes) k)

    -- the bytes end before the line does
    pub step_stop : r.ended ≡ false → play_of does (stand l w true o) (drop i bytes) ≡ stand r.line w true o
    step_stop f = step_play ∙ ap (λ (b : Bool). resume does b r.line w o (drop r.next bytes)) f

    -- the line ends
    pub step_ends : r.ended ≡ true → play_of does (stand l w true o) (drop i bytes)
        ≡ play_of does (stepped (does w r.line) w o) (drop r.next bytes)
    step_ends f = step_play ∙ ap (λ (b : Bool). resume does b r.line w o (drop r.next bytes)) f

-- the input ends inside a line
pub end_line : {W : Type 0} (does : W → Line → Step W) (l : Line) (w : W) (u : Stand W) → (l.letter ≡ 0 → ⊥)
    → u ≡ play_of does (stand l w true []) (10 ∷ [])
    → u.out ≡ finished does (stand l w true [])
unfolding finished play_of
end_line {W = W} does l w u n e = ap (λ (t : Stand W). t.out) e ∙ simp (ne_eqb _ _ n)
