-- The calls of a script, kept line by line: a line that is taken is the next of the script, so what is kept and the
-- lines behind it stay the script.
use Rattle.std.specs.Prelude.{Option, None, Some}
use mathlib.Core.Path.{◌≡◌, sym, ap, ◌∙◌}
use mathlib.Core.Bool.{true, false}
use mathlib.Core.List.{List, [], ◌∷◌, ◌++◌, append-nil}
use Prim.Native.Nat.{ℕ, suc, ◌+◌, ◌-◌, ◌≤◌, ◌<◌, min}
use native.Mathlib.Omega.{arith}
use native.Mathlib.Numerals.{add-one}
use lib.ListN.{length, take, drop, set, get_or, replicate, length-map, length-take, length-append, drop_of_length-le}
use lib.ListN.{take-append-drop}
use lib.Seq.{take-suc-set, append_snoc, drop-set-lt, drop-cons}
use borrow.Author.Tests.{lt-ltb, le-ltb}
use Rattle.script.specs.declared.line.Line.{Line}
use Rattle.script.specs.declared.line.Taken.{Taken}
use Rattle.script.specs.Words.{lines_of}
use Rattle.script.specs.Reader.{no_line, grown_by, take_of}
use Rattle.book.specs.declared.call.Call.{Call}
use Rattle.book.specs.Line.{line_of, meaning_of}
use Rattle.book.proofs.LineLaws.{line_call}
use Rattle.shortest.specs.Script.{script_of, calls_of}
use Rattle.shortest.specs.Lines.{line_in}
use Rattle.shortest.specs.Prints.{too_long}
use Rattle.shortest.specs.Kept.{places_of}
use Rattle.shortest.proofs.LineLaws.{taken_lines, taken_line}

script_stops : (l : List ℕ) (ls : List (List ℕ)) → line_of l ≡ None → script_of (l ∷ ls) ≡ []
unfolding script_of
script_stops l ls e = simp e

script_goes : (l : List ℕ) (ls : List (List ℕ)) (call : Call) → line_of l ≡ Some call
    → script_of (l ∷ ls) ≡ l ∷ script_of ls
unfolding script_of
script_goes l ls call e = simp e

-- the calls of the script that begins at place a
abbrev pub calls_at : List ℕ → ℕ → List (Option Call)
calls_at bs a = calls_of (script_of (lines_of (drop a bs)))

-- ks holds the whole script
pub record Whole (bs : List ℕ) (ks : List (Option Call)) : Type 0 where
  pub places : ks ≡ places_of (script_of (lines_of bs))
  pub few : false ≡ too_long (script_of (lines_of bs))

-- n calls are kept, and with those of the lines from place a on they are the script's
module _ (bs : List ℕ) (ks : List (Option Call)) (n a : ℕ) (m : n ≤ 12) (len : length ks ≡ 12)
    (rest : drop n ks ≡ replicate (12 - n) None)
    (all : take n ks ++ calls_at bs a ≡ calls_of (script_of (lines_of bs))) where
  many : length (calls_of (script_of (lines_of bs))) ≡ length (script_of (lines_of bs))
  many = length-map (script_of (lines_of bs)) line_of

  -- no line comes behind them
  pub keep_ends : script_of (lines_of (drop a bs)) ≡ [] → Whole bs ks
  unfolding too_long
  keep_ends e =
      let g : take n ks ≡ calls_of (script_of (lines_of bs)) =
      sym (append-nil (take n ks)) ∙ ap (λ (t : List (List ℕ)). take n ks ++ calls_of t) (sym e) ∙ all in
      let k : length (take n ks) ≡ min n (length ks) = length-take n ks in
      let l : length (take n ks) ≡ length (calls_of (script_of (lines_of bs))) = ap length g in
      let i = many in
      let c : n ≡ length (script_of (lines_of bs)) = omega arith in
      record {
        places = sym (take-append-drop n ks) ∙ rw (g, rest, c);
        few = sym (le-ltb 12 (length (script_of (lines_of bs))) (omega arith));
      }

  pub keep_short : length bs ≤ a → Whole bs ks
  unfolding lines_of script_of
  keep_short h = keep_ends (ap (λ (t : List ℕ). script_of (lines_of t)) (drop_of_length-le bs h))

  -- a line that was taken from there
  module _ (l : Line) (r : Taken) (o : Option Call) (h : a < length bs) (z : l ≡ no_line)
      (e : r ≡ take_of l (drop a bs) a) (g : o ≡ meaning_of r.line) where
    line_is : o ≡ line_of (line_in (drop a bs))
    line_is =
        let t = line_in (drop a bs) in
        g ∙ ap meaning_of (taken_line bs l a r h e ∙ ap (λ (y : Line). grown_by y t) z) ∙ line_call t

    pub keep_other : o ≡ None → Whole bs ks
    keep_other d =
        keep_ends
        (ap script_of (taken_lines bs l a r h e)
        ∙ script_stops (line_in (drop a bs)) (lines_of (drop r.next bs)) (sym line_is ∙ d))

    -- one call more
    module _ (call : Call) (d : o ≡ Some call) where
      more : calls_at bs a ≡ Some call ∷ calls_at bs r.next
      more =
          let s = script_goes (line_in (drop a bs)) (lines_of (drop r.next bs)) call (sym line_is ∙ d) in
          ap (λ (t : List (List ℕ)). calls_of (script_of t)) (taken_lines bs l a r h e)
          ∙ ap calls_of s
          ∙ ap (λ (t : Option Call). t ∷ calls_at bs r.next) (sym line_is ∙ d)

      pub keep_many : n ≡ 12 → true ≡ too_long (script_of (lines_of bs))
      unfolding too_long
      keep_many w =
          let g : take n ks ++ (Some call ∷ calls_at bs r.next) ≡ calls_of (script_of (lines_of bs)) =
          ap (λ (t : List (Option Call)). take n ks ++ t) (sym more) ∙ all in
          let u : length (take n ks) ≡ min n (length ks) = length-take n ks in
          let i = many in
          let v = simp length-append at (ap length g) in
          sym (lt-ltb 12 (length (script_of (lines_of bs))) (omega arith))

      pub keep_next : n < 12 → take (n + 1) (set ks n (Some call)) ++ calls_at bs r.next
          ≡ calls_of (script_of (lines_of bs))
      keep_next w =
          let q : n < length ks = omega arith in
          let b = calls_at bs r.next in
          ap (λ (t : ℕ). take t (set ks n (Some call)) ++ b) (add-one n)
          ∙ ap (λ (t : List (Option Call)). t ++ b) (take-suc-set ks n (Some call) q)
          ∙ append_snoc (take n ks) (Some call) b
          ∙ ap (λ (t : List (Option Call)). take n ks ++ t) (sym more)
          ∙ all

  pub keep_left : (o : Option Call) → n < 12 → drop (n + 1) (set ks n o) ≡ replicate (12 - (n + 1)) None
  keep_left o w =
      let q : n < length ks = omega arith in
      let s : 12 - n ≡ suc (12 - (n + 1)) = omega arith in
      let e : get_or ks n None ∷ drop (suc n) ks ≡ None ∷ replicate (12 - (n + 1)) None =
      sym (drop-cons ks n None q) ∙ (rw s at rest) in
      let u : drop (suc n) ks ≡ replicate (12 - (n + 1)) None = cc in
      drop-set-lt (n + 1) ks n o (omega arith) ∙ ap (λ (t : ℕ). drop t ks) (add-one n) ∙ u
