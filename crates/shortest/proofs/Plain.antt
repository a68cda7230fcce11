-- Request #112 in plain words follows from the search: each list of line numbers is a choice with a number, in the same
-- order, and the search looks at all of them.
use Rattle.std.specs.Prelude.{Option}
use mathlib.Core.Path.{◌≡◌, refl, sym, ap, ◌∙◌}
use mathlib.Core.Bool.{Bool, true, false}
use mathlib.Core.List.{List, [], ◌∷◌}
use mathlib.Core.Logic.{◌⊎◌, inl, inr, ⊎_elim}
use Prim.Native.Nat.{ℕ, suc, ◌+◌, ◌-◌, ◌^◌, ◌≤◌, ◌<◌}
use native.Mathlib.Omega.{arith}
use borrow.Author.Tests.{le-ltb, eq-eqb, ne_eqb, ltb-false, eqb-true, eqb-false}
use lib.ListN.{length, length-map, length-append}
use lib.Dec.{eqb, ltb}
use Rattle.script.specs.Words.{lines_of}
use Rattle.book.specs.declared.call.Call.{Call}
use Rattle.book.specs.Line.{line_of}
use Rattle.book.specs.Whole.{start, prints_of as book_prints_of}
use Rattle.fields.proofs.Choose.{bool_case}
use Rattle.shortest.specs.Script.{calls_of, end_from, end_of, text_of}
use Rattle.shortest.specs.Choice.{chosen_of, size_of, picked}
use Rattle.shortest.specs.Search.{ends_as, shortest_of}
use Rattle.shortest.specs.Prints.{too_long, shortest_text, shortened, prints_of}
use Rattle.shortest.specs.Plain.{Rises, IsChoice, lines_at, Earlier, Before, EndsAlike, Shortest, script}
use Rattle.shortest.specs.Plain.{Shortenable, EndShown, ShownAlike, ShortScript}
use Rattle.shortest.proofs.PrintLaws.{length_chosen, all_chosen}
use Rattle.shortest.proofs.Numbers.{numbers, numbers_count, numbers_lines, numbers_rise, numbers_earlier}
use Rattle.shortest.proofs.Numbers.{number_of}
use Rattle.shortest.proofs.Shown.{script_lines, picked_taken, lines_back, prints_script}
use Rattle.shortest.proofs.Shown.{Every, Taken, LastShown, last_letter, last_shown, last_chosen}
use Rattle.shortest.proofs.Least.{First, BestOf, best_of}

-- choosing lines is choosing calls
picked_calls : (c : List Bool) (ls : List (List ℕ)) → calls_of (picked c ls) ≡ picked c (calls_of ls)
unfolding picked
picked_calls [] ls = refl
picked_calls (b ∷ c) [] = refl
picked_calls (true ∷ c) (l ∷ ls) = ap (λ (t : List (Option Call)). line_of l ∷ t) (picked_calls c ls)
picked_calls (false ∷ c) (l ∷ ls) = picked_calls c ls

-- a script of m + 1 lines
module _ (ls : List (List ℕ)) (m : ℕ) (len : length ls ≡ suc m) where
  chosen_lines : (j : ℕ) → lines_at ls (numbers 0 (chosen_of m j)) ≡ picked (chosen_of m j) ls
  chosen_lines j = let h = length_chosen m j in numbers_lines ls 0 (chosen_of m j) (omega arith)

  chosen_calls : (j : ℕ) → calls_of (lines_at ls (numbers 0 (chosen_of m j))) ≡ picked (chosen_of m j) (calls_of ls)
  chosen_calls j = ap calls_of (chosen_lines j) ∙ picked_calls (chosen_of m j) ls

  alike : (j : ℕ) → ends_as m (calls_of ls) j ≡ true → EndsAlike ls (numbers 0 (chosen_of m j))
  unfolding ends_as EndsAlike
  alike j e =
      ap end_of (chosen_calls j) ∙ eqb-true (end_of (picked (chosen_of m j) (calls_of ls))) (end_of (calls_of ls)) e

  passes : (j : ℕ) → EndsAlike ls (numbers 0 (chosen_of m j)) → ends_as m (calls_of ls) j ≡ true
  unfolding ends_as EndsAlike
  passes j e = eq-eqb _ _ (ap end_of (sym (chosen_calls j)) ∙ e)

  all_pass : ends_as m (calls_of ls) 0 ≡ true
  unfolding ends_as
  all_pass = eq-eqb _ _ (ap end_of (all_chosen m (calls_of ls) (length-map ls line_of ∙ len)))

  found : BestOf (λ i. size_of (chosen_of m i)) (ends_as m (calls_of ls)) (shortest_of m (calls_of ls)) (2 ^ m)
  unfolding shortest_of
  found =
      let z : 0 + 2 ^ m ≡ 2 ^ m = omega arith in
      rw z at
      (best_of (λ i. size_of (chosen_of m i)) (ends_as m (calls_of ls)) 0 0 (2 ^ m)
      (record { known = omega arith; good = all_pass; least = λ x h p. absurd (omega arith) }))

  -- the order of choices is that of their numbers
  order : (b x : ℕ) → x < 2 ^ m → First (λ i. size_of (chosen_of m i)) (ends_as m (calls_of ls)) b x
      → (numbers 0 (chosen_of m x) ≡ numbers 0 (chosen_of m b))
      ⊎ Before (numbers 0 (chosen_of m b)) (numbers 0 (chosen_of m x))
  unfolding Before
  order b x h (inl l) =
      let p = numbers_count 0 (chosen_of m b) in
      let q = numbers_count 0 (chosen_of m x) in inr (inl (omega arith))
  order b x h (inr l) =
      let p = numbers_count 0 (chosen_of m b) in
      let q = numbers_count 0 (chosen_of m x) in
      bool_case (eqb x b) (λ e. inl (ap (λ (t : ℕ). numbers 0 (chosen_of m t)) (eqb-true x b e)))
      (λ e. let d = eqb-false x b e in inr (inr (omega arith, numbers_earlier m b x 0 h l.0 (omega arith))))

  short : Shortest ls (numbers 0 (chosen_of m (shortest_of m (calls_of ls))))
  short = record {
    choice = numbers_rise m (shortest_of m (calls_of ls)) 0 0 (length ls) (omega arith) (omega arith);
    ends = alike (shortest_of m (calls_of ls)) found.good;
    least = λ ms r e.
        let w = number_of m 0 (length ls) ms (omega arith) r in
        let p = passes w.0 (rw (← w.2) at e) in
        rw w.2 at (order (shortest_of m (calls_of ls)) w.0 w.1 (found.least w.0 w.1 p));
  }

alike_is : (ls : List (List ℕ)) (ns : List ℕ) → EndsAlike ls ns
    → end_of (calls_of (lines_at ls ns)) ≡ end_of (calls_of ls)
unfolding EndsAlike
alike_is ls ns e = e

-- a script that ends in a refusal has a line
some_line : (ls : List (List ℕ)) → (end_of (calls_of ls) ≡ 0 → ⊥) → length ls ≡ suc (length ls - 1)
unfolding end_of end_from
some_line [] h = absurd (h refl)
some_line (l ∷ ls) h = omega arith

-- of two choices not both come before the other
earlier_once : (ns ms : List ℕ) → Earlier ns ms → Earlier ms ns → ⊥
unfolding Earlier
earlier_once [] ms p q = p
earlier_once (a ∷ ns) [] p q = p
earlier_once (a ∷ ns) (b ∷ ms) (inl p) (inl q) = omega arith
earlier_once (a ∷ ns) (b ∷ ms) (inl p) (inr q) = let e = q.0 in omega arith
earlier_once (a ∷ ns) (b ∷ ms) (inr p) (inl q) = let e = p.0 in omega arith
earlier_once (a ∷ ns) (b ∷ ms) (inr p) (inr q) = earlier_once ns ms p.1 q.1

before_once : (ns ms : List ℕ) → Before ns ms → Before ms ns → ⊥
unfolding Before
before_once ns ms (inl p) (inl q) = omega arith
before_once ns ms (inl p) (inr q) = let e = q.0 in omega arith
before_once ns ms (inr p) (inl q) = let e = p.0 in omega arith
before_once ns ms (inr p) (inr q) = earlier_once ns ms p.1 q.1

prints_nothing : (input : List ℕ) → (Shortenable input → ⊥) → prints_of input ≡ []
unfolding prints_of shortened too_long
prints_nothing input z =
    let ls = script input in
    bool_case (ltb 12 (length ls)) (λ t. simp t)
    (λ t.
    bool_case (eqb (end_of (calls_of ls)) 0) (λ e. simp (t, e))
    (λ e. absurd (z (record { few = ltb-false 12 (length ls) t; refused = eqb-false (end_of (calls_of ls)) 0 e }))))

-- the line numbers of the shortest choice
abbrev short_numbers : List (List ℕ) → List ℕ
short_numbers ls = numbers 0 (chosen_of (length ls - 1) (shortest_of (length ls - 1) (calls_of ls)))

prints_shortest : (ls : List (List ℕ)) → length ls ≤ 12 → (end_of (calls_of ls) ≡ 0 → ⊥)
    → shortened ls ≡ text_of (lines_at ls (short_numbers ls))
unfolding shortened too_long shortest_text
prints_shortest ls h z =
    simp (le-ltb _ _ h, ne_eqb _ _ z)
    (ap text_of (sym (chosen_lines ls (length ls - 1) (some_line ls z) (shortest_of (length ls - 1) (calls_of ls)))))

-- some line is printed, and its newline
text_some : (ls : List (List ℕ)) (i n : ℕ) (ns : List ℕ) → i < n → Rises i ns n → text_of (lines_at ls ns) ≡ [] → ⊥
unfolding Rises lines_at text_of
text_some ls i n [] h r e = omega arith
text_some ls i n (a ∷ ns) h r e = let k = simp length-append at (ap length e) in omega arith

prints_some : (input : List ℕ) → Shortenable input → prints_of input ≡ [] → ⊥
unfolding prints_of
prints_some input s e =
    let ls = script input in
    let len = some_line ls s.refused in
    text_some ls 0 (length ls) (short_numbers ls) (omega arith) (short ls (length ls - 1) len).choice
    (sym (prints_shortest ls s.few s.refused) ∙ e)

-- what stripbook prints for lines of a script, each with its newline
text_shown : (ls : List (List ℕ)) → Every Taken ls → 0 < length ls
    → LastShown ls (end_of (calls_of ls)) (book_prints_of (text_of ls))
unfolding book_prints_of end_of
text_shown ls t h = rw (lines_back ls t) (last_shown ls start 0 t h)

-- stripbook shows the number of every choice
choice_shown : (input ns : List ℕ) → 0 < length (script input) → IsChoice (length (script input)) ns
    → EndShown (lines_at (script input) ns)
unfolding EndShown
choice_shown input ns h r =
    let ls = script input in
    let m = length ls - 1 in
    let len : length ls ≡ suc m = omega arith in
    let w = number_of m 0 (length ls) ns (omega arith) r in
    let c = chosen_of m w.0 in
    let e : picked c ls ≡ lines_at ls ns = sym (chosen_lines ls m len w.0) ∙ ap (lines_at ls) w.2 in
    let y = text_shown (picked c ls) (picked_taken c ls (script_lines input)) (last_chosen m w.0 ls len).1 in
    let z : EndShown (picked c ls) = (last_letter (picked c ls), y.result, y.others, y.is) in rw e at z

-- stripbook shows the same last line for both
same_shown : (input : List ℕ) → Shortenable input
    → ShownAlike (end_of (calls_of (script input))) input (prints_of input)
unfolding ShownAlike prints_of book_prints_of end_of
same_shown input s =
    let ls = script input in
    let m = length ls - 1 in
    let j = shortest_of m (calls_of ls) in
    let c = chosen_of m j in
    let len = some_line ls s.refused in
    let t = script_lines input in
    let u = last_chosen m j ls len in
    let l = chosen_lines ls m len j in
    let e : end_of (calls_of (picked c ls)) ≡ end_of (calls_of ls) =
    ap (λ (k : List (List ℕ)). end_of (calls_of k)) (sym l) ∙ alike_is ls (numbers 0 c) (short ls m len).ends in
    let x = last_shown ls start 0 t (omega arith) in
    let y = text_shown (picked c ls) (picked_taken c ls t) u.1 in
    let p : shortened ls ≡ text_of (picked c ls) = prints_shortest ls s.few s.refused ∙ ap text_of l in (
      last_letter ls,
      x.others,
      y.others,
      prints_script (lines_of input) start ∙ rw (x.dash s.refused) at x.is,
      ap book_prints_of p ∙ rw (u.0, e, y.dash (λ d. s.refused (sym e ∙ d))) at y.is,
    )

pub short_script : ShortScript
unfolding prints_of
short_script = record {
  shortest = λ input s. (
    short_numbers (script input),
    short (script input) (length (script input) - 1) (some_line (script input) s.refused),
    prints_shortest (script input) s.few s.refused,
  );
  something = prints_some;
  nothing = prints_nothing;
  unique = λ ls ns ms p q.
      ⊎_elim (λ e. sym e)
      (λ b. ⊎_elim (λ e. e) (λ d. absurd (before_once ns ms b d)) (q.least ns p.choice p.ends))
      (p.least ms q.choice q.ends);
  ends = choice_shown;
  shown = same_shown;
}
