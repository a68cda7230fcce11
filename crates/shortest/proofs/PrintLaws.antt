-- What the code keeps in twelve places is the script: unused places are never chosen.
use Rattle.std.specs.Prelude.{Option, None, Some, is_some}
use mathlib.Core.Path.{◌≡◌, refl, sym, ap, ◌∙◌}
use mathlib.Core.Bool.{Bool, true, false, cond}
use mathlib.Core.List.{List, [], ◌∷◌, ◌++◌}
use Prim.Native.Nat.{ℕ, zero, suc, ◌+◌, ◌-◌, ◌^◌, ◌≤◌, ◌<◌}
use native.Mathlib.Omega.{arith}
use native.Mathlib.Nat.{one-le-pow}
use borrow.Author.Tests.{lt-ltb, ltb-false}
use lib.ListN.{length, replicate, length-map}
use lib.Dec.{eqb, ltb}
use Rattle.std.specs.List.{count_by}
use Rattle.std.proofs.lemmas.List.Recursion.{is_count_by}
use Rattle.script.specs.Words.{lines_of}
use Rattle.book.specs.declared.call.Call.{Call}
use Rattle.book.specs.Line.{line_of}
use Rattle.fields.proofs.Choose.{bool_case}
use Rattle.shortest.specs.Script.{script_of, calls_of, end_from, end_of, text_of}
use Rattle.shortest.specs.Choice.{chosen_of, size_of, picked}
use Rattle.shortest.specs.Search.{better_of, best_from, ends_as, shortest_of}
use Rattle.shortest.specs.Prints.{too_long, shortest_text, shortened, prints_of}
use Rattle.shortest.specs.Kept.{places_of, flags_of, size_in, ends_in, best_in, flags_by, kept_flags}

pub length_chosen : (m j : ℕ) → length (chosen_of m j) ≡ suc m
unfolding chosen_of
length_chosen zero j = refl
length_chosen (suc m) j =
    bool_case (ltb j (2 ^ m)) (λ e. simp e (ap suc (length_chosen m j)))
    (λ e. simp e (ap suc (length_chosen m (j - 2 ^ m))))

size_pad : (c : List Bool) (k : ℕ) → size_of (c ++ replicate k false) ≡ size_of c
unfolding size_of
size_pad [] zero = refl
size_pad [] (suc k) = size_pad [] k
size_pad (true ∷ c) k = ap suc (size_pad c k)
size_pad (false ∷ c) k = size_pad c k

module _ {A : Type 0} where
  picked_falses : (k : ℕ) (xs : List A) → picked (replicate k false) xs ≡ []
  unfolding picked
  picked_falses zero xs = refl
  picked_falses (suc k) [] = refl
  picked_falses (suc k) (x ∷ xs) = picked_falses k xs

  picked_pad : (c : List Bool) (k : ℕ) (xs ys : List A) → length c ≡ length xs
      → picked (c ++ replicate k false) (xs ++ ys) ≡ picked c xs
  unfolding picked
  picked_pad [] k [] ys h = picked_falses k ys
  picked_pad [] k (x ∷ xs) ys h = absurd (omega arith)
  picked_pad (b ∷ c) k [] ys h = absurd (omega arith)
  picked_pad (true ∷ c) k (x ∷ xs) ys h = ap (λ (t : List A). x ∷ t) (picked_pad c k xs ys (omega arith))
  picked_pad (false ∷ c) k (x ∷ xs) ys h = picked_pad c k xs ys (omega arith)

  -- choice 0 is the whole script
  pub all_chosen : (m : ℕ) (xs : List A) → length xs ≡ suc m → picked (chosen_of m 0) xs ≡ xs
  unfolding picked chosen_of
  all_chosen m [] h = absurd (omega arith)
  all_chosen zero (x ∷ []) h = refl
  all_chosen zero (x ∷ (y ∷ xs)) h = absurd (omega arith)
  all_chosen (suc m) (x ∷ xs) h =
      let p : 0 < 2 ^ m = one-le-pow m 2 (omega arith) in
      simp (lt-ltb _ _ p) (ap (λ (t : List A). x ∷ t) (all_chosen m xs (omega arith)))

best_same : (s t : ℕ → ℕ) (p q : ℕ → Bool) → ((i : ℕ) → s i ≡ t i) → ((i : ℕ) → p i ≡ q i) → (best j k : ℕ)
    → best_from s p best j k ≡ best_from t q best j k
unfolding best_from better_of
best_same s t p q f g best j zero = refl
best_same s t p q f g best j (suc k) =
    ap (λ (x : ℕ). best_from s p x (j + 1) k) (rw (f j, f best, g j))
    ∙ best_same s t p q f g (better_of t q best j) (j + 1) k

-- the script stands in front of the lines
front : (ls : List (List ℕ)) → (rest : List (List ℕ)) × (ls ≡ script_of ls ++ rest)
unfolding script_of
front [] = ([], refl)
front (l ∷ ls) =
    bool_case (is_some (line_of l)) (λ e. let h = front ls in (h.0, simp e (ap (λ (t : List (List ℕ)). l ∷ t) h.1)))
    (λ e. (l ∷ ls, simp e))

-- cs is a script of m + 1 calls, and ds the places that hold it
module _ (m k : ℕ) (cs ds : List (Option Call)) (len : length cs ≡ suc m) (e : ds ≡ cs ++ replicate k None) where
  end_at : (j : ℕ) → end_of (picked (flags_of m j) ds) ≡ end_of (picked (chosen_of m j) cs)
  unfolding flags_of
  end_at j =
      ap (λ (t : List (Option Call)). end_of (picked (chosen_of m j ++ replicate (11 - m) false) t)) e
      ∙ ap end_of (picked_pad (chosen_of m j) (11 - m) cs (replicate k None) (length_chosen m j ∙ sym len))

  end_all : end_of (picked (flags_of m 0) ds) ≡ end_of cs
  end_all = end_at 0 ∙ ap end_of (all_chosen m cs len)

  ends_same : (j : ℕ) → ends_in ds m (end_of cs) j ≡ ends_as m cs j
  unfolding ends_in ends_as
  ends_same j = ap (λ (r : ℕ). eqb r (end_of cs)) (end_at j)

  size_same : (j : ℕ) → size_in m j ≡ size_of (chosen_of m j)
  unfolding size_in flags_of
  size_same j = size_pad (chosen_of m j) (11 - m)

  best_is : best_in ds m (end_of cs) ≡ shortest_of m cs
  unfolding best_in shortest_of
  best_is = best_same _ _ _ _ size_same ends_same 0 0 (2 ^ m)

  flags_are : kept_flags ds m ≡ cond (eqb (end_of cs) 0) (replicate 12 false) (flags_of m (shortest_of m cs))
  unfolding kept_flags flags_by
  flags_are = ap (flags_by ds m) end_all ∙ rw best_is

text_of_law : (b : Bool) (m j : ℕ) (ls rest : List (List ℕ)) → length ls ≡ suc m
    → text_of (picked (cond b (replicate 12 false) (flags_of m j)) (ls ++ rest))
    ≡ cond b [] (text_of (picked (chosen_of m j) ls))
unfolding flags_of text_of
text_of_law true m j ls rest h = ap text_of (picked_falses 12 (ls ++ rest))
text_of_law false m j ls rest h = ap text_of (picked_pad (chosen_of m j) (11 - m) ls rest (length_chosen m j ∙ sym h))

none_left : (ls : List (List ℕ)) → length ls ≡ 0 → [] ≡ shortened ls
unfolding shortened too_long end_of end_from
none_left [] h = refl
none_left (l ∷ ls) h = absurd (omega arith)

-- no line, nothing to print
pub prints_none : (bs : List ℕ) → length (script_of (lines_of bs)) ≡ 0 → [] ≡ prints_of bs
unfolding prints_of
prints_none bs z = none_left (script_of (lines_of bs)) z

pub few_lines : (ls : List (List ℕ)) → false ≡ too_long ls → length ls ≤ 12
unfolding too_long
few_lines ls e = ltb-false 12 (length ls) (sym e)

pub prints_many : (bs : List ℕ) → true ≡ too_long (script_of (lines_of bs)) → prints_of bs ≡ []
unfolding prints_of shortened
prints_many bs e = simp (← e)

-- cs holds the script of an input, of m + 1 lines; f says which are printed, and x is their text
pub prints_are : (bs : List ℕ) (cs : List (Option Call)) (m : ℕ) (f : List Bool) (x : List ℕ)
    → cs ≡ places_of (script_of (lines_of bs)) → false ≡ too_long (script_of (lines_of bs))
    → length (script_of (lines_of bs)) ≡ suc m
    → f ≡ kept_flags cs m → x ≡ text_of (picked f (lines_of bs)) → x ≡ prints_of bs
unfolding prints_of shortened shortest_text
prints_are bs cs m f x p l n ef ex =
    let ls = script_of (lines_of bs) in
    let q : length ls - 1 ≡ m = omega arith in
    let j : length (calls_of ls) ≡ suc m = length-map ls line_of ∙ n in
    let u = front (lines_of bs) in
    let g = flags_are m (12 - length ls) (calls_of ls) cs j p in
    ex
    ∙ ap (λ (t : List (List ℕ)). text_of (picked f t)) u.1
    ∙ ap (λ (t : List Bool). text_of (picked t (ls ++ u.0))) (ef ∙ g)
    ∙ text_of_law (eqb (end_of (calls_of ls)) 0) m (shortest_of m (calls_of ls)) ls u.0 n
    ∙ simp (← l, q)

-- how many places hold a call
unfoldable count_of : List (Option Call) → ℕ
count_of [] = 0
count_of (None ∷ cs) = count_of cs
count_of (Some call ∷ cs) = 1 + count_of cs

count_step : (o : Option Call) (cs : List (Option Call)) → count_of (o ∷ cs)
    ≡ cond (is_some o) (1 + count_of cs) (count_of cs)
unfolding count_of
count_step None cs = refl
count_step (Some call) cs = refl

count_none : (k : ℕ) → count_of (replicate k None) ≡ 0
unfolding count_of
count_none zero = refl
count_none (suc k) = count_none k

count_calls : (ls : List (List ℕ)) (k : ℕ) → count_of (calls_of (script_of ls) ++ replicate k None)
    ≡ length (script_of ls)
unfolding script_of
count_calls [] k = count_none k
count_calls (l ∷ ls) k =
    bool_case (is_some (line_of l))
    (λ e. let h = count_calls ls k in simp e (count_step (line_of l) _ ∙ simp e (omega arith)))
    (λ e. simp e (count_none k))

pub count_script : (ls : List (List ℕ)) → count_by is_some (places_of (script_of ls)) ≡ length (script_of ls)
unfolding count_of
count_script ls =
    sym (is_count_by count_of is_some refl count_step (places_of (script_of ls)))
    ∙ count_calls ls (12 - length (script_of ls))
