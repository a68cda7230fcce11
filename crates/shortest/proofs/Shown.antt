-- What `stripbook` prints for lines: nothing from the first of another form on, and last the line of the last call,
-- with the number that the calls end in.
use Rattle.store.specs.declared.Refusal.{Refusal}
use Rattle.std.specs.Prelude.{Option, None, Some, Err, Ok, Result}
use mathlib.Core.Path.{◌≡◌, refl, sym, ap, ◌∙◌}
use mathlib.Core.Bool.{Bool, true, false, cond}
use mathlib.Core.List.{List, [], ◌∷◌, ◌++◌, append-nil, append_assoc}
use Prim.Native.Nat.{ℕ, zero, suc, ◌-◌, ◌^◌, ◌<◌}
use native.Mathlib.Omega.{arith}
use borrow.Author.Tests.{eqb-false, ne_eqb}
use lib.ListN.{length, get_or}
use lib.Dec.{eqb, ltb}
use Rattle.store.specs.declared.Answer.{Answer}
use Rattle.store.specs.declared.Answer.TheVariants.{Done, Begun, Written, Committed, Opened, Missing, Erased, Present, Listed}
use Rattle.store.specs.Answer.{answer_number}
use Rattle.script.specs.Words.{ahead, lines_of}
use Rattle.script.specs.Run.{Step, prints_from}
use Rattle.book.specs.declared.call.Call.{Call}
use Rattle.book.specs.Line.{line_of}
use Rattle.book.specs.Room.{result_of, line_text, letter_of, printed}
use Rattle.book.specs.Steps.{World, left_by, step_by}
use Rattle.fields.proofs.Choose.{bool_case}
use Rattle.shortest.specs.Script.{script_of, calls_of, outcome_in, end_from, text_of}
use Rattle.shortest.specs.Choice.{chosen_of, picked}

-- every line is so
pub data Every (P : List ℕ → Type 0) : List (List ℕ) → Type 0 where
  done : Every P []
  more : {l : List ℕ} {ls : List (List ℕ)} → P l → Every P ls → Every P (l ∷ ls)

-- a line has no newline
pub data Plain : List ℕ → Type 0 where
  ends : Plain []
  goes : {b : ℕ} {l : List ℕ} → (b ≡ 10 → ⊥) → Plain l → Plain (b ∷ l)

-- a line is of a form that `stripbook` takes, and has no newline
pub record Taken (l : List ℕ) : Type 0 where
  pub plain : Plain l
  pub call : Call
  pub asks : line_of l ≡ Some call

ahead_plain : (b : ℕ) (ls : List (List ℕ)) → (b ≡ 10 → ⊥) → Every Plain ls → Every Plain (ahead b ls)
ahead_plain b [] h done = more (goes h ends) done
ahead_plain b (l ∷ ls) h (more p q) = more (goes h p) q

cond_plain : (b : Bool) (x y : List (List ℕ)) → Every Plain x → (b ≡ false → Every Plain y) → Every Plain (cond b x y)
cond_plain true x y p q = p
cond_plain false x y p q = q refl

lines_plain : (bs : List ℕ) → Every Plain (lines_of bs)
unfolding lines_of
lines_plain [] = done
lines_plain (b ∷ bs) =
    cond_plain (eqb b 10) _ _ (more ends (lines_plain bs))
    (λ e. ahead_plain b (lines_of bs) (eqb-false b 10 e) (lines_plain bs))

option_case : {A : Type 0} {P : Type 0} (o : Option A) → ((x : A) → o ≡ Some x → P) → (o ≡ None → P) → P
option_case None f g = g refl
option_case (Some x) f g = f x refl

script_taken : (ls : List (List ℕ)) → Every Plain ls → Every Taken (script_of ls)
unfolding script_of
script_taken [] done = done
script_taken (l ∷ ls) (more p q) =
    option_case (line_of l)
    (λ call e. simp e (more (record { plain = p; call = call; asks = e }) (script_taken ls q)))
    (λ e. simp e done)

pub script_lines : (bs : List ℕ) → Every Taken (script_of (lines_of bs))
script_lines bs = script_taken (lines_of bs) (lines_plain bs)

pub picked_taken : (c : List Bool) (ls : List (List ℕ)) → Every Taken ls → Every Taken (picked c ls)
unfolding picked
picked_taken [] ls h = done
picked_taken (b ∷ c) [] h = done
picked_taken (true ∷ c) (l ∷ ls) (more p q) = more p (picked_taken c ls q)
picked_taken (false ∷ c) (l ∷ ls) (more p q) = picked_taken c ls q

-- lines that are printed are read again
line_back : (l bs : List ℕ) → Plain l → lines_of (l ++ (10 ∷ bs)) ≡ l ∷ lines_of bs
unfolding lines_of
line_back [] bs ends = refl
line_back (b ∷ l) bs (goes h p) = simp (ne_eqb _ _ h) (ap (ahead b) (line_back l bs p))

pub lines_back : (ls : List (List ℕ)) → Every Taken ls → lines_of (text_of ls) ≡ ls
unfolding text_of lines_of
lines_back [] done = refl
lines_back (l ∷ ls) (more p q) =
    line_back l (text_of ls) p.plain ∙ ap (λ (t : List (List ℕ)). l ∷ t) (lines_back ls q)

-- what a line does to the world
abbrev pub says : World → List ℕ → Step World
says w l = step_by w (line_of l)

-- lines from the first of another form on print nothing
pub prints_script : (ls : List (List ℕ)) (w : World) → prints_from says w ls ≡ prints_from says w (script_of ls)
unfolding prints_from script_of step_by
prints_script [] w = refl
prints_script (l ∷ ls) w =
    option_case (line_of l)
    (λ call e.
    let o = outcome_in w (Some call) in
    simp e (ap (λ (t : List ℕ). printed call o ++ t) (prints_script ls (left_by o))))
    (λ e. simp e)

-- a refusal has no result
refused_dash : (a : Result Answer Refusal) (b : ℕ) → (answer_number a ≡ 0 → ⊥) → result_of a b ≡ None
unfolding answer_number result_of
refused_dash (Err r) b h = refl
refused_dash (Ok Done) b h = refl
refused_dash (Ok (Begun n)) b h = absurd (h refl)
refused_dash (Ok (Written k)) b h = absurd (h refl)
refused_dash (Ok (Committed t)) b h = absurd (h refl)
refused_dash (Ok (Opened t)) b h = absurd (h refl)
refused_dash (Ok Missing) b h = refl
refused_dash (Ok Erased) b h = refl
refused_dash (Ok Present) b h = absurd (h refl)
refused_dash (Ok (Listed k)) b h = absurd (h refl)

abbrev letter_in : Option Call → ℕ
letter_in None = 0
letter_in (Some call) = letter_of call

-- the letter of the last line
unfoldable pub last_letter : List (List ℕ) → ℕ
last_letter [] = 0
last_letter (l ∷ []) = letter_in (line_of l)
last_letter (l ∷ (k ∷ ls)) = last_letter (k ∷ ls)

-- the first line is printed by its outcome, and then the others
step_prints : (l : List ℕ) (ls : List (List ℕ)) (w : World) (call : Call) → line_of l ≡ Some call
    → prints_from says w (l ∷ ls)
    ≡ printed call (outcome_in w (Some call)) ++ prints_from says (left_by (outcome_in w (line_of l))) ls
unfolding prints_from step_by
step_prints l ls w call e = simp e

-- what lines print last: their number, and no result where that is a refusal
pub record LastShown (ls : List (List ℕ)) (r : ℕ) (text : List ℕ) : Type 0 where
  pub others : List ℕ
  pub result : Option ℕ
  pub is : text ≡ others ++ line_text (last_letter ls) r result
  pub dash : (r ≡ 0 → ⊥) → result ≡ None

pub last_shown : (ls : List (List ℕ)) (w : World) (r : ℕ) → Every Taken ls → 0 < length ls
    → LastShown ls (end_from w r (calls_of ls)) (prints_from says w ls)
unfolding end_from last_letter printed prints_from
last_shown [] w r h n = absurd (omega arith)
last_shown (l ∷ []) w r (more p q) n =
    let o = outcome_in w (Some p.call) in
    record {
      others = [];
      result = result_of o.answer (get_or o.value 0 0);
      is = step_prints l [] w p.call p.asks ∙ append-nil _ ∙ simp p.asks;
      dash = λ h. refused_dash o.answer (get_or o.value 0 0) (λ z. h (simp p.asks z));
    }
last_shown (l ∷ (k ∷ ls)) w r (more p q) n =
    let o = outcome_in w (line_of l) in
    let x = printed p.call (outcome_in w (Some p.call)) in
    let ih = last_shown (k ∷ ls) (left_by o) (answer_number o.answer) q (omega arith) in
    let g = sym (append_assoc x ih.others _) in
    record {
      others = x ++ ih.others;
      result = ih.result;
      is = step_prints l (k ∷ ls) w p.call p.asks ∙ ap (λ (t : List ℕ). x ++ t) ih.is ∙ g;
      dash = ih.dash;
    }

last_behind : (l : List ℕ) (ls : List (List ℕ)) → 0 < length ls → last_letter (l ∷ ls) ≡ last_letter ls
unfolding last_letter
last_behind l [] h = absurd (omega arith)
last_behind l (k ∷ ls) h = refl

-- the last line is in every choice
abbrev pub SameLast : List (List ℕ) → List (List ℕ) → Type 0
SameLast ks ls = (last_letter ks ≡ last_letter ls) × (0 < length ks)

one_chosen : (j : ℕ) (ls : List (List ℕ)) → length ls ≡ 1 → SameLast (picked (chosen_of 0 j) ls) ls
unfolding picked chosen_of
one_chosen j [] h = absurd (omega arith)
one_chosen j (l ∷ []) h = (refl, omega arith)
one_chosen j (l ∷ (k ∷ ls)) h = absurd (omega arith)

next_chosen : (m j : ℕ) (l : List ℕ) (ls : List (List ℕ)) → 0 < length ls → SameLast (picked (chosen_of m j) ls) ls
    → SameLast (picked (chosen_of m (j - 2 ^ m)) ls) ls → SameLast (picked (chosen_of (suc m) j) (l ∷ ls)) (l ∷ ls)
unfolding picked chosen_of
next_chosen m j l ls h f g =
    bool_case (ltb j (2 ^ m))
    (λ e. simp e (last_behind l (picked (chosen_of m j) ls) f.1 ∙ f.0 ∙ sym (last_behind l ls h), omega arith))
    (λ e. simp e (g.0 ∙ sym (last_behind l ls h), g.1))

pub last_chosen : (m j : ℕ) (ls : List (List ℕ)) → length ls ≡ suc m → SameLast (picked (chosen_of m j) ls) ls
last_chosen zero j ls h = one_chosen j ls h
last_chosen (suc m) j [] h = absurd (omega arith)
last_chosen (suc m) j (l ∷ ls) h =
    next_chosen m j l ls (omega arith) (last_chosen m j ls (omega arith)) (last_chosen m (j - 2 ^ m) ls (omega arith))
