-- What is printed stands behind what was printed before: a line is its parts one behind the other, and a list its
-- lines.
use Rattle.std.specs.Prelude.{Ok}
use mathlib.Core.Path.{◌≡◌, refl, sym, ap, ◌∙◌}
use mathlib.Core.Bool.{Bool, true, false, ◌&&◌}
use mathlib.Core.List.{List, [], ◌++◌, append-nil, append_assoc}
use Prim.Native.Nat.{ℕ, suc, ◌+◌, ◌-◌, ◌*◌, ◌≤◌, ◌<◌}
use native.Mathlib.Omega.{arith}
use native.Mathlib.Numerals.{add-one}
use lib.ListN.{length, take, drop, get_or, drop_of_length-le}
use lib.Seq.{drop-cons, drop-drop}
use lib.Dec.{eqb}
use Rattle.store.specs.declared.Answer.{Answer}
use Rattle.store.specs.declared.Answer.TheVariants.{Done, Begun, Written, Committed, Opened, Missing, Erased, Present, Listed}
use Rattle.store.specs.Answer.{answer_number}
use Rattle.fields.proofs.PartLaws.{lent_rest}
use Rattle.answers.specs.Text.{change_text, changes_text, all_are, kept_text, list_text}

-- a list's lines, n of them in the buffer b: what is put, and the lines that are left, make up w
module _ (b w : List ℕ) (n i : ℕ) where
  pub changes_turn : (x y : List ℕ) → i < n → y ≡ x ++ change_text (take 32 (drop (32 * i) b))
      → x ++ changes_text (n - i) (drop (32 * i) b) ≡ w
      → y ++ changes_text (n - (i + 1)) (drop (32 * (i + 1)) b) ≡ w
  unfolding changes_text
  changes_turn x y h e g =
      let m : n - i ≡ suc (n - (i + 1)) = omega arith in
      let k : 32 * (i + 1) ≡ 32 * i + 32 = omega arith in
      simp (e, append_assoc, k, ← drop-drop 32 (32 * i) b) (rw m at g)

  pub changes_end : (x : List ℕ) → n ≤ i → x ++ changes_text (n - i) (drop (32 * i) b) ≡ w → x ≡ w
  unfolding changes_text
  changes_end x h g =
      let m : n - i ≡ 0 = omega arith in
      sym (append-nil x) ∙ (rw m at g)

-- are all bytes n? A turn of the loop, and its end
pub are_turn : (n : ℕ) (bs : List ℕ) (i : ℕ) (before all : Bool) → i < length bs → before && all_are n (drop i bs) ≡ all
    → (before && eqb (get_or bs i 0) n) && all_are n (drop (i + 1) bs) ≡ all
unfolding all_are
are_turn n bs i before all h e =
    let d : all_are n (drop i bs) ≡ eqb (get_or bs i 0) n && all_are n (drop (i + 1) bs) = rw (add-one, drop-cons bs i 0 h) in
    and_assoc before (eqb (get_or bs i 0) n) (all_are n (drop (i + 1) bs)) ∙ (rw d at e)
  where
    and_assoc : (x y z : Bool) → (x && y) && z ≡ x && (y && z)
    and_assoc true y z = refl
    and_assoc false y z = refl

pub are_end : (n : ℕ) (bs : List ℕ) (i : ℕ) (before all : Bool) → length bs ≤ i → before && all_are n (drop i bs) ≡ all → before ≡ all
unfolding all_are
are_end n bs i true all h e = rw (drop_of_length-le bs h) at e
are_end n bs i false all h e = e

-- the lines, and then the rest of the buffer
pub list_put : (x z y b : List ℕ) (k : ℕ) (flag : Bool) → z ≡ x ++ changes_text k b
    → flag ≡ all_are 170 (take (length b - 32 * k) (drop (32 * k) b)) → y ≡ z ++ kept_text flag
    → y ≡ x ++ list_text (Ok (Listed k)) b
unfolding list_text
list_put x z y b k flag e f g =
    g ∙ ap (λ (w : List ℕ). w ++ kept_text flag) e ∙ append_assoc x (changes_text k b) (kept_text flag)
    ∙ ap (λ (w : Bool). x ++ (changes_text k b ++ kept_text w)) (f ∙ ap (all_are 170) (lent_rest b (32 * k)))

pub list_none : (a : Answer) (b : List ℕ) → ((k : ℕ) → a ≡ Listed k → ⊥) → list_text (Ok a) b ≡ []
unfolding list_text
list_none Done b o = refl
list_none (Begun n) b o = refl
list_none (Written k) b o = refl
list_none (Committed t) b o = refl
list_none (Opened t) b o = refl
list_none Missing b o = refl
list_none Erased b o = refl
list_none Present b o = refl
list_none (Listed k) b o = absurd (o k refl)

-- an answer that is no refusal
pub no_number : (a : Answer) → answer_number (Ok a) ≡ 0
unfolding answer_number
no_number Done = refl
no_number (Begun n) = refl
no_number (Written k) = refl
no_number (Committed t) = refl
no_number (Opened t) = refl
no_number Missing = refl
no_number Erased = refl
no_number Present = refl
no_number (Listed k) = refl
