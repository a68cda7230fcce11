-- The search: a choice that is looked at takes the place of the best so far or does not, as the definition's does.
use Rattle.std.specs.Prelude.{Option}
use mathlib.Core.Path.{◌≡◌, sym, ap, ◌∙◌}
use mathlib.Core.Bool.{Bool, true, false, ◌&&◌}
use mathlib.Core.List.{List}
use Prim.Native.Nat.{ℕ, suc, ◌+◌, ◌-◌, ◌^◌, ◌≤◌, ◌<◌}
use native.Mathlib.Omega.{arith}
use borrow.Author.Tests.{eq-eqb, ne_eqb}
use lib.ListN.{replicate}
use lib.Dec.{ltb}
use Rattle.book.specs.declared.call.Call.{Call}
use Rattle.fields.proofs.Choose.{and_0, and_1, bool_case}
use Rattle.shortest.specs.Script.{end_of}
use Rattle.shortest.specs.Choice.{picked}
use Rattle.shortest.specs.Search.{better_of, best_from}
use Rattle.shortest.specs.Kept.{flags_of, size_in, ends_in, best_in, flags_by, kept_flags}

module _ (size : ℕ → ℕ) (passes : ℕ → Bool) where
  -- choice j beside the best so far; b says whether it is better
  module _ (best j : ℕ) {b : Bool} (e : b ≡ (ltb (size j) (size best) && passes j)) where
    pub better_yes : b ≡ true → j ≡ better_of size passes best j
    unfolding better_of
    better_yes t =
        let h : (ltb (size j) (size best) && passes j) ≡ true = sym e ∙ t in
        simp (and_0 (ltb (size j) (size best)) (passes j) h, and_1 (ltb (size j) (size best)) (passes j) h)

    pub better_no : b ≡ false → best ≡ better_of size passes best j
    unfolding better_of
    better_no t =
        bool_case (ltb (size j) (size best))
        (λ y. let p : passes j ≡ false = simp y at (sym e ∙ t) in simp (y, p))
        (λ y. simp y)

  pub best_turn : (best next j n x : ℕ) → j < n → next ≡ better_of size passes best j
      → best_from size passes best j (n - j) ≡ x → best_from size passes next (j + 1) (n - (j + 1)) ≡ x
  unfolding best_from
  best_turn best next j n x h e v = let k : n - j ≡ suc (n - (j + 1)) = omega arith in rw e (rw k at v)

  pub best_end : (best j n x : ℕ) → n ≤ j → best_from size passes best j (n - j) ≡ x → best ≡ x
  unfolding best_from
  best_end best j n x h v = let k : n - j ≡ 0 = omega arith in rw k at v

-- the search begins with choice 0
pub best_start : (cs : List (Option Call)) (m r : ℕ)
    → best_from (size_in m) (ends_in cs m r) 0 0 (2 ^ m - 0) ≡ best_in cs m r
unfolding best_in
best_start cs m r = let z : 2 ^ m - 0 ≡ 2 ^ m = omega arith in ap (best_from (size_in m) (ends_in cs m r) 0 0) z

-- the lines to be printed: f is the choice of all, r the number that they end in
module _ (cs : List (Option Call)) (m : ℕ) {f : List Bool} {r : ℕ} (ef : f ≡ flags_of m 0) (er : r ≡ end_of (picked f cs)) where
  by_number : flags_by cs m r ≡ kept_flags cs m
  unfolding kept_flags
  by_number = ap (flags_by cs m) (er ∙ ap (λ (t : List Bool). end_of (picked t cs)) ef)

  pub no_flags : r ≡ 0 → replicate 12 false ≡ kept_flags cs m
  unfolding flags_by
  no_flags z = sym (simp (eq-eqb _ _ z)) ∙ by_number

  pub best_flags : (r ≡ 0 → ⊥) → {best : ℕ} {g : List Bool} → best ≡ best_in cs m r → g ≡ flags_of m best
      → g ≡ kept_flags cs m
  unfolding flags_by
  best_flags z eb eg = eg ∙ ap (flags_of m) eb ∙ sym (simp (ne_eqb _ _ z)) ∙ by_number
