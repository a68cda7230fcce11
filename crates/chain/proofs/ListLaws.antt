-- A change list from what its passes left: of the versions ranked some are kept. So many lines has the list of the definition,
-- and these are the lines written.
use Rattle.layout.specs.declared.CommitTime.{CommitTime}
use Rattle.std.specs.Prelude.{Option, Some, None}
use mathlib.Core.Path.{◌≡◌, sym, ap, subst, ◌∙◌}
use mathlib.Core.Bool.{cond}
use mathlib.Core.List.{List}
use Prim.Native.Nat.{ℕ, suc, ◌*◌, ◌≤◌, ◌<◌}
use native.Mathlib.Omega.{arith}
use lib.ListN.{length}
use lib.Dec.{leb}
use borrow.Author.Tests.{le-leb, lt-leb}
use Rattle.fields.specs.Part.{splice}
use Rattle.fields.specs.Cells.{flat}
use Rattle.store.specs.Changes.{Line, line_bytes, lines_below}
use Rattle.cached.specs.Room.{Head}
use Rattle.chain.specs.declared.ranked.Dated.{Dated}
use Rattle.chain.specs.Ranked.{Slots, ranked_of, changed, lines_of}
use Rattle.chain.proofs.RankedLaws.{ranked_few, ranked_slots}
use Rattle.chain.proofs.LineLaws.{lines_ranked, changed_few, changed_slots, lines_length}

-- es are the versions ranked
module _ (c : List ℕ) (pair : ℕ → Option CommitTime) (head : Option ℕ) (t2 : ℕ) (es : List Dated) (e : es ≡ ranked_of head c pair t2) (r : Head head (length c)) where
  pub all_few : length es ≤ 960
  all_few = omega (arith, ap length e, ranked_few c pair t2 head (length c) r)

  pub all_slots : Slots es (length c)
  all_slots = subst (λ (x : List Dated). Slots x (length c)) (sym e) (ranked_slots c pair t2 head (length c) r)

  -- ks are those kept
  module _ (t1 : ℕ) (ks : List Dated) (f : ks ≡ changed c t1 es) where
    pub kept_few : length ks ≤ 960
    kept_few = let a = all_few in omega (arith, ap length f, changed_few c t1 es)

    pub kept_slots : Slots ks (length c)
    kept_slots = subst (λ (x : List Dated). Slots x (length c)) (sym f) (changed_slots c t1 (length c) es all_slots)

    lines_are : lines_below c pair head t1 (suc (suc t2)) (suc t2) ≡ lines_of c ks
    lines_are = lines_ranked c pair head t1 t2 ∙ sym (ap (lines_of c) (f ∙ ap (changed c t1) e))

    count_is : length (lines_below c pair head t1 (suc (suc t2)) (suc t2)) ≡ length ks
    count_is = ap length lines_are ∙ lines_length c ks

    pub list_short : (b : List ℕ) → length b < 32 * length ks
        → let ls = lines_below c pair head t1 (suc (suc t2)) (suc t2) in
        (None ≡ cond (leb (32 * length ls) (length b)) (Some (length ls)) None)
        × (b ≡ cond (leb (32 * length ls) (length b)) (splice b 0 (flat line_bytes ls)) b)
    list_short b h = (simp (count_is, lt-leb _ _ h), simp (count_is, lt-leb _ _ h))

    pub list_whole : (b out : List ℕ) → 32 * length ks ≤ length b → out ≡ splice b 0 (flat line_bytes (lines_of c ks))
        → let ls = lines_below c pair head t1 (suc (suc t2)) (suc t2) in
        (Some (length ks) ≡ cond (leb (32 * length ls) (length b)) (Some (length ls)) None)
        × (out ≡ cond (leb (32 * length ls) (length b)) (splice b 0 (flat line_bytes ls)) b)
    list_whole b out h g = (simp (count_is, le-leb _ _ h), simp (count_is, le-leb _ _ h) (g ∙ sym (ap (λ (l : List Line). splice b 0 (flat line_bytes l)) lines_are)))
