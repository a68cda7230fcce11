-- The passes over ranked versions that keep those listed and write their lines: one law for each way that a step goes. A kept
-- version is written no further on than the one in hand, so that those behind it stay.
use mathlib.Core.Path.{◌≡◌, refl, sym, ap, ◌∙◌}
use mathlib.Core.Bool.{Bool, true, false}
use mathlib.Core.List.{List, [], ◌∷◌, ◌++◌, append-nil, append_assoc}
use Prim.Native.Nat.{ℕ, suc, ◌+◌, ◌-◌, ◌*◌, ◌≤◌, ◌<◌}
use native.Mathlib.Numerals.{add-one}
use native.Mathlib.Omega.{arith}
use lib.ListN.{length, get_or, take, drop, set, length-set, length-drop, drop_of_length-le}
use lib.Seq.{drop-cons, get_or-take, length-take-le, take-set-lt, drop-set-lt, take-suc-set}
use borrow.Author.Tests.{lt-ltb, le-ltb}
use Rattle.std.proofs.lemmas.List.{drop-take}
use Rattle.fields.specs.Part.{splice}
use Rattle.fields.specs.Cells.{flat}
use Rattle.fields.proofs.WriteLaws.{splice_none}
use Rattle.fields.proofs.CellLaws.{each_append, Cells, length_flat, flat_snoc}
use Rattle.store.specs.Chain.{cell_at}
use Rattle.store.specs.Changes.{Line, line_bytes, differs, differs_from, line_of}
use Rattle.cached.specs.Room.{Room}
use Rattle.cached.proofs.RoomLaws.{slot_room}
use Rattle.chain.specs.declared.ranked.Dated.{Dated}
use Rattle.chain.specs.Ranked.{Slots, latest, if_differs, changed, lines_of}
use Rattle.chain.proofs.ByteLaws.{line_length}
use Rattle.chain.proofs.LineLaws.{lines_length}

-- ---- version i, and those behind it

-- those from i on are version i and those behind it
pub cons_at : (es : List Dated) (i : ℕ) (d : Dated) → i < length es → drop i es ≡ get_or es i d ∷ drop (i + 1) es
cons_at es i d h = rw add-one (drop-cons es i d h)

module _ (es : List Dated) (i : ℕ) (d : Dated) (l : ℕ) (h : i < length es) (s : Slots (drop i es) l) where
  both : Slots (get_or es i d ∷ drop (i + 1) es) l
  both = rw (cons_at es i d h) at s

  pub slot_in : Room l (suc (get_or es i d).slot)
  slot_in = both.0

  pub slots_behind : Slots (drop (i + 1) es) l
  slots_behind = both.1

pub slot_next : (es : List Dated) (i : ℕ) (d : Dated) (l : ℕ) → i + 1 < length es → Slots (drop i es) l → Room l (suc (get_or es (i + 1) d).slot)
slot_next es i d l h s = slot_in es (i + 1) d l h (slots_behind es i d l (omega arith) s)

-- the comparison of a slot with the latest of those behind version i, where there is none and where there is one
module _ (es : List Dated) (i : ℕ) (c : List ℕ) (s : ℕ) where
  pub change_first : i + 1 ≡ length es → true ≡ differs_from c s (latest (drop (i + 1) es))
  change_first e = rw (drop_of_length-le es {i = i + 1} (omega arith)) refl

  pub change_next : (d : Dated) (r : Bool) → i + 1 < length es → r ≡ differs (cell_at c s) (cell_at c (get_or es (i + 1) d).slot)
      → r ≡ differs_from c s (latest (drop (i + 1) es))
  change_next d r h e = e ∙ sym (rw (cons_at es (i + 1) d h) refl)

-- those behind place i of n, as the code takes them
pub behind_are : (xs : List Dated) (i n : ℕ) → i ≤ n → take (n - i) (drop i xs) ≡ drop i (take n xs)
behind_are xs i n h =
    let m : i + (n - i) ≡ n = omega arith in
    sym (drop-take i (n - i) xs) ∙ ap (λ (j : ℕ). drop i (take j xs)) m

-- ---- the pass that keeps those listed

-- of the first n of xs those before i are seen and k of them kept, in their front; all are the versions that there were
pub record Kept (c : List ℕ) (from : ℕ) (all : List Dated) (n i k : ℕ) (xs : List Dated) : Type 0 where
  pub few : k ≤ i
  pub size : n ≤ length xs
  pub slots : Slots (drop i (take n xs)) (length c)
  pub same : take k xs ++ changed c from (drop i (take n xs)) ≡ changed c from all

module _ (c : List ℕ) (from : ℕ) (all : List Dated) (n i k : ℕ) (xs : List Dated) (r : Kept c from all n i k xs) where
  pub kept_end : n ≤ i → take k xs ≡ changed c from all
  unfolding changed
  kept_end h =
      let s = length-take-le n xs r.size in
      sym (append-nil (take k xs))
      ∙ ap (λ (es : List Dated). take k xs ++ changed c from es) (sym (drop_of_length-le (take n xs) (omega arith)))
      ∙ r.same

  module _ (d : Dated) (h : i < n) where
    inside : i < length (take n xs)
    inside = let s = length-take-le n xs r.size in omega arith

    pub kept_behind : Slots (drop (i + 1) (take n xs)) (length c)
    kept_behind = slots_behind (take n xs) i d (length c) inside r.slots

    these : drop i (take n xs) ≡ get_or xs i d ∷ drop (i + 1) (take n xs)
    these =
        cons_at (take n xs) i d inside ∙ ap (λ (e : Dated). e ∷ drop (i + 1) (take n xs)) (get_or-take n xs i d h)

    pub kept_past : (get_or xs i d).time.0 < from → take k xs ≡ changed c from all
    unfolding changed
    kept_past l =
        sym (append-nil (take k xs))
        ∙ ap (λ (es : List Dated). take k xs ++ es) (sym (ap (changed c from) these ∙ simp (lt-ltb _ _ l)))
        ∙ r.same

    -- b is what the comparison of version i with those behind it gave
    module _ (b : Bool) (e : b ≡ differs_from c (get_or xs i d).slot (latest (drop (i + 1) (take n xs)))) (l : from ≤ (get_or xs i d).time.0) where
      pub kept_none : b ≡ false → Kept c from all n (i + 1) k xs
      unfolding changed if_differs
      kept_none f = let m = r.few in record {
        few = omega arith;
        size = r.size;
        slots = kept_behind;
        same = ap (λ (es : List Dated). take k xs ++ es) (sym (ap (changed c from) these ∙ simp (le-ltb _ _ l, ← e, f))) ∙ r.same;
      }

      unchanged : drop (i + 1) (take n (set xs k (get_or xs i d))) ≡ drop (i + 1) (take n xs)
      unchanged =
          let m = r.few in
          ap (drop (i + 1)) (take-set-lt n xs k (get_or xs i d) (omega arith))
          ∙ drop-set-lt (i + 1) (take n xs) k (get_or xs i d) (omega arith)

      pub kept_one : b ≡ true → Kept c from all n (i + 1) (k + 1) (set xs k (get_or xs i d))
      unfolding changed if_differs
      kept_one f = let m = r.few in let z = r.size in record {
        few = omega arith;
        size = simp length-set r.size;
        slots = rw unchanged kept_behind;
        same =
            rw unchanged (ap (λ (es : List Dated). es ++ changed c from (drop (i + 1) (take n xs))) (rw add-one (take-suc-set xs k (get_or xs i d) (omega arith))))
            ∙ append_assoc (take k xs) (get_or xs i d ∷ []) (changed c from (drop (i + 1) (take n xs)))
            ∙ ap (λ (es : List Dated). take k xs ++ es) (sym (ap (changed c from) these ∙ simp (le-ltb _ _ l, ← e, f)))
            ∙ r.same;
      }

-- ---- the lines, written from the last to the first

lines_sized : (c : List ℕ) (es : List Dated) → Slots es (length c) → Cells line_bytes 32 (lines_of c es)
unfolding lines_of
lines_sized c [] s = tt
lines_sized c (e ∷ es) s =
    each_append (λ (l : Line). length (line_bytes l) ≡ 32) (lines_of c es) (line_of c e.slot e.time.0) (lines_sized c es s.1)
    (line_length c e.slot e.time.0 (slot_room (length c) e.slot s.0), tt)

-- a part laid over the front after what lies behind it
splice_back : (l a b : List ℕ) → splice (splice l (length a) b) 0 a ≡ splice l 0 (a ++ b)
unfolding splice
splice_back [] a b = refl
splice_back (x ∷ l) [] b = splice_none (splice (x ∷ l) 0 b) 0
splice_back (x ∷ l) (y ∷ a) b = ap (λ (t : List ℕ). y ∷ t) (splice_back l a b)

module _ (c : List ℕ) (es : List Dated) where
  -- what out becomes with the lines from version i on
  unfoldable pub laid : List ℕ → ℕ → List ℕ
  laid out i = splice out 0 (flat line_bytes (lines_of c (drop i es)))

  pub laid_end : (out : List ℕ) (i : ℕ) → length es ≤ i → laid out i ≡ out
  unfolding laid lines_of flat
  laid_end out i h = rw (drop_of_length-le es h) (splice_none out 0)

  -- the line of version i lies behind those before it
  pub laid_turn : (out next : List ℕ) (i : ℕ) (d : Dated) → i < length es → Slots (drop i es) (length c)
      → next ≡ splice out (32 * (length es - 1 - i)) (line_bytes (record {
        time = (get_or es i d).time.0;
        kind = (cell_at c (get_or es i d).slot).kind;
        value = (cell_at c (get_or es i d).slot).value;
      }))
      → laid next (i + 1) ≡ laid out i
  unfolding laid lines_of
  laid_turn out next i d h s e =
      let v = get_or es i d in
      let rest = drop (i + 1) es in
      let ls = lines_of c rest in
      let line : Line = record { time = v.time.0; kind = (cell_at c v.slot).kind; value = (cell_at c v.slot).value } in
      let m : 32 * (length es - 1 - i) ≡ length (flat line_bytes ls) =
      omega (arith, length_flat line_bytes 32 ls (lines_sized c rest (slots_behind es i d (length c) h s)), lines_length c rest, length-drop (i + 1) es) in
      ap (λ (o : List ℕ). splice o 0 (flat line_bytes ls)) (rw m at e)
      ∙ splice_back out (flat line_bytes ls) (line_bytes line)
      ∙ ap (splice out 0) (sym (flat_snoc line_bytes ls line))
      ∙ sym (ap (λ (x : List Dated). splice out 0 (flat line_bytes (lines_of c x))) (cons_at es i d h))
