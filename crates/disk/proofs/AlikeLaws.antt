-- Two media that differ in one block at most: a write of that block's bytes makes the one the other. Outside the block
-- they are the same by definition, and inside it the write lays what is to be there.
use mathlib.Core.Path.{◌≡◌, refl, sym, ap, ◌∙◌}
use mathlib.Core.Bool.{Bool, not}
use mathlib.Core.List.{List, [], ◌∷◌}
use Prim.Native.Nat.{ℕ, zero, suc, ◌+◌, ◌-◌, ◌*◌, ◌≤◌, ◌<◌, min}
use native.Mathlib.Omega.{arith}
use lib.ListN.{length, take, drop}
use lib.Seq.{take_all, drop-length}
use lib.Dec.{ltb}
use borrow.Author.Tests.{ltb-true, ltb-false}
use Rattle.fields.specs.Part.{part, splice}
use Rattle.fields.specs.Equal.{eq_list}
use Rattle.fields.proofs.PartLaws.{length_splice, part_before, splice_self}
use Rattle.fields.proofs.EqualLaws.{eq_true, eq_refl}
use Rattle.fields.proofs.Choose.{bool_case, no}
use Rattle.disk.specs.Block.{start_of, length_of}
use Rattle.disk.specs.Stored.{stored, Whole}

-- n is m but for block k
pub record Alike (m : List ℕ) (k : ℕ) (n : List ℕ) : Type 0 where
  pub size : length n ≡ length m
  pub before : take (512 * k) n ≡ take (512 * k) m
  pub behind : drop (512 * k + 512) n ≡ drop (512 * k + 512) m

pub alike_same : (m : List ℕ) (k : ℕ) → Alike m k m
alike_same m k = record { size = refl; before = refl; behind = refl }

pub alike_is : {m n : List ℕ} {k : ℕ} → n ≡ m → Alike m k n
alike_is {m} {n} {k} e = rw e (alike_same m k)

drop_splice : (l : List ℕ) (at : ℕ) (v : List ℕ) (e : ℕ) → at + length v ≤ e → drop e (splice l at v) ≡ drop e l
unfolding splice
drop_splice [] at v e h = refl
drop_splice (x ∷ l) zero [] e h = refl
drop_splice (x ∷ l) zero (b ∷ v) zero h = absurd (omega arith)
drop_splice (x ∷ l) zero (b ∷ v) (suc e) h = drop_splice l zero v e (omega arith)
drop_splice (x ∷ l) (suc at) v zero h = absurd (omega arith)
drop_splice (x ∷ l) (suc at) v (suc e) h = drop_splice l at v e (omega arith)

-- what is laid within block k
pub alike_splice : (m : List ℕ) (k at : ℕ) (v : List ℕ) → 512 * k ≤ at → at + length v ≤ 512 * k + 512
    → Alike m k (splice m at v)
alike_splice m k at v h j = record {
  size = length_splice m at v;
  before = part_before m at v 0 (512 * k) (omega arith);
  behind = drop_splice m at v (512 * k + 512) j;
}

-- the bytes from s on, where no others differ
laid : (m n : List ℕ) (s len e : ℕ) → e ≡ s + len → length n ≡ length m → take s n ≡ take s m → drop e n ≡ drop e m
    → splice m s (part n s len) ≡ n
unfolding splice
laid [] [] s len e q h f g = refl
laid [] (y ∷ n) s len e q h f g = absurd (omega arith)
laid (x ∷ m) [] s len e q h f g = absurd (omega arith)
laid (x ∷ m) (y ∷ n) zero zero zero q h f g = sym g
laid (x ∷ m) (y ∷ n) zero zero (suc e) q h f g = absurd (omega arith)
laid (x ∷ m) (y ∷ n) zero (suc len) zero q h f g = absurd (omega arith)
laid (x ∷ m) (y ∷ n) zero (suc len) (suc e) q h f g =
    ap (λ (z : List ℕ). y ∷ z) (laid m n zero len e (omega arith) (omega arith) refl g)
laid (x ∷ m) (y ∷ n) (suc s) len zero q h f g = absurd (omega arith)
laid (x ∷ m) (y ∷ n) (suc s) len (suc e) q h f g =
    let j : y ≡ x = cc in let t : take s n ≡ take s m = cc in
    rw j (ap (λ (z : List ℕ). x ∷ z) (laid m n s len e (omega arith) (omega arith) t g))

module _ (m : List ℕ) (k : ℕ) (n : List ℕ) (a : Alike m k n) where
  abbrev at : ℕ
  at = start_of k (length m)

  abbrev len : ℕ
  len = length_of at (length m)

  -- the bytes of block k, laid over m
  pub alike_laid : splice m at (part n at len) ≡ n
  unfolding start_of length_of
  alike_laid = bool_case (ltb (512 * k) (length m))
      (λ t. let h = ltb-true (512 * k) (length m) t in
      simp t (laid m n (512 * k) (min (length m - 512 * k) 512) _ refl a.size a.before (tail h)))
      (λ t. let h = ltb-false (512 * k) (length m) t in let e = same h in
      simp t (rw e (splice_self m 0 (min (length m - 0) 512))))
    where
      tail : 512 * k < length m → drop (512 * k + min (length m - 512 * k) 512) n
          ≡ drop (512 * k + min (length m - 512 * k) 512) m
      tail h = bool_case (ltb (length m) (512 * k + 512))
          (λ t. let j = ltb-true (length m) (512 * k + 512) t in
          let e : 512 * k + min (length m - 512 * k) 512 ≡ length m = omega arith in
          rw e (ap (λ (i : ℕ). drop i n) (sym a.size) ∙ drop-length n ∙ sym (drop-length m)))
          (λ t. let j = ltb-false (length m) (512 * k + 512) t in
          let e : 512 * k + min (length m - 512 * k) 512 ≡ 512 * k + 512 = omega arith in rw e a.behind)

      same : length m ≤ 512 * k → n ≡ m
      same h = let e = a.size in sym (take_all (512 * k) n (omega arith)) ∙ a.before ∙ take_all (512 * k) m h

  -- m and n differ where the block's bytes do
  pub alike_eq : eq_list (part m at len) (part n at len) ≡ eq_list m n
  alike_eq = bool_case (eq_list (part m at len) (part n at len))
      (λ t. let e = eq_true _ _ t in let g : m ≡ n = sym (splice_self m at len) ∙ ap (splice m at) e ∙ alike_laid in
      t ∙ sym (rw (sym g) (eq_refl m)))
      (λ t. bool_case (eq_list m n) (λ u. let g = eq_true m n u in no (sym t ∙ rw (sym g) (eq_refl (part m at len))))
      (λ u. t ∙ sym u))

  pub alike_stored : (v : List ℕ) (c : Bool) → v ≡ part n at len → c ≡ not (eq_list m n) → stored c m at v ≡ n
  unfolding stored
  alike_stored v c ev ec = bool_case (eq_list m n)
      (λ t. simp (ec, t) (eq_true m n t))
      (λ t. simp (ec, t) (rw ev alike_laid))

  pub alike_whole : Whole m at len
  unfolding start_of length_of
  alike_whole = bool_case (ltb (512 * k) (length m))
      (λ t. record { block = k; begins = simp t; ends = refl })
      (λ t. record { block = 0; begins = simp t; ends = refl })
