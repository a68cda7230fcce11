-- Stores one after the other that fill a list: each is a splice, splices side by side are one, and one of the whole
-- length leaves nothing of what was there. Assumes nothing.
use mathlib.Core.Path.{◌≡◌, refl, sym, ap, ◌∙◌}
use Prim.Native.Nat.{ℕ, zero, suc, ◌+◌, ◌≤◌}
use native.Mathlib.Nat.{suc-add, zero-add, suc_inj}
use native.Mathlib.Omega.{arith}
use mathlib.Core.List.{List, [], ◌∷◌, ◌++◌}
use lib.ListN.{length, set}
use Rattle.fields.specs.Part.{splice}

pub splice_none : (l : List ℕ) (at : ℕ) → splice l at [] ≡ l
unfolding splice
splice_none [] at = refl
splice_none (x ∷ l) zero = refl
splice_none (x ∷ l) (suc at) = ap (λ (t : List ℕ). x ∷ t) (splice_none l at)

-- a store of one element
pub set_splice : (l : List ℕ) (i v : ℕ) → set l i v ≡ splice l i (v ∷ [])
unfolding splice
set_splice [] i v = refl
set_splice (x ∷ l) zero v = ap (λ (t : List ℕ). v ∷ t) (sym (splice_none l zero))
set_splice (x ∷ l) (suc i) v = ap (λ (t : List ℕ). x ∷ t) (set_splice l i v)

-- one part just behind another
pub splice_next : (l : List ℕ) (at : ℕ) (a b : List ℕ) → splice (splice l at a) (at + length a) b ≡ splice l at (a ++ b)
unfolding splice
splice_next [] at a b = refl
splice_next (x ∷ l) zero [] b = refl
splice_next (x ∷ l) zero (y ∷ a) b = rw zero-add (ap (λ (t : List ℕ). y ∷ t) (rw zero-add at (splice_next l zero a b)))
splice_next (x ∷ l) (suc at) a b = rw suc-add (ap (λ (t : List ℕ). x ∷ t) (splice_next l at a b))

-- the same where the second place is known by its number
pub splice_then : (l : List ℕ) (at : ℕ) (a : List ℕ) (n : ℕ) (b : List ℕ) → at + length a ≡ n → splice (splice l at a) n b ≡ splice l at (a ++ b)
splice_then l at a n b e = rw e at (splice_next l at a b)

pub set_then : (l : List ℕ) (at : ℕ) (a : List ℕ) (n v : ℕ) → at + length a ≡ n → set (splice l at a) n v ≡ splice l at (a ++ (v ∷ []))
set_then l at a n v e = set_splice (splice l at a) n v ∙ splice_then l at a n (v ∷ []) e

-- all of it
pub splice_whole : (l v : List ℕ) → length v ≡ length l → splice l 0 v ≡ v
unfolding splice
splice_whole [] [] h = refl
splice_whole [] (y ∷ v) h = absurd (omega arith)
splice_whole (x ∷ l) [] h = absurd (omega arith)
splice_whole (x ∷ l) (y ∷ v) h = ap (λ (t : List ℕ). y ∷ t) (splice_whole l v (suc_inj h))

splice_seam : (p q v : List ℕ) → splice (p ++ q) (length p) v ≡ p ++ splice q 0 v
unfolding splice
splice_seam [] q v = refl
splice_seam (x ∷ p) q v = ap (λ (t : List ℕ). x ∷ t) (splice_seam p q v)

-- a part that lies in the first of two lists, and one that begins with the second
pub splice_left : (p q : List ℕ) (at : ℕ) (v : List ℕ) → at + length v ≤ length p → splice (p ++ q) at v ≡ splice p at v ++ q
unfolding splice
splice_left [] q zero [] h = splice_none q zero
splice_left [] q zero (y ∷ v) h = absurd (omega arith)
splice_left [] q (suc at) v h = absurd (omega arith)
splice_left (x ∷ p) q zero [] h = refl
splice_left (x ∷ p) q zero (y ∷ v) h = ap (λ (t : List ℕ). y ∷ t) (splice_left p q zero v (omega arith))
splice_left (x ∷ p) q (suc at) v h = ap (λ (t : List ℕ). x ∷ t) (splice_left p q at v (omega arith))

pub splice_right : (p q : List ℕ) (n : ℕ) (v : List ℕ) → length p ≡ n → splice (p ++ q) n v ≡ p ++ splice q 0 v
splice_right p q n v e = rw e at (splice_seam p q v)
