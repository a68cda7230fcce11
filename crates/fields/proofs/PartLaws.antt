-- The laws of `part` and `splice`. Assumes nothing.
use mathlib.Core.Path.{◌≡◌, refl, sym, ap, ◌∙◌}
use Prim.Native.Nat.{ℕ, zero, suc, ◌+◌, ◌-◌, ◌≤◌}
use native.Mathlib.Nat.{suc-add, zero-add, add-sub_cancel_left, le_of_suc-le-suc}
use native.Mathlib.Omega.{arith}
use mathlib.Core.List.{List, [], ◌∷◌, ◌++◌}
use lib.ListN.{length, take, drop, length-take, length-drop}
use lib.Seq.{take-take, drop-drop, take_all}
use Rattle.fields.specs.Part.{part, splice}

pub length_splice : (l : List ℕ) (at : ℕ) (v : List ℕ) → length (splice l at v) ≡ length l
unfolding splice
length_splice [] at v = refl
length_splice (x ∷ l) zero [] = refl
length_splice (x ∷ l) zero (b ∷ v) = ap suc (length_splice l zero v)
length_splice (x ∷ l) (suc at) v = ap suc (length_splice l at v)

pub length_part : (l : List ℕ) (at n : ℕ) → at + n ≤ length l → length (part l at n) ≡ n
length_part l at n h = simp (length-take, length-drop) (omega arith)

splice_front : (l v : List ℕ) → length v ≤ length l → splice l zero v ≡ v ++ drop (length v) l
unfolding splice
splice_front [] [] h = refl
splice_front [] (b ∷ v) h = absurd (omega arith)
splice_front (x ∷ l) [] h = refl
splice_front (x ∷ l) (b ∷ v) h = ap (λ (t : List ℕ). b ∷ t) (splice_front l v (le_of_suc-le-suc h))

-- where v lies within l
pub splice_is : (l : List ℕ) (at : ℕ) (v : List ℕ) → at + length v ≤ length l → splice l at v ≡ take at l ++ (v ++ drop (length v) (drop at l))
unfolding splice
splice_is l zero v h = splice_front l v (omega arith)
splice_is [] (suc at) v h = absurd (omega arith)
splice_is (x ∷ l) (suc at) v h = ap (λ (t : List ℕ). x ∷ t) (splice_is l at v (omega arith))

-- the part itself, as the loan has it
pub lent_part : (l : List ℕ) (at n : ℕ) → take (at + n - at) (drop at l) ≡ part l at n
lent_part l at n = simp add-sub_cancel_left

pub lent_length : (l : List ℕ) (at n : ℕ) → at + n ≤ length l → length (take (at + n - at) (drop at l)) ≡ n
lent_length l at n h = ap length (lent_part l at n) ∙ length_part l at n h

-- what `&mut l[at..at + n]` leaves in l, where the callee left v in the part: by the length of v, and by the callee's `.kept`
pub lent_laid : (l v : List ℕ) (at n : ℕ) → at + n ≤ length l → length v ≡ n → take at l ++ (v ++ drop (at + n - at) (drop at l)) ≡ splice l at v
lent_laid l v at n h m =
    let k : at + n - at ≡ n = omega arith in
    sym (splice_is l at v (omega arith) ∙ rw (m, k))

pub lent_back : (l v : List ℕ) (at n : ℕ) → at + n ≤ length l → length v ≡ length (take (at + n - at) (drop at l))
    → take at l ++ (v ++ drop (at + n - at) (drop at l)) ≡ splice l at v
lent_back l v at n h e = lent_laid l v at n h (e ∙ lent_length l at n h)

-- the same where the callee left w
pub lent_copy : (l v w : List ℕ) (at n : ℕ) → at + n ≤ length l → length v ≡ length (take (at + n - at) (drop at l)) → v ≡ w
    → take at l ++ (v ++ drop (at + n - at) (drop at l)) ≡ splice l at w
lent_copy l v w at n h e f = lent_back l v at n h e ∙ ap (splice l at) f

-- the part `&l[at..]`, as the loan has it
pub lent_rest : (l : List ℕ) (at : ℕ) → take (length l - at) (drop at l) ≡ drop at l
lent_rest l at = take_all (length l - at) (drop at l) (simp length-drop (omega arith))

-- the part that was laid
pub part_splice : (l : List ℕ) (at : ℕ) (v : List ℕ) → at + length v ≤ length l → part (splice l at v) at (length v) ≡ v
unfolding splice
part_splice [] zero [] h = refl
part_splice [] zero (b ∷ v) h = absurd (omega arith)
part_splice [] (suc at) v h = absurd (omega arith)
part_splice (x ∷ l) zero [] h = refl
part_splice (x ∷ l) zero (b ∷ v) h = ap (λ (t : List ℕ). b ∷ t) (part_splice l zero v (omega arith))
part_splice (x ∷ l) (suc at) v h = part_splice l at v (omega arith)

-- a part before it
pub part_before : (l : List ℕ) (at : ℕ) (v : List ℕ) (b n : ℕ) → b + n ≤ at → part (splice l at v) b n ≡ part l b n
unfolding splice
part_before [] at v b n h = refl
part_before (x ∷ l) zero v zero zero h = refl
part_before (x ∷ l) zero v zero (suc n) h = absurd (omega arith)
part_before (x ∷ l) zero v (suc b) n h = absurd (omega arith)
part_before (x ∷ l) (suc at) v zero zero h = refl
part_before (x ∷ l) (suc at) v zero (suc n) h = ap (λ (t : List ℕ). x ∷ t) (part_before l at v zero n (omega arith))
part_before (x ∷ l) (suc at) v (suc b) n h = part_before l at v b n (omega arith)

-- a part after it
pub part_after : (l : List ℕ) (at : ℕ) (v : List ℕ) (b n : ℕ) → at + length v ≤ b → part (splice l at v) b n ≡ part l b n
unfolding splice
part_after [] at v b n h = refl
part_after (x ∷ l) zero [] b n h = refl
part_after (x ∷ l) zero (y ∷ v) zero n h = absurd (omega arith)
part_after (x ∷ l) zero (y ∷ v) (suc b) n h = part_after l zero v b n (omega arith)
part_after (x ∷ l) (suc at) v zero n h = absurd (omega arith)
part_after (x ∷ l) (suc at) v (suc b) n h = part_after l at v b n (omega arith)

-- a part of a part
pub part_part : (l : List ℕ) (a n b m : ℕ) → b + m ≤ n → part (part l a n) b m ≡ part l (a + b) m
part_part l a n b m h = drop_take (drop a l) n b m h ∙ ap (take m) (drop-drop b a l)
  where
    drop_take : (l : List ℕ) (n b m : ℕ) → b + m ≤ n → take m (drop b (take n l)) ≡ take m (drop b l)
    drop_take l n zero m h = take-take m n l (omega arith)
    drop_take l zero (suc b) m h = absurd (omega arith)
    drop_take [] (suc n) (suc b) m h = refl
    drop_take (x ∷ l) (suc n) (suc b) m h = drop_take l n b m (omega arith)

-- a part replaced by itself
pub splice_self : (l : List ℕ) (at n : ℕ) → splice l at (part l at n) ≡ l
unfolding splice
splice_self [] at n = refl
splice_self (x ∷ l) zero zero = refl
splice_self (x ∷ l) zero (suc n) = ap (λ (t : List ℕ). x ∷ t) (splice_self l zero n)
splice_self (x ∷ l) (suc at) n = ap (λ (t : List ℕ). x ∷ t) (splice_self l at n)

-- a part of a part replaced, and the part put back: the loan of a loan
pub splice_in : (l : List ℕ) (a n b : ℕ) (v : List ℕ) → b + length v ≤ n → splice l a (splice (part l a n) b v) ≡ splice l (a + b) v
unfolding splice
splice_in [] a n b v h = refl
splice_in (x ∷ l) zero zero zero [] h = refl
splice_in (x ∷ l) zero zero zero (y ∷ v) h = absurd (omega arith)
splice_in (x ∷ l) zero zero (suc b) v h = absurd (omega arith)
splice_in (x ∷ l) zero (suc n) zero [] h = ap (λ (t : List ℕ). x ∷ t) (splice_self l zero n)
splice_in (x ∷ l) zero (suc n) zero (y ∷ v) h = ap (λ (t : List ℕ). y ∷ t) (splice_in l zero n zero v (omega arith))
splice_in (x ∷ l) zero (suc n) (suc b) v h =
    rw zero-add (ap (λ (t : List ℕ). x ∷ t) (rw zero-add at (splice_in l zero n b v (omega arith))))
splice_in (x ∷ l) (suc a) n b v h = rw suc-add (ap (λ (t : List ℕ). x ∷ t) (splice_in l a n b v h))
