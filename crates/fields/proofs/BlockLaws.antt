-- The laws of `blk` and `put`: a block that was put is read back, and what lies in another block is as it was. Each is a law of
-- `part` and `splice` at a multiple of 512. Assumes nothing.
use mathlib.Core.Path.{◌≡◌, refl, sym, ap, ◌∙◌}
use mathlib.Core.Bool.{Bool, true, false}
use mathlib.Core.Logic.{◌⊎◌, inl, inr, ◌≢◌}
use Prim.Native.Nat.{ℕ, zero, suc, ◌+◌, ◌*◌, ◌≤◌}
use native.Mathlib.Nat.{add-zero}
use native.Mathlib.Omega.{arith}
use mathlib.Core.List.{List, [], ◌∷◌}
use lib.Dec.{ltb}
use lib.ListN.{length}
use borrow.Author.Tests.{ltb-true, ltb-false}
use Rattle.fields.specs.Part.{part, splice}
use Rattle.fields.specs.Block.{blk, put}
use Rattle.fields.proofs.PartLaws.{length_splice, length_part, part_splice, part_before, part_after, part_part, splice_self}

pub length_put : (m : List ℕ) (k : ℕ) (b : List ℕ) → length (put m k b) ≡ length m
unfolding put
length_put m k b = length_splice m (512 * k) b

pub length_blk : (m : List ℕ) (k : ℕ) → 512 * k + 512 ≤ length m → length (blk m k) ≡ 512
unfolding blk
length_blk m k h = length_part m (512 * k) 512 h

-- a part of a block, as a part of the whole
pub part_blk : (m : List ℕ) (k at n : ℕ) → at + n ≤ 512 → part (blk m k) at n ≡ part m (512 * k + at) n
unfolding blk
part_blk m k at n h = part_part m (512 * k) 512 at n h

pub blk_same : (m : List ℕ) (k : ℕ) (b : List ℕ) → length b ≡ 512 → 512 * k + 512 ≤ length m → blk (put m k b) k ≡ b
unfolding blk put
blk_same m k b e h = rw e at (part_splice m (512 * k) b (omega arith))

-- a part of the block that was put
pub part_put : (m : List ℕ) (k : ℕ) (b : List ℕ) (at n : ℕ) → length b ≡ 512 → 512 * k + 512 ≤ length m → at + n ≤ 512
    → part (put m k b) (512 * k + at) n ≡ part b at n
part_put m k b at n e h w = sym (part_blk (put m k b) k at n w) ∙ ap (λ (l : List ℕ). part l at n) (blk_same m k b e h)

-- a part beside it
pub part_beside : (m : List ℕ) (k : ℕ) (b : List ℕ) (at n : ℕ) → length b ≡ 512 → (at + n ≤ 512 * k) ⊎ (512 * k + 512 ≤ at)
    → part (put m k b) at n ≡ part m at n
unfolding put
part_beside m k b at n e (inl h) = part_before m (512 * k) b at n h
part_beside m k b at n e (inr h) = part_after m (512 * k) b at n (omega arith)

-- a part that lies in another block
pub part_other : (m : List ℕ) (k : ℕ) (b : List ℕ) (j at n : ℕ) → length b ≡ 512 → j ≢ k → at + n ≤ 512
    → part (put m k b) (512 * j + at) n ≡ part m (512 * j + at) n
part_other m k b j at n e d w = part_beside m k b (512 * j + at) n e (go (ltb j k) refl)
  where
    go : (t : Bool) → ltb j k ≡ t → (512 * j + at + n ≤ 512 * k) ⊎ (512 * k + 512 ≤ 512 * j + at)
    go true t = inl (omega (arith, ltb-true j k t))
    go false t = inr (omega (arith, ltb-false j k t))

pub blk_other : (m : List ℕ) (k : ℕ) (b : List ℕ) (j : ℕ) → length b ≡ 512 → j ≢ k → blk (put m k b) j ≡ blk m j
unfolding blk
blk_other m k b j e d = simp add-zero at (part_other m k b j 0 512 e d (omega arith))

pub put_self : (m : List ℕ) (k : ℕ) → put m k (blk m k) ≡ m
unfolding blk put
put_self m k = splice_self m (512 * k) 512

-- a longer part laid over another
pub splice_over : (l : List ℕ) (at : ℕ) (a b : List ℕ) → length a ≤ length b → splice (splice l at a) at b ≡ splice l at b
unfolding splice
splice_over [] at a b h = refl
splice_over (x ∷ l) zero [] b h = refl
splice_over (x ∷ l) zero (y ∷ a) [] h = absurd (omega arith)
splice_over (x ∷ l) zero (y ∷ a) (z ∷ b) h = ap (λ (t : List ℕ). z ∷ t) (splice_over l zero a b (omega arith))
splice_over (x ∷ l) (suc at) a b h = ap (λ (t : List ℕ). x ∷ t) (splice_over l at a b h)

-- a block put over another
pub put_put : (m : List ℕ) (k : ℕ) (a b : List ℕ) → length a ≡ length b → put (put m k a) k b ≡ put m k b
unfolding put
put_put m k a b e = splice_over m (512 * k) a b (omega arith)
