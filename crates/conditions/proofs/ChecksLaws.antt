-- Lists of checks as tests of all the numbers of a range: of two lists, of a list for each number, and of pages of 15
-- slots. By the count of the numbers; assumes nothing.
use mathlib.Core.Path.{◌≡◌, refl, sym, ap, ◌∙◌}
use mathlib.Core.Bool.{Bool, true, false, not, ◌&&◌, and_assoc, and_comm}
use Prim.Native.Nat.{ℕ, zero, suc, ◌+◌, ◌*◌, ◌≤◌}
use native.Mathlib.Nat.{add-zero, zero-add}
use native.Mathlib.Omega.{arith}
use mathlib.Core.List.{List, [], ◌∷◌, ◌++◌}
use lib.Dec.{eqb, leb}
use borrow.Author.Tests.{le-leb, ne_eqb}
use Rattle.fields.specs.Block.{page_block_at}
use Rattle.store.specs.OpenConditions.{Checks, holds, each, each_list, table_checks, page_checks, table_block_of}
use Rattle.conditions.specs.Passes.{all_of}

pub and_left : (a b c : Bool) → a && (b && c) ≡ b && (a && c)
and_left true b c = refl
and_left false true c = refl
and_left false false c = refl

-- two pairs of tests: the firsts, and the seconds
pub and_cross : (a b c d : Bool) → (a && b) && (c && d) ≡ (a && c) && (b && d)
and_cross a b c d = simp (and_assoc, and_left)

pub one_up : (n : ℕ) → leb 1 n ≡ not (eqb n 0)
one_up zero = refl
one_up (suc n) = le-leb 1 (suc n) (omega arith) ∙ simp (ne_eqb (suc n) 0 (λ e. omega arith))

-- ---- tests of a range

-- the same test where it matters
pub all_same : (f g : ℕ → Bool) (i k : ℕ) → ((n : ℕ) → i ≤ n → f n ≡ g n) → all_of f i k ≡ all_of g i k
unfolding all_of
all_same f g i zero h = refl
all_same f g i (suc k) h = rw (h i (omega arith), all_same f g (i + 1) k (λ n q. h n (omega arith)))

pub all_both : (f g : ℕ → Bool) (i k : ℕ) → all_of f i k && all_of g i k ≡ all_of (λ n. f n && g n) i k
unfolding all_of
all_both f g i zero = refl
all_both f g i (suc k) = simp (← all_both f g (i + 1) k, and_assoc, and_comm)

pub all_true : (i k : ℕ) → all_of (λ n. true) i k ≡ true
unfolding all_of
all_true i zero = refl
all_true i (suc k) = all_true (i + 1) k

all_append : (f : ℕ → Bool) (i j k : ℕ) → all_of f i (j + k) ≡ all_of f i j && all_of f (i + j) k
unfolding all_of
all_append f i zero k = simp (zero-add, add-zero)
all_append f i (suc j) k =
    let s : suc j + k ≡ suc (j + k) = omega arith in
    let e : i + suc j ≡ i + 1 + j = omega arith in
    rw (s, e, all_append f (i + 1) j k) (sym (and_assoc (f i) (all_of f (i + 1) j) (all_of f (i + 1 + j) k)))

all_shift : (f : ℕ → Bool) (a i k : ℕ) → all_of (λ n. f (a + n)) i k ≡ all_of f (a + i) k
unfolding all_of
all_shift f a i zero = refl
all_shift f a i (suc k) = let e : a + i + 1 ≡ a + (i + 1) = omega arith in rw (e, all_shift f a (i + 1) k)

-- the slots of pages
all_slots : (f : ℕ → Bool) (i k : ℕ) → all_of (λ p. all_of (λ j. f (15 * p + j)) 0 15) i k ≡ all_of f (15 * i) (15 * k)
unfolding all_of
all_slots f i zero = refl
all_slots f i (suc k) =
    let s : 15 * suc k ≡ 15 + 15 * k = omega arith in
    let e : 15 * (i + 1) ≡ 15 * i + 15 = omega arith in
    let z : 15 * i + 0 ≡ 15 * i = omega arith in
    ap (λ (b : Bool). b && all_of (λ p. all_of (λ j. f (15 * p + j)) 0 15) (i + 1) k) (all_shift f (15 * i) 0 15)
    ∙ rw (s, z, all_append f (15 * i) 15 (15 * k), ← e, all_slots f (i + 1) k)

-- ---- lists of checks

pub holds_append : (xs ys : Checks) → holds (xs ++ ys) ≡ holds xs && holds ys
unfolding holds
holds_append [] ys = refl
holds_append (x ∷ xs) ys = ap (◌&&◌ x.0) (holds_append xs ys) ∙ sym (and_assoc x.0 (holds xs) (holds ys))

pub holds_each : (f : ℕ → Bool × ℕ) (i k : ℕ) → holds (each f i k) ≡ all_of (λ n. (f n).0) i k
unfolding holds each all_of
holds_each f i zero = refl
holds_each f i (suc k) = ap (◌&&◌ (f i).0) (holds_each f (i + 1) k)

holds_lists : (f : ℕ → Checks) (i k : ℕ) → holds (each_list f i k) ≡ all_of (λ n. holds (f n)) i k
unfolding holds each_list all_of
holds_lists f i zero = refl
holds_lists f i (suc k) = holds_append (f i) (each_list f (i + 1) k) ∙ ap (◌&&◌ (holds (f i))) (holds_lists f (i + 1) k)

pub holds_table : (f : ℕ → Bool) → holds (table_checks f) ≡ all_of f 0 64
unfolding table_checks
holds_table f = holds_each (λ i. (f i, table_block_of i)) 0 64

pub holds_pages : (m : List ℕ) (l d : ℕ) (c : List ℕ) (page slot : ℕ → Bool)
    → holds (page_checks m l d c page slot) ≡ all_of page 0 d && all_of slot 0 (15 * d)
unfolding page_checks holds
holds_pages m l d c page slot =
    holds_lists (λ p. (page p, page_block_at l p) ∷ each (λ i. (slot (15 * p + i), page_block_at l p)) 0 15) 0 d
    ∙ all_same _ (λ p. page p && all_of (λ i. slot (15 * p + i)) 0 15) 0 d
    (λ p h. ap (◌&&◌ (page p)) (holds_each (λ i. (slot (15 * p + i), page_block_at l p)) 0 15))
    ∙ sym (all_both page (λ p. all_of (λ i. slot (15 * p + i)) 0 15) 0 d)
    ∙ ap (◌&&◌ (all_of page 0 d)) (all_slots slot 0 d)
