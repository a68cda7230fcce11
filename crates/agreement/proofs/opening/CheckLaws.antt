-- A list of checks holds if each of its items does: for each number of a range, each place of the table, each record
-- and block of the log, each page and slot. By the lists' definitions.
use Prim.Native.Nat.{ℕ, zero, suc, ◌+◌, ◌*◌, ◌≤◌, ◌<◌}
use native.Mathlib.Omega.{arith}
use mathlib.Core.Bool.{Bool, true, false, ◌&&◌, ◌||◌}
use mathlib.Core.List.{List, [], ◌∷◌, ◌++◌}
use mathlib.Core.Logic.{◌⊎◌, inl, inr, ◌≢◌}
use mathlib.Core.Path.{◌≡◌, refl}
use lib.Dec.{eqb}
use borrow.Author.Tests.{eq-eqb, ne_eqb}
use Rattle.fields.specs.Block.{log_block_at, page_block_at}
use Rattle.layout.specs.Journal.{Record}
use Rattle.layout.specs.Master.{oldest_on}
use Rattle.fields.proofs.CellLaws.{Each}
use Rattle.store.specs.OpenLog.{Placed, read_count}
use Rattle.store.specs.OpenConditions.{Checks, holds, each, each_list, table_block_of, table_checks, log_checks}
use Rattle.store.specs.OpenConditions.{block_checks, page_checks}
use Rattle.agreement.proofs.history.ListLaws.{same?}

-- ---- tests

pub both : (a b : Bool) → a ≡ true → b ≡ true → a && b ≡ true
both true b e f = f
both false b e f = e

pub or_right : (a b : Bool) → b ≡ true → a || b ≡ true
or_right true b e = refl
or_right false b e = e

-- a number is 0, or what is asked of others holds
pub zero_or : (n : ℕ) (b : Bool) → (n ≢ 0 → b ≡ true) → eqb n 0 || b ≡ true
zero_or n b f = go (same? n 0)
  where
    go : (n ≡ 0) ⊎ (n ≢ 0) → eqb n 0 || b ≡ true
    go (inl e) = rw (eq-eqb n 0 e)
    go (inr e) = rw (ne_eqb n 0 e, f e)

-- ---- lists of checks

pub first_holds : (b : Bool) (n : ℕ) (xs : Checks) → b ≡ true → holds xs ≡ true → holds ((b, n) ∷ xs) ≡ true
unfolding holds
first_holds b n xs e f = both b (holds xs) e f

pub append_holds : (xs ys : Checks) → holds xs ≡ true → holds ys ≡ true → holds (xs ++ ys) ≡ true
unfolding holds
append_holds [] ys e f = f
append_holds (x ∷ xs) ys e f = go x.0 e (λ q. append_holds xs ys q f)
  where
    go : (b : Bool) → b && holds xs ≡ true → (holds xs ≡ true → holds (xs ++ ys) ≡ true) → b && holds (xs ++ ys) ≡ true
    go true q h = h q
    go false q h = q

pub each_holds : (f : ℕ → Bool × ℕ) (i k : ℕ) → ((n : ℕ) → i ≤ n → n < i + k → (f n).0 ≡ true)
    → holds (each f i k) ≡ true
unfolding holds each
each_holds f i zero h = refl
each_holds f i (suc k) h =
    both (f i).0 (holds (each f (i + 1) k)) (h i (omega arith) (omega arith))
    (each_holds f (i + 1) k (λ n a b. h n (omega arith) (omega arith)))

pub lists_hold : (f : ℕ → Checks) (i k : ℕ) → ((n : ℕ) → i ≤ n → n < i + k → holds (f n) ≡ true)
    → holds (each_list f i k) ≡ true
unfolding holds each_list
lists_hold f i zero h = refl
lists_hold f i (suc k) h =
    append_holds (f i) (each_list f (i + 1) k) (h i (omega arith) (omega arith))
    (lists_hold f (i + 1) k (λ n a b. h n (omega arith) (omega arith)))

pub table_holds : (f : ℕ → Bool) → ((i : ℕ) → i < 64 → f i ≡ true) → holds (table_checks f) ≡ true
unfolding table_checks
table_holds f h = each_holds (λ i. (f i, table_block_of i)) 0 64 (λ n a b. h n (omega arith))

pub log_holds : (l : ℕ) (f : Record → Bool) (log : List Placed) → Each (λ (x : Placed). f x.rec ≡ true) log
    → holds (log_checks l f log) ≡ true
unfolding holds log_checks
log_holds l f [] h = refl
log_holds l f (x ∷ xs) h = both (f x.rec) (holds (log_checks l f xs)) h.0 (log_holds l f xs h.1)

pub blocks_hold : (m : List ℕ) (l d : ℕ) (f : ℕ → Bool)
    → ((q : ℕ) → oldest_on m ≤ q → q < oldest_on m + read_count m l → f q ≡ true) → holds (block_checks m l d f) ≡ true
unfolding block_checks
blocks_hold m l d f h = each_holds (λ s. (f s, log_block_at l s)) (oldest_on m) (read_count m l) h

pub pages_hold : (m : List ℕ) (l d : ℕ) (c : List ℕ) (page slot : ℕ → Bool) → ((p : ℕ) → p < d → page p ≡ true)
    → ((n : ℕ) → n < 15 * d → slot n ≡ true)
    → holds (page_checks m l d c page slot) ≡ true
unfolding page_checks
pages_hold m l d c page slot f g =
    lists_hold (λ p. (page p, page_block_at l p) ∷ each (λ i. (slot (15 * p + i), page_block_at l p)) 0 15) 0 d
    (λ p a b. first_holds (page p) (page_block_at l p) (each (λ i. (slot (15 * p + i), page_block_at l p)) 0 15)
    (f p (omega arith))
    (each_holds (λ i. (slot (15 * p + i), page_block_at l p)) 0 15 (λ i u v. g (15 * p + i) (omega arith))))
