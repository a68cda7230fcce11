-- What redo does to one page, and to the pages' first changes: a version put in the next slot of its page, or one that
-- is in its page already. By the page's canonical bytes, and by cases on the page.
use Prim.Native.Nat.{ℕ, zero, suc, ◌+◌, ◌*◌, ◌/◌, ◌%◌, ◌≤◌, ◌<◌, min}
use native.Mathlib.Omega.{arith}
use mathlib.Core.Bool.{Bool, true, false, cond}
use mathlib.Core.List.{List}
use mathlib.Core.Logic.{◌⊎◌, inl, inr, ◌≢◌}
use mathlib.Core.Path.{◌≡◌, refl, ap, ◌∙◌}
use lib.Dec.{eqb}
use lib.ListN.{length, get_or, set, length-set}
use lib.Seq.{get_or-set_same, get_or-set_other}
use borrow.Author.Tests.{eqb-true, eqb-false}
use Rattle.fields.specs.Block.{blk, cache_length, page_of}
use Rattle.layout.specs.Page.{put_version}
use Rattle.layout.specs.Slot.{Cell}
use Rattle.fields.proofs.CellLaws.{Each}
use Rattle.layout.proofs.SlotLaws.{SlotSized}
use Rattle.layout.proofs.CacheLaws.{put_version_page, put_version_beside}
use Rattle.store.specs.Write.{touched}
use Rattle.store.specs.OpenRedo.{used_in}
use Rattle.agreement.proofs.history.Ghost.{LoggedVersion, at, cell, page_with, full}
use Rattle.agreement.proofs.history.ListLaws.{same?}
use Rattle.agreement.proofs.history.SlotLaws.{page_with_step, used_page}
use Rattle.agreement.proofs.invariant.Invariant.{CacheIs, Firsts}

-- ---- first changes

-- element j after `touched first p q`: t, where it was g
pub data Touch (j p g t q : ℕ) : Type 0 where
  other : j ≢ p → t ≡ g → Touch j p g t q
  newly : j ≡ p → g ≡ 0 → t ≡ q → Touch j p g t q
  stays : j ≡ p → 0 < g → t ≡ g → Touch j p g t q

pub touch_at : (first : List ℕ) (p q : ℕ) → p < length first → (j : ℕ)
    → Touch j p (get_or first j 0) (get_or (touched first p q) j 0) q
unfolding touched
touch_at first p q h j = go (same? j p) (eqb (get_or first p 0) 0) refl
  where
    go : (j ≡ p) ⊎ (j ≢ p) → (t : Bool) → eqb (get_or first p 0) 0 ≡ t
        → Touch j p (get_or first j 0) (get_or (set first p (cond t q (get_or first p 0))) j 0) q
    go (inr n) t e = other n (get_or-set_other first p j _ 0 n)
    go (inl i) true e = newly i (rw i (eqb-true (get_or first p 0) 0 e)) (rw i (get_or-set_same first p q 0 h))
    go (inl i) false e =
        stays i (rw i (omega (arith, eqb-false (get_or first p 0) 0 e)))
        (rw i (get_or-set_same first p (get_or first p 0) 0 h))

pub length_touched : (first : List ℕ) (p q : ℕ) → length (touched first p q) ≡ length first
unfolding touched
length_touched first p q = length-set first p _

module _ (d : ℕ) (vs : List LoggedVersion) (on : ℕ → ℕ) (a o q : ℕ) (first : List ℕ)
    (f : Firsts d vs on a o q first) where
  -- version a, of block q', is put in its page
  pub firsts_touched : (q' : ℕ) → (at vs a).seq ≡ q' → q ≤ q' → o ≤ q' → 0 < q' → a < 15 * d → d ≤ 64
      → on (a / 15) ≤ a % 15
      → Firsts d vs on (suc a) o q' (touched first (a / 15) q')
  firsts_touched q' e h k z room few new = record {
    size = length_touched first (a / 15) q' ∙ f.size;
    noted = λ n b c. noted' n (same? n a) b c (case (n / 15));
    low = λ p i w. low' p i (case p) w;
    high = λ p i. high' p i (case p);
    lacks = λ p i w. lacks' p i (case p) w;
  }
    where
      t : ℕ → ℕ
      t j = get_or (touched first (a / 15) q') j 0

      case : (j : ℕ) → Touch j (a / 15) (get_or first j 0) (t j) q'
      case j = touch_at first (a / 15) q' (omega (arith, f.size)) j

      low' : (p : ℕ) → p < d → Touch p (a / 15) (get_or first p 0) (t p) q' → 0 < t p → o ≤ t p
      low' p y (other i j) w = omega (arith, f.low p y (omega arith))
      low' p y (newly i g j) w = omega arith
      low' p y (stays i g j) w = omega (arith, f.low p y g)

      high' : (p : ℕ) → p < d → Touch p (a / 15) (get_or first p 0) (t p) q' → t p ≤ q'
      high' p y (other i j) = omega (arith, f.high p y)
      high' p y (newly i g j) = omega arith
      high' p y (stays i g j) = omega (arith, f.high p y)

      lacks' : (p : ℕ) → p < d → Touch p (a / 15) (get_or first p 0) (t p) q' → 0 < t p → on p < full (suc a) p
      lacks' p y (other i j) w = omega (arith, f.lacks p y (omega arith))
      lacks' p y (newly i g j) w = omega (arith, ap on i)
      lacks' p y (stays i g j) w = omega (arith, f.lacks p y g)

      noted' : (n : ℕ) → (n ≡ a) ⊎ (n ≢ a) → n < suc a → on (n / 15) ≤ n % 15
          → Touch (n / 15) (a / 15) (get_or first (n / 15) 0) (t (n / 15)) q'
          → (0 < t (n / 15)) × (t (n / 15) ≤ (at vs n).seq)
      noted' n (inr i) b c (other j g) = omega (arith, f.noted n (omega arith) c)
      noted' n (inr i) b c (newly j y g) = omega (arith, f.noted n (omega arith) c)
      noted' n (inr i) b c (stays j y g) = omega (arith, f.noted n (omega arith) c)
      noted' n (inl i) b c (other j g) = absurd (j (ap (λ (x : ℕ). x / 15) i))
      noted' n (inl i) b c (newly j y g) = omega (arith, ap (λ (x : ℕ). (at vs x).seq) i)
      noted' n (inl i) b c (stays j y g) = omega (arith, ap (λ (x : ℕ). (at vs x).seq) i, f.high (n / 15) (omega arith))

  -- version a is in its page already
  pub firsts_skipped : (q' : ℕ) → q ≤ q' → a % 15 < on (a / 15) → Firsts d vs on (suc a) o q' first
  firsts_skipped q' h k = record {
    size = f.size;
    noted = λ n b c. go n (same? n a) b c;
    low = f.low;
    high = λ p i. omega (arith, f.high p i);
    lacks = λ p i w. omega (arith, f.lacks p i w);
  }
    where
      go : (n : ℕ) → (n ≡ a) ⊎ (n ≢ a) → n < suc a → on (n / 15) ≤ n % 15
          → (0 < get_or first (n / 15) 0) × (get_or first (n / 15) 0 ≤ (at vs n).seq)
      go n (inl e) b c = absurd (omega (arith, ap (λ (x : ℕ). x % 15) e, ap (λ (x : ℕ). on (x / 15)) e))
      go n (inr e) b c = f.noted n (omega arith) c

-- ---- pages

-- the cache holds of each page p the first f p slots
abbrev pub Cached : ℕ → List ℕ → List LoggedVersion → List Cell → (ℕ → ℕ) → Type 0
Cached d c vs cs f = (p : ℕ) → p < d → blk c p ≡ page_with vs cs p (f p)

module _ (d : ℕ) (c : List ℕ) (vs : List LoggedVersion) (cs : List Cell) (n : ℕ) (size : length c ≡ cache_length d)
    (room : n < 15 * d) (same : length cs ≡ length vs)
    (sized : Each SlotSized cs) (h : n < length vs) (f : ℕ → ℕ) (pages : Cached d c vs cs f)
    (next : f (n / 15) ≡ n % 15) where
  -- version n put in the next slot of its page
  pub cached_put : (g : ℕ → ℕ) → g (n / 15) ≡ suc (n % 15) → ((p : ℕ) → p ≢ n / 15 → g p ≡ f p)
      → Cached d (put_version c n (at vs n).end (cell cs n)) vs cs g
  unfolding page_of cache_length
  cached_put g e beside p k = go (same? p (n / 15))
    where
      within : 512 * (n / 15) + 512 ≤ length c
      within = omega arith

      whole : 15 * (n / 15) + n % 15 ≡ n
      whole = omega arith

      go : (p ≡ n / 15) ⊎ (p ≢ n / 15) → blk (put_version c n (at vs n).end (cell cs n)) p ≡ page_with vs cs p (g p)
      go (inl q) =
          rw (q, e, put_version_page c n within (at vs n).end (cell cs n), pages (n / 15) (omega arith), next)
          (rw whole at (page_with_step vs cs (n / 15) (n % 15) sized same (omega arith) (rw whole h)))
      go (inr q) = rw (put_version_beside c n within (at vs n).end (cell cs n) p q, beside p q) (pages p k)

-- all used slots of a cache
pub used_all : (d : ℕ) (c : List ℕ) (vs : List LoggedVersion) (cs : List Cell) → length cs ≡ length vs
    → length vs ≤ 15 * d → CacheIs d c vs cs → used_in c d ≡ length vs
unfolding used_in
used_all d c vs cs same room cache = up_to d (omega arith) ∙ omega arith
  where
    up_to : (j : ℕ) → j ≤ d → used_in c j ≡ min (length vs) (15 * j)
    up_to zero h = omega arith
    up_to (suc j) h =
        rw (cache.pages j h, used_page vs cs j (full (length vs) j) (omega arith), up_to j (omega arith)) (omega arith)
