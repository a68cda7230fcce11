-- Laws of the book's rows: what stays of them where rows are added or go. All by induction over the rows.
use Rattle.std.specs.Prelude.{Option, None, Some}
use Prim.Native.Nat.{ℕ, zero, suc, ◌≤◌}
use native.Mathlib.Nat.{le_of_suc-le-suc}
use native.Mathlib.Omega.{arith}
use mathlib.Core.Bool.{or-true, Bool, true, false, cond, ◌||◌, false≢true}
use mathlib.Core.List.{List, [], ◌∷◌, ◌++◌}
use mathlib.Core.Logic.{◌⊎◌, inl, inr, ◌≢◌}
use mathlib.Core.Path.{◌≡◌, refl, sym, ap, ◌∙◌}
use lib.Dec.{eqb}
use lib.ListN.{length, take}
use borrow.Author.Tests.{eqb-true, eq-eqb, ne_eqb}
use Rattle.runs.specs.Book.{Version, Row, version, committed, Opened, versions, time_of, has_row, is_open, close}
use Rattle.runs.specs.Moments.{Among, Transaction, transactions}

-- ---- lists

-- beyond xs a number of elements of ys
pub take_past : {A : Type 0} (xs ys : List A) (n : ℕ) → length xs ≤ n → (j : ℕ) × (take n (xs ++ ys) ≡ xs ++ take j ys)
take_past [] ys n h = (n, refl)
take_past (x ∷ xs) ys zero h = absurd (omega arith)
take_past {A} (x ∷ xs) ys (suc n) h =
    let (j, e) = take_past xs ys n (le_of_suc-le-suc h) in (j, ap (λ (zs : List A). x ∷ zs) e)

pub among_left : {A : Type 0} (x : A) (xs ys : List A) → Among x xs → Among x (xs ++ ys)
among_left x [] ys h = absurd h
among_left x (y ∷ xs) ys (inl e) = inl e
among_left x (y ∷ xs) ys (inr h) = inr (among_left x xs ys h)

pub among_right : {A : Type 0} (x : A) (xs ys : List A) → Among x ys → Among x (xs ++ ys)
among_right x [] ys h = h
among_right x (y ∷ xs) ys h = inr (among_right x xs ys h)

pub among_either : {A : Type 0} (x : A) (xs ys : List A) → Among x (xs ++ ys) → Among x xs ⊎ Among x ys
among_either x [] ys h = inr h
among_either x (y ∷ xs) ys (inl e) = inl (inl e)
among_either {A} x (y ∷ xs) ys (inr h) = go (among_either x xs ys h)
  where
    go : Among x xs ⊎ Among x ys → Among x (y ∷ xs) ⊎ Among x ys
    go (inl a) = inl (inr a)
    go (inr a) = inr a

pub among_take : {A : Type 0} (x : A) (n : ℕ) (xs : List A) → Among x (take n xs) → Among x xs
among_take x zero xs h = absurd h
among_take x (suc n) [] h = absurd h
among_take x (suc n) (y ∷ xs) (inl e) = inl e
among_take x (suc n) (y ∷ xs) (inr h) = inr (among_take x n xs h)

-- ---- Bool and Option

pub none_some : {t : ℕ} → None ≡ Some t → ⊥
none_some e = let z : ◌≡◌ {A = ℕ} 0 1 = cc in omega arith

pub neither_true : (a b : Bool) → (a || b) ≡ false → (a ≡ false) × (b ≡ false)
neither_true true b e = absurd (false≢true (sym e))
neither_true false b e = (refl, e)

pub either_true : (a b : Bool) → (a || b) ≡ true → (a ≡ true) ⊎ (b ≡ true)
either_true true b e = inl refl
either_true false b e = inr e

-- ---- versions and transactions

pub versions_append : (rs ss : List Row) → versions (rs ++ ss) ≡ versions rs ++ versions ss
unfolding versions
versions_append [] ss = refl
versions_append (version v ∷ rs) ss = ap (λ (vs : List Version). v ∷ vs) (versions_append rs ss)
versions_append (committed n t ∷ rs) ss = versions_append rs ss

pub transactions_append : (rs ss : List Row) → transactions (rs ++ ss) ≡ transactions rs ++ transactions ss
unfolding transactions
transactions_append [] ss = refl
transactions_append (version v ∷ rs) ss = transactions_append rs ss
transactions_append (committed n t ∷ rs) ss =
    ap (λ (xs : List Transaction). record { number = n; time = t } ∷ xs) (transactions_append rs ss)

-- a beginning of the rows has a beginning of the transactions
pub transactions_take : (i : ℕ) (rs : List Row) → (j : ℕ) × (transactions (take i rs) ≡ take j (transactions rs))
unfolding transactions
transactions_take zero rs = (0, refl)
transactions_take (suc i) [] = (0, refl)
transactions_take (suc i) (version v ∷ rs) = transactions_take i rs
transactions_take (suc i) (committed n t ∷ rs) =
    let (j, e) = transactions_take i rs in
    (suc j, ap (λ (xs : List Transaction). record { number = n; time = t } ∷ xs) e)

pub version_among : (v : Version) (rs : List Row) → Among v (versions rs) → Among (version v) rs
unfolding versions
version_among v [] h = absurd h
version_among v (version w ∷ rs) (inl e) = inl (ap version e)
version_among v (version w ∷ rs) (inr h) = inr (version_among v rs h)
version_among v (committed n t ∷ rs) h = inr (version_among v rs h)

pub among_version : (v : Version) (rs : List Row) → Among (version v) rs → Among v (versions rs)
unfolding versions
among_version v [] h = absurd h
among_version v (version w ∷ rs) (inl e) = inl cc
among_version v (version w ∷ rs) (inr h) = inr (among_version v rs h)
among_version v (committed n t ∷ rs) (inl e) = let z : ◌≡◌ {A = ℕ} 0 1 = cc in absurd (omega arith)
among_version v (committed n t ∷ rs) (inr h) = among_version v rs h

pub row_transaction : (n t : ℕ) (rs : List Row) → Among (committed n t) rs
    → Among (record { number = n; time = t }) (transactions rs)
unfolding transactions
row_transaction n t [] h = absurd h
row_transaction n t (version v ∷ rs) (inl e) = let z : ◌≡◌ {A = ℕ} 0 1 = cc in absurd (omega arith)
row_transaction n t (version v ∷ rs) (inr h) = row_transaction n t rs h
row_transaction n t (committed k u ∷ rs) (inl e) = inl cc
row_transaction n t (committed k u ∷ rs) (inr h) = inr (row_transaction n t rs h)

pub transaction_row : (x : Transaction) (rs : List Row) → Among x (transactions rs)
    → Among (committed x.number x.time) rs
unfolding transactions
transaction_row x [] h = absurd h
transaction_row x (version v ∷ rs) h = inr (transaction_row x rs h)
transaction_row x (committed k u ∷ rs) (inl e) = inl cc
transaction_row x (committed k u ∷ rs) (inr h) = inr (transaction_row x rs h)

-- ---- the time of a number

pub time_among : (rs : List Row) (n t : ℕ) → time_of rs n ≡ Some t → Among (committed n t) rs
unfolding time_of
time_among [] n t e = absurd (none_some e)
time_among (version v ∷ rs) n t e = inr (time_among rs n t e)
time_among (committed k u ∷ rs) n t e = go (eqb k n) refl e (time_among rs n t)
  where
    go : (b : Bool) → eqb k n ≡ b → cond b (Some u) (time_of rs n) ≡ Some t
        → (time_of rs n ≡ Some t → Among (committed n t) rs) → Among (committed n t) (committed k u ∷ rs)
    go true q e ih = let z : k ≡ n = eqb-true k n q in inl cc
    go false q e ih = inr (ih e)

pub time_front : (rs ss : List Row) (n t : ℕ) → time_of rs n ≡ Some t → time_of (rs ++ ss) n ≡ Some t
unfolding time_of
time_front [] ss n t e = absurd (none_some e)
time_front (version v ∷ rs) ss n t e = time_front rs ss n t e
time_front (committed k u ∷ rs) ss n t e = go (eqb k n) e (time_front rs ss n t)
  where
    go : (b : Bool) → cond b (Some u) (time_of rs n) ≡ Some t → (time_of rs n ≡ Some t → time_of (rs ++ ss) n ≡ Some t)
        → cond b (Some u) (time_of (rs ++ ss) n) ≡ Some t
    go true e ih = e
    go false e ih = ih e

pub time_none : (rs ss : List Row) (n : ℕ) → time_of rs n ≡ None → time_of (rs ++ ss) n ≡ time_of ss n
unfolding time_of
time_none [] ss n e = refl
time_none (version v ∷ rs) ss n e = time_none rs ss n e
time_none (committed k u ∷ rs) ss n e = go (eqb k n) e (time_none rs ss n)
  where
    go : (b : Bool) → cond b (Some u) (time_of rs n) ≡ None
        → (time_of rs n ≡ None → time_of (rs ++ ss) n ≡ time_of ss n)
        → cond b (Some u) (time_of (rs ++ ss) n) ≡ time_of ss n
    go true e ih = absurd (none_some (sym e))
    go false e ih = ih e

pub time_left : (rs ss : List Row) (n : ℕ) → time_of (rs ++ ss) n ≡ None → time_of rs n ≡ None
time_left rs ss n e = go (time_of rs n) refl
  where
    go : (x : Option ℕ) → time_of rs n ≡ x → x ≡ None
    go None q = refl
    go (Some t) q = absurd (none_some (sym e ∙ time_front rs ss n t q))

-- no commit among the rows, none among a beginning of them
pub none_take : (i : ℕ) (rs : List Row) (n : ℕ) → time_of rs n ≡ None → time_of (take i rs) n ≡ None
unfolding time_of
none_take zero rs n e = refl
none_take (suc i) [] n e = refl
none_take (suc i) (version v ∷ rs) n e = none_take i rs n e
none_take (suc i) (committed k u ∷ rs) n e = go (eqb k n) e (none_take i rs n)
  where
    go : (b : Bool) → cond b (Some u) (time_of rs n) ≡ None → (time_of rs n ≡ None → time_of (take i rs) n ≡ None)
        → cond b (Some u) (time_of (take i rs) n) ≡ None
    go true e ih = absurd (none_some (sym e))
    go false e ih = ih e

pub none_among : (rs : List Row) (n t : ℕ) → time_of rs n ≡ None → Among (committed n t) rs → ⊥
unfolding time_of
none_among [] n t e h = h
none_among (version v ∷ rs) n t e (inl q) = let z : ◌≡◌ {A = ℕ} 0 1 = cc in omega arith
none_among (version v ∷ rs) n t e (inr h) = none_among rs n t e h
none_among (committed k u ∷ rs) n t e (inl q) = let z : n ≡ k = cc in none_some (sym (rw (eq-eqb k n (sym z)) at e))
none_among (committed k u ∷ rs) n t e (inr h) = go (eqb k n) e (λ q. none_among rs n t q h)
  where
    go : (b : Bool) → cond b (Some u) (time_of rs n) ≡ None → (time_of rs n ≡ None → ⊥) → ⊥
    go true e ih = none_some (sym e)
    go false e ih = ih e

-- one row more
pub time_other : (rs : List Row) (n t k : ℕ) → k ≢ n → time_of (rs ++ (committed n t ∷ [])) k ≡ time_of rs k
unfolding time_of
time_other [] n t k h = rw (ne_eqb n k (λ e. h (sym e)))
time_other (version v ∷ rs) n t k h = time_other rs n t k h
time_other (committed m u ∷ rs) n t k h = ap (λ (x : Option ℕ). cond (eqb m k) (Some u) x) (time_other rs n t k h)

pub time_version : (rs : List Row) (v : Version) (k : ℕ) → time_of (rs ++ (version v ∷ [])) k ≡ time_of rs k
unfolding time_of
time_version [] v k = refl
time_version (version w ∷ rs) v k = time_version rs v k
time_version (committed m u ∷ rs) v k = ap (λ (x : Option ℕ). cond (eqb m k) (Some u) x) (time_version rs v k)

-- ---- rows of a number

pub rowless_left : (rs ss : List Row) (n : ℕ) → has_row (rs ++ ss) n ≡ false → has_row rs n ≡ false
unfolding has_row
rowless_left [] ss n e = refl
rowless_left (version v ∷ rs) ss n e =
    let q = neither_true (eqb v.number n) (has_row (rs ++ ss) n) e in rw q.0 (rowless_left rs ss n q.1)
rowless_left (committed k t ∷ rs) ss n e =
    let q = neither_true (eqb k n) (has_row (rs ++ ss) n) e in rw q.0 (rowless_left rs ss n q.1)

pub rowless_none : (rs : List Row) (n : ℕ) → has_row rs n ≡ false → time_of rs n ≡ None
unfolding has_row time_of
rowless_none [] n e = refl
rowless_none (version v ∷ rs) n e = rowless_none rs n (neither_true (eqb v.number n) (has_row rs n) e).1
rowless_none (committed k t ∷ rs) n e =
    let q = neither_true (eqb k n) (has_row rs n) e in rw q.0 (rowless_none rs n q.1)

pub version_has : (v : Version) (rs : List Row) → Among v (versions rs) → has_row rs v.number ≡ true
unfolding has_row versions
version_has v [] h = absurd h
version_has v (version w ∷ rs) (inl e) = rw (eq-eqb w.number v.number (ap (λ (x : Version). x.number) (sym e)))
version_has v (version w ∷ rs) (inr h) = rw (version_has v rs h) (or-true (eqb w.number v.number))
version_has v (committed n t ∷ rs) h = rw (version_has v rs h) (or-true (eqb n v.number))

-- ---- open numbers

-- the number closes, and no other opens
pub close_shuts : (os : List Opened) (n : ℕ) → is_open (close os n) n ≡ false
unfolding is_open close
close_shuts [] n = refl
close_shuts (o ∷ os) n = go (eqb o.number n) refl (close_shuts os n)
  where
    go : (t : Bool) → eqb o.number n ≡ t → is_open (close os n) n ≡ false
        → is_open (cond t (close os n) (o ∷ close os n)) n ≡ false
    go true e ih = ih
    go false e ih = rw e ih

pub close_less : (os : List Opened) (n k : ℕ) → is_open (close os n) k ≡ true → is_open os k ≡ true
unfolding is_open close
close_less [] n k e = e
close_less (o ∷ os) n k e = go (eqb o.number n) e (close_less os n k)
  where
    go : (t : Bool) → is_open (cond t (close os n) (o ∷ close os n)) k ≡ true
        → (is_open (close os n) k ≡ true → is_open os k ≡ true) → (eqb o.number k || is_open os k) ≡ true
    go true e ih = rw (ih e) (or-true (eqb o.number k))
    go false e ih = by (either_true (eqb o.number k) (is_open (close os n) k) e)
      where
        by : (eqb o.number k ≡ true) ⊎ (is_open (close os n) k ≡ true) → (eqb o.number k || is_open os k) ≡ true
        by (inl q) = rw q
        by (inr q) = rw (ih q) (or-true (eqb o.number k))
