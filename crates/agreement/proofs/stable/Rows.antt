-- Rows that come later change no answer as of a time that the rows before have reached: a later commit row has a
-- greater time, and a later version row is of a number without a commit row before it. So the versions that count are
-- the same.
use Rattle.std.specs.Prelude.{Option, None, Some}
use Prim.Native.Nat.{ℕ, zero, suc, ◌≤◌, ◌<◌}
use native.Mathlib.Omega.{arith}
use mathlib.Core.Bool.{Bool, true, false, cond}
use mathlib.Core.List.{List, [], ◌∷◌, ◌++◌, append_assoc, append-nil}
use mathlib.Core.Path.{◌≡◌, refl, sym, ap, ◌∙◌, subst}
use lib.Dec.{eqb}
use lib.ListN.{take}
use borrow.Author.Tests.{le-ltb}
use Rattle.runs.specs.Event.{Event, Observation}
use Rattle.runs.specs.Book.{Version, Row, version, committed, Book, blank, versions, time_of, last_time, is_open, add}
use Rattle.runs.specs.Book.{fall, Dated, later_of, dated_of, best_below, last_below, strip_at, strip_as_of, lines_at}
use Rattle.runs.specs.Book.{lines_below, lines_of}
use Rattle.runs.specs.Moments.{Run, book_at, transactions}
use Rattle.runs.specs.Plain.{Rises}
use Rattle.agreement.proofs.reads.AsOf.{best_append}
use Rattle.agreement.proofs.plain.Laws.{versions_append, time_front, time_none, time_left}
use Rattle.agreement.proofs.plain.Runs.{Turn, stays, falls, opens, adds, ends, closes, stores}
use Rattle.agreement.proofs.plain.Times.{always, rises_right, Orderly, orderly_turn}
use Rattle.agreement.proofs.plain.Reads.{last_from}

-- ---- no version behind the commit of its number

-- among the rows behind R, no version is of a number with a commit before it
abbrev pub Fresh : List Row → List Row → Type 0
Fresh R [] = Unit {0}
Fresh R (version v ∷ rs) = (time_of R v.number ≡ None) × Fresh (R ++ (version v ∷ [])) rs
Fresh R (committed n t ∷ rs) = Fresh (R ++ (committed n t ∷ [])) rs

fresh_take : (i : ℕ) (R rs : List Row) → Fresh R rs → Fresh R (take i rs)
fresh_take zero R rs h = tt
fresh_take (suc i) R [] h = tt
fresh_take (suc i) R (version v ∷ rs) h = (h.0, fresh_take i (R ++ (version v ∷ [])) rs h.1)
fresh_take (suc i) R (committed n t ∷ rs) h = fresh_take i (R ++ (committed n t ∷ [])) rs h

fresh_append : (R rs ss : List Row) → Fresh R rs → Fresh (R ++ rs) ss → Fresh R (rs ++ ss)
fresh_append R [] ss h g = subst (λ (xs : List Row). Fresh xs ss) (append-nil R) g
fresh_append R (version v ∷ rs) ss h g = (
  h.0,
  fresh_append (R ++ (version v ∷ [])) rs ss h.1
      (subst (λ (xs : List Row). Fresh xs ss) (sym (append_assoc R (version v ∷ []) rs)) g),
)
fresh_append R (committed n t ∷ rs) ss h g =
    fresh_append (R ++ (committed n t ∷ [])) rs ss h
    (subst (λ (xs : List Row). Fresh xs ss) (sym (append_assoc R (committed n t ∷ []) rs)) g)

fresh_right : (R rs ss : List Row) → Fresh R (rs ++ ss) → Fresh (R ++ rs) ss
fresh_right R [] ss h = subst (λ (xs : List Row). Fresh xs ss) (sym (append-nil R)) h
fresh_right R (version v ∷ rs) ss h =
    subst (λ (xs : List Row). Fresh xs ss) (append_assoc R (version v ∷ []) rs)
    (fresh_right (R ++ (version v ∷ [])) rs ss h.1)
fresh_right R (committed n t ∷ rs) ss h =
    subst (λ (xs : List Row). Fresh xs ss) (append_assoc R (committed n t ∷ []) rs)
    (fresh_right (R ++ (committed n t ∷ [])) rs ss h)

-- an open number has no commit, and writes are of open numbers
record Written (b : Book) : Type 0 where
  orderly : Orderly b
  fresh : Fresh [] b.rows

written_turn : (b b' : Book) (hs rs : List Row) (e : Event) (o : Observation) → Turn b e o b' rs → Written b
    → Written b'
unfolding fall add
written_turn b b' hs rs e o t p = record { orderly = orderly_turn b b' hs rs e o t p.orderly; fresh = go t }
  where
    go : {b' : Book} {rs : List Row} → Turn b e o b' rs → Fresh [] b'.rows
    go stays = p.fresh
    go (falls z) = fresh_take b.stored [] b.rows p.fresh
    go (opens n k z h) = p.fresh
    go (adds v ch w) = fresh_append [] b.rows (version v ∷ []) p.fresh (p.orderly.unended v.number w, tt)
    go (ends n t ch a h z) = fresh_append [] b.rows (committed n t ∷ []) p.fresh tt
    go (closes n) = p.fresh
    go stores = p.fresh

pub fresh_rows : {l d : ℕ} {es : List Event} → Run l d es → Fresh [] (book_at l d es).rows
unfolding is_open blank time_of
fresh_rows r =
    (always r (λ b hs. Written b) written_turn
    (record { orderly = record { once = tt; unended = λ n q. refl }; fresh = tt })).fresh

-- ---- times

-- low is the time of a commit row before them
last_low : (m low : ℕ) (rs : List Row) → Rises low (transactions rs) → low ≤ last_time (committed m low ∷ rs)
unfolding transactions last_time
last_low m low [] r = omega arith
last_low m low (version v ∷ rs) r = last_low m low rs r
last_low m low (committed k u ∷ rs) r = omega (arith, r.0, last_low k u rs r.1)

last_from_low : (m low : ℕ) (rs ss : List Row) → Rises low (transactions (rs ++ ss))
    → last_time (committed m low ∷ rs) ≤ last_time (committed m low ∷ rs ++ ss)
unfolding transactions last_time
last_from_low m low [] ss r = last_low m low ss r
last_from_low m low (version v ∷ rs) ss r = last_from_low m low rs ss r
last_from_low m low (committed k u ∷ rs) ss r = last_from_low k u rs ss r.1

pub last_more : (rs ss : List Row) → Rises 0 (transactions (rs ++ ss)) → last_time rs ≤ last_time (rs ++ ss)
unfolding last_time
last_more rs ss r = last_from_low 0 0 rs ss r

above : (low : ℕ) (rs : List Row) (n u : ℕ) → Rises low (transactions rs) → time_of rs n ≡ Some u → low < u
unfolding transactions time_of
above low [] n u r e = let z : ◌≡◌ {A = ℕ} 0 1 = cc in absurd (omega arith)
above low (version v ∷ rs) n u r e = above low rs n u r e
above low (committed k t ∷ rs) n u r e = go (eqb k n) e (above t rs n u r.1)
  where
    go : (x : Bool) → cond x (Some t) (time_of rs n) ≡ Some u → (time_of rs n ≡ Some u → t < u) → low < u
    go true e ih = let z : t ≡ u = cc in omega (arith, r.0)
    go false e ih = omega (arith, r.0, ih e)

-- ---- versions that do not count

-- a time from the limit on
pub too_late : (best : Option Dated) (limit : ℕ) (x : Dated) → limit ≤ x.time → later_of best limit x ≡ best
too_late None limit x h = rw (le-ltb x.time limit h)
too_late (Some y) limit x h = rw (le-ltb x.time limit h)

-- no time among the rows R
best_fresh : (R S rs : List Row) (key limit : ℕ) (best : Option Dated) → Fresh (R ++ S) rs
    → best_below R key limit best (versions rs) ≡ best
unfolding best_below versions
best_fresh R S [] key limit best h = refl
best_fresh R S (version v ∷ rs) key limit best h =
    ap (λ (x : Option ℕ). best_below R key limit (cond (eqb v.key key) (dated_of x best limit v) best) (versions rs))
    (time_left R S v.number h.0)
    ∙ ap (λ (x : Option Dated). best_below R key limit x (versions rs)) (same (eqb v.key key))
    ∙ best_fresh R (S ++ (version v ∷ [])) rs key limit best
    (subst (λ (xs : List Row). Fresh xs rs) (append_assoc R S (version v ∷ [])) h.1)
  where
    same : (x : Bool) → cond x best best ≡ best
    same true = refl
    same false = refl
best_fresh R S (committed n t ∷ rs) key limit best h =
    best_fresh R (S ++ (committed n t ∷ [])) rs key limit best
    (subst (λ (xs : List Row). Fresh xs rs) (append_assoc R S (committed n t ∷ [])) h)

-- ---- lists

-- a list follows from the last versions below the times up to its limit
module _ (rs qs : List Row) (key t1 top : ℕ) (last : (limit : ℕ) → limit ≤ top
    → last_below qs key limit ≡ last_below rs key limit) where
  pub lines_same : (k limit : ℕ) → limit ≤ top → lines_below qs key t1 k limit ≡ lines_below rs key t1 k limit
  unfolding lines_below
  lines_same zero limit h = refl
  lines_same (suc k) limit h =
      ap (lines_at qs key t1 (lines_below qs key t1 k)) (last limit h)
      ∙ go (last_below rs key limit) refl (lines_same k)
    where
      go : (x : Option Dated) → last_below rs key limit ≡ x
          → ((a : ℕ) → a ≤ top → lines_below qs key t1 k a ≡ lines_below rs key t1 k a)
          → lines_at qs key t1 (lines_below qs key t1 k) x ≡ lines_at rs key t1 (lines_below rs key t1 k) x
      go None e ih = refl
      go (Some x) e ih =
          let low : x.time ≤ top = omega (arith, (last_from rs key limit x e).below) in
          rw (ih x.time low, last x.time low)

-- ---- the same answers; the commits among R have reached the time t

module _ (R more : List Row) (rising : Rises 0 (transactions (R ++ more))) (fresh : Fresh [] (R ++ more)) (t : ℕ)
    (reached : t ≤ last_time R) where
  later : (n u : ℕ) → time_of more n ≡ Some u → t < u
  unfolding last_time
  later n u e = omega (arith, above (last_time R) more n u (rises_right 0 0 R more rising) e)

  dated_same : (v : Version) (best : Option Dated) (limit : ℕ) → limit ≤ suc t
      → dated_of (time_of (R ++ more) v.number) best limit v ≡ dated_of (time_of R v.number) best limit v
  dated_same v best limit h = go (time_of R v.number) refl
    where
      late : (x : Option ℕ) → time_of more v.number ≡ x → dated_of x best limit v ≡ best
      late None e = refl
      late (Some u) e =
          too_late best limit (record { time = u; kind = v.kind; value = v.value }) (omega (arith, later v.number u e))

      go : (x : Option ℕ) → time_of R v.number ≡ x → dated_of (time_of (R ++ more) v.number) best limit v
          ≡ dated_of x best limit v
      go None e =
          ap (λ (x : Option ℕ). dated_of x best limit v) (time_none R more v.number e)
          ∙ late (time_of more v.number) refl
      go (Some u) e = ap (λ (x : Option ℕ). dated_of x best limit v) (time_front R more v.number u e)

  best_same : (key limit : ℕ) (best : Option Dated) (vs : List Version) → limit ≤ suc t
      → best_below (R ++ more) key limit best vs ≡ best_below R key limit best vs
  unfolding best_below
  best_same key limit best [] h = refl
  best_same key limit best (v ∷ vs) h =
      ap (λ (x : Option Dated). best_below (R ++ more) key limit (cond (eqb v.key key) x best) vs)
      (dated_same v best limit h)
      ∙ best_same key limit (cond (eqb v.key key) (dated_of (time_of R v.number) best limit v) best) vs h

  last_same : (key limit : ℕ) → limit ≤ suc t → last_below (R ++ more) key limit ≡ last_below R key limit
  unfolding last_below
  last_same key limit h =
      ap (best_below (R ++ more) key limit None) (versions_append R more)
      ∙ best_same key limit None (versions R ++ versions more) h
      ∙ best_append R key limit None (versions R) (versions more)
      ∙ best_fresh R [] more key limit (best_below R key limit None (versions R))
      (subst (λ (xs : List Row). Fresh xs more) (sym (append-nil R)) (fresh_right [] R more fresh))

  pub strip_same : (key : ℕ) → strip_as_of (R ++ more) key t ≡ strip_as_of R key t
  unfolding strip_as_of
  strip_same key = ap strip_at (last_same key (suc t) (omega arith))

  pub list_same : (key t1 : ℕ) → lines_of (R ++ more) key t1 t ≡ lines_of R key t1 t
  unfolding lines_of
  list_same key t1 = lines_same R (R ++ more) key t1 (suc t) (last_same key) (suc (suc t)) (suc t) (omega arith)
