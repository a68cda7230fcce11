-- Numbers and times in plain words: each turn of the book keeps that times rise, that a number commits once,
-- and that an open number has no commit.
use Rattle.std.specs.Prelude.{None, Some}
use Prim.Native.Nat.{ℕ, zero, suc, ◌<◌}
use native.Mathlib.Omega.{arith}
use mathlib.Core.Bool.{Bool, true, false, cond, false≢true}
use mathlib.Core.List.{List, [], ◌∷◌, ◌++◌, append_assoc, append-nil}
use mathlib.Core.Logic.{◌⊎◌, inl, inr, ◌≢◌}
use mathlib.Core.Path.{◌≡◌, refl, sym, ap, ◌∙◌, subst}
use lib.Dec.{eqb}
use lib.ListN.{take}
use borrow.Author.Tests.{eqb-true, eq-eqb}
use Rattle.runs.specs.Event.{Event, call, Observation}
use Rattle.runs.specs.Book.{Version, Row, version, committed, Opened, Book, blank, time_of, last_time, is_open, close}
use Rattle.runs.specs.Book.{add, fall, feed}
use Rattle.runs.specs.Machine.{trace, formatted}
use Rattle.runs.specs.Moments.{Run, world_after, book_after, book_at, seen_at, trace_at, Among, rows_seen, any_seen}
use Rattle.runs.specs.Moments.{is_break, transactions}
use Rattle.runs.specs.Plain.{Rises, Known, RisingRows, RisingAnswers, OneTime}
use Rattle.agreement.proofs.plain.Laws.{none_some, either_true, transactions_append, time_other, time_version}
use Rattle.agreement.proofs.plain.Laws.{none_take, rowless_none, close_shuts, close_less}
use Rattle.agreement.proofs.plain.Runs.{knows, Turn, stays, falls, opens, adds, ends, closes, stores, book_append}
use Rattle.agreement.proofs.plain.Runs.{run_append, inv_after, along, never, started, held, may}

-- ---- at every moment of a run

module _ {l d : ℕ} {es : List Event} (r : Run l d es) where
  -- what each turn keeps, the book has
  pub always : (P : Book → List Row → Type 0)
      → ((b b' : Book) (hs rs : List Row) (e : Event) (o : Observation) → Turn b e o b' rs → P b hs → P b' (hs ++ rs))
      → P blank [] → P (book_at l d es) (rows_seen es (trace_at l d [] es))
  unfolding world_after
  always P one p =
      along l d (λ e o. false) P (λ b b' hs rs e o z. one b b' hs rs e o) es (formatted l d) blank [] (started r) r.run
      (never es (trace l d (formatted l d) es)) p

-- what each turn keeps from a moment on
module _ {l d : ℕ} (es fs : List Event) (r : Run l d (es ++ fs)) where
  pub since : (q : Event → Observation → Bool) (P : Book → List Row → Type 0)
      → ((b b' : Book) (hs rs : List Row) (e : Event) (o : Observation) → q e o ≡ false → Turn b e o b' rs → P b hs
      → P b' (hs ++ rs))
      → any_seen q fs (trace_at l d es fs) ≡ false → P (book_at l d es) []
      → P (book_at l d (es ++ fs)) (rows_seen fs (trace_at l d es fs))
  since q P one n p =
      let t = run_append l d es fs (formatted l d) r.run in
      subst (λ (b : Book). P b (rows_seen fs (trace_at l d es fs))) (sym (book_append l d es fs (formatted l d) blank))
      (along l d q P one fs (world_after l d (formatted l d) es) (book_at l d es) []
      (inv_after l d es (formatted l d) blank (started r) t.0) t.1 n p)

  pub front_run : Run l d es
  front_run = record { range = r.range; run = (run_append l d es fs (formatted l d) r.run).0 }

-- the book after one event more
pub book_next : (l d : ℕ) (es : List Event) (e : Event) → book_at l d (es ++ (e ∷ []))
    ≡ feed (book_at l d es) e (seen_at l d es e)
unfolding book_after
book_next l d es e = book_append l d es (e ∷ []) (formatted l d) blank

-- ---- accepted calls name open numbers

pub known : Known
unfolding Known
known l d es k n r a e =
    knows l d (world_after l d (formatted l d) es) (book_at l d es) (call k) (held es (call k) r)
    (may es (call k) r) n e a

-- ---- times rise

pub rises_take : (low i : ℕ) (rs : List Row) → Rises low (transactions rs) → Rises low (transactions (take i rs))
unfolding transactions
rises_take low zero rs h = tt
rises_take low (suc i) [] h = tt
rises_take low (suc i) (version v ∷ rs) h = rises_take low i rs h
rises_take low (suc i) (committed n t ∷ rs) h = (h.0, rises_take t i rs h.1)

-- low is the time of a commit row before them
rises_more : (m low : ℕ) (rs : List Row) (n t : ℕ) → Rises low (transactions rs) → last_time (committed m low ∷ rs) < t
    → Rises low (transactions (rs ++ (committed n t ∷ [])))
unfolding transactions last_time
rises_more m low [] n t h z = (z, tt)
rises_more m low (version v ∷ rs) n t h z = rises_more m low rs n t h z
rises_more m low (committed k u ∷ rs) n t h z = (h.0, rises_more k u rs n t h.1 z)

pub rises_right : (m low : ℕ) (rs ss : List Row) → Rises low (transactions (rs ++ ss))
    → Rises (last_time (committed m low ∷ rs)) (transactions ss)
unfolding transactions last_time
rises_right m low [] ss h = h
rises_right m low (version v ∷ rs) ss h = rises_right m low rs ss h
rises_right m low (committed k u ∷ rs) ss h = rises_right k u rs ss h.1

rising_turn : (b b' : Book) (hs rs : List Row) (e : Event) (o : Observation) → Turn b e o b' rs
    → Rises 0 (transactions b.rows) → Rises 0 (transactions b'.rows)
unfolding fall add transactions last_time
rising_turn b b' hs rs e o stays p = p
rising_turn b b' hs rs e o (falls z) p = rises_take 0 b.stored b.rows p
rising_turn b b' hs rs e o (opens n k z h) p = p
rising_turn b b' hs rs e o (adds v ch w) p =
    rw (transactions_append b.rows (version v ∷ []), append-nil (transactions b.rows)) p
rising_turn b b' hs rs e o (ends n t ch a h z) p = rises_more 0 0 b.rows n t p z
rising_turn b b' hs rs e o (closes n) p = p
rising_turn b b' hs rs e o stores p = p

pub rising_rows : RisingRows
unfolding RisingRows transactions blank
rising_rows l d es r = always r (λ b hs. Rises 0 (transactions b.rows)) rising_turn tt

-- without a break all rows stay, and those seen follow
pub rows_turn : (R : List Row) (b b' : Book) (hs rs : List Row) (e : Event) (o : Observation) → is_break e o ≡ false
    → Turn b e o b' rs → b.rows ≡ R ++ hs → b'.rows ≡ R ++ (hs ++ rs)
unfolding add
rows_turn R b b' hs rs e o q stays p = rw (append-nil hs) p
rows_turn R b b' hs rs e o q (falls z) p = absurd (false≢true (sym q ∙ z))
rows_turn R b b' hs rs e o q (opens n k z h) p = rw (append-nil hs) p
rows_turn R b b' hs rs e o q (adds v ch w) p =
    ap (λ (xs : List Row). xs ++ (version v ∷ [])) p ∙ append_assoc R hs (version v ∷ [])
rows_turn R b b' hs rs e o q (ends n t ch a h z) p =
    ap (λ (xs : List Row). xs ++ (committed n t ∷ [])) p ∙ append_assoc R hs (committed n t ∷ [])
rows_turn R b b' hs rs e o q (closes n) p = rw (append-nil hs) p
rows_turn R b b' hs rs e o q stores p = rw (append-nil hs) p

pub rising_answers : RisingAnswers
unfolding RisingAnswers last_time
rising_answers l d es fs r n =
    let all = since es fs r is_break (λ b hs. b.rows ≡ (book_at l d es).rows ++ hs) (rows_turn (book_at l d es).rows) n
    (sym (append-nil (book_at l d es).rows)) in
    rises_right 0 0 (book_at l d es).rows (rows_seen fs (trace_at l d es fs))
    (subst (λ (xs : List Row). Rises 0 (transactions xs)) all (unfold RisingRows in rising_rows l d (es ++ fs) r))

-- ---- a number commits once, and while it is open it has not

abbrev pub Once : List Row → Type 0
Once [] = Unit {0}
Once (version v ∷ rs) = Once rs
Once (committed n t ∷ rs) = (time_of rs n ≡ None) × Once rs

pub once_take : (i : ℕ) (rs : List Row) → Once rs → Once (take i rs)
once_take zero rs h = tt
once_take (suc i) [] h = tt
once_take (suc i) (version v ∷ rs) h = once_take i rs h
once_take (suc i) (committed n t ∷ rs) h = (none_take i rs n h.0, once_take i rs h.1)

once_version : (rs : List Row) (v : Version) → Once rs → Once (rs ++ (version v ∷ []))
once_version [] v h = tt
once_version (version w ∷ rs) v h = once_version rs v h
once_version (committed n t ∷ rs) v h = (time_version rs v n ∙ h.0, once_version rs v h.1)

once_commit : (rs : List Row) (n t : ℕ) → time_of rs n ≡ None → Once rs → Once (rs ++ (committed n t ∷ []))
unfolding time_of
once_commit [] n t e h = (refl, tt)
once_commit (version w ∷ rs) n t e h = once_commit rs n t e h
once_commit (committed k u ∷ rs) n t e h = go (eqb k n) refl e (λ q. once_commit rs n t q h.1)
  where
    go : (b : Bool) → eqb k n ≡ b → cond b (Some u) (time_of rs n) ≡ None
        → (time_of rs n ≡ None → Once (rs ++ (committed n t ∷ []))) → Once (committed k u ∷ rs ++ (committed n t ∷ []))
    go true q e ih = absurd (none_some (sym e))
    go false q e ih = (time_other rs n t k (λ z. false≢true (sym q ∙ eq-eqb k n z)) ∙ h.0, ih e)

pub once_time : (rs : List Row) (n t : ℕ) → Once rs → Among (committed n t) rs → time_of rs n ≡ Some t
unfolding time_of
once_time [] n t h a = absurd a
once_time (version v ∷ rs) n t h (inl e) = let z : ◌≡◌ {A = ℕ} 0 1 = cc in absurd (omega arith)
once_time (version v ∷ rs) n t h (inr a) = once_time rs n t h a
once_time (committed k u ∷ rs) n t h (inl e) = let z : n ≡ k = cc in rw (eq-eqb k n (sym z)) cc
once_time (committed k u ∷ rs) n t h (inr a) = go (eqb k n) refl (once_time rs n t h.1 a)
  where
    go : (b : Bool) → eqb k n ≡ b → time_of rs n ≡ Some t → cond b (Some u) (time_of rs n) ≡ Some t
    go true q e = absurd (none_some (sym h.0 ∙ ap (time_of rs) (eqb-true k n q) ∙ e))
    go false q e = e

pub record Orderly (b : Book) : Type 0 where
  pub once : Once b.rows
  pub unended : (n : ℕ) → is_open b.opened n ≡ true → time_of b.rows n ≡ None

-- a number is open after one more opens: it was, or is the new one
pub opened_cases : {B : Type 0} (n k x : ℕ) (os : List Opened)
    → is_open (record { number = n; clock = k } ∷ os) x ≡ true → (n ≡ x → B) → (is_open os x ≡ true → B) → B
unfolding is_open
opened_cases {B} n k x os e f g = go (either_true (eqb n x) (is_open os x) e)
  where
    go : (eqb n x ≡ true) ⊎ (is_open os x ≡ true) → B
    go (inl q) = f (eqb-true n x q)
    go (inr q) = g q

-- another number is open after a close
pub still_open : (n x : ℕ) (os : List Opened) → is_open (close os n) x ≡ true → x ≢ n
still_open n x os e z = false≢true (sym (close_shuts os n) ∙ ap (is_open (close os n)) (sym z) ∙ e)

pub orderly_turn : (b b' : Book) (hs rs : List Row) (e : Event) (o : Observation) → Turn b e o b' rs → Orderly b
    → Orderly b'
unfolding fall add is_open
orderly_turn b b' hs rs e o stays p = p
orderly_turn b b' hs rs e o (falls z) p =
    record { once = once_take b.stored b.rows p.once; unended = λ n q. absurd (false≢true q) }
orderly_turn b b' hs rs e o (opens n k z h) p = record {
  once = p.once;
  unended = λ x q. opened_cases n k x b.opened q (λ y. rowless_none b.rows x (rw y at h)) (p.unended x);
}
orderly_turn b b' hs rs e o (adds v ch w) p = record {
  once = once_version b.rows v p.once;
  unended = λ n q. time_version b.rows v n ∙ p.unended n q;
}
orderly_turn b b' hs rs e o (ends n t ch a h z) p = record {
  once = once_commit b.rows n t (p.unended n a) p.once;
  unended = λ x q. time_other b.rows n t x (still_open n x b.opened q) ∙ p.unended x (close_less b.opened n x q);
}
orderly_turn b b' hs rs e o (closes n) p =
    record { once = p.once; unended = λ x q. p.unended x (close_less b.opened n x q) }
orderly_turn b b' hs rs e o stores p = record { once = p.once; unended = p.unended }

pub orderly : {l d : ℕ} {es : List Event} → Run l d es → Orderly (book_at l d es)
unfolding is_open blank time_of
orderly r = always r (λ b hs. Orderly b) orderly_turn (record { once = tt; unended = λ n q. refl })

pub one_time : OneTime
unfolding OneTime
one_time l d es n t r a = once_time (book_at l d es).rows n t (orderly r).once a
