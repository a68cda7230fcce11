-- What openings find, in plain words: rows that are stored stay, each turn of the book adds behind them, and no number
-- with a stored row commits any more once all numbers are closed.
use Rattle.std.specs.Prelude.{Option, None, Some}
use Prim.Native.Nat.{ℕ, zero, suc, ◌≤◌}
use native.Mathlib.Omega.{arith}
use mathlib.Core.Bool.{Bool, true, false, cond, false≢true}
use mathlib.Core.List.{List, [], ◌∷◌, ◌++◌, append_assoc, append-nil}
use mathlib.Core.Logic.{inl, inr}
use mathlib.Core.Path.{◌≡◌, refl, sym, ap, ◌∙◌, subst}
use lib.ListN.{length, take, length-take, length-append}
use borrow.Author.Tests.{ne_eqb}
use Rattle.runs.specs.Event.{Event, opening, call, store_log, Sight, Observation}
use Rattle.runs.specs.Book.{Version, Row, version, committed, Book, versions, time_of, has_row, is_open, add, fall}
use Rattle.runs.specs.Book.{entered, feed, sight, sights}
use Rattle.runs.specs.Moments.{Run, book_at, seen_at, trace_at, Openings, Among}
use Rattle.runs.specs.Plain.{rows_found, Kept, Durable}
use Rattle.agreement.proofs.plain.Laws.{take_past, versions_append, time_front, time_none, rowless_left, version_has}
use Rattle.agreement.proofs.plain.Laws.{close_less}
use Rattle.agreement.proofs.plain.Runs.{Turn, stays, falls, opens, adds, ends, closes, stores, never}
use Rattle.agreement.proofs.plain.Times.{since, front_run, book_next, opened_cases}
use Rattle.agreement.proofs.plain.Reads.{next_fits}

-- ---- stored rows stay

pub record Front (R : List Row) (b : Book) : Type 0 where
  pub rest : List Row
  pub rows : b.rows ≡ R ++ rest
  pub stored : length R ≤ b.stored

-- one row more is stored, or not
stored_more : (R rest : List Row) (b : Book) (changed : Bool) → b.rows ≡ R ++ rest → length R ≤ b.stored
    → length R ≤ cond changed (length b.rows) b.stored
stored_more R rest b true e h = rw (e, length-append) (omega arith)
stored_more R rest b false e h = h

pub front_turn : (R : List Row) (b b' : Book) (hs rs : List Row) (e : Event) (o : Observation) → Turn b e o b' rs
    → Front R b → Front R b'
unfolding fall add
front_turn R b b' hs rs e o stays p = p
front_turn R b b' hs rs e o (falls z) p =
    let (j, q) = take_past R p.rest b.stored p.stored in
    record { rest = take j p.rest; rows = ap (take b.stored) p.rows ∙ q; stored = p.stored }
front_turn R b b' hs rs e o (opens n k z h) p = record { rest = p.rest; rows = p.rows; stored = p.stored }
front_turn R b b' hs rs e o (adds v ch w) p = record {
  rest = p.rest ++ (version v ∷ []);
  rows = ap (λ (xs : List Row). xs ++ (version v ∷ [])) p.rows ∙ append_assoc R p.rest (version v ∷ []);
  stored = stored_more R p.rest b ch p.rows p.stored;
}
front_turn R b b' hs rs e o (ends n t ch a h z) p = record {
  rest = p.rest ++ (committed n t ∷ []);
  rows = ap (λ (xs : List Row). xs ++ (committed n t ∷ [])) p.rows ∙ append_assoc R p.rest (committed n t ∷ []);
  stored = stored_more R p.rest b ch p.rows p.stored;
}
front_turn R b b' hs rs e o (closes n) p = record { rest = p.rest; rows = p.rows; stored = p.stored }
front_turn R b b' hs rs e o stores p =
    record { rest = p.rest; rows = p.rows; stored = rw (p.rows, length-append) (omega arith) }

-- all that an opening finds then
pub front_found : (R : List Row) (b : Book) → Front R b → (more : List Row) × ((fall b).rows ≡ R ++ more)
unfolding fall
front_found R b p = let (j, q) = take_past R p.rest b.stored p.stored in (take j p.rest, ap (take b.stored) p.rows ∙ q)

logged : (b : Book) (o : Observation) → o.refusal ≡ 0 → Front b.rows (feed b (call store_log) o)
unfolding feed entered
logged b o z = rw z (record { rest = []; rows = sym (append-nil b.rows); stored = omega arith })

pub durable : Durable
unfolding Durable
durable l d es fs r a =
    let x : Event = call store_log in
    let split : (es ++ (x ∷ [])) ++ fs ≡ es ++ (x ∷ fs) = append_assoc es (x ∷ []) fs in
    let run : Run l d ((es ++ (x ∷ [])) ++ fs) = subst (Run l d) (sym split) r in
    let start : Front (book_at l d es).rows (book_at l d (es ++ (x ∷ []))) =
    subst (Front (book_at l d es).rows) (sym (book_next l d es x)) (logged (book_at l d es) (seen_at l d es x) a) in
    let all : Front (book_at l d es).rows (book_at l d ((es ++ (x ∷ [])) ++ fs)) =
    since (es ++ (x ∷ [])) fs run (λ e o. false) (λ b hs. Front (book_at l d es).rows b)
    (λ b b' hs rs e o z. front_turn (book_at l d es).rows b b' hs rs e o)
    (never fs (trace_at l d (es ++ (x ∷ [])) fs)) start in
    subst (λ (gs : List Event). (more : List Row) × (rows_found l d gs ≡ (book_at l d es).rows ++ more)) split
    (front_found (book_at l d es).rows (book_at l d ((es ++ (x ∷ [])) ++ fs)) all)

-- ---- no number with a row among the stored ones commits any more

-- no commit among them is of a number with a row in R
abbrev Foreign : List Row → List Row → Type 0
Foreign R [] = Unit {0}
Foreign R (version v ∷ rs) = Foreign R rs
Foreign R (committed n t ∷ rs) = (has_row R n ≡ false) × Foreign R rs

foreign_take : (R : List Row) (i : ℕ) (rs : List Row) → Foreign R rs → Foreign R (take i rs)
foreign_take R zero rs h = tt
foreign_take R (suc i) [] h = tt
foreign_take R (suc i) (version v ∷ rs) h = foreign_take R i rs h
foreign_take R (suc i) (committed n t ∷ rs) h = (h.0, foreign_take R i rs h.1)

foreign_append : (R rs ss : List Row) → Foreign R rs → Foreign R ss → Foreign R (rs ++ ss)
foreign_append R [] ss h g = g
foreign_append R (version v ∷ rs) ss h g = foreign_append R rs ss h g
foreign_append R (committed n t ∷ rs) ss h g = (h.0, foreign_append R rs ss h.1 g)

foreign_none : (R rs : List Row) (n : ℕ) → has_row R n ≡ true → Foreign R rs → time_of rs n ≡ None
unfolding time_of
foreign_none R [] n h f = refl
foreign_none R (version v ∷ rs) n h f = foreign_none R rs n h f
foreign_none R (committed k t ∷ rs) n h f =
    rw (ne_eqb k n (λ e. false≢true (sym f.0 ∙ ap (has_row R) e ∙ h))) (foreign_none R rs n h f.1)

foreign_time : (R rs : List Row) (n : ℕ) → has_row R n ≡ true → Foreign R rs → time_of (R ++ rs) n ≡ time_of R n
foreign_time R rs n h f = go (time_of R n) refl
  where
    go : (t : Option ℕ) → time_of R n ≡ t → time_of (R ++ rs) n ≡ t
    go None e = time_none R rs n e ∙ foreign_none R rs n h f
    go (Some t) e = time_front R rs n t e

record Shown (R : List Row) (b : Book) : Type 0 where
  rest : List Row
  rows : b.rows ≡ R ++ rest
  stored : length R ≤ b.stored
  foreign : Foreign R rest
  strangers : (n : ℕ) → is_open b.opened n ≡ true → has_row R n ≡ false

shown_turn : (R : List Row) (b b' : Book) (hs rs : List Row) (e : Event) (o : Observation) → Turn b e o b' rs
    → Shown R b → Shown R b'
unfolding fall add is_open
shown_turn R b b' hs rs e o stays p = p
shown_turn R b b' hs rs e o (falls z) p =
    let (j, q) = take_past R p.rest b.stored p.stored in
    record {
      rest = take j p.rest;
      rows = ap (take b.stored) p.rows ∙ q;
      stored = p.stored;
      foreign = foreign_take R j p.rest p.foreign;
      strangers = λ n q. absurd (false≢true q);
    }
shown_turn R b b' hs rs e o (opens n k z h) p = record {
  rest = p.rest;
  rows = p.rows;
  stored = p.stored;
  foreign = p.foreign;
  strangers = λ x q. opened_cases n k x b.opened q (λ y. rowless_left R p.rest x (rw (p.rows, y) at h)) (p.strangers x);
}
shown_turn R b b' hs rs e o (adds v ch w) p = record {
  rest = p.rest ++ (version v ∷ []);
  rows = ap (λ (xs : List Row). xs ++ (version v ∷ [])) p.rows ∙ append_assoc R p.rest (version v ∷ []);
  stored = stored_more R p.rest b ch p.rows p.stored;
  foreign = foreign_append R p.rest (version v ∷ []) p.foreign tt;
  strangers = p.strangers;
}
shown_turn R b b' hs rs e o (ends n t ch a h z) p = record {
  rest = p.rest ++ (committed n t ∷ []);
  rows = ap (λ (xs : List Row). xs ++ (committed n t ∷ [])) p.rows ∙ append_assoc R p.rest (committed n t ∷ []);
  stored = stored_more R p.rest b ch p.rows p.stored;
  foreign = foreign_append R p.rest (committed n t ∷ []) p.foreign (p.strangers n a, tt);
  strangers = λ x q. p.strangers x (close_less b.opened n x q);
}
shown_turn R b b' hs rs e o (closes n) p = record {
  rest = p.rest;
  rows = p.rows;
  stored = p.stored;
  foreign = p.foreign;
  strangers = λ x q. p.strangers x (close_less b.opened n x q);
}
shown_turn R b b' hs rs e o stores p = record {
  rest = p.rest;
  rows = p.rows;
  stored = rw (p.rows, length-append) (omega arith);
  foreign = p.foreign;
  strangers = p.strangers;
}

sights_append : (rs : List Row) (vs ws : List Version) → sights rs (vs ++ ws) ≡ sights rs vs ++ sights rs ws
unfolding sights
sights_append rs [] ws = refl
sights_append rs (v ∷ vs) ws = ap (λ (xs : List Sight). sight rs v ∷ xs) (sights_append rs vs ws)

sights_same : (rs ss : List Row) (vs : List Version)
    → ((v : Version) → Among v vs → time_of rs v.number ≡ time_of ss v.number) → sights rs vs ≡ sights ss vs
unfolding sights sight
sights_same rs ss [] h = refl
sights_same rs ss (v ∷ vs) h = rw (h v (inl refl), sights_same rs ss vs (λ w a. h w (inr a)))

-- the slots found before are at the front of those found now
sights_front : (R rs : List Row) → Foreign R rs → sights (R ++ rs) (versions (R ++ rs))
    ≡ sights R (versions R) ++ sights (R ++ rs) (versions rs)
sights_front R rs f =
    ap (sights (R ++ rs)) (versions_append R rs)
    ∙ sights_append (R ++ rs) (versions R) (versions rs)
    ∙ ap (λ (xs : List Sight). xs ++ sights (R ++ rs) (versions rs))
    (sights_same (R ++ rs) R (versions R) (λ v a. foreign_time R rs v.number (version_has v R a) f))

shown_found : (R : List Row) (b : Book) → Shown R b → (more : List Sight)
    × (sights (fall b).rows (versions (fall b).rows) ≡ sights R (versions R) ++ more)
unfolding fall
shown_found R b p =
    let (j, q) = take_past R p.rest b.stored p.stored in
    let e : take b.stored b.rows ≡ R ++ take j p.rest = ap (take b.stored) p.rows ∙ q in (
      sights (R ++ take j p.rest) (versions (take j p.rest)),
      ap (λ (xs : List Row). sights xs (versions xs)) e
          ∙ sights_front R (take j p.rest) (foreign_take R j p.rest p.foreign),
    )

-- ---- from one opening to another

opened_book : (b : Book) (c : List ℕ) (o : Observation) → o.refusal ≡ 0 → feed b (opening c) o ≡ fall b
unfolding feed
opened_book b c o z = rw z

opened_shown : (b : Book) → Shown (fall b).rows (fall b)
unfolding fall is_open
opened_shown b = record {
  rest = [];
  rows = sym (append-nil (take b.stored b.rows));
  stored = rw length-take (omega arith);
  foreign = tt;
  strangers = λ n q. absurd (false≢true q);
}

module _ {l d : ℕ} {es fs : List Event} {c c' : List ℕ} (x : Openings l d es c fs c') where
  pub halves : (es ++ (opening c ∷ [])) ++ fs ≡ es ++ (opening c ∷ fs)
  halves = append_assoc es (opening c ∷ []) fs

  pub before : Run l d (es ++ (opening c ∷ fs))
  before = front_run (es ++ (opening c ∷ fs)) (opening c' ∷ []) x.run

  pub parted : Run l d ((es ++ (opening c ∷ [])) ++ fs)
  parted = subst (Run l d) (sym halves) before

  pub book_first : book_at l d (es ++ (opening c ∷ [])) ≡ fall (book_at l d es)
  book_first = book_next l d es (opening c) ∙ opened_book (book_at l d es) c (seen_at l d es (opening c)) x.first

  found_first : (seen_at l d es (opening c)).found ≡ sights (rows_found l d es) (versions (rows_found l d es))
  found_first = (next_fits es (opening c) (front_run (es ++ (opening c ∷ [])) fs parted)).finds x.first

  pub found_second : (seen_at l d (es ++ (opening c ∷ fs)) (opening c')).found
      ≡ sights (rows_found l d (es ++ (opening c ∷ fs))) (versions (rows_found l d (es ++ (opening c ∷ fs))))
  found_second = (next_fits (es ++ (opening c ∷ fs)) (opening c') x.run).finds x.second

  shown_then : Shown (rows_found l d es) (book_at l d (es ++ (opening c ∷ fs)))
  shown_then =
      subst (λ (gs : List Event). Shown (rows_found l d es) (book_at l d gs)) halves
      (since (es ++ (opening c ∷ [])) fs parted (λ e o. false) (λ b hs. Shown (rows_found l d es) b)
      (λ b b' hs rs e o z. shown_turn (rows_found l d es) b b' hs rs e o)
      (never fs (trace_at l d (es ++ (opening c ∷ [])) fs))
      (subst (Shown (rows_found l d es)) (sym book_first) (opened_shown (book_at l d es))))

pub kept : Kept
unfolding Kept
kept l d es fs c c' x =
    let (more, e) = shown_found (rows_found l d es) (book_at l d (es ++ (opening c ∷ fs))) (shown_then x) in
    (more, found_second x ∙ e ∙ ap (λ (xs : List Sight). xs ++ more) (sym (found_first x)))
