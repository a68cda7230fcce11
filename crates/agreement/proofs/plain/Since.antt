-- From one opening to the next, in plain words: until the first cut the rows seen follow those found; from then on
-- nothing but cuts and refused openings comes. Every commit in the book has a version before it, so an opening shows
-- its time.
use Rattle.store.specs.declared.Refusal.{Refusal}
use Rattle.std.specs.Prelude.{Some, Err, Ok, Result}
use Prim.Native.Nat.{ℕ, zero, suc, ◌≤◌}
use native.Mathlib.Omega.{arith}
use mathlib.Core.Bool.{true, false, false≢true}
use mathlib.Core.List.{List, [], ◌∷◌, ◌++◌, append_assoc, append-nil}
use mathlib.Core.Logic.{◌⊎◌, inl, inr, ◌≢◌}
use mathlib.Core.Path.{◌≡◌, refl, sym, ap, ◌∙◌, subst}
use lib.Dec.{eqb}
use lib.ListN.{length, take, length-take}
use lib.Seq.{take_all}
use borrow.Author.Tests.{eqb-true, eqb-false}
use Rattle.store.specs.declared.Answer.{Answer}
use Rattle.store.specs.declared.Answer.TheVariants.{Done, Begun, Written, Committed, Opened, Missing, Erased, Present, Listed}
use Rattle.store.specs.Answer.{Outcome, answer_number}
use Rattle.store.specs.Open.{open_of}
use Rattle.store.specs.Format.{fresh_medium}
use Rattle.runs.specs.Event.{Call, Event, opening, cut, call, Sight, Observation}
use Rattle.runs.specs.Book.{Version, Row, version, committed, Book, blank, versions, time_of, has_row, add, fall}
use Rattle.runs.specs.Book.{unless_refused, feed, sight, sights}
use Rattle.runs.specs.Machine.{World, down, medium_of, opened_to, seen_of, step, is_run, trace, formatted}
use Rattle.runs.specs.Machine.{opens as open_step}
use Rattle.runs.specs.Moments.{Run, world_after, book_after, book_at, trace_at, Openings, Among, event_row, rows_seen}
use Rattle.runs.specs.Moments.{any_seen, is_opening, is_break, Transaction, transactions}
use Rattle.runs.specs.Plain.{rows_found, First, Found}
use Rattle.agreement.proofs.invariant.Invariant.{Inv}
use Rattle.agreement.proofs.plain.Laws.{take_past, neither_true, either_true, transactions_append, transactions_take}
use Rattle.agreement.proofs.plain.Laws.{row_transaction, transaction_row, time_among}
use Rattle.agreement.proofs.plain.Runs.{Turn, stays, falls, opens, adds, ends, closes, stores, turn, run_append}
use Rattle.agreement.proofs.plain.Runs.{first_typed, after_one, inv_after, started, book_append}
use Rattle.agreement.proofs.plain.Times.{always, rows_turn, Once, once_take, once_time, orderly}
use Rattle.agreement.proofs.plain.Reads.{next_fits}
use Rattle.agreement.proofs.plain.Found.{front_turn, halves, before, parted, book_first, found_second}

-- ---- from a cut on nothing comes until an opening is accepted

take_twice : {A : Type 0} (n : ℕ) (xs : List A) → take n (take n xs) ≡ take n xs
take_twice n xs = take_all n (take n xs) (rw length-take (omega arith))

fall_twice : (b : Book) → fall (fall b) ≡ fall b
unfolding fall
fall_twice b = ap (λ (rs : List Row). record { opened = []; rows = rs; stored = b.stored }) (take_twice b.stored b.rows)

-- a refused opening leaves the world
refused_world : (a : Result Answer Refusal) (w : World) (o : Outcome) → answer_number a ≢ 0 → opened_to a w o ≡ w
unfolding answer_number
refused_world (Err r) w o h = refl
refused_world (Ok Done) w o h = absurd (h refl)
refused_world (Ok (Begun n)) w o h = absurd (h refl)
refused_world (Ok (Written n)) w o h = absurd (h refl)
refused_world (Ok (Committed t)) w o h = absurd (h refl)
refused_world (Ok (Opened t)) w o h = absurd (h refl)
refused_world (Ok Missing) w o h = absurd (h refl)
refused_world (Ok Erased) w o h = absurd (h refl)
refused_world (Ok Present) w o h = absurd (h refl)
refused_world (Ok (Listed n)) w o h = absurd (h refl)

kept_book : (n : ℕ) (b new : Book) → n ≢ 0 → unless_refused n b new ≡ b
kept_book zero b new h = absurd (h refl)
kept_book (suc n) b new h = refl

module _ (l d : ℕ) where
  stays_down : (m : List ℕ) (y : List ℕ) → eqb (step l d (down m) (opening y)).seen.refusal 0 ≡ false
      → (step l d (down m) (opening y)).world ≡ down m
  unfolding step open_step seen_of
  stays_down m y e =
      refused_world (open_of m y l d).answer (down m) (open_of m y l d)
      (eqb-false (answer_number (open_of m y l d).answer) 0 e)

  book_down : (b : Book) (y : List ℕ) (o : Observation) → eqb o.refusal 0 ≡ false → feed b (opening y) o ≡ b
  unfolding feed
  book_down b y o e = kept_book o.refusal b (fall b) (eqb-false o.refusal 0 e)

  -- a call is not allowed
  not_called : (m : List ℕ) (k : Call) (es : List Event) → is_run l d (down m) (call k ∷ es) ≡ true → ⊥
  not_called m k es r = false≢true (first_typed l d (call k) es (down m) r).0

  cut_again : (es : List Event) (m : List ℕ) (b : Book) → fall b ≡ b → is_run l d (down m) (cut ∷ es) ≡ true
      → any_seen is_opening (cut ∷ es) (trace l d (down m) (cut ∷ es)) ≡ false
      → (is_run l d (down m) es ≡ true → any_seen is_opening es (trace l d (down m) es) ≡ false
      → (book_after l d (down m) b es ≡ b) × (rows_seen es (trace l d (down m) es) ≡ []))
      → (book_after l d (down m) b (cut ∷ es) ≡ b) × (rows_seen (cut ∷ es) (trace l d (down m) (cut ∷ es)) ≡ [])
  unfolding book_after rows_seen trace any_seen step feed
  cut_again es m b f r n ih = rw f (ih (first_typed l d cut es (down m) r).2 n)

  quiet_down : (es : List Event) (m : List ℕ) (b : Book) → fall b ≡ b → is_run l d (down m) es ≡ true
      → any_seen is_opening es (trace l d (down m) es) ≡ false
      → (book_after l d (down m) b es ≡ b) × (rows_seen es (trace l d (down m) es) ≡ [])
  unfolding book_after rows_seen trace any_seen
  quiet_down [] m b f r n = (refl, refl)
  quiet_down (opening y ∷ es) m b f r n =
      let o : Observation = (step l d (down m) (opening y)).seen in
      let z = neither_true (eqb o.refusal 0)
      (any_seen is_opening es (trace l d (step l d (down m) (opening y)).world es)) n in
      let w : (step l d (down m) (opening y)).world ≡ down m = stays_down m y z.0 in
      let q = quiet_down es m b f (subst (λ (v : World). is_run l d v es ≡ true) w
      (first_typed l d (opening y) es (down m) r).2)
      (subst (λ (v : World). any_seen is_opening es (trace l d v es) ≡ false) w z.1) in
      (rw (w, book_down b y o z.0) q.0, rw w q.1)
  quiet_down (cut ∷ es) m b f r n = cut_again es m b f r n (λ r' n'. quiet_down es m b f r' n')
  quiet_down (call k ∷ es) m b f r n = absurd (not_called m k es r)

  -- ---- up to the next opening

  module _ (R : List Row) where
    Reached : List Event → World → Book → List Row → Type 0
    Reached es w b hs =
        (j : ℕ) × ((fall (book_after l d w b es)).rows ≡ R ++ take j (hs ++ rows_seen es (trace l d w es)))

    -- what follows an event that is no cut, and what a cut
    onward : (e : Event) (es : List Event) (w : World) (b : Book) (hs : List Row) → Inv l d w b
        → is_run l d w (e ∷ es) ≡ true → is_break e (step l d w e).seen ≡ false → b.rows ≡ R ++ hs → length R ≤ b.stored
        → ((feed b e (step l d w e).seen).rows ≡ R ++ (hs ++ event_row e (step l d w e).seen))
        × (length R ≤ (feed b e (step l d w e).seen).stored)
    onward e es w b hs i r q p s =
        let o : Observation = (step l d w e).seen in
        let k = after_one l d e es w b i r in
        let t = turn d b e o k.0 k.1 in (
          rows_turn R b (feed b e o) hs (event_row e o) e o q t p,
          (front_turn R b (feed b e o) hs (event_row e o) e o t (record { rest = hs; rows = p; stored = s })).stored,
        )

    cut_short : (es : List Event) (w : World) (b : Book) (hs : List Row) → is_run l d w (cut ∷ es) ≡ true
        → any_seen is_opening (cut ∷ es) (trace l d w (cut ∷ es)) ≡ false → b.rows ≡ R ++ hs → length R ≤ b.stored
        → Reached (cut ∷ es) w b hs
    unfolding Reached book_after rows_seen trace any_seen step feed
    cut_short es w b hs r n p s =
        let q = quiet_down es (medium_of w) (fall b) (fall_twice b) (first_typed l d cut es w r).2 n in
        let (j, e) = take_past R hs b.stored s in
        let z : (fall b).rows ≡ R ++ take j hs = unfold fall in (ap (take b.stored) p ∙ e) in
        (j, rw (q.0, q.1, fall_twice b, append-nil hs) z)

    reached : (es : List Event) (w : World) (b : Book) (hs : List Row) → Inv l d w b → is_run l d w es ≡ true
        → any_seen is_opening es (trace l d w es) ≡ false → b.rows ≡ R ++ hs → length R ≤ b.stored
        → Reached es w b hs
    unfolding Reached book_after rows_seen trace any_seen
    reached [] w b hs i r n p s =
        let (j, e) = take_past R hs b.stored s in
        (j, rw (append-nil hs) (unfold fall in (ap (take b.stored) p ∙ e)))
    reached (opening y ∷ es) w b hs i r n p s =
        let o : Observation = (step l d w (opening y)).seen in
        let z = neither_true (eqb o.refusal 0)
        (any_seen is_opening es (trace l d (step l d w (opening y)).world es)) n in
        let k = after_one l d (opening y) es w b i r in
        let g = onward (opening y) es w b hs i r z.0 p s in
        reached es (step l d w (opening y)).world (feed b (opening y) o) hs k.2 k.3 z.1 (rw (append-nil hs) at g.0) g.1
    reached (cut ∷ es) w b hs i r n p s = cut_short es w b hs r n p s
    reached (call x ∷ es) w b hs i r n p s =
        let o : Observation = (step l d w (call x)).seen in
        let k = after_one l d (call x) es w b i r in
        let g = onward (call x) es w b hs i r refl p s in
        let (j, e) = reached es (step l d w (call x)).world (feed b (call x) o) (hs ++ event_row (call x) o) k.2 k.3
        n g.0 g.1 in (
          j,
          e ∙ ap (λ (xs : List Row). R ++ take j xs)
              (append_assoc hs (event_row (call x) o) (rows_seen es (trace l d (step l d w (call x)).world es))),
        )

-- ---- every commit has a version before it

-- a version by the number n
abbrev By : List Version → ℕ → Type 0
By vs n = (v : Version) × Among v vs × (v.number ≡ n)

-- vs are the versions before the rows
abbrev Rooted : List Version → List Row → Type 0
Rooted vs [] = Unit {0}
Rooted vs (version v ∷ rs) = Rooted (v ∷ vs) rs
Rooted vs (committed n t ∷ rs) = By vs n × Rooted vs rs

rooted_take : (i : ℕ) (vs : List Version) (rs : List Row) → Rooted vs rs → Rooted vs (take i rs)
rooted_take zero vs rs h = tt
rooted_take (suc i) vs [] h = tt
rooted_take (suc i) vs (version v ∷ rs) h = rooted_take i (v ∷ vs) rs h
rooted_take (suc i) vs (committed n t ∷ rs) h = (h.0, rooted_take i vs rs h.1)

rooted_version : (vs : List Version) (rs : List Row) (v : Version) → Rooted vs rs → Rooted vs (rs ++ (version v ∷ []))
rooted_version vs [] v h = tt
rooted_version vs (version w ∷ rs) v h = rooted_version (w ∷ vs) rs v h
rooted_version vs (committed n t ∷ rs) v h = (h.0, rooted_version vs rs v h.1)

-- a version before the rows or among them
shift_in : (v : Version) (vs : List Version) (rs : List Row) (n : ℕ) → By vs n ⊎ By (versions (version v ∷ rs)) n
    → By (v ∷ vs) n ⊎ By (versions rs) n
unfolding versions
shift_in v vs rs n (inl (w, a, e)) = inl (w, inr a, e)
shift_in v vs rs n (inr (w, inl a, e)) = inl (w, inl a, e)
shift_in v vs rs n (inr (w, inr a, e)) = inr (w, a, e)

shift_out : (v : Version) (vs : List Version) (rs : List Row) (n : ℕ) → By (v ∷ vs) n ⊎ By (versions rs) n
    → By vs n ⊎ By (versions (version v ∷ rs)) n
unfolding versions
shift_out v vs rs n (inl (w, inl a, e)) = inr (w, inl a, e)
shift_out v vs rs n (inl (w, inr a, e)) = inl (w, a, e)
shift_out v vs rs n (inr (w, a, e)) = inr (w, inr a, e)

rooted_commit : (vs : List Version) (rs : List Row) (n t : ℕ) → By vs n ⊎ By (versions rs) n → Rooted vs rs
    → Rooted vs (rs ++ (committed n t ∷ []))
unfolding versions
rooted_commit vs [] n t (inl a) h = (a, tt)
rooted_commit vs [] n t (inr (v, a, e)) h = absurd a
rooted_commit vs (version v ∷ rs) n t a h = rooted_commit (v ∷ vs) rs n t (shift_in v vs rs n a) h
rooted_commit vs (committed k u ∷ rs) n t a h = (h.0, rooted_commit vs rs n t a h.1)

rooted_has : (vs : List Version) (rs : List Row) (n : ℕ) → Rooted vs rs → has_row rs n ≡ true
    → By vs n ⊎ By (versions rs) n
unfolding versions has_row
rooted_has vs [] n h e = absurd (false≢true e)
rooted_has vs (version v ∷ rs) n h e =
    go (either_true (eqb v.number n) (has_row rs n) e) (λ q. rooted_has (v ∷ vs) rs n h q)
  where
    go : (eqb v.number n ≡ true) ⊎ (has_row rs n ≡ true) → (has_row rs n ≡ true → By (v ∷ vs) n ⊎ By (versions rs) n)
        → By vs n ⊎ By (v ∷ versions rs) n
    go (inl q) ih = inr (v, inl refl, eqb-true v.number n q)
    go (inr q) ih = unfold versions in shift_out v vs rs n (ih q)
rooted_has vs (committed k t ∷ rs) n h e = go (either_true (eqb k n) (has_row rs n) e) (λ q. rooted_has vs rs n h.1 q)
  where
    go : (eqb k n ≡ true) ⊎ (has_row rs n ≡ true) → (has_row rs n ≡ true → By vs n ⊎ By (versions rs) n)
        → By vs n ⊎ By (versions rs) n
    go (inl q) ih = inl (subst (By vs) (eqb-true k n q) h.0)
    go (inr q) ih = ih q

rooted_each : (vs : List Version) (rs : List Row) (n t : ℕ) → Rooted vs rs → Among (committed n t) rs
    → By vs n ⊎ By (versions rs) n
unfolding versions
rooted_each vs [] n t h a = absurd a
rooted_each vs (version v ∷ rs) n t h (inl e) = let z : ◌≡◌ {A = ℕ} 0 1 = cc in absurd (omega arith)
rooted_each vs (version v ∷ rs) n t h (inr a) = shift_out v vs rs n (rooted_each (v ∷ vs) rs n t h a)
rooted_each vs (committed k u ∷ rs) n t h (inl e) = let z : k ≡ n = cc in inl (subst (By vs) z h.0)
rooted_each vs (committed k u ∷ rs) n t h (inr a) = rooted_each vs rs n t h.1 a

rooted_turn : (b b' : Book) (hs rs : List Row) (e : Event) (o : Observation) → Turn b e o b' rs → Rooted [] b.rows
    → Rooted [] b'.rows
unfolding fall add
rooted_turn b b' hs rs e o stays p = p
rooted_turn b b' hs rs e o (falls z) p = rooted_take b.stored [] b.rows p
rooted_turn b b' hs rs e o (opens n k z h) p = p
rooted_turn b b' hs rs e o (adds v ch w) p = rooted_version [] b.rows v p
rooted_turn b b' hs rs e o (ends n t ch a h z) p = rooted_commit [] b.rows n t (rooted_has [] b.rows n p h) p
rooted_turn b b' hs rs e o (closes n) p = p
rooted_turn b b' hs rs e o stores p = p

rooted : {l d : ℕ} {es : List Event} → Run l d es → Rooted [] (book_at l d es).rows
unfolding blank
rooted r = always r (λ b hs. Rooted [] b.rows) rooted_turn tt

-- ---- the slots shown and their times

sight_among : (rs : List Row) (vs : List Version) (v : Version) → Among v vs → Among (sight rs v) (sights rs vs)
unfolding sights
sight_among rs [] v a = absurd a
sight_among rs (w ∷ vs) v (inl e) = inl (ap (sight rs) e)
sight_among rs (w ∷ vs) v (inr a) = inr (sight_among rs vs v a)

among_sight : (rs : List Row) (vs : List Version) (s : Sight) → Among s (sights rs vs)
    → (v : Version) × (s ≡ sight rs v)
unfolding sights
among_sight rs [] s a = absurd a
among_sight rs (w ∷ vs) s (inl e) = (w, e)
among_sight rs (w ∷ vs) s (inr a) = among_sight rs vs s a

shows : (rs : List Row) (s : Sight) (t : ℕ) → Among s (sights rs (versions rs)) → s.time ≡ Some t
    → (n : ℕ) × Among (record { number = n; time = t }) (transactions rs)
unfolding sight
shows rs s t a e =
    let (v, q) = among_sight rs (versions rs) s a in
    (v.number, row_transaction v.number t rs (time_among rs v.number t (sym (ap (λ (x : Sight). x.time) q) ∙ e)))

shown : (rs : List Row) → Rooted [] rs → Once rs → (x : Transaction) → Among x (transactions rs)
    → (s : Sight) × Among s (sights rs (versions rs)) × (s.time ≡ Some x.time)
unfolding sight
shown rs r o x a =
    let c : Among (committed x.number x.time) rs = transaction_row x rs a in
    go (rooted_each [] rs x.number x.time r c) (once_time rs x.number x.time o c)
  where
    go : By [] x.number ⊎ By (versions rs) x.number → time_of rs x.number ≡ Some x.time
        → (s : Sight) × Among s (sights rs (versions rs)) × (s.time ≡ Some x.time)
    go (inl (v, h, e)) t = absurd h
    go (inr (v, h, e)) t = (sight rs v, sight_among rs (versions rs) v h, ap (time_of rs) e ∙ t)

-- ---- what the later opening finds

fallen_rooted : (b : Book) → Rooted [] b.rows → Rooted [] (fall b).rows
unfolding fall
fallen_rooted b r = rooted_take b.stored [] b.rows r

fallen_once : (b : Book) → Once b.rows → Once (fall b).rows
unfolding fall
fallen_once b o = once_take b.stored b.rows o

stored_fall : (b : Book) → length (fall b).rows ≤ (fall b).stored
unfolding fall
stored_fall b = rw length-take (omega arith)

rows_then : {l d : ℕ} {es fs : List Event} {c c' : List ℕ} → Openings l d es c fs c'
    → any_seen is_opening fs (trace_at l d (es ++ (opening c ∷ [])) fs) ≡ false
    → (i : ℕ) × (rows_found l d (es ++ (opening c ∷ fs)) ≡ rows_found l d es
    ++ take i (rows_seen fs (trace_at l d (es ++ (opening c ∷ [])) fs)))
unfolding Reached
rows_then {l} {d} {es} {fs} {c} {c'} x n =
    let first : List Event = es ++ (opening c ∷ []) in
    let t = run_append l d first fs (formatted l d) (parted x).run in
    let b : Book = fall (book_at l d es) in
    let i : Inv l d (world_after l d (formatted l d) first) b =
    subst (Inv l d (world_after l d (formatted l d) first)) (book_first x)
    (inv_after l d first (formatted l d) blank (started (before x)) t.0) in
    let (j, e) = reached l d (rows_found l d es) fs (world_after l d (formatted l d) first) b [] i t.1 n
    (sym (append-nil b.rows)) (stored_fall (book_at l d es)) in
    let same : book_at l d (es ++ (opening c ∷ fs)) ≡ book_after l d (world_after l d (formatted l d) first) b fs =
    ap (book_at l d) (sym (halves x)) ∙ book_append l d first fs (formatted l d) blank
    ∙ ap (λ (z : Book). book_after l d (world_after l d (formatted l d) first) z fs) (book_first x) in
    (j, ap (λ (z : Book). (fall z).rows) same ∙ e)

pub found : Found
unfolding Found
found l d es fs c c' x n =
    let now : List Row = rows_found l d (es ++ (opening c ∷ fs)) in
    let late : List Row = rows_seen fs (trace_at l d (es ++ (opening c ∷ [])) fs) in
    let (i, e) = rows_then x n in
    let (j, q) = transactions_take i late in
    record {
      slots = found_second x;
      rows = (i, e);
      commits = (
        j,
        ap transactions e ∙ transactions_append (rows_found l d es) (take i late)
            ∙ ap (λ (ts : List Transaction). transactions (rows_found l d es) ++ ts) q,
      );
      timely = λ s t a z. shows now s t (subst (λ (ss : List Sight). Among s ss) (found_second x) a) z;
      whole =
          λ y a. let (s, h, z) = shown now (fallen_rooted (book_at l d (es ++ (opening c ∷ fs))) (rooted (before x)))
          (fallen_once (book_at l d (es ++ (opening c ∷ fs))) (orderly (before x)).once) y a in
          (s, subst (λ (ss : List Sight). Among s ss) (sym (found_second x)) h, z);
    }

-- ---- the first opening

blank_shows : sights (fall blank).rows (versions (fall blank).rows) ≡ []
unfolding blank fall versions sights
blank_shows = refl

blank_falls : fall blank ≡ blank
unfolding blank fall
blank_falls = refl

unwritten : (l d : ℕ) (es : List Event) → is_run l d (formatted l d) es ≡ true
    → any_seen is_opening es (trace l d (formatted l d) es) ≡ false → book_at l d es ≡ blank
unfolding formatted
unwritten l d es r n = (quiet_down l d es (fresh_medium l d) blank blank_falls r n).0

pub first : First
unfolding First world_after
first l d es c r a n =
    (next_fits es (opening c) r).finds a
    ∙ ap (λ (b : Book). sights (fall b).rows (versions (fall b).rows))
    (unwritten l d es (run_append l d es (opening c ∷ []) (formatted l d) r.run).0 n)
    ∙ blank_shows
