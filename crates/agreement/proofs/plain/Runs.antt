-- A run event by event: what each event does to the book (`Turn`), by `keeps`, and what holds at every moment if each
-- turn keeps it (`along`). An accepted call names an open number because an active place's number is open in the book.
use Rattle.std.specs.Prelude.{Some, Option}
use Prim.Native.Nat.{ℕ, zero, suc, ◌<◌}
use native.Mathlib.Omega.{arith}
use mathlib.Core.Bool.{Bool, true, false, cond, false≢true}
use mathlib.Core.List.{List, [], ◌∷◌, ◌++◌, append_assoc, append-nil}
use mathlib.Core.Path.{◌≡◌, refl, sym, subst}
use lib.ListN.{length}
use borrow.Author.Tests.{eq-eqb}
use Rattle.layout.specs.Journal.{Record}
use Rattle.fields.proofs.Choose.{and_0, and_1}
use Rattle.store.specs.declared.State.{State}
use Rattle.store.specs.Answer.{Outcome, answer_number}
use Rattle.store.specs.Places.{find_active}
use Rattle.store.proofs.AskLaws.{Passed}
use Rattle.runs.specs.Moments.{begins, Run, world_after, book_after, book_at, if_accepted, commit_seen, row_seen}
use Rattle.runs.specs.Moments.{event_row, rows_seen, any_seen, is_break, named}
use Rattle.runs.specs.Event.{Call, Event, opening, cut, call, begin, write, erase, current_read, commit, abort, as_of}
use Rattle.runs.specs.Event.{changes, store_log, store_page, checkpoint, Observation, typed}
use Rattle.runs.specs.Book.{Version, Row, version, committed, Book, blank, last_time, has_row, is_open, close, add}
use Rattle.runs.specs.Book.{commit_time, commits, zeros, fall, entered, unless_refused, feed, Answers, Fits}
use Rattle.runs.specs.Machine.{World, up, down, seen_of, step, allowed, is_run, trace, formatted}
use Rattle.runs.proofs.Asks.{is_reading, asks, Way, refused, begins as begins_way, writes, erases, looks}
use Rattle.runs.proofs.Asks.{commits as commits_way, ends as ends_way, aborts, logs, pages, checks, way, found}
use Rattle.agreement.proofs.history.Ghost.{Disk}
use Rattle.agreement.proofs.invariant.Invariant.{Up, Inv, running, fallen}
use Rattle.agreement.proofs.invariant.PlaceFacts.{active_found}
use Rattle.agreement.proofs.reads.ReadFacts.{positive}
use Rattle.agreement.proofs.Start.{start}
use Rattle.agreement.proofs.Main.{keeps}
use Rattle.agreement.proofs.plain.Laws.{none_some, neither_true}

-- ---- an accepted call names an open number

module _ {l d : ℕ} {m c : List ℕ} {s : State} {b : Book} {disk : Disk} {closed : List (List Record)}
    {tail : List Record} (u : Up l d m c s b disk closed tail) where
  active_open : (n i : ℕ) → find_active s.places n ≡ Some i → is_open b.opened n ≡ true
  active_open n i f =
      let a = active_found u.living n i f in
      rw a.2 at (u.opens.known i a.0 (omega (arith, a.1, a.2)) a.3)

  named_open : (x : Call) {o : Outcome} → Way m c s x o → (n : ℕ) → named x ≡ Some n → answer_number o.answer ≡ 0
      → is_open b.opened n ≡ true
  unfolding answer_number
  named_open x (refused y r w) n e z = absurd (omega (arith, positive r))
  named_open x (begins_way clock i p w) n e z = absurd (none_some e)
  named_open x (writes a key i v p w) n e z = let q : a ≡ n = cc in rw q at (active_open a i w)
  named_open x (erases a key i p w) n e z = let q : a ≡ n = cc in rw q at (active_open a i w)
  named_open x (looks y a v w r p q g) n e z = looked y r p e
    where
      looked : (y : Call) → is_reading y ≡ true → Passed (asks m c s y) → named y ≡ Some n → is_open b.opened n ≡ true
      looked (begin k) r p e = absurd (none_some e)
      looked (write a key v) r p e = absurd (false≢true r)
      looked (erase a key) r p e = absurd (false≢true r)
      looked (current_read a key) r p e =
          let q : a ≡ n = cc in
          found (λ (f : Option ℕ). find_active s.places a ≡ f → is_open b.opened n ≡ true) (find_active s.places a) p.1.1.0
          (λ i g h. rw q at (active_open a i h)) refl
      looked (commit a k) r p e = absurd (false≢true r)
      looked (abort a) r p e = absurd (false≢true r)
      looked (as_of key t) r p e = absurd (none_some e)
      looked (changes key t1 t2 buffer) r p e = absurd (none_some e)
      looked store_log r p e = absurd (none_some e)
      looked (store_page p) r q e = absurd (none_some e)
      looked checkpoint r p e = absurd (none_some e)
  named_open x (commits_way a clock i p w q) n e z = let q : a ≡ n = cc in rw q at (active_open a i w)
  named_open x (ends_way a clock i p w q) n e z = let q : a ≡ n = cc in rw q at (active_open a i w)
  named_open x (aborts a i p w) n e z = let q : a ≡ n = cc in rw q at (active_open a i w)
  named_open x (logs p) n e z = absurd (none_some e)
  named_open x (pages a p) n e z = absurd (none_some e)
  named_open x (checks ph p w) n e z = absurd (none_some e)

abbrev pub Knows : Book → Event → Observation → Type 0
Knows b (opening c) o = Unit {0}
Knows b cut o = Unit {0}
Knows b (call k) o = (n : ℕ) → named k ≡ Some n → o.refusal ≡ 0 → is_open b.opened n ≡ true

pub knows : (l d : ℕ) (w : World) (b : Book) (e : Event) → Inv l d w b → allowed l d w e ≡ true
    → Knows b e (step l d w e).seen
unfolding step seen_of
knows l d w b (opening y) i a = tt
knows l d w b cut i a = tt
knows l d (up m c s) b (call x) (running u) a = λ n q z. named_open u x (way m c s x) n q z
knows l d (down m) b (call x) (fallen z) a = absurd (false≢true a)

-- ---- what an event does to the book, and which row it brings

pub data Turn (b : Book) (e : Event) (o : Observation) : Book → List Row → Type 0 where
  stays : Turn b e o b []
  falls : is_break e o ≡ true → Turn b e o (fall b) []
  opens : (n k : ℕ) → begins n e o ≡ true → has_row b.rows n ≡ false
      → Turn b e o (record { opened = record { number = n; clock = k } ∷ b.opened; rows = b.rows; stored = b.stored })
      []
  adds : (v : Version) (changed : Bool) → is_open b.opened v.number ≡ true
      → Turn b e o (add b (version v) changed b.opened) (version v ∷ [])
  ends : (n t : ℕ) (changed : Bool) → is_open b.opened n ≡ true → has_row b.rows n ≡ true → last_time b.rows < t
      → Turn b e o (add b (committed n t) changed (close b.opened n)) (committed n t ∷ [])
  closes : (n : ℕ) → Turn b e o (record { opened = close b.opened n; rows = b.rows; stored = b.stored }) []
  stores : Turn b e o (record { opened = b.opened; rows = b.rows; stored = length b.rows }) []

seen_time : (n t : ℕ) → 0 < t → commit_seen n t ≡ committed n t ∷ []
seen_time n zero h = absurd (omega arith)
seen_time n (suc t) h = refl

call_turn : (b : Book) (x : Call) (o : Observation) → o.refusal ≡ 0 → Answers b x o
    → ((n : ℕ) → named x ≡ Some n → is_open b.opened n ≡ true)
    → Turn b (call x) o (entered b x o.result o.changed) (row_seen x o.result)
unfolding entered
call_turn b (begin k) o z a n = opens o.result k (rw (z, eq-eqb o.result o.result refl)) a.1
call_turn b (write n key v) o z a k = adds (record { number = n; key = key; kind = 0; value = v }) o.changed (k n refl)
call_turn b (erase n key) o z a k =
    adds (record { number = n; key = key; kind = 1; value = zeros 16 }) o.changed (k n refl)
call_turn b (current_read n key) o z a k = stays
call_turn b (commit n k) o z a f = go (has_row b.rows n) refl a
  where
    go : (t : Bool) → has_row b.rows n ≡ t → o.result ≡ cond t (commit_time b n k) 0
        → Turn b (call (commit n k)) o (commits t b n k o.changed) (commit_seen n o.result)
    go true h e =
        let late : last_time b.rows < commit_time b n k = unfold commit_time in omega arith in
        rw (e, seen_time n (commit_time b n k) (omega arith)) (ends n (commit_time b n k) o.changed (f n refl) h late)
    go false h e = rw e (closes n)
call_turn b (abort n) o z a k = closes n
call_turn b (as_of key t) o z a k = stays
call_turn b (changes key t1 t2 buffer) o z a k = stays
call_turn b store_log o z a k = stores
call_turn b (store_page p) o z a k = stays
call_turn b checkpoint o z a k = stays

pub turn : (d : ℕ) (b : Book) (e : Event) (o : Observation) → Fits d b e o → Knows b e o
    → Turn b e o (feed b e o) (event_row e o)
unfolding feed
turn d b (opening c) o f k = go o.refusal refl
  where
    go : (r : ℕ) → o.refusal ≡ r → Turn b (opening c) o (unless_refused r b (fall b)) []
    go zero e = falls (eq-eqb o.refusal 0 e)
    go (suc r) e = stays
turn d b cut o f k = falls refl
turn d b (call x) o f k = go o.refusal refl
  where
    go : (r : ℕ) → o.refusal ≡ r → Turn b (call x) o (unless_refused r b (entered b x o.result o.changed))
        (if_accepted r (row_seen x o.result))
    go zero e = call_turn b x o e (f e) (λ n q. k n q e)
    go (suc r) e = stays

-- ---- moments of a run

module _ (l d : ℕ) where
  pub world_append : (es fs : List Event) (w : World) → world_after l d w (es ++ fs)
      ≡ world_after l d (world_after l d w es) fs
  unfolding world_after
  world_append [] fs w = refl
  world_append (e ∷ es) fs w = world_append es fs (step l d w e).world

  pub book_append : (es fs : List Event) (w : World) (b : Book)
      → book_after l d w b (es ++ fs) ≡ book_after l d (world_after l d w es) (book_after l d w b es) fs
  unfolding world_after book_after
  book_append [] fs w b = refl
  book_append (e ∷ es) fs w b = book_append es fs (step l d w e).world (feed b e (step l d w e).seen)

  pub run_append : (es fs : List Event) (w : World) → is_run l d w (es ++ fs) ≡ true
      → (is_run l d w es ≡ true) × (is_run l d (world_after l d w es) fs ≡ true)
  unfolding is_run world_after
  run_append [] fs w r = (refl, r)
  run_append (e ∷ es) fs w r =
      let r1 = and_1 (typed e) _ r in
      let q = run_append es fs (step l d w e).world (and_1 (allowed l d w e) _ r1) in
      (rw (and_0 (typed e) _ r, and_0 (allowed l d w e) _ r1) q.0, q.1)

  pub run_join : (es fs : List Event) (w : World) → is_run l d w es ≡ true → is_run l d (world_after l d w es) fs ≡ true
      → is_run l d w (es ++ fs) ≡ true
  unfolding is_run world_after
  run_join [] fs w r q = q
  run_join (e ∷ es) fs w r q =
      let r1 = and_1 (typed e) _ r in
      rw (and_0 (typed e) _ r, and_0 (allowed l d w e) _ r1)
      (run_join es fs (step l d w e).world (and_1 (allowed l d w e) _ r1) q)

  -- the first event of a run
  pub first_typed : (e : Event) (es : List Event) (w : World) → is_run l d w (e ∷ es) ≡ true
      → (allowed l d w e ≡ true) × (typed e ≡ true) × (is_run l d (step l d w e).world es ≡ true)
  unfolding is_run
  first_typed e es w r =
      let r1 = and_1 (typed e) _ r in
      (and_0 (allowed l d w e) _ r1, and_0 (typed e) _ r, and_1 (allowed l d w e) _ r1)

  pub after_one : (e : Event) (es : List Event) (w : World) (b : Book) → Inv l d w b → is_run l d w (e ∷ es) ≡ true
      → Fits d b e (step l d w e).seen × Knows b e (step l d w e).seen
      × Inv l d (step l d w e).world (feed b e (step l d w e).seen) × (is_run l d (step l d w e).world es ≡ true)
  after_one e es w b i r =
      let t = first_typed e es w r in
      let k = keeps l d w b e i t.0 t.1 in
      (k.0, knows l d w b e i t.0, k.1, t.2)

  pub inv_after : (es : List Event) (w : World) (b : Book) → Inv l d w b → is_run l d w es ≡ true
      → Inv l d (world_after l d w es) (book_after l d w b es)
  unfolding world_after book_after
  inv_after [] w b i r = i
  inv_after (e ∷ es) w b i r =
      let k = after_one e es w b i r in
      inv_after es (step l d w e).world (feed b e (step l d w e).seen) k.2 k.3

  -- what every turn keeps of the book and the rows seen, where no event passes the test q
  module _ (q : Event → Observation → Bool) (P : Book → List Row → Type 0)
      (one : (b b' : Book) (hs rs : List Row) (e : Event) (o : Observation) → q e o ≡ false → Turn b e o b' rs → P b hs
      → P b' (hs ++ rs)) where
    pub along : (es : List Event) (w : World) (b : Book) (hs : List Row) → Inv l d w b → is_run l d w es ≡ true
        → any_seen q es (trace l d w es) ≡ false → P b hs
        → P (book_after l d w b es) (hs ++ rows_seen es (trace l d w es))
    unfolding book_after rows_seen trace any_seen
    along [] w b hs i r n p = subst (P b) (sym (append-nil hs)) p
    along (e ∷ es) w b hs i r n p =
        let o : Observation = (step l d w e).seen in
        let z = neither_true (q e o) (any_seen q es (trace l d (step l d w e).world es)) n in
        let k = after_one e es w b i r in
        subst (P (book_after l d (step l d w e).world (feed b e o) es))
        (append_assoc hs (event_row e o) (rows_seen es (trace l d (step l d w e).world es)))
        (along es (step l d w e).world (feed b e o) (hs ++ event_row e o) k.2 k.3 z.1
        (one b (feed b e o) hs (event_row e o) e o z.0 (turn d b e o k.0 k.1) p))

-- no event passes a test that is always failed
pub never : (es : List Event) (os : List Observation) → any_seen (λ e o. false) es os ≡ false
unfolding any_seen
never [] os = refl
never (e ∷ es) [] = refl
never (e ∷ es) (o ∷ os) = never es os

-- ---- a run from the formatted medium

module _ {l d : ℕ} {es : List Event} (r : Run l d es) where
  pub started : Inv l d (formatted l d) blank
  unfolding formatted
  started = fallen (start l d r.range)

-- the moment before its last event
module _ {l d : ℕ} (es : List Event) (e : Event) (r : Run l d (es ++ (e ∷ []))) where
  pub held : Inv l d (world_after l d (formatted l d) es) (book_at l d es)
  held = inv_after l d es (formatted l d) blank (started r) (run_append l d es (e ∷ []) (formatted l d) r.run).0

  pub comes : is_run l d (world_after l d (formatted l d) es) (e ∷ []) ≡ true
  comes = (run_append l d es (e ∷ []) (formatted l d) r.run).1

  pub may : allowed l d (world_after l d (formatted l d) es) e ≡ true
  may = (first_typed l d e [] (world_after l d (formatted l d) es) comes).0
