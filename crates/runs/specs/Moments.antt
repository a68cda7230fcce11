-- The moments of a run: what the events so far have left, what the book is then, and what is seen of the events that
-- come. A moment is the list of the events before it.
use Rattle.std.specs.Prelude.{ℕ, zero, suc, ◌&&◌, Bool, true, false, ◌||◌, List, [], ◌∷◌, ◌++◌, ◌⊎◌, ◌≡◌, eqb, Option, None, Some}
use Rattle.store.specs.State.{in_range}
use Rattle.runs.specs.Event.{Call, Event, opening, cut, call, begin, write, erase, current_read, commit, abort, as_of}
use Rattle.runs.specs.Event.{changes, store_log, store_page, checkpoint, Observation}
use Rattle.runs.specs.Book.{Row, version, committed, Book, blank, zeros, feed}
use Rattle.runs.specs.Machine.{World, step, is_run, trace, formatted}

-- ---- runs and their moments

-- 01: "A run starts on the medium just formatted": sizes in range, and events that are a run
pub record Run (l d : ℕ) (es : List Event) : Type 0 where
  pub range : in_range l d ≡ true
  pub run : is_run l d (formatted l d) es ≡ true

-- 01: "Each call gets .. that the call before it left": what some events leave of w
unfoldable pub world_after : ℕ → ℕ → World → List Event → World
world_after l d w [] = w
world_after l d w (e ∷ es) = world_after l d (step l d w e).world es

-- 01: "The book is fed the calls and cuts": what the book b is after some events that begin at w
unfoldable pub book_after : ℕ → ℕ → World → Book → List Event → Book
book_after l d w b [] = b
book_after l d w b (e ∷ es) = book_after l d (step l d w e).world (feed b e (step l d w e).seen) es

-- 01: "at first none": the book at the moment after the events es of a run
abbrev pub book_at : ℕ → ℕ → List Event → Book
book_at l d es = book_after l d (formatted l d) blank es

-- 01, 'Runs and their book': what is seen of the event e that comes at this moment
abbrev pub seen_at : ℕ → ℕ → List Event → Event → Observation
seen_at l d es e = (step l d (world_after l d (formatted l d) es) e).seen

-- 01, 'Runs and their book': what is seen of the events fs that come at this moment
abbrev pub trace_at : ℕ → ℕ → List Event → List Event → List Observation
trace_at l d es fs = trace l d (world_after l d (formatted l d) es) fs

-- 01: "Where not refused": the event e that comes at this moment is not refused
abbrev pub Accepted : ℕ → ℕ → List Event → Event → Type 0
Accepted l d es e = (seen_at l d es e).refusal ≡ 0

-- 01: "An opening with a cache of right length is accepted": two accepted openings of a run, with the events fs between
pub record Openings (l d : ℕ) (es : List Event) (c : List ℕ) (fs : List Event) (c' : List ℕ) : Type 0 where
  pub run : Run l d ((es ++ (opening c ∷ fs)) ++ (opening c' ∷ []))
  pub first : Accepted l d es (opening c)
  pub second : Accepted l d (es ++ (opening c ∷ fs)) (opening c')

-- ---- what is seen of some events

-- 01, 'Runs and their book': x is one of the list
abbrev pub Among : {A : Type 0} → A → List A → Type 0
Among x [] = ⊥
Among x (y ∷ ys) = (x ≡ y) ⊎ Among x ys

-- 01: "Where not refused": these rows if the refusal number is 0
abbrev pub if_accepted : ℕ → List Row → List Row
if_accepted zero rs = rs
if_accepted (suc r) rs = []

-- 01: "commit answers its row's time, or 0 without one": the row of a commit with this answer
abbrev pub commit_seen : ℕ → ℕ → List Row
commit_seen n zero = []
commit_seen n (suc t) = committed n (suc t) ∷ []

-- 01: "Write, erase: a row of number, record, kind, value. Commit of a number with rows: a row of number and time": the
-- row that a call brings if it is not refused and gives this answer
abbrev pub row_seen : Call → ℕ → List Row
row_seen (begin k) x = []
row_seen (write n key v) x = version (record { number = n; key = key; kind = 0; value = v }) ∷ []
row_seen (erase n key) x = version (record { number = n; key = key; kind = 1; value = zeros 16 }) ∷ []
row_seen (current_read n key) x = []
row_seen (commit n k) x = commit_seen n x
row_seen (abort n) x = []
row_seen (as_of key t) x = []
row_seen (changes key t1 t2 buffer) x = []
row_seen store_log x = []
row_seen (store_page p) x = []
row_seen checkpoint x = []

-- 01, 'Runs and their book': the row that an event brings
abbrev pub event_row : Event → Observation → List Row
event_row (opening c) o = []
event_row cut o = []
event_row (call k) o = if_accepted o.refusal (row_seen k o.result)

-- 01, 'Runs and their book': the rows of all writes, erases and commits with versions that were not refused, in their
-- order
unfoldable pub rows_seen : List Event → List Observation → List Row
rows_seen [] os = []
rows_seen (e ∷ es) [] = []
rows_seen (e ∷ es) (o ∷ os) = event_row e o ++ rows_seen es os

-- 01, 'Runs and their book': is there an event of this kind among them?
unfoldable pub any_seen : (Event → Observation → Bool) → List Event → List Observation → Bool
any_seen p [] os = false
any_seen p (e ∷ es) [] = false
any_seen p (e ∷ es) (o ∷ os) = p e o || any_seen p es os

-- 01: "Cut, accepted opening": an accepted opening
abbrev pub is_opening : Event → Observation → Bool
is_opening (opening c) o = eqb o.refusal 0
is_opening cut o = false
is_opening (call k) o = false

-- 01: "Cut, accepted opening": either
abbrev pub is_break : Event → Observation → Bool
is_break (opening c) o = eqb o.refusal 0
is_break cut o = true
is_break (call k) o = false

-- 01: "Begin: the answered number opens": is the call a begin?
abbrev pub is_begin : Call → Bool
is_begin (begin k) = true
is_begin (write n key v) = false
is_begin (erase n key) = false
is_begin (current_read n key) = false
is_begin (commit n k) = false
is_begin (abort n) = false
is_begin (as_of key t) = false
is_begin (changes key t1 t2 buffer) = false
is_begin store_log = false
is_begin (store_page p) = false
is_begin checkpoint = false

-- 01: "Begin: the answered number opens with its clock": an accepted begin that answers the number n
abbrev pub begins : ℕ → Event → Observation → Bool
begins n (opening c) o = false
begins n cut o = false
begins n (call k) o = is_begin k && (eqb o.refusal 0 && eqb o.result n)

-- 01: "Commit, abort: the number closes": does the call name n and close it?
abbrev pub is_close : ℕ → Call → Bool
is_close n (begin k) = false
is_close n (write a key v) = false
is_close n (erase a key) = false
is_close n (current_read a key) = false
is_close n (commit a k) = eqb a n
is_close n (abort a) = eqb a n
is_close n (as_of key t) = false
is_close n (changes key t1 t2 buffer) = false
is_close n store_log = false
is_close n (store_page p) = false
is_close n checkpoint = false

-- 01: "Commit, abort: the number closes", "Cut, accepted opening: .. all numbers close": an event that closes the
-- number n
abbrev pub closes : ℕ → Event → Observation → Bool
closes n (opening c) o = eqb o.refusal 0
closes n cut o = true
closes n (call k) o = eqb o.refusal 0 && is_close n k

-- 01: "Write, erase, current read, commit, abort: number active?": the number that a call names
abbrev pub named : Call → Option ℕ
named (begin k) = None
named (write n key v) = Some n
named (erase n key) = Some n
named (current_read n key) = Some n
named (commit n k) = Some n
named (abort n) = Some n
named (as_of key t) = None
named (changes key t1 t2 buffer) = None
named store_log = None
named (store_page p) = None
named checkpoint = None

-- 01: "a row of number and time": a transaction that has committed with versions
pub record Transaction : Type 0 where
  pub number : ℕ
  pub time : ℕ

-- 01: "a row of number and time": the transactions whose commit is among the rows, in their order
unfoldable pub transactions : List Row → List Transaction
transactions [] = []
transactions (version v ∷ rs) = transactions rs
transactions (committed n t ∷ rs) = record { number = n; time = t } ∷ transactions rs
