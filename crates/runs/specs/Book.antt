-- The book of 01's 'Runs and their book', and what it answers. It knows calls, cuts, answers and whether a log block
-- changed, and nothing of the store.
use Rattle.std.specs.Prelude.{ℕ, zero, suc, ◌+◌, ◌*◌, ◌/◌, ◌%◌, max, ◌≡◌, Bool, true, false, cond, not, ◌&&◌, ◌||◌, Option, None, Some}
use Rattle.std.specs.Prelude.{List, [], ◌∷◌, ◌++◌, length, take, drop, replicate, eqb, leb, ltb}
use Rattle.runs.specs.Event.{Call, Event, opening, cut, call, begin, write, erase, current_read, commit, abort, as_of}
use Rattle.runs.specs.Event.{changes, store_log, store_page, checkpoint, Strip, missing, erased, present, Sight}
use Rattle.runs.specs.Event.{Observation}

-- 01: "a row of number, record, kind, value"
pub record Version : Type 0 where
  pub number : ℕ
  pub key : ℕ
  pub kind : ℕ
  pub value : List ℕ

-- 01: "a row of number and time": a commit row; the other is a version row
pub data Row : Type 0 where
  version : Version → Row
  committed : ℕ → ℕ → Row

-- 01: "the answered number opens with its clock": an open number
pub record Opened : Type 0 where
  pub number : ℕ
  pub clock : ℕ

-- 01: "It has open numbers with clocks, rows, and how many are stored; at first none"
pub record Book : Type 0 where
  pub opened : List Opened
  pub rows : List Row
  pub stored : ℕ

-- 01: "at first none": the book before the first event
unfoldable pub blank : Book
blank = record { opened = []; rows = []; stored = 0 }

-- ---- what the rows say

-- 01: "version row n, from 0, is slot n"
unfoldable pub versions : List Row → List Version
versions [] = []
versions (version v ∷ rs) = v ∷ versions rs
versions (committed n t ∷ rs) = versions rs

-- 01: "A version row with a commit row of its number is committed, at that time"
unfoldable pub time_of : List Row → ℕ → Option ℕ
time_of [] n = None
time_of (version v ∷ rs) n = time_of rs n
time_of (committed k t ∷ rs) n = cond (eqb k n) (Some t) (time_of rs n)

-- 01: "the last commit row's time (or 0)"
unfoldable pub last_time : List Row → ℕ
last_time rs = go 0 rs
  where
    go : ℕ → List Row → ℕ
    go t [] = t
    go t (version v ∷ rs) = go t rs
    go t (committed n u ∷ rs) = go u rs

-- 01: "Commit of a number with rows", "had no row": is there a row of the number n, of either kind?
unfoldable pub has_row : List Row → ℕ → Bool
has_row [] n = false
has_row (version v ∷ rs) n = eqb v.number n || has_row rs n
has_row (committed k t ∷ rs) n = eqb k n || has_row rs n

-- 01: "a number that was not open": is the number n open?
unfoldable pub is_open : List Opened → ℕ → Bool
is_open [] n = false
is_open (o ∷ os) n = eqb o.number n || is_open os n

-- 01: "the largest of its two clocks": the clock with which the number opened, 0 if it is not open
unfoldable pub clock_of : List Opened → ℕ → ℕ
clock_of [] n = 0
clock_of (o ∷ os) n = cond (eqb o.number n) o.clock (clock_of os n)

-- 01: "the number closes"
unfoldable pub close : List Opened → ℕ → List Opened
close [] n = []
close (o ∷ os) n = cond (eqb o.number n) (close os n) (o ∷ close os n)

-- ---- how a call or a cut changes the book

-- 01: "If a log block changed, all rows before the new one are stored": a new row
unfoldable pub add : Book → Row → Bool → List Opened → Book
add b r changed os =
    record { opened = os; rows = b.rows ++ (r ∷ []); stored = cond changed (length b.rows) b.stored }

-- 01: "Commit of a number with rows: a row of number and time, the largest of its two clocks and the last commit row's
-- time (or 0) plus 1"
unfoldable pub commit_time : Book → ℕ → ℕ → ℕ
commit_time b n clock = max (clock_of b.opened n) (max clock (last_time b.rows + 1))

-- 01: "Commit of a number with rows: a row of number and time", "the number closes": without rows, the latter alone
abbrev pub commits : Bool → Book → ℕ → ℕ → Bool → Book
commits true b n clock changed = add b (committed n (commit_time b n clock)) changed (close b.opened n)
commits false b n clock changed = record { opened = close b.opened n; rows = b.rows; stored = b.stored }

-- 01: "unstored rows go, all numbers close"
unfoldable pub fall : Book → Book
fall b = record { opened = []; rows = take b.stored b.rows; stored = b.stored }

-- 01: "an erased value are zeros", "zeros 7": n zero bytes
abbrev pub zeros : ℕ → List ℕ
zeros n = replicate n 0

-- 01: "The book is fed the calls": one that is not refused, with its answer and whether it changed a log block
unfoldable pub entered : Book → Call → ℕ → Bool → Book
entered b (begin k) x changed =
    record { opened = record { number = x; clock = k } ∷ b.opened; rows = b.rows; stored = b.stored }
entered b (write n key v) x changed =
    add b (version (record { number = n; key = key; kind = 0; value = v })) changed b.opened
entered b (erase n key) x changed =
    add b (version (record { number = n; key = key; kind = 1; value = zeros 16 })) changed b.opened
entered b (current_read n key) x changed = b
entered b (commit n k) x changed = commits (has_row b.rows n) b n k changed
entered b (abort n) x changed = record { opened = close b.opened n; rows = b.rows; stored = b.stored }
entered b (as_of key t) x changed = b
entered b (changes key t1 t2 buffer) x changed = b
entered b store_log x changed = record { opened = b.opened; rows = b.rows; stored = length b.rows }
entered b (store_page p) x changed = b
entered b checkpoint x changed = b

-- 01: "Other or refused calls: nothing"
abbrev pub unless_refused : ℕ → Book → Book → Book
unless_refused zero b new = new
unless_refused (suc r) b new = b

-- 01: "The book is fed the calls and cuts": the book after an event
unfoldable pub feed : Book → Event → Observation → Book
feed b (opening c) o = unless_refused o.refusal b (fall b)
feed b cut o = fall b
feed b (call k) o = unless_refused o.refusal b (entered b k o.result o.changed)

-- ---- what the rows answer

-- 01: "each with its row's record, kind and value, and its time or none": the slot of one version row
unfoldable pub sight : List Row → Version → Sight
sight rs v = record { key = v.key; kind = v.kind; value = v.value; time = time_of rs v.number }

-- 01: "as many used slots as version rows, each with its row's record, kind and value": the slots of all
unfoldable pub sights : List Row → List Version → List Sight
sights rs [] = []
sights rs (v ∷ vs) = sight rs v ∷ sights rs vs

-- 01: "kind (0 present, 1 erased)": what a version of this kind reads as
unfoldable pub strip_of : ℕ → List ℕ → Strip
strip_of kind v = cond (eqb kind 1) erased (present v)

-- 01: "A version row with a commit row of its number is committed": has it a time?
abbrev pub is_some : Option ℕ → Bool
is_some None = false
is_some (Some t) = true

-- 01: "A current read gives the record's newest version that is committed or its own": of versions by rising slot
unfoldable pub current_of : List Row → ℕ → ℕ → Strip → List Version → Strip
current_of rs n key before [] = before
current_of rs n key before (v ∷ vs) =
    current_of rs n key
    (cond (eqb v.key key && (eqb v.number n || is_some (time_of rs v.number))) (strip_of v.kind v.value) before) vs

-- 01: "is committed, at that time": a committed version with its time
pub record Dated : Type 0 where
  pub time : ℕ
  pub kind : ℕ
  pub value : List ℕ

-- 01: "the committed version with greatest time not above t, the later slot among equals": with time below `limit`,
-- which is t + 1; of versions by rising slot, each against the best before it
abbrev pub later_of : Option Dated → ℕ → Dated → Option Dated
later_of None limit x = cond (ltb x.time limit) (Some x) None
later_of (Some y) limit x = cond (ltb x.time limit && leb y.time x.time) (Some x) (Some y)

-- 01: "the committed version with greatest time": a version without a time leaves the best as it is
abbrev pub dated_of : Option ℕ → Option Dated → ℕ → Version → Option Dated
dated_of None best limit v = best
dated_of (Some t) best limit v = later_of best limit (record { time = t; kind = v.kind; value = v.value })

-- 01: "the committed version with greatest time": of the record's versions by rising slot, with time below `limit`
unfoldable pub best_below : List Row → ℕ → ℕ → Option Dated → List Version → Option Dated
best_below rs key limit best [] = best
best_below rs key limit best (v ∷ vs) =
    best_below rs key limit (cond (eqb v.key key) (dated_of (time_of rs v.number) best limit v) best) vs

-- 01: "the committed version with greatest time": of all the record's versions, with time below `limit`
unfoldable pub last_below : List Row → ℕ → ℕ → Option Dated
last_below rs key limit = best_below rs key limit None (versions rs)

-- 01: "none or erased are results": what the version found reads as, or missing
abbrev pub strip_at : Option Dated → Strip
strip_at None = missing
strip_at (Some x) = strip_of x.kind x.value

-- 01: "As of t: the committed version with greatest time not above t": what it reads as
unfoldable pub strip_as_of : List Row → ℕ → ℕ → Strip
strip_as_of rs key t = strip_at (last_below rs key (suc t))

-- 01: "its kind or value differs from the one before": are two values the same?
unfoldable pub same : List ℕ → List ℕ → Bool
same [] [] = true
same [] (y ∷ ys) = false
same (x ∷ xs) [] = false
same (x ∷ xs) (y ∷ ys) = eqb x y && same xs ys

-- 01: "differs from the one before .. The first of all counts as different": x against the one before, if there is one
abbrev pub differs : Dated → Option Dated → Bool
differs x None = true
differs x (Some y) = not (eqb x.kind y.kind && same x.value y.value)

-- 01: "its last version under each commit time, in time order, listed .. if its time is in range and its kind or value
-- differs from the one before, in range or not": the last version found, behind the lines below its time
abbrev pub lines_at : List Row → ℕ → ℕ → (ℕ → List Dated) → Option Dated → List Dated
lines_at rs key t1 rest None = []
lines_at rs key t1 rest (Some x) =
    cond (ltb x.time t1) [] (rest x.time ++ cond (differs x (last_below rs key x.time)) (x ∷ []) [])

-- 01: "in time order .. if its time is in range": the lines from t1 on of times below `limit`; k bounds the steps
unfoldable pub lines_below : List Row → ℕ → ℕ → ℕ → ℕ → List Dated
lines_below rs key t1 zero limit = []
lines_below rs key t1 (suc k) limit = lines_at rs key t1 (lines_below rs key t1 k) (last_below rs key limit)

-- 01: "Changes of a record from t1 to t2": its lines
unfoldable pub lines_of : List Row → ℕ → ℕ → ℕ → List Dated
lines_of rs key t1 t2 = lines_below rs key t1 (suc (suc t2)) (suc t2)

-- 01: "All numbers are little-endian": n in w bytes
unfoldable pub number : ℕ → ℕ → List ℕ
number zero n = []
number (suc w) n = n % 256 ∷ number w (n / 256)

-- 01: "32 bytes (time 8, kind 1, zeros 7, value 16)": the bytes of the lines, one behind the other
unfoldable pub listing : List Dated → List ℕ
listing [] = []
listing (x ∷ xs) = (number 8 x.time ++ (x.kind ∷ (zeros 7 ++ x.value))) ++ listing xs

-- 01: "bytes after the list stay unchanged"
unfoldable pub laid : List ℕ → List ℕ → List ℕ
laid lines buffer = lines ++ drop (length lines) buffer

-- ---- when an answer agrees with the book

-- 01: "An opening with a cache of right length is accepted, answers the last commit row's time or 0, and finds exactly
-- this": the rows are those that have not gone
pub record OpensAs (d : ℕ) (rs : List Row) (cache : List ℕ) (o : Observation) : Type 0 where
  pub accepted : length cache ≡ 512 * d → o.refusal ≡ 0
  pub refused : (length cache ≡ 512 * d → ⊥) → o.refusal ≡ 2
  pub last : o.refusal ≡ 0 → o.result ≡ last_time rs
  pub finds : o.refusal ≡ 0 → o.found ≡ sights rs (versions rs)

-- 01: "The answer is the number of lines", "lists write their lines": what is seen of a list of changes
pub record ListsAs (lines : List Dated) (buffer : List ℕ) (o : Observation) : Type 0 where
  pub count : o.result ≡ length lines
  pub bytes : o.buffer ≡ laid (listing lines) buffer

-- 01: "Where not refused, begin answers a number that was not open and had no row; commit answers its row's time, or 0
-- without one; reads and lists answer, and lists write their lines, by the steps above over these rows"
abbrev pub Answers : Book → Call → Observation → Type 0
Answers b (begin k) o = (is_open b.opened o.result ≡ false) × (has_row b.rows o.result ≡ false)
Answers b (write n key v) o = o.result ≡ length (versions b.rows)
Answers b (erase n key) o = o.result ≡ length (versions b.rows)
Answers b (current_read n key) o = o.strip ≡ current_of b.rows n key missing (versions b.rows)
Answers b (commit n k) o = o.result ≡ cond (has_row b.rows n) (commit_time b n k) 0
Answers b (abort n) o = o.result ≡ 0
Answers b (as_of key t) o = o.strip ≡ strip_as_of b.rows key t
Answers b (changes key t1 t2 buffer) o = ListsAs (lines_of b.rows key t1 t2) buffer o
Answers b store_log o = o.result ≡ 0
Answers b (store_page p) o = o.result ≡ 0
Answers b checkpoint o = o.result ≡ 0

-- 01, 'Runs and their book': what is seen of an event agrees with the book before it; d is the number of pages
abbrev pub Fits : ℕ → Book → Event → Observation → Type 0
Fits d b (opening c) o = OpensAs d (fall b).rows c o
Fits d b cut o = Unit {0}
Fits d b (call k) o = o.refusal ≡ 0 → Answers b k o
