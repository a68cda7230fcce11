-- Answers as of a time survive a cut: the claims of request #102. Only events, what is seen of them, and what the book
-- at a moment would keep are spoken of.
use Rattle.std.specs.Prelude.{ℕ, ◌*◌, ◌≤◌, ◌≡◌, cond, List, [], ◌∷◌, ◌++◌, length, take, leb}
use Rattle.layout.specs.Slot.{key_form}
use Rattle.runs.specs.Event.{Event, call, as_of, changes, Observation}
use Rattle.runs.specs.Book.{last_time, lines_of}
use Rattle.runs.specs.Moments.{Run, book_at, seen_at, Accepted}
use Rattle.runs.specs.Plain.{rows_found}

-- ---- which times can be read

-- 02, #102: "the last stored commit time": the last among the rows that a cut at this moment would leave, or 0
abbrev pub stored_time : ℕ → ℕ → List Event → ℕ
stored_time l d es = last_time (rows_found l d es)

-- 02, #102: "reads as of .. compare their time with the last stored commit time": in a run a read as of t is answered
-- if t is not above it, and refused 10 otherwise; 02, #104: 18 "comes .. before 10"
unfoldable pub ReadsStored : Type 0
ReadsStored =
    (l d : ℕ) (es : List Event) (key t : ℕ)
    → Run l d (es ++ (call (as_of key t) ∷ []))
    → (seen_at l d es (call (as_of key t))).refusal ≡ cond (key_form key) (cond (leb t (stored_time l d es)) 0 10) 18

-- 02, #102: "change lists compare their time with the last stored commit time": so with a list up to t2, which is
-- refused 14 if its buffer is too short
unfoldable pub ListsStored : Type 0
ListsStored =
    (l d : ℕ) (es : List Event) (key t1 t2 : ℕ) (buffer : List ℕ)
    → Run l d (es ++ (call (changes key t1 t2 buffer) ∷ []))
    → (seen_at l d es (call (changes key t1 t2 buffer))).refusal
    ≡ cond (key_form key)
    (cond (leb t2 (stored_time l d es)) (cond
    (leb (32 * length (lines_of (book_at l d es).rows key t1 t2)) (length buffer)) 0 14) 10) 18

-- ---- what was answered is answered again

-- 02, #102: "must survive a cut": a run with the event e, which is answered, then any calls and cuts fs, then the event
-- e'
pub record Again (l d : ℕ) (es : List Event) (e : Event) (fs : List Event) (e' : Event) : Type 0 where
  pub run : Run l d ((es ++ (e ∷ fs)) ++ (e' ∷ []))
  pub first : Accepted l d es e

-- 02, #102: "an as-of answer must survive a cut": a later read is answered, with the strip of the first
pub record SameStrip (first later : Observation) : Type 0 where
  pub answered : later.refusal ≡ 0
  pub strip : later.strip ≡ first.strip

-- 02, #102: "an as-of answer must survive a cut": a later list, into a buffer of length `room`, is answered if there is
-- room for the lines of the first, 32 bytes each; it then has these lines, as many and byte for byte
pub record SameLines (room : ℕ) (first later : Observation) : Type 0 where
  pub answered : 32 * first.result ≤ room → later.refusal ≡ 0
  pub count : later.refusal ≡ 0 → later.result ≡ first.result
  pub lines : later.refusal ≡ 0 → take (32 * first.result) later.buffer ≡ take (32 * first.result) first.buffer

-- 02, #102: "an as-of answer must survive a cut": if a read as of t is answered, so is every later read of the same
-- record as of t, whatever comes between, and it gives the same strip
unfoldable pub StableReads : Type 0
StableReads =
    (l d : ℕ) (es fs : List Event) (key t : ℕ)
    → Again l d es (call (as_of key t)) fs (call (as_of key t))
    → SameStrip (seen_at l d es (call (as_of key t)))
    (seen_at l d (es ++ (call (as_of key t) ∷ fs)) (call (as_of key t)))

-- 02, #102: "reads as of and change lists": the same of lists of one record from t1 to t2, each into a buffer of its
-- own
unfoldable pub StableLists : Type 0
StableLists =
    (l d : ℕ) (es fs : List Event) (key t1 t2 : ℕ) (buffer buffer' : List ℕ)
    → Again l d es (call (changes key t1 t2 buffer)) fs (call (changes key t1 t2 buffer'))
    → SameLines (length buffer') (seen_at l d es (call (changes key t1 t2 buffer)))
    (seen_at l d (es ++ (call (changes key t1 t2 buffer) ∷ fs)) (call (changes key t1 t2 buffer')))

-- 02, #102: all of it
pub record StableAnswers : Type 0 where
  pub reads_stored : ReadsStored
  pub lists_stored : ListsStored
  pub stable_reads : StableReads
  pub stable_lists : StableLists
