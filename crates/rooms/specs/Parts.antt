-- How the program keeps a room: the buffers that it lends are as long as any sizes ask, and medium and cache are their
-- first bytes.
use Rattle.store.specs.declared.Refusal.{Refusal}
use Rattle.std.specs.Prelude.{ℕ, min, ◌≡◌, cond, List, ◌++◌, take, eqb, ltb, Result}
use Rattle.fields.specs.Block.{zeros}
use Rattle.store.specs.declared.Answer.{Answer}
use Rattle.store.specs.declared.State.{State}
use Rattle.store.specs.Answer.{answer_number}
use Rattle.rooms.specs.declared.parts.Standing.{Standing}
use Rattle.answers.specs.Text.{answer_text}
use Rattle.rooms.specs.Room.{Room, gone, shut, ready, Turn, right_length}

-- replay: "any other line but `F`", "the only calls are `O`, `o`, `X`, `F` (and `M`, `V`, `Z`)": the stage, 1 without a
-- medium, 2 with one, 3 with one that is opened
unfoldable pub stage_of : Standing → ℕ
stage_of t = cond (ltb t.stage 2) 1 (cond (ltb t.stage 3) 2 3)

-- 01: "The medium is 512 × (3 + L + D) bytes": how many bytes of the buffer are the medium; a buffer of the longest
-- medium has no more
unfoldable pub medium_part : Standing → ℕ
medium_part t = cond (ltb t.stage 2) 0 (min t.bytes 50688)

-- 01: "The cache is 512 × D bytes": how many bytes of the buffer are the cache
unfoldable pub cache_part : Standing → ℕ
cache_part t = cond (ltb t.stage 3) 0 (right_length t.pages)

-- replay: "there is no medium", "until an accepted `O`": the room that stands so in a medium's buffer, a cache's buffer
-- and a state
unfoldable pub room_of : Standing → List ℕ → List ℕ → State → Room
room_of t m c s =
    cond (ltb t.stage 2) gone
    (cond (ltb t.stage 3) (shut t.blocks t.pages (take (min t.bytes 50688) m))
    (ready t.blocks t.pages (take (min t.bytes 50688) m) (take (right_length t.pages) c) s))

-- replay, `F L D`: "after a refusal, there is no medium": the stage behind a formatting
unfoldable pub stage_after : Result Answer Refusal → ℕ
stage_after a = cond (eqb (answer_number a) 0) 2 1

-- replay: "prints exactly one line": a line left the room so, and its answer is printed behind its letter
abbrev pub left_by : Standing → List ℕ → List ℕ → State → ℕ → Result Answer Refusal → Turn
left_by t m c s letter a = record { room = room_of t m c s; text = answer_text letter a (zeros 16) }

-- replay, the column "prints": a line put what it prints behind the bytes before, and left the room as it is
abbrev pub Prints : List ℕ → List ℕ → Room → Turn → Type 0
Prints before after r t = (after ≡ before ++ t.text) × (t.room ≡ r)
