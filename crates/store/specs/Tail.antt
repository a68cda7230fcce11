-- The tail of the log: whether it may take a record, and what taking it leaves.
use Rattle.std.specs.Prelude.{ℕ, ◌+◌, ◌^◌, Bool, true, false, ◌&&◌, ◌||◌, List, leb, ltb}
use Rattle.fields.specs.Block.{put, log_block_at, end_place}
use Rattle.layout.specs.Journal.{Record, record_size, sequence_of, used_of, empty_block, add_record}
use Rattle.layout.specs.Master.{oldest_on}
use Rattle.layout.specs.declared.CommitTime.{CommitTime}
use Rattle.layout.specs.declared.EndPlace.{EndPlace}
use Rattle.store.specs.declared.State.{State}

-- 01: "lies in one block": is there room for the record in the tail?
unfoldable pub tail_fits : List ℕ → ℕ → Bool
tail_fits tail size = leb (used_of tail + size) 512

-- 01: "Sequence s+1 may begin only if it is below oldest + L and below 2^48; "oldest" is the master's on the medium"
unfoldable pub may_log : State → List ℕ → ℕ → Bool
may_log s m size =
    tail_fits s.tail size
    || (ltb (sequence_of s.tail + 1) (oldest_on m + s.blocks) && ltb (sequence_of s.tail + 1) (2 ^ 48))

-- 01: "512 × sequence plus the offset after it": the end place of what stands in a tail block
unfoldable pub tail_end : List ℕ → EndPlace
tail_end tail = record { 0 = end_place (sequence_of tail) (used_of tail) }

-- 01: "the tail is stored if it isn't yet": the medium with the tail in its block; no byte changes if it is there
unfoldable pub stored_tail : ℕ → List ℕ → List ℕ → List ℕ
stored_tail l m tail = put m (log_block_at l (sequence_of tail)) tail

-- 01: "may the log take it? 8": the medium, the tail, the stored end place and the stored time once a record is taken
pub record Logged : Type 0 where
  pub medium : List ℕ
  pub tail : List ℕ
  pub end : EndPlace
  pub saved : CommitTime

-- 01: "When a record does not fit the tail block, the tail is stored if it isn't yet, and the record begins the next
-- block": all of the tail is stored then, and with it every commit time given
unfoldable pub logged_if : Bool → State → List ℕ → Record → Logged
logged_if true s m r = record { medium = m; tail = add_record s.tail r; end = s.end; saved = s.saved }
logged_if false s m r = record {
  medium = stored_tail s.blocks m s.tail;
  tail = add_record (empty_block (sequence_of s.tail + 1)) r;
  end = tail_end s.tail;
  saved = s.last;
}

-- 01: "When a record does not fit the tail block": what taking the record leaves, by whether it fits
unfoldable pub logged : State → List ℕ → Record → Logged
logged s m r = logged_if (tail_fits s.tail (record_size r)) s m r
