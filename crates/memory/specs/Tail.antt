-- What question 16 asks of the tail block.
use Rattle.std.specs.Prelude.{◌^◌, ℕ, Bool, ◌&&◌, List, leb, ltb}
use Rattle.layout.specs.Journal.{sequence_of, used_of}

-- 01: "tail used 10 to 512, its sequence 1 to below 2^48"
unfoldable pub tail_in_range : List ℕ → Bool
tail_in_range tail = leb 10 (used_of tail) && (leb (used_of tail) 512 && (leb 1 (sequence_of tail) && ltb (sequence_of tail) (2 ^ 48)))
