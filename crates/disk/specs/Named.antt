-- The sizes that a file names.
use Rattle.std.specs.Prelude.{ℕ, cond, List, leb}
use Rattle.fields.specs.Field.{dec}
use Rattle.fields.specs.Part.{part}
use Rattle.rooms.specs.declared.parts.Standing.{Standing}

-- 02: "with L from bytes 3 and 4, D from 8 and 9": the room with a medium of n bytes, shut, with the sizes that it
-- names; a medium below a block names none
unfoldable pub named_by : List ℕ → ℕ → Standing
named_by m n = record {
  stage = 2;
  blocks = cond (leb 512 n) (dec (part m 3 2)) 0;
  pages = cond (leb 512 n) (dec (part m 8 2)) 0;
  bytes = n;
}
