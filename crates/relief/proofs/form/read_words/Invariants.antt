-- The words before word i are those of the room.
use Rattle.std.proofs.Common.{◌≡◌, ℕ, ◌<◌, ◌+◌, ◌*◌, get_or}
use Rattle.fields.specs.Field.{dec}
use Rattle.fields.specs.Part.{part}
use Rattle.relief.proofs.form.read_words.Given as goal

abbrev pub invariant-loop-i : goal.invariant-loop-i
invariant-loop-i l = (k : ℕ) → k < l.i → get_or l.word-items k 0 ≡ dec (part l.head (16 + 8 * k) 8)
