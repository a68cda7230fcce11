-- The words before a turn stand behind the first n bytes.
use Rattle.std.proofs.Common.{◌≡◌, ◌+◌, ◌*◌, ◌++◌, length, take}
use Rattle.fields.specs.Field.{enc}
use Rattle.fields.specs.Cells.{flat}
use Rattle.relief.proofs.form.put_words.Given as goal

abbrev pub invariant-loop-word : goal.invariant-loop-word
invariant-loop-word l = (l.end ≡ l.n + 8 * l.word-index) × (length l.out ≡ length l.initial.out) × (take l.end l.out ≡ take l.n l.initial.out ++ flat (enc 8) (take l.word-index l.words))
