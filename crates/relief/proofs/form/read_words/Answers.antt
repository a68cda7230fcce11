-- The words before word i are those of the room.
use Rattle.std.proofs.lemmas.List.FromFn.{fill_by_all}
use Prim.Native.Nat.{◌+◌, ◌*◌}
use native.Mathlib.Omega.{arith}
use Rattle.fields.specs.Field.{dec}
use Rattle.fields.specs.Part.{part}
use Rattle.relief.specs.Form.{words_in}
use Rattle.relief.proofs.form.read_words.Goals as goal

pub returns : goal.returns
unfolding words_in
returns c =
    fill_by_all (λ i. dec (part c.args.head.now (16 + 8 * i) 8)) c.loop-i.word-items 448 0 (omega arith) (λ k h. c.loop-i.invariant k (omega arith))
