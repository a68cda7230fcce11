-- The words before a turn stand behind the first n bytes.
use mathlib.Core.Path.{refl, sym}
use mathlib.Core.List.{append-nil}
use native.Mathlib.Omega.{arith}
use Rattle.fields.specs.Cells.{flat}
use Rattle.relief.proofs.form.put_words.Goals as goal

pub loop-word-init : goal.loop-word-init
unfolding flat
loop-word-init c = (omega arith, refl, sym (append-nil _))
