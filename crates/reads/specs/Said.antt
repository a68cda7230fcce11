-- What a read says of the version that it found.
use Rattle.std.specs.Prelude.{cond, eqb}
use Rattle.layout.specs.Slot.{Cell}
use Rattle.store.specs.declared.Reading.{Reading}
use Rattle.store.specs.declared.Reading.TheVariants.{Erased, Present}

unfoldable pub reading_of : Cell → Reading
reading_of v = cond (eqb v.kind 1) Erased (Present v.value)
