-- The bytes from the offset to the end of the records are what is left of the body there; none are left behind the end.
use mathlib.Core.Path.{sym, ap, ◌∙◌}
use Prim.Native.Nat.{◌-◌}
use native.Mathlib.Omega.{arith}
use Rattle.layout.specs.Item.{item_of}
use Rattle.layout.specs.Journal.{body_of}
use Rattle.layout.specs.declared.item.Area.TheVariants.{Journal}
use Rattle.conditions.proofs.BlockPasses.{body_short, body_from, item_end}
use Rattle.conditions.proofs.cursor.item_at.Goals as goal

pub returns-then-end-at : goal.returns-then-end-at
returns-then-end-at c = sym (item_end (body_of c.args.block.now) (c.args.at - 10) (omega arith))

pub slice_bounds-read-end : goal.slice_bounds-read-end
slice_bounds-read-end c = omega (arith, body_short c.args.block.now (omega arith))

pub returns : goal.returns
returns c =
    c.read.ensures ∙ ap (item_of Journal) (body_from _ c.args.at c.body_end-end.result c.requires.le_at (omega arith) c.body_end-end.ensures)
