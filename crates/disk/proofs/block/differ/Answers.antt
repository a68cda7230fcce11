-- The kept bytes are compared with those that stand there.
use mathlib.Core.Path.{ap, ◌∙◌}
use mathlib.Core.Bool.{not}
use lib.ListN.{take}
use Rattle.fields.specs.Equal.{eq_list}
use Rattle.fields.proofs.PartLaws.{lent_part}
use Rattle.rooms.proofs.RoomLaws.{first_length}
use Rattle.disk.proofs.block.differ.Goals as goal

pub slice_bounds-same-end : goal.slice_bounds-same-end
slice_bounds-same-end c = first_length c.args.before.now c.args.e.len c.requires.1

pub returns : goal.returns
returns c =
    let k = c.args in
    ap not (c.same.ensures ∙ ap (eq_list (take k.e.len k.before.now)) (lent_part k.medium.now k.e.at k.e.len))
