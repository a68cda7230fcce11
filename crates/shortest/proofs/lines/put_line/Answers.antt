-- The newline stands behind the line.
use lib.ListN.{take}
use Rattle.shortest.proofs.PutLaws.{line_put}
use Rattle.shortest.proofs.lines.put_line.Goals as goal

pub returns-clause-out_after : goal.returns-clause-out_after
returns-clause-out_after c =
    let a = c.args in
    line_put (take a.n a.out.now) _ _ a.text.now c.bytes-end.ensures.out_after c.byte.ensures.out_after
