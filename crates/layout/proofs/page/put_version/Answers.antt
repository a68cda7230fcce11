-- `page::put_version` meets its contract: the version is put in the lent part, which is the page of the slot.
use Prim.Native.Nat.{◌*◌, ◌/◌}
use native.Mathlib.Omega.{arith}
use Rattle.fields.specs.Block.{blk, put, page_of}
use Rattle.fields.proofs.PartLaws.{lent_copy, lent_part}
use Rattle.layout.specs.Page.{put_version}
use Rattle.layout.proofs.page.put_version.Goals as goal

pub slice_bounds-put_waiting-end : goal.slice_bounds-put_waiting-end
unfolding page_of
slice_bounds-put_waiting-end c = omega arith

pub returns : goal.returns
unfolding put_version page_of put blk
returns c =
    let at = 512 * (c.args.n / 15) in
    lent_copy _ _ _ at 512 c.requires.n_in_bounds c.put_waiting.auto.page (rw (lent_part _ at 512) at c.put_waiting.ensures)
