-- A block in range is the 512 bytes from its place on.
use borrow.Author.Tests.{lt-ltb}
use Prim.Native.Nat.{◌*◌}
use Rattle.answers.specs.Text.{block_text}
use Rattle.fields.specs.Block.{blk}
use Rattle.fields.proofs.PartLaws.{lent_part}
use Rattle.answers.proofs.text.put_block.Goals as goal

pub returns-then-k-bytes-clause-out_after : goal.returns-then-k-bytes-clause-out_after
unfolding block_text blk
returns-then-k-bytes-clause-out_after c =
    simp (lt-ltb _ _ c.if-k-bytes.true) (rw (lent_part c.args.bytes.now (512 * c.args.k) 512) at c.hex.ensures.out_after)
