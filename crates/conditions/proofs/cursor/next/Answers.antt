-- The item that lies at the cursor says the step; by the law of each item.
use mathlib.Core.Path.{sym}
use Prim.Native.Nat.{◌+◌, ◌≤◌, ◌<◌}
use lib.ListN.{length}
use native.Mathlib.Omega.{arith}
use Rattle.fields.proofs.PartLaws.{lent_length}
use Rattle.fields.specs.Block.{log_block_at}
use Rattle.layout.proofs.PlaceLaws.{log_block_high}
use Rattle.layout.proofs.RecordLaws.{bytes_few}
use Rattle.conditions.proofs.CursorLaws.{block_in, step_none, makes_skip, makes_written, makes_committed}
use borrow.Author.Rules.{rules}
use Rattle.conditions.proofs.cursor.next.Goals as goal

pub returns-then-left-eq0 : goal.returns-then-left-eq0
returns-then-left-eq0 c = sym (step_none _ _ _ c.if-left-eq0.true)

pub overflow_add-start : goal.overflow_add-start
overflow_add-start c = omega (arith, log_block_high c.args.blocks c.args.cursor.sequence (omega arith))

-- the block lies within the medium
inside : (c : goal.After-block_start-start) → c.block_start-start.result + 512 ≤ length c.args.medium.now
inside c =
    rw c.block_start-start.ensures (block_in c.args.medium.now c.args.blocks c.requires.ready c.args.cursor.sequence)

pub slice_bounds-item_at-end : goal.slice_bounds-item_at-end
slice_bounds-item_at-end c = omega (arith, inside c)

-- the block lies within the medium
inside_at_item_at_item_requires : (c : goal.After-item_at-arg-1) → c.block_start-start.result + 512 ≤ length c.args.medium.now
inside_at_item_at_item_requires c =
    rw c.block_start-start.ensures (block_in c.args.medium.now c.args.blocks c.requires.ready c.args.cursor.sequence)

pub item_at-requires : goal.item_at-requires
item_at-requires c =
    record {
      block_len = lent_length _ c.block_start-start.result 512 (omega (arith, inside_at_item_at_item_requires c));
      le_at = c.requires.valid.from;
    }

-- the bytes of a record number are few, and the block begins low
few : (c : goal.After-bytes) → c.bytes.result ≤ 2
few c = rw c.bytes.ensures (bytes_few _)

pub overflow_add-length : goal.overflow_add-length
overflow_add-length c = omega (arith, few c)

low : (c : goal.After-bytes) → let a = c.args in log_block_at a.blocks a.cursor.sequence < 3 + a.blocks
low c = log_block_high c.args.blocks c.args.cursor.sequence (omega (arith, c.requires.ready.low))

pub overflow_add-result : goal.overflow_add-result
overflow_add-result c = omega (arith, low c)

pub overflow_add-result-in-Version : goal.overflow_add-result-in-Version
overflow_add-result-in-Version c = omega (arith, few c, low c)

pub overflow_add-at : goal.overflow_add-at
overflow_add-at c = omega (arith, few c)

pub end_behind-requires : goal.end_behind-requires
end_behind-requires c = (search rules, omega (arith, few c))

-- the bytes of a record number are few, and the block begins low
few_at_overflow_add_result_in_Version_2 : (c : goal.After-end_behind) → c.bytes.result ≤ 2
few_at_overflow_add_result_in_Version_2 c = rw c.bytes.ensures (bytes_few _)

pub overflow_add-result-in-Version-2 : goal.overflow_add-result-in-Version-2
overflow_add-result-in-Version-2 c = omega (arith, few_at_overflow_add_result_in_Version_2 c)

pub returns-in-End : goal.returns-in-End
returns-in-End c =
    makes_skip c.args.medium.now c.args.blocks c.args.cursor c.block_start-start.result c.item_at.result c.if-left-eq0.false c.block_start-start.ensures
    c.item_at.ensures _ c.in-End.is c.skip.ensures

pub returns-in-Version : goal.returns-in-Version
returns-in-Version c =
    makes_written c.args.medium.now c.args.blocks c.args.cursor c.block_start-start.result c.item_at.result c.if-left-eq0.false c.block_start-start.ensures
    c.item_at.ensures _ _ _ c.in-Version.is c.bytes.ensures c.end_behind.ensures

pub returns-in-Commit : goal.returns-in-Commit
returns-in-Commit c =
    makes_committed c.args.medium.now c.args.blocks c.args.cursor c.block_start-start.result c.item_at.result c.if-left-eq0.false c.block_start-start.ensures
    c.item_at.ensures _ _ c.in-Commit.is c.end_behind-in-Commit.ensures
