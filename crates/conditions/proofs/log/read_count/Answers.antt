-- The blocks passed and those that match behind them are together the blocks that match.
use mathlib.Core.Path.{◌≡◌, sym, ◌∙◌}
use Prim.Native.Nat.{◌+◌, ◌≤◌}
use native.Mathlib.Omega.{arith}
use lib.ListN.{length}
use Rattle.fields.proofs.PartLaws.{lent_length}
use Rattle.layout.proofs.PlaceLaws.{log_block_high}
use Rattle.conditions.proofs.CursorLaws.{block_in, matching_begin, matching_turn, matching_stop, matching_end}
use Rattle.conditions.proofs.log.read_count.Goals as goal

pub loop-k-init : goal.loop-k-init
loop-k-init c = matching_begin _ _ _ _

pub overflow_add-start : goal.overflow_add-start
overflow_add-start c = omega (arith, log_block_high c.args.blocks (c.args.oldest + c.loop-k.k) (omega arith))

-- the block lies within the medium
inside : (c : goal.After-block_start-start) → c.block_start-start.result + 512 ≤ length c.args.medium.now
inside c =
    rw c.block_start-start.ensures (block_in c.args.medium.now c.args.blocks c.requires.ready (c.args.oldest + c.loop-k.k))

pub slice_bounds-sequence-start : goal.slice_bounds-sequence-start
slice_bounds-sequence-start c = omega (arith, inside c)

pub slice_bounds-sequence-end : goal.slice_bounds-sequence-end
slice_bounds-sequence-end c = omega (arith, inside c)

-- the block lies within the medium
inside_at_sequence_requires : (c : goal.After-sequence-arg-1) → c.block_start-start.result + 512 ≤ length c.args.medium.now
inside_at_sequence_requires c =
    rw c.block_start-start.ensures (block_in c.args.medium.now c.args.blocks c.requires.ready (c.args.oldest + c.loop-k.k))

pub sequence-requires : goal.sequence-requires
sequence-requires c = lent_length _ c.block_start-start.result 512 (inside_at_sequence_requires c)

pub returns-then-sequence-oldest : goal.returns-then-sequence-oldest
returns-then-sequence-oldest c =
    matching_stop c.args.medium.now c.args.blocks c.args.oldest c.loop-k.k c.args.blocks c.block_start-start.result c.sequence.result
    c.loop-k-test.true c.block_start-start.ensures c.sequence.ensures c.if-sequence-oldest.true ∙ c.loop-k.invariant

pub loop-k-preserved : goal.loop-k-preserved
loop-k-preserved c =
    matching_turn c.args.medium.now c.args.blocks c.args.oldest c.loop-k.k c.args.blocks c.block_start-start.result c.sequence.result
    c.loop-k-test.true c.block_start-start.ensures c.sequence.ensures c.if-sequence-oldest.false ∙ c.loop-k.invariant

pub returns : goal.returns
returns c =
    let e : c.loop-k.k ≡ c.args.blocks = omega arith in
    sym e ∙ matching_end _ _ _ c.loop-k.k _ (omega arith) ∙ c.loop-k.invariant
