-- Each turn judges one block; the blocks that are left, judged from there on, are the whole judgement.
use mathlib.Core.Path.{◌∙◌}
use Prim.Native.Nat.{◌+◌, ◌≤◌}
use native.Mathlib.Omega.{arith}
use lib.ListN.{length}
use Rattle.layout.proofs.PlaceLaws.{log_block_high}
use Rattle.conditions.specs.Lookup.{low_of}
use Rattle.conditions.proofs.CursorLaws.{block_in, block_lent}
use Rattle.conditions.proofs.BlockPasses.{blocks_begin, blocks_high, blocks_form, blocks_records, blocks_turn, blocks_end}
use Rattle.conditions.proofs.blocks.blocks_ok.Goals as goal

pub loop-k-init : goal.loop-k-init
loop-k-init c = blocks_begin _ _ _ _ _

pub returns-then-sequence : goal.returns-then-sequence
returns-then-sequence c =
    blocks_high c.args.medium.now c.args.blocks c.args.pages (low_of c.loop-k.last) c.args.oldest c.loop-k.k c.args.count c.loop-k-test.true
    c.if-sequence.true ∙ c.loop-k.invariant

pub overflow_add-block : goal.overflow_add-block
overflow_add-block c = omega (arith, log_block_high c.args.blocks (c.args.oldest + c.loop-k.k) (omega arith))

pub slice_bounds-block-end : goal.slice_bounds-block-end
slice_bounds-block-end c =
    let h : c.block_start-start.result + 512 ≤ length c.args.medium.now =
    rw c.block_start-start.ensures (block_in c.args.medium.now c.args.blocks c.requires.ready (c.args.oldest + c.loop-k.k)) in
    omega arith

pub returns-then-not-in_form : goal.returns-then-not-in_form
returns-then-not-in_form c =
    blocks_form _ _ _ _ c.args.oldest c.loop-k.k c.args.count c.loop-k-test.true _ (block_lent _ _ _ c.block_start-start.result c.block_start-start.ensures) c.if-sequence.false
    c.in_form.result c.in_form.ensures c.if-not-in_form.true ∙ c.loop-k.invariant

pub returns-then-not-records_ok : goal.returns-then-not-records_ok
returns-then-not-records_ok c =
    blocks_records _ _ _ _ c.args.oldest c.loop-k.k c.args.count c.loop-k-test.true _ (block_lent _ _ _ c.block_start-start.result c.block_start-start.ensures) c.if-sequence.false
    c.in_form.result c.in_form.ensures c.if-not-in_form.false c.records_ok.result c.records_ok.ensures.0 c.if-not-records_ok.true ∙ c.loop-k.invariant

pub loop-k-preserved : goal.loop-k-preserved
loop-k-preserved c =
    let e = c.if-not-records_ok.false in
    blocks_turn _ _ _ _ c.args.oldest c.loop-k.k c.args.count c.loop-k-test.true _ (block_lent _ _ _ c.block_start-start.result c.block_start-start.ensures) c.if-sequence.false
    c.in_form.result c.in_form.ensures c.if-not-in_form.false c.records_ok.result c.records_ok.ensures.0 _ e (c.records_ok.ensures.1 e) ∙ c.loop-k.invariant

pub returns : goal.returns
returns c = blocks_end _ _ _ _ _ c.loop-k.k c.args.count (omega arith) ∙ c.loop-k.invariant
