-- The block of the page is lent; its form is judged, then its end place.
use mathlib.Core.Path.{◌∙◌}
use Prim.Native.Nat.{◌+◌}
use native.Mathlib.Omega.{arith}
use Rattle.layout.proofs.PlaceLaws.{page_block_high}
use Rattle.conditions.proofs.BlockPasses.{page_bad, page_judged}
use Rattle.conditions.proofs.blocks.page_ok.Goals as goal

pub overflow_mul-start : goal.overflow_mul-start
overflow_mul-start c = omega (arith, page_block_high c.args.blocks (c.args.page + 1) c.args.page (omega arith))

pub overflow_add-bytes : goal.overflow_add-bytes
overflow_add-bytes c = omega (arith, page_block_high c.args.blocks (c.args.page + 1) c.args.page (omega arith))

pub slice_bounds-bytes-end : goal.slice_bounds-bytes-end
slice_bounds-bytes-end c = omega (arith, page_block_high c.args.blocks (c.args.page + 1) c.args.page (omega arith))

pub returns-then-in_form : goal.returns-then-in_form
returns-then-in_form c =
    page_judged _ _ _ c.args.page c.page_block-start.result c.args.end c.page_block-start.ensures c.requires.end_value c.in_form.result c.in_form.ensures c.if-in_form.true c.end.result.0 c.end.ensures

pub returns-else-in_form : goal.returns-else-in_form
returns-else-in_form c =
    c.if-in_form.false ∙ page_bad _ _ _ c.args.page c.page_block-start.result c.args.end c.page_block-start.ensures c.requires.end_value c.in_form.result c.in_form.ensures c.if-in_form.false
