-- Page and block are lent as parts of cache and medium, and laid back over them.
use mathlib.Core.Path.{◌∙◌}
use native.Mathlib.Omega.{arith}
use Rattle.fields.specs.Block.{page_block_at}
use Rattle.store.specs.StorePage.{page_stored}
use Rattle.stores.proofs.StoreLaws.{stamped_lent, settled_lent, page_asked, laid_blk}
use Rattle.stores.proofs.store_page.lay.Goals as goal

pub returns-then-not-store-clause-value : goal.returns-then-not-store-clause-value
returns-then-not-store-clause-value c = page_asked _ _ _ _ _ c.page_block-block_at.ensures _ c.if-not-store.ensures.value

pub returns-clause-value : goal.returns-clause-value
returns-clause-value c = page_asked _ _ _ _ _ c.page_block-block_at.ensures _ c.if-not-store.ensures.value

pub returns-clause-state_after : goal.returns-clause-state_after
unfolding page_stored
returns-clause-state_after c = rw (c.if-not-store.ensures.places_after, settled_lent c.args.state.now c.args.medium.now c.args.cache.now c.args.page)

pub returns-clause-medium_after : goal.returns-clause-medium_after
unfolding page_block_at
returns-clause-medium_after c =
    let a = c.args in
    laid_blk a.medium.now c.store.new.block c.page_block-block_at.result (omega arith) c.store.auto.block
    ∙ rw (c.page_block-block_at.ensures, c.if-not-store.ensures.block_after, stamped_lent a.state.now a.medium.now a.cache.now a.page)

pub returns-clause-cache_after : goal.returns-clause-cache_after
returns-clause-cache_after c =
    let a = c.args in
    laid_blk a.cache.now c.store.new.page a.page (omega arith) c.store.auto.page
    ∙ rw (c.if-not-store.ensures.page_after, stamped_lent a.state.now a.medium.now a.cache.now a.page)
