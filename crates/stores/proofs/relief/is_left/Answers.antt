-- The two questions that are left to ask of a page are put in their order.
use Rattle.std.proofs.lemmas.Map.Keys.{le_from_is_le}
use mathlib.Core.Bool.{and-true}
use mathlib.Core.Path.{sym, ◌∙◌}
use borrow.Author.Tests.{lt-ltb, le-leb}
use Rattle.store.specs.StorePage.{stamped_page, stored_pair}
use Rattle.pages.specs.Stamped.{stamped_under}
use Rattle.stores.proofs.relief.is_left.Goals as goal

pub returns-then-le : goal.returns-then-le
unfolding stamped_page stored_pair stamped_under
returns-then-le c =
    let logged = le_from_is_le c.end.result.0 c.args.state.now.end.0 (sym c.le.ensures ∙ c.if-le.true) in
    simp (
      c.requires.fit,
      lt-ltb _ _ c.requires.page_bound,
      ← c.block-cached.ensures.value,
      ← c.end.ensures,
      le-leb _ _ logged,
      and-true,
      ← c.page_block.ensures,
      ← c.block-block.ensures.value,
      c.holds.ensures,
    )
