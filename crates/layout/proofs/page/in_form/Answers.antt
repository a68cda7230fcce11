-- `page::in_form` meets its contract: `all` asks of the slots from 0 on what `slots_form` asks.
use mathlib.Core.Path.{◌≡◌, sym, refl, ◌∙◌}
use borrow.Author.Rules.{rules}
use borrow.Author.Tests.{le-leb, lt-leb}
use Rattle.std.proofs.lemmas.Iterator.{YieldsList-from_range}
use Rattle.std.proofs.lemmas.Iterator.Search.{all_from_yields_List}
use Rattle.layout.specs.Page.{page_used, slot_form_at, slots_form, page_form}
use Rattle.layout.proofs.PageLaws.{slots_all}
use Rattle.layout.proofs.page.in_form.Goals as goal
use Rattle.layout.proofs.page.in_form.Goals.{then-page-le15, else-page-le15}

pub returns-then-all_zero : goal.returns-then-all_zero
unfolding page_form page_used
returns-then-all_zero c =
    let slots : c.all.result ≡ slots_form c.args.page.now 0 15 =
    all_from_yields_List (slot_form_at c.args.page.now) _ _ _ c.all.ensures.ran (YieldsList-from_range 0 15 15 refl refl) (λ x b q k. search rules) ∙ sym (slots_all _ 0 15) in
    elim c.if-page-le15.branch [
      | then-page-le15 w ↦ simp (le-leb _ _ w.if-page-le15.true, ← w.all_zero.ensures, ← w.value-is, c.if-all_zero.true, slots)
      | else-page-le15 w ↦ cc (lt-leb _ _ w.if-page-le15.false)
    ]

pub returns-else-all_zero : goal.returns-else-all_zero
unfolding page_form page_used
returns-else-all_zero c =
    elim c.if-page-le15.branch [
      | then-page-le15 w ↦ simp (le-leb _ _ w.if-page-le15.true, ← w.all_zero.ensures, ← w.value-is, c.if-all_zero.false)
      | else-page-le15 w ↦ simp (lt-leb _ _ w.if-page-le15.false, c.if-all_zero.false)
    ]
