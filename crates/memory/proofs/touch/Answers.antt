-- A first change of 0 is set; any other stays, as the definition sets it to itself.
use mathlib.Core.Path.{sym}
use lib.Seq.{set-get_or}
use borrow.Author.Tests.{ne_eqb}
use Rattle.store.specs.Write.{touched}
use Rattle.memory.proofs.touch.Goals as goal

pub returns-then-first-page-eq0 : goal.returns-then-first-page-eq0
unfolding touched
returns-then-first-page-eq0 c = simp c.if-first-page-eq0.true

pub returns-else-first-page-eq0 : goal.returns-else-first-page-eq0
unfolding touched
returns-else-first-page-eq0 c = simp (ne_eqb _ _ c.if-first-page-eq0.false) (sym (set-get_or c.args.first.now c.args.page 0))
