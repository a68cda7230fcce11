-- The used slots that it reads are those of the page and of the page behind it.
use mathlib.Core.Path.{refl}
use Prim.Native.Nat.{◌+◌, ◌*◌}
use native.Mathlib.Omega.{arith}
use Rattle.conditions.proofs.SlotsLaws.{full_here, full_last, full_next}
use Rattle.conditions.proofs.slots.page_full.Goals as goal

pub returns-then-used-eq15 : goal.returns-then-used-eq15
returns-then-used-eq15 c = full_here _ _ _ (512 * c.args.page) _ refl c.used.ensures c.if-used-eq15.true

pub returns-then-page-pages : goal.returns-then-page-pages
returns-then-page-pages c = full_last _ _ _ c.if-page-pages.true

pub returns : goal.returns
returns c =
    let a = c.args in
    full_next _ _ _ (512 * a.page) _ (512 * a.page + 512) _ refl c.used.ensures c.if-used-eq15.false c.if-page-pages.false (omega arith) c.used-2.ensures
