-- `find` gives the least page whose store is not refused.
use Rattle.std.proofs.Common.{rules, tests}
use Rattle.std.proofs.lemmas.Iterator.{first_from_Range}
use Prim.Native.Nat.{ℕ}
use mathlib.Core.Path.{◌≡◌}
use mathlib.Core.Bool.{true, false}
use Rattle.store.specs.StorePage.{store_page_asks}
use Rattle.store.specs.Relief.{all_yes, page_left}
use Rattle.live.proofs.FirstLaws.{found_first}
use Rattle.stores.proofs.relief.page_left.Goals as goal

pub returns : goal.returns
unfolding page_left
returns c =
    let a = c.args in
    let p = λ (page : ℕ). all_yes (store_page_asks a.state.now a.medium.now a.cache.now page) in
    found_first p a.state.now.pages c.find.result
    (first_from_Range _ _ _ _ (λ k. p k ≡ true) (λ k. p k ≡ false) c.find.ensures.ran (λ x q k. search (rules, tests)) (λ x q k. search (rules, tests)))
