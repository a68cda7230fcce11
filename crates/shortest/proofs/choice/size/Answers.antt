-- The lines that are chosen are counted.
use mathlib.Core.Path.{◌≡◌, sym, ◌∙◌}
use borrow.Author.Rules.{rules}
use Rattle.std.specs.List.{count_by}
use Rattle.shortest.proofs.ChoiceLaws.{size_count}
use Rattle.shortest.proofs.choice.size.Goals as goal

pub returns : goal.returns
returns c =
    let e : c.count.result ≡ count_by (λ b. b) c.args.flags = search rules in
    e ∙ sym (size_count c.args.flags)
