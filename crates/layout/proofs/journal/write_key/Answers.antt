-- `journal::write_key` meets its contract: the part that is lent has n bytes, and they are filled.
use mathlib.Core.Path.{ap, ◌∙◌}
use Prim.Native.Nat.{ℕ}
use Rattle.fields.specs.Field.{enc}
use Rattle.fields.proofs.PartLaws.{lent_copy, lent_length}
use Rattle.layout.proofs.journal.write_key.Goals as goal

pub returns : goal.returns
returns c =
    let n = c.args.n in
    lent_copy _ _ _ 2 n c.requires c.put.auto.s
    (c.put.ensures ∙ ap (enc _) c.from.ensures ∙ ap (λ (w : ℕ). enc w c.args.key) (lent_length c.args.body.now 2 n c.requires))
