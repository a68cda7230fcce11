-- `journal::add_commit` meets its contract: tag, length and body lie behind each other, and then the used bytes are set.
use mathlib.Core.Path.{ap, ◌∙◌}
use Prim.Native.Nat.{ℕ, ◌+◌}
use mathlib.Core.List.{List}
use native.Mathlib.Omega.{arith}
use Rattle.fields.specs.Part.{splice}
use Rattle.fields.specs.Field.{enc}
use Rattle.fields.proofs.PartLaws.{lent_back}
use Rattle.layout.proofs.RecordLaws.{commit_added}
use Rattle.layout.proofs.journal.add_commit.Goals as goal

pub returns : goal.returns
returns c =
    let a = c.used-at.result + 3 in
    c.put2.ensures
    ∙ ap (λ (l : List ℕ). splice l 8 (enc 2 (a + 16))) (lent_back _ _ a 16 (omega (arith, c.put_head.auto.bytes)) c.write_commit.auto.body)
    ∙ commit_added _ _ _ _ _ c.used-at.ensures c.put_head.ensures c.write_commit.ensures
