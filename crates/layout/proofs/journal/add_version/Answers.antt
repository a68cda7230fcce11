-- `journal::add_version` meets its contract: tag, length and body lie behind each other, and then the used bytes are set.
use mathlib.Core.Path.{ap, ◌∙◌}
use Prim.Native.Nat.{ℕ, ◌+◌}
use mathlib.Core.List.{List}
use native.Mathlib.Omega.{arith}
use Rattle.fields.specs.Part.{splice}
use Rattle.fields.specs.Field.{enc}
use Rattle.fields.proofs.PartLaws.{lent_back}
use Rattle.layout.proofs.RecordLaws.{version_added}
use Rattle.layout.proofs.journal.add_version.Goals as goal

pub returns : goal.returns
returns c =
    let a = c.used-at.result + 3 in
    let n = 29 + c.bytes-n.result in
    c.put2.ensures
    ∙ ap (λ (l : List ℕ). splice l 8 (enc 2 (a + n))) (lent_back _ _ a n (omega (arith, c.put_head.auto.bytes, c.bytes-n.ensures)) c.write_version.auto.body)
    ∙ version_added _ _ _ _ c.args.head _ n (ap (λ (k : ℕ). 29 + k) c.bytes-n.ensures) c.used-at.ensures c.requires.value_len (rw (← c.tag.ensures) c.put_head.ensures) c.write_version.ensures
