-- `master::write` meets its contract: the five fields are laid one behind the other over zeros.
use mathlib.Core.Path.{◌≡◌, ap, ◌∙◌}
use lib.ListN.{take}
use borrow.Author.Rules.{rules}
use Rattle.fields.specs.Field.{enc}
use Rattle.fields.specs.Block.{zeros}
use Rattle.fields.proofs.WordLaws.{enc_word}
use Rattle.layout.proofs.MasterLaws.{master_laid}
use Rattle.layout.proofs.master.write.Goals as goal

pub returns : goal.returns
returns c =
    let f = c.args.f in
    let z : c.fill.new.self ≡ zeros 512 = search rules in
    let blocks : take 2 c.to_le_bytes.result ≡ enc 2 f.blocks = ap (take 2) c.to_le_bytes.ensures ∙ enc_word 2 _ in
    let pages : take 2 c.to_le_bytes-2.result ≡ enc 2 f.pages = ap (take 2) c.to_le_bytes-2.ensures ∙ enc_word 2 _ in
    let oldest : c.to_le_bytes-3.result ≡ enc 8 f.oldest = c.to_le_bytes-3.ensures ∙ enc_word 8 _ in
    let next : c.to_le_bytes-4.result ≡ enc 8 f.next.0 = c.to_le_bytes-4.ensures ∙ enc_word 8 _ in
    let last : c.to_le_bytes-5.result ≡ enc 8 f.last.0 = c.to_le_bytes-5.ensures ∙ enc_word 8 _ in
    (rw last at c.put_field-5.ensures)
    ∙ master_laid f _ _ _ _ _ z (rw blocks at c.put_field.ensures) (rw pages at c.put_field-2.ensures) (rw oldest at c.put_field-3.ensures) (rw next at c.put_field-4.ensures)
