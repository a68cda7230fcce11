-- `slot::write_waiting` meets its contract: the stores fill the slot from the front, one behind the other.
use mathlib.Core.Path.{◌≡◌, ap, ◌∙◌}
use Prim.Native.Nat.{ℕ}
use native.Mathlib.Omega.{arith}
use mathlib.Core.List.{[], ◌∷◌}
use lib.ListN.{length, length-set, replicate}
use Rattle.fields.proofs.PartLaws.{lent_copy, lent_length}
use Rattle.layout.proofs.SlotLaws.{written}
use Rattle.layout.proofs.slot.write_waiting.Goals as goal

pub returns : goal.returns
returns c =
    let s : length c.put2.new.s ≡ 32 = (simp length-set at c.put2.auto.s) ∙ c.requires.slot_len in
    let zeros : c.fill.new.self ≡ 0 ∷ 0 ∷ [] =
    c.fill.ensures.after (λ y e. e) ∙ ap (λ (k : ℕ). replicate k 0) (lent_length c.put2.new.s 6 2 (omega arith)) in
    lent_copy c.put8.new.s _ _ 16 16 (omega arith) c.copy_from_slice.ensures.len c.copy_from_slice.ensures.after
    ∙ written c.args.slot.now _ _ _ c.args.key c.args.kind _ _ _ c.requires.slot_len c.requires.value_len (rw c.to_le_bytes.ensures at c.put2.ensures) (lent_copy c.put2.new.s _ _ 6 2 (omega arith) c.fill.ensures.len zeros) c.put8.ensures
