-- Once all is zeros, the master is laid over the first block, and what stays behind it are zeros.
use mathlib.Core.Path.{◌≡◌, ap, ◌∙◌}
use mathlib.Core.List.{List, ◌++◌}
use Prim.Native.Nat.{ℕ, ◌+◌, ◌-◌, ◌*◌}
use native.Mathlib.Omega.{arith}
use lib.ListN.{length, length-take}
use Rattle.fields.specs.Block.{zeros, medium_length}
use Rattle.fields.specs.Part.{splice}
use Rattle.layout.specs.Master.{master_bytes}
use Rattle.layout.specs.declared.master.Fields.{Fields}
use Rattle.fields.proofs.CellLaws.{splice_zeros}
use Rattle.layout.proofs.MasterLaws.{length_master_bytes}
use Rattle.fields.proofs.PartLaws.{lent_back}
use Rattle.store.specs.Format.{fresh_medium}
use Rattle.media.proofs.format.lay.Goals as goal

fresh : (l d : ℕ) (z v : List ℕ) → z ≡ zeros (medium_length l d)
    → v ≡ master_bytes (record { blocks = l; pages = d; oldest = 1; next = record { 0 = 1 }; last = record { 0 = 0 } })
    → splice z 0 v ≡ fresh_medium l d
unfolding fresh_medium medium_length
fresh l d z v ez ev =
    let f : Fields = record { blocks = l; pages = d; oldest = 1; next = record { 0 = 1 }; last = record { 0 = 0 } } in
    let k = length_master_bytes f in
    let e : 512 * (3 + l + d) - length (master_bytes f) ≡ 512 * (2 + l + d) = omega arith in
    rw (ez, ev) (splice_zeros (512 * (3 + l + d)) (master_bytes f) (omega arith) ∙ ap (λ (j : ℕ). master_bytes f ++ zeros j) e)

pub slice_bounds-write-end : goal.slice_bounds-write-end
unfolding medium_length
slice_bounds-write-end c = let k = c.fill.auto.self ∙ c.requires in omega arith

pub slice_bounds-write-end-2 : goal.slice_bounds-write-end-2
unfolding medium_length
slice_bounds-write-end-2 c = let k = c.fill.auto.self ∙ c.requires in simp length-take (omega arith)

pub write-requires : goal.write-requires
unfolding medium_length
write-requires c = let k = c.fill.auto.self ∙ c.requires in simp length-take (omega arith)

pub returns : goal.returns
unfolding medium_length
returns c =
    let h = c.fill.auto.self ∙ c.requires in
    lent_back _ _ 0 512 (omega arith) c.write.auto.block
    ∙ fresh c.args.blocks c.args.pages _ _ (c.fill.ensures.after (λ y e. e) ∙ ap zeros c.requires) c.write.ensures
