-- Lengths that a call's step keeps: a stamp is written within its slot, and k places of the table have k pairs.
use Rattle.layout.specs.declared.CommitTime.{CommitTime}
use Rattle.std.specs.Prelude.{Option, Some, None}
use mathlib.Core.Path.{◌≡◌, refl, ap}
use Prim.Native.Nat.{ℕ, zero, suc, ◌+◌}
use mathlib.Core.List.{List}
use lib.ListN.{length}
use Rattle.layout.proofs.CacheLaws.{length_stamp_cell}
use Rattle.store.specs.declared.Place.{Place}
use Rattle.store.specs.StorePage.{stamp_with}
use Rattle.store.specs.Checkpoint.{pairs_from}

pub length_stamp_with : (t : Option CommitTime) (page : List ℕ) (i : ℕ) → length (stamp_with t page i) ≡ length page
length_stamp_with (Some t) page i = length_stamp_cell page i t.0
length_stamp_with None page i = refl

pub length_pairs_from : (ps : List Place) (o i k : ℕ) → length (pairs_from ps o i k) ≡ k
unfolding pairs_from
length_pairs_from ps o i zero = refl
length_pairs_from ps o i (suc k) = ap suc (length_pairs_from ps o (i + 1) k)
