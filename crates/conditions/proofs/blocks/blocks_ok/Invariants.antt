-- Each turn judges one block; the blocks that are left, judged from there on, are the whole judgement.
use mathlib.Core.Path.{◌≡◌}
use Prim.Native.Nat.{◌+◌, ◌-◌}
use Rattle.conditions.specs.Lookup.{low_of}
use Rattle.conditions.specs.Passes.{blocks_ok}
use Rattle.conditions.proofs.blocks.blocks_ok.Given as goal

abbrev pub invariant-loop-k : goal.invariant-loop-k
invariant-loop-k l = blocks_ok l.medium l.blocks l.pages (low_of l.last) (l.oldest + l.k) (l.count - l.k) ≡ blocks_ok l.medium l.blocks l.pages 0 l.oldest l.count
