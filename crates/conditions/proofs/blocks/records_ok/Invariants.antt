-- Each turn judges one record; what is left of the block, judged from there on, is the whole judgement.
use Prim.Native.Nat.{◌-◌, ◌≤◌}
use Rattle.layout.specs.Journal.{parsed}
use Rattle.conditions.specs.Lookup.{low_of}
use Rattle.conditions.proofs.BlockPasses.{left_of, Same}
use Rattle.conditions.proofs.blocks.records_ok.Given as goal

abbrev pub invariant-loop-head : goal.invariant-loop-head
invariant-loop-head l = record {
  from : 10 ≤ l.at;
  up_to : l.at ≤ 512;
  same : Same l.pages (low_of l.last) (left_of l.block l.at) (low_of l.fn.last) (parsed l.block);
}

abbrev pub decreases-loop-head : goal.decreases-loop-head
decreases-loop-head l = 512 - l.at
