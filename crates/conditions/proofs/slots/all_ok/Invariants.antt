-- What is known of each record is kept, and the test of the slots from n on has the answer of the whole.
use mathlib.Core.Path.{◌≡◌}
use Prim.Native.Nat.{◌-◌, ◌*◌}
use Rattle.conditions.specs.Passes.{all_of, slot_ok}
use Rattle.conditions.specs.Lookup.{Tracks}
use Rattle.conditions.proofs.slots.all_ok.Given as goal

abbrev pub invariant-loop-n : goal.invariant-loop-n
invariant-loop-n l = record {
  tracks : Tracks l.pairs.medium.now l.pairs.blocks l.cache l.n l.newest;
  rest : all_of (slot_ok l.pairs.medium.now l.pairs.blocks l.pages l.cache) l.n (15 * l.pages - l.n) ≡ all_of (slot_ok l.pairs.medium.now l.pairs.blocks l.pages l.cache) 0 (15 * l.pages);
}
