-- The chain takes the least of the first changes that are not 0, and the tail's sequence where there is none. Assumes nothing.
use mathlib.Core.Path.{◌≡◌, sym, ◌∙◌}
use Prim.Native.Nat.{min}
use lib.ListN.{take}
use Rattle.std.proofs.Common.{rules, tests}
use Rattle.std.specs.List.{reduce}
use Rattle.std.proofs.lemmas.Iterator.{YieldsList-from_slice}
use Rattle.std.proofs.lemmas.Iterator.Adapters.{option_map_id}
use Rattle.std.proofs.lemmas.Iterator.Consumers.{YieldsList-from_copied, YieldsList-from_filter, min_from_yields_List}
use Rattle.store.specs.Checkpoint.{new_oldest}
use Rattle.checkpoints.proofs.LeastLaws.{changed, least_is}
use Rattle.checkpoints.proofs.new_oldest.Goals as goal

pub returns : goal.returns
unfolding new_oldest
returns c =
    let s = c.args.state.now in
    let least : c.min.result ≡ reduce min (changed (take s.pages s.first)) =
    sym (option_map_id _) ∙ min_from_yields_List _ _ c.min.ensures.ran (YieldsList-from_filter _ _ (YieldsList-from_copied (YieldsList-from_slice (take s.pages s.first) cc)) c.filter.ensures.closure (λ x r q k. search (rules, tests))) in
    simp (c.unwrap_or.ensures, least, least_is, c.sequence.ensures)
