-- The line is the room's; what it says of the file holds of any two media that are alike but for the block.
use mathlib.Core.Path.{◌∙◌}
use native.Mathlib.Omega.{arith}
use Rattle.disk.proofs.StepLaws.{line_whole, line_changed, line_stored}
use Rattle.disk.proofs.step.play.Goals as goal

pub differ-requires : goal.differ-requires
differ-requires c = (
  omega (
    arith,
    c.extent_of-e.ensures.len_bound,
    c.medium_part.ensures.upper_bound,
    c.step-n.auto.medium,
    c.requires.medium_len,
  ),
  omega arith,
)

pub returns : goal.returns
returns c =
    let k = c.args in
    let s = k.state.now in
    let e = c.step-n.ensures in
    let x = c.extent_of-e.ensures in
    let h = c.step-n.auto.medium ∙ c.requires.medium_len in
    record {
      n_bound = e.n_bound;
      out_after = e.out_after;
      tail_after = e.room_after;
      len_bound = omega arith;
      whole =
          λ f. line_whole k.asked k.t _ k.medium.now k.cache.now s _ _ _ c.requires.medium_len h e.room_after f _ _ _ _
          _ _ c.medium_part.ensures.value c.of.ensures x.at_value.0 x.at_value.1 x.len_bound.0 c.keep.ensures
          c.differ.ensures;
      changed_value =
          λ f. line_changed k.asked k.t _ k.medium.now k.cache.now s _ _ _ c.requires.medium_len h e.room_after f _ _ _
          _ _ _ c.medium_part.ensures.value c.of.ensures x.at_value.0 x.at_value.1 x.len_bound.0 c.keep.ensures
          c.differ.ensures;
      len_after =
          λ f. line_stored k.asked k.t _ k.medium.now k.cache.now s _ _ _ c.requires.medium_len h e.room_after f _ _ _ _
          _ _ c.medium_part.ensures.value c.of.ensures x.at_value.0 x.at_value.1 x.len_bound.0 c.keep.ensures
          c.differ.ensures;
    }
