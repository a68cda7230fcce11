-- What is known of each record is kept, and the test of the slots from n on has the answer of the whole.
use mathlib.Core.Path.{◌∙◌}
use Prim.Native.Nat.{◌*◌}
use native.Mathlib.Numerals.{add-one}
use native.Mathlib.Nat.{sub-zero}
use native.Mathlib.Omega.{arith}
use Rattle.conditions.proofs.SlotsLaws.{tracks_start, slot_same}
use Rattle.conditions.proofs.AllOfLaws.{all_turn, all_stop, all_end}
use Rattle.conditions.proofs.slots.all_ok.Goals as goal

pub loop-n-init : goal.loop-n-init
loop-n-init c = record { tracks = tracks_start _ _ _; rest = simp sub-zero }

pub slot_ok-requires : goal.slot_ok-requires
slot_ok-requires c =
    record {
      room = record { pages = c.args.pages; few = omega arith; size = omega arith; below = omega arith };
      n_bound = c.requires.keys_below _ (omega arith);
      next_value = c.requires.next_value;
      tracks = c.loop-n.invariant.tracks;
    }

pub returns-then-not-slot_ok : goal.returns-then-not-slot_ok
returns-then-not-slot_ok c =
    all_stop _ (15 * c.args.pages) _ _ (omega arith) (c.slot_ok.ensures.value ∙ slot_same _ _ _ _ _) c.if-not-slot_ok.true ∙ c.loop-n.invariant.rest

pub loop-n-preserved : goal.loop-n-preserved
loop-n-preserved c =
    record {
      tracks = rw add-one (c.slot_ok.ensures.tracks c.if-not-slot_ok.false);
      rest = all_turn _ (15 * c.args.pages) _ _ (omega arith) (c.slot_ok.ensures.value ∙ slot_same _ _ _ _ _) c.if-not-slot_ok.false ∙ c.loop-n.invariant.rest;
    }

pub returns : goal.returns
returns c = all_end _ (15 * c.args.pages) c.loop-n.n (omega arith) ∙ c.loop-n.invariant.rest
