-- The numbers of a whole master lie where the definition reads them.
use native.Mathlib.Omega.{arith}
use Rattle.std.proofs.lemmas.Grind.{common_steps}
use Rattle.fields.specs.Block.{blk}
use lib.ListN.{length-take}
use Rattle.conditions.proofs.ChecksLaws.{one_up}
use Rattle.opening.proofs.SurveyLaws.{master_broken, master_is}
use Rattle.opening.proofs.survey.master_ok.Goals as goal

pub slice_bounds-read-end : goal.slice_bounds-read-end
slice_bounds-read-end c = simp length-take (omega arith)

pub read-requires : goal.read-requires
read-requires c = simp length-take (omega arith)

pub returns-in_default : goal.returns-in_default
unfolding blk
returns-in_default c = master_broken _ _ _ _ c.read.ensures c.in_default.is

pub returns-then-contains : goal.returns-then-contains
unfolding blk
returns-then-contains c = rw (master_is c.args.medium.now c.args.blocks c.args.pages _ _ c.read.ensures c.in-Some.is) (grind (arith, common_steps, one_up))

pub returns-else-contains : goal.returns-else-contains
unfolding blk
returns-else-contains c = rw (master_is c.args.medium.now c.args.blocks c.args.pages _ _ c.read.ensures c.in-Some.is) (grind (arith, common_steps, one_up))
