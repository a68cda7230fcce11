-- By 01's question one run answers the same read twice, and differently; by that of #102, with the log stored before
-- the first, alike. Both are computed.
use mathlib.Core.Path.{refl}
use Rattle.examples.specs.Compute.{ran}
use Rattle.examples.specs.Table.{Right}
use Rattle.examples.specs.LastGiven.{given_as_of, given_called, given_step, given_ran, Differ, survives}
use Rattle.examples.proofs.Starred.{passed, by_pass}

pub differ : Differ
unfolding Differ given_ran given_step given_called given_as_of ran
differ = refl

pub survives_right : Right survives
unfolding passed
survives_right = by_pass survives refl
