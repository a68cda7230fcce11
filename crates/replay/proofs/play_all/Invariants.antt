-- Each turn takes a byte or more.
use lib.ListN.{length}
use Rattle.replay.proofs.play_all.Given as goal

abbrev pub decreases-loop-rest : goal.decreases-loop-rest
decreases-loop-rest g l = length l.rest
