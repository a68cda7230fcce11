-- What is said of the call is its number.
use Rattle.store.specs.Answer.{answer_number}
use Rattle.shortest.specs.Made.{made_of}
use Rattle.shortest.proofs.PlayLaws.{call_made}
use Rattle.shortest.proofs.play.make.Goals as goal

pub returns-in-Some : goal.returns-in-Some
returns-in-Some c =
    rw c.in-Some.is
    (call_made c.in-Some.call _ _ c.make.result _ c.make.ensures.left c.make.ensures.said c.number.ensures)

pub returns-in-None : goal.returns-in-None
unfolding made_of answer_number
returns-in-None c = rw c.in-None.is
