-- No look comes here.
use Rattle.rooms.proofs.PlanLaws.{no_call}
use Rattle.turns.proofs.turn.change.Goals as goal

pub returns-in_default : goal.returns-in_default
returns-in_default c =
    let k = c.in_default in
    no_call c.args.asked.call c.args.asked.value c.args.state.now c.args.medium.now c.args.cache.now k.not-Begin k.not-Write
    k.not-Erase k.not-Commit k.not-Abort k.not-StoreLog k.not-StorePage k.not-Checkpoint c.requires
