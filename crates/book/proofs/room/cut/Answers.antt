-- The cache that is opened is all zeros.
use mathlib.Core.Path.{◌≡◌}
use lib.ListN.{length}
use Rattle.fields.specs.Block.{zeros}
use Rattle.book.proofs.room.cut.Goals as goal

pub returns : goal.returns
returns c =
    let e : c.fill.new.self ≡ zeros (length c.args.cache.now) = c.fill.ensures.after (λ y e. e) in
    rw e at c.«open».ensures
