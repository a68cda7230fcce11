-- The stores fill the line from the front, one behind the other.
use Rattle.chain.proofs.ByteLaws.{line_laid}
use Rattle.chain.proofs.lines.put_line.Goals as goal

pub returns : goal.returns
returns c =
    line_laid _ _ _ _ _ _ _ c.requires.line_len c.requires.value_len c.put8.ensures (c.fill.ensures.after (λ y e. e)) c.copy_from_slice.ensures.after
