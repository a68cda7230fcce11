-- The numbers are laid, and stay where the places are laid behind them.
use native.Mathlib.Omega.{arith}
use Rattle.relief.proofs.WordLaws.{all_laid}
use Rattle.relief.proofs.words.lay.Goals as goal

pub returns : goal.returns
returns c =
    all_laid _ _ _ (omega arith) (omega arith) c.lay_numbers.ensures c.lay_places.ensures.front c.lay_places.ensures.placed
