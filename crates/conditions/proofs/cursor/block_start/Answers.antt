-- Below 35 blocks of 512 bytes.
use native.Mathlib.Omega.{arith}
use Rattle.layout.proofs.PlaceLaws.{log_block_high}
use Rattle.conditions.proofs.cursor.block_start.Goals as goal

pub overflow_mul-result : goal.overflow_mul-result
overflow_mul-result c = omega (arith, log_block_high c.args.blocks c.args.sequence (omega arith))
