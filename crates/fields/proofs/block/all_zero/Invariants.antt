-- The bytes are all zero just if those before b are and those from b on are.
use Rattle.std.proofs.Common.{◌≡◌, drop}
use mathlib.Core.Bool.{◌&&◌}
use Rattle.fields.specs.Equal.{all_zero}
use Rattle.fields.proofs.block.all_zero.Given as goal

abbrev pub invariant-loop-b : goal.invariant-loop-b
invariant-loop-b l = l.zero && all_zero (drop l.b-index l.s) ≡ all_zero l.s
