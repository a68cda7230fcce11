-- A digit has no bit of a number times 16.
use mathlib.Core.Path.{◌≡◌}
use Prim.Native.Nat.{◌*◌, ◌%◌, ◌^◌}
use native.Mathlib.Omega.{arith}
use Rattle.std.proofs.lemmas.Nat.{or_shifted}
use Rattle.script.specs.Reader.{pushed}
use Rattle.script.proofs.line.push.Goals as goal

pub returns : goal.returns
unfolding pushed
returns c =
    let e : c.args.n * 16 % 2 ^ 64 ≡ c.args.n % 2 ^ 60 * 2 ^ 4 = omega arith in
    rw e (or_shifted (c.args.n % 2 ^ 60) 4 c.args.digit c.requires)
