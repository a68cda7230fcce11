-- The fewest digits are those of the definition.
use mathlib.Core.Path.{ap, ◌∙◌}
use native.Mathlib.Omega.{arith}
use lib.ListN.{take, length-take}
use Prim.Native.Nat.{ℕ}
use mathlib.Core.List.{List, ◌++◌}
use Rattle.script.proofs.PrintLaws.{digits_decimal, fewest_20}
use Rattle.script.proofs.print.number.Goals as goal

pub bytes-requires : goal.bytes-requires
bytes-requires c =
    let h = fewest_20 c.args.x c.decimal-count.result (omega arith) c.decimal-count.ensures.len in
    simp length-take (omega arith)

pub returns : goal.returns
returns c =
    let h = fewest_20 c.args.x c.decimal-count.result (omega arith) c.decimal-count.ensures.len in
    record {
      upper_bound = omega (arith, simp length-take at c.bytes.ensures.value);
      out_after =
          c.bytes.ensures.out_after ∙ ap (λ (t : List ℕ). take c.args.n c.args.out.now ++ t)
          (c.decimal-count.ensures.digits ∙ digits_decimal _ _ c.decimal-count.ensures.len h);
    }
