-- The first newline is where the line ends.
use mathlib.Core.Path.{◌≡◌, ap, ◌∙◌}
use mathlib.Core.List.{List}
use Prim.Native.Nat.{ℕ, ◌+◌, ◌-◌}
use native.Mathlib.Omega.{arith}
use lib.ListN.{length, take, drop, length-drop}
use lib.Seq.{take_all}
use Rattle.std.proofs.Common.{rules, tests}
use Rattle.std.specs.Prelude.{unwrap_or}
use Rattle.std.proofs.lemmas.Iterator.{YieldsList-from_slice}
use Rattle.std.proofs.lemmas.Iterator.Search.{position_from_yields_List}
use Rattle.shortest.specs.Lines.{line_in}
use Rattle.shortest.proofs.LineLaws.{is_newline, line_len}
use Rattle.shortest.proofs.lines.line_end.Goals as goal

pub returns-clause-value : goal.returns-clause-value
returns-clause-value c =
    let b = c.args.bytes.now in
    let r : List ℕ = take (length b - c.args.from) (drop c.args.from b) in
    let d = length-drop c.args.from b in
    let q : r ≡ drop c.args.from b = take_all (length b - c.args.from) (drop c.args.from b) (omega arith) in
    let p = position_from_yields_List is_newline _ _ _ c.position.ensures.ran (YieldsList-from_slice r c.iter.ensures.rest)
    (λ x b q k. search (rules, tests)) in
    ap (λ (n : ℕ). c.args.from + n)
    (c.unwrap_or.ensures ∙ ap (λ o. unwrap_or o (length r)) p ∙ line_len r ∙ ap (λ (t : List ℕ). length (line_in t)) q)
