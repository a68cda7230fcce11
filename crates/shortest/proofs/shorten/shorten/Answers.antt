-- The script that is kept is the input's, and the lines that are put are those that its definition prints.
use mathlib.Core.Path.{◌≡◌, ap, ◌∙◌}
use native.Mathlib.Omega.{arith}
use borrow.Author.Rules.{rules}
use Rattle.std.specs.Prelude.{is_some}
use Rattle.std.specs.List.{count_by}
use Rattle.script.specs.Words.{lines_of}
use Rattle.shortest.specs.Script.{script_of}
use Rattle.shortest.proofs.PrintLaws.{prints_none, prints_many, prints_are, count_script, few_lines}
use Rattle.shortest.proofs.shorten.shorten.Goals as goal

pub returns-in_err-calls-clause-nothing : goal.returns-in_err-calls-clause-nothing
returns-in_err-calls-clause-nothing c = let p = prints_many c.args.bytes.now c.in_err-calls.ensures.long in search rules

pub returns-in_default-clause-out_after : goal.returns-in_default-clause-out_after
returns-in_default-clause-out_after c =
    let e : c.count-count.result ≡ count_by is_some c.in_ok-calls.calls = search rules in
    let k = e ∙ ap (count_by is_some) c.in_ok-calls.ensures.kept ∙ count_script (lines_of c.args.bytes.now) in
    let f = c.in_default.ensures in
    prints_none c.args.bytes.now (omega arith)

pub shortest-flags-requires : goal.shortest-flags-requires
shortest-flags-requires c =
    let e : c.count-count.result ≡ count_by is_some c.in_ok-calls.calls = search rules in
    let k = e ∙ ap (count_by is_some) c.in_ok-calls.ensures.kept ∙ count_script (lines_of c.args.bytes.now) in
    let f = c.in-Some.ensures in
    let l = few_lines (script_of (lines_of c.args.bytes.now)) c.in_ok-calls.ensures.long in
    omega arith

pub returns-clause-out_after : goal.returns-clause-out_after
returns-clause-out_after c =
    let e : c.count-count.result ≡ count_by is_some c.in_ok-calls.calls = search rules in
    let k = e ∙ ap (count_by is_some) c.in_ok-calls.ensures.kept ∙ count_script (lines_of c.args.bytes.now) in
    let f = c.in-Some.ensures in
    prints_are c.args.bytes.now c.in_ok-calls.calls c.in-Some.m c.shortest-flags.result _ c.in_ok-calls.ensures.kept
    c.in_ok-calls.ensures.long (omega arith) c.shortest-flags.ensures c.put.ensures.out_after
