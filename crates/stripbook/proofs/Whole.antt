-- What the program prints for an input is what the definition says, over reads of any size: a line taken byte by byte
-- asks for what its words say.
use mathlib.Core.Path.{◌≡◌, ap}
use mathlib.Core.Bool.{true}
use mathlib.Core.List.{List, []}
use Prim.Native.Nat.{ℕ}
use Rattle.script.specs.Reader.{no_line}
use Rattle.script.specs.Run.{stand, over_reads, joined_reads}
use Rattle.script.proofs.RunLaws.{whole_reads}
use Rattle.book.specs.Line.{line_of}
use Rattle.book.specs.Steps.{step_by, does}
use Rattle.book.specs.Whole.{start, prints_of}
use Rattle.book.proofs.LineLaws.{line_call, no_letter}

pub prints : (ps : List (List ℕ)) → over_reads does (stand no_line start true []) ps ≡ prints_of (joined_reads ps)
unfolding prints_of step_by
prints ps =
    whole_reads does (λ w l. step_by w (line_of l)) (λ w bs. ap (step_by w) (line_call bs)) (λ w l h. ap (step_by w) (no_letter l h)) ps start
