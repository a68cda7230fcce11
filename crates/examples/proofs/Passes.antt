-- A pass over events gives what the definitions of runs say of them: it takes the same steps, each once.
use Prim.Native.Nat.{ℕ}
use mathlib.Core.Path.{◌≡◌, refl, sym, ap, ◌∙◌}
use mathlib.Core.Bool.{Bool, ◌&&◌, and-true, and_assoc}
use mathlib.Core.List.{List, [], ◌∷◌, ◌++◌}
use Rattle.runs.specs.Event.{Event, typed}
use Rattle.runs.specs.Book.{Book, blank, feed}
use Rattle.runs.specs.Machine.{World, step, allowed, is_run, trace, formatted}
use Rattle.runs.specs.Moments.{world_after, book_after, book_at, seen_at}
use Rattle.examples.specs.Compute.{Ran, ran_from, ran, computed}

abbrev said : ℕ → ℕ → World → Book → List Event → Ran
said l d w b es =
    record { world = world_after l d w es; book = book_after l d w b es; seen = trace l d w es; run = is_run l d w es }

pub ran_from_law : (l d : ℕ) (w : World) (b : Book) (es : List Event) → ran_from l d w b es ≡ said l d w b es
unfolding ran_from world_after book_after trace is_run
ran_from_law l d w b [] = refl
ran_from_law l d w b (e ∷ es) =
    let x = step l d w e in
    ap (λ (r : Ran). record {
      world = r.world;
      book = r.book;
      seen = x.seen ∷ r.seen;
      run =
          typed e && (allowed l d w e && r.run);
    })
    (ran_from_law l d x.world (feed b e x.seen) es)

pub ran_is : (l d : ℕ) (es : List Event) → ran l d es ≡ said l d (formatted l d) blank es
unfolding ran
ran_is l d es = ran_from_law l d (formatted l d) blank es

-- ---- one event behind others

pub run_behind : (l d : ℕ) (w : World) (es : List Event) (e : Event)
    → is_run l d w (es ++ (e ∷ [])) ≡ (is_run l d w es && (typed e && allowed l d (world_after l d w es) e))
unfolding is_run world_after
run_behind l d w [] e = ap (λ (a : Bool). typed e && a) (and-true (allowed l d w e))
run_behind l d w (x ∷ es) e =
    ap (λ (a : Bool). typed x && (allowed l d w x && a)) (run_behind l d (step l d w x).world es e)
    ∙ sym (simp (and_assoc, and_assoc))

pub world_behind : (l d : ℕ) (w : World) (es : List Event) (e : Event)
    → world_after l d w (es ++ (e ∷ [])) ≡ (step l d (world_after l d w es) e).world
unfolding world_after
world_behind l d w [] e = refl
world_behind l d w (x ∷ es) e = world_behind l d (step l d w x).world es e

pub computed_is : (l d : ℕ) (es : List Event) (e : Event)
    → computed l d es e ≡ record {
      run = is_run l d (formatted l d) (es ++ (e ∷ []));
      book = book_at l d es;
      seen =
          seen_at l d es e;
    }
unfolding computed
computed_is l d es e =
    ap (λ (r : Ran). record {
      run = r.run && (typed e && allowed l d r.world e);
      book = r.book;
      seen =
          (step l d r.world e).seen;
    }) (ran_is l d es)
    ∙ ap (λ (a : Bool). record { run = a; book = book_at l d es; seen = seen_at l d es e })
    (sym (run_behind l d (formatted l d) es e))
