-- A call made by the code is a step of the play, and its number is that of its answer; a play begins on the store that
-- a script finds.
use Rattle.std.specs.Prelude.{Option, Some, Result}
use mathlib.Core.Path.{◌≡◌, refl, sym, ap, ◌∙◌}
use mathlib.Core.Bool.{Bool, true, false}
use mathlib.Core.List.{List, [], ◌∷◌}
use Prim.Native.Nat.{ℕ}
use native.Mathlib.Omega.{arith}
use lib.ListN.{length, replicate}
use Rattle.fields.specs.Block.{medium_length, cache_length}
use Rattle.store.specs.declared.Refusal.{Refusal}
use Rattle.store.specs.State.{in_range}
use Rattle.store.specs.Answer.{Outcome}
use Rattle.store.specs.Format.{Formatted, format_if, format_of}
use Rattle.store.specs.Open.{open_of}
use Rattle.book.specs.declared.call.Call.{Call}
use Rattle.book.specs.Room.{outcome_of, said_of, said_number}
use Rattle.book.specs.Steps.{World, left_by}
use Rattle.book.specs.Whole.{opened, start}
use Rattle.book.proofs.PlayLaws.{number_law}
use Rattle.shortest.specs.Script.{end_from, end_of}
use Rattle.shortest.specs.Choice.{picked}
use Rattle.shortest.specs.Made.{Made, made, made_of}

-- a call of which this is said leaves this world
pub call_made : (call : Call) (w v : World) (said : Result (Option ℕ) Refusal) (n : ℕ)
    → v ≡ left_by (outcome_of call w.state w.medium w.cache)
    → said ≡ said_of (outcome_of call w.state w.medium w.cache)
    → n ≡ said_number said
    → made v n ≡ made_of w (Some call)
unfolding made_of
call_made call w v said n l s e =
    let o = outcome_of call w.state w.medium w.cache in
    ap (λ (t : World). made t n) l ∙ ap (made (left_by o)) (e ∙ ap said_number s ∙ number_law o)

-- a store that was formatted and opened is the one that the lines find
pub play_start : (f : List Bool) (cs : List (Option Call)) (d : Formatted) (o : Outcome)
    → d ≡ format_of (replicate 4608 0) 4 2
    → o ≡ open_of d.medium (replicate 1024 0) 4 2 → end_from (left_by o) 0 (picked f cs) ≡ end_of (picked f cs)
unfolding end_of start opened format_of format_if in_range medium_length cache_length
play_start f cs d o e g =
    ap (λ (t : Outcome). end_from (left_by t) 0 (picked f cs))
    (g ∙ ap (λ (t : Formatted). open_of t.medium (replicate 1024 0) 4 2) e)

-- the first line that is left, from a world on, behind the number r
module _ (w : World) (r : ℕ) (b : Bool) (o : Option Call) (f g : List Bool) (cs ds : List (Option Call))
    (e : f ≡ b ∷ g) (d : cs ≡ o ∷ ds) where
  pub play_yes : (v : World) (n : ℕ) → b ≡ true → made v n ≡ made_of w o
      → end_from v n (picked g ds) ≡ end_from w r (picked f cs)
  unfolding end_from picked made_of
  play_yes v n t m = ap (λ (y : Made). end_from y.world y.number (picked g ds)) m ∙ simp (e, d, t)

  pub play_no : b ≡ false → end_from w r (picked g ds) ≡ end_from w r (picked f cs)
  unfolding picked
  play_no t = simp (e, d, t)

-- no line is left
pub no_flag : (f : List Bool) (cs : List (Option Call)) → length f ≡ 0 → picked f cs ≡ []
unfolding picked
no_flag [] cs e = refl
no_flag (b ∷ f) cs e = absurd (omega arith)

pub no_place : (f : List Bool) (cs : List (Option Call)) → length cs ≡ 0 → picked f cs ≡ []
unfolding picked
no_place [] cs e = refl
no_place (b ∷ f) [] e = refl
no_place (b ∷ f) (o ∷ cs) e = absurd (omega arith)

pub play_end : (w : World) (r x : ℕ) (cs : List (Option Call)) → cs ≡ [] → end_from w r cs ≡ x → r ≡ x
unfolding end_from
play_end w r x cs e g = sym (ap (end_from w r) e) ∙ g
