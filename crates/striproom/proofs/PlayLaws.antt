-- A place of a run leads where its parts say.
use mathlib.Core.Path.{◌≡◌, refl, ap}
use mathlib.Core.Bool.{Bool, true}
use mathlib.Core.List.{List, []}
use Prim.Native.Nat.{ℕ}
use lib.ListN.{length, take}
use Rattle.std.specs.Prelude.{Result, IfOk}
use Rattle.std.proofs.lemmas.Result.{IfOk-weaker}
use Rattle.script.specs.declared.line.Line.{Line}
use Rattle.script.specs.Run.{Stand, stand, play_of}
use Rattle.rooms.specs.Room.{Room}
use Rattle.rooms.specs.Steps.{does}
use Rattle.striproom.specs.Play.{Leads}

-- before the first byte
pub at_first : (l : Line) (r : Room) (bytes : List ℕ) → stand l r true [] ≡ play_of does (stand l r true []) (take 0 bytes)
unfolding play_of
at_first l r bytes = refl

pub leads : (u : Stand Room) (l : Line) (r : Room) (on : Bool) (o out : List ℕ) → stand l r on o ≡ u → take (length o) out ≡ o → Leads u l r on out
leads u l r on o out e q =
    (ap (λ (v : Stand Room). v.line) e, ap (λ (v : Stand Room). v.world) e, ap (λ (v : Stand Room). v.on) e, rw (ap (λ (v : Stand Room). v.out) e) at q)

-- what holds of a value that is no error
pub IfOk-at : {X Y : Type 0} (r : Result X Y) {P Q : X → Type 0} → IfOk r P → ((x : X) → P x → Q x) → IfOk r Q
IfOk-at r {P} {Q} h f = IfOk-weaker r P Q f h
