-- What the table says of a line decides where it goes: a line from stage 3 on is a call or a handover, and of the lines
-- below, those that change the room are `F`, `O`, `o`, `X` and `Z`.
use Rattle.std.specs.Prelude.{Ok}
use mathlib.Core.Path.{◌≡◌, refl, sym, ap, ◌∙◌}
use mathlib.Core.Bool.{false}
use mathlib.Core.List.{List}
use Prim.Native.Nat.{ℕ, ◌≤◌}
use native.Mathlib.Omega.{arith}
use lib.ListN.{replicate}
use lib.Dec.{eqb, leb}
use borrow.Author.Tests.{leb-true}
use Rattle.store.specs.declared.Answer.TheVariants.{Done}
use Rattle.store.specs.declared.State.{State}
use Rattle.store.specs.Answer.{leaves}
use Rattle.script.specs.declared.call.Call.{Call}
use Rattle.script.specs.declared.call.Call.TheVariants.{Format, Open, OpenSized, Cut, Begin, Write, Erase, Read, Commit}
use Rattle.script.specs.declared.call.Call.TheVariants.{Abort, Hand, AsOf, Changes, StoreLog, StorePage, Checkpoint}
use Rattle.script.specs.declared.call.Call.TheVariants.{Block, Page, Poke, Other}
use Rattle.fields.proofs.Choose.{bool_case, no}
use Rattle.rooms.specs.declared.parts.Standing.{Standing}
use Rattle.rooms.specs.declared.plan.Plan.{Plan}
use Rattle.rooms.specs.Room.{Room, Turn, within_buffer, plan_of, pages_in, right_length, opening, outcome_of, calling}
use Rattle.rooms.specs.Room.{turn_by}
use Rattle.rooms.specs.Parts.{stage_of, room_of}
use Rattle.rooms.proofs.RoomLaws.{stage_2, pages_in_law}

-- a line that is known, and its plan
pub plan_stage : (k j : Call) (p : Plan) (n : ℕ) → p ≡ plan_of k → k ≡ j → p.stage ≤ n → (plan_of j).stage ≤ n
plan_stage k j p n e f h = rw (e, f) at h

-- a line that asks for more than the buffer is played in no stage
within_case : {P : Type 0} (bytes stage : ℕ) → (bytes ≤ 40000 → within_buffer bytes stage ≡ stage → P)
    → (within_buffer bytes stage ≡ 4 → P) → P
unfolding within_buffer
within_case bytes stage f g = bool_case (leb bytes 40000) (λ e. f (leb-true _ _ e) (simp e)) (λ e. g (simp e))

pub within_fits : (bytes stage n : ℕ) → within_buffer bytes stage ≤ n → n ≤ 3 → (bytes ≤ 40000) × (stage ≤ n)
within_fits bytes stage n h g = within_case bytes stage (λ a e. (a, rw e at h)) (λ e. absurd (omega arith))

pub turn_calls : (k : Call) (v : List ℕ) (r : Room) → (plan_of k).stage ≡ 3 → eqb (plan_of k).letter 72 ≡ false
    → calling k v r ≡ turn_by k v r
unfolding plan_of turn_by
turn_calls (Format l d) v r e h = absurd (omega arith)
turn_calls (Open byte) v r e h = absurd (omega arith)
turn_calls (OpenSized bytes) v r e h = within_case bytes 2 (λ a f. absurd (omega arith)) (λ f. absurd (omega arith))
turn_calls Cut v r e h = absurd (omega arith)
turn_calls (Begin clock) v r e h = refl
turn_calls (Write number key) v r e h = refl
turn_calls (Erase number key) v r e h = refl
turn_calls (Read number key) v r e h = refl
turn_calls (Commit number clock) v r e h = refl
turn_calls (Abort number) v r e h = refl
turn_calls (Hand flight from to began ended) v r e h = no (sym h)
turn_calls (AsOf key time) v r e h = refl
turn_calls (Changes key t1 t2 bytes) v r e h = refl
turn_calls StoreLog v r e h = refl
turn_calls (StorePage page) v r e h = refl
turn_calls Checkpoint v r e h = refl
turn_calls (Block block) v r e h = absurd (omega arith)
turn_calls (Page page) v r e h = absurd (omega arith)
turn_calls (Poke offset byte) v r e h = absurd (omega arith)
turn_calls Other v r e h = absurd (omega arith)

-- the lines that the match on the calls leaves to its last arm
pub no_call : (k : Call) (v : List ℕ) (s : State) (m c : List ℕ) → ((a : ℕ) → k ≡ Begin a → ⊥)
    → ((a b : ℕ) → k ≡ Write a b → ⊥) → ((a b : ℕ) → k ≡ Erase a b → ⊥) → ((a b : ℕ) → k ≡ Commit a b → ⊥)
    → ((a : ℕ) → k ≡ Abort a → ⊥) → (k ≡ StoreLog → ⊥) → ((a : ℕ) → k ≡ StorePage a → ⊥) → (k ≡ Checkpoint → ⊥)
    → (plan_of k).looks ≡ false → leaves (Ok Done) s m c ≡ outcome_of k v s m c
unfolding plan_of outcome_of
no_call (Format l d) v s m c x y z u w f g h e = refl
no_call (Open byte) v s m c x y z u w f g h e = refl
no_call (OpenSized bytes) v s m c x y z u w f g h e = refl
no_call Cut v s m c x y z u w f g h e = refl
no_call (Begin clock) v s m c x y z u w f g h e = absurd (x clock refl)
no_call (Write number key) v s m c x y z u w f g h e = absurd (y number key refl)
no_call (Erase number key) v s m c x y z u w f g h e = absurd (z number key refl)
no_call (Read number key) v s m c x y z u w f g h e = no (sym e)
no_call (Commit number clock) v s m c x y z u w f g h e = absurd (u number clock refl)
no_call (Abort number) v s m c x y z u w f g h e = absurd (w number refl)
no_call (Hand flight from to began ended) v s m c x y z u w f g h e = refl
no_call (AsOf key time) v s m c x y z u w f g h e = no (sym e)
no_call (Changes key t1 t2 bytes) v s m c x y z u w f g h e = no (sym e)
no_call StoreLog v s m c x y z u w f g h e = absurd (f refl)
no_call (StorePage page) v s m c x y z u w f g h e = absurd (g page refl)
no_call Checkpoint v s m c x y z u w f g h e = absurd (h refl)
no_call (Block block) v s m c x y z u w f g h e = refl
no_call (Page page) v s m c x y z u w f g h e = refl
no_call (Poke offset byte) v s m c x y z u w f g h e = refl
no_call Other v s m c x y z u w f g h e = refl

-- the lines that the match on those that change a room leaves to its last arm are calls of an opened store
pub rest_stage : (k : Call) (n : ℕ) → ((a b : ℕ) → k ≡ Format a b → ⊥) → ((a : ℕ) → k ≡ Open a → ⊥)
    → ((a : ℕ) → k ≡ OpenSized a → ⊥) → (k ≡ Cut → ⊥) → ((a b : ℕ) → k ≡ Poke a b → ⊥)
    → (plan_of k).looks ≡ false → (plan_of k).stage ≤ n → n ≤ 3 → (plan_of k).stage ≡ 3
unfolding plan_of
rest_stage (Format l d) n x y z u w e h g = absurd (x l d refl)
rest_stage (Open byte) n x y z u w e h g = absurd (y byte refl)
rest_stage (OpenSized bytes) n x y z u w e h g = absurd (z bytes refl)
rest_stage Cut n x y z u w e h g = absurd (u refl)
rest_stage (Begin clock) n x y z u w e h g = refl
rest_stage (Write number key) n x y z u w e h g = refl
rest_stage (Erase number key) n x y z u w e h g = refl
rest_stage (Read number key) n x y z u w e h g = no (sym e)
rest_stage (Commit number clock) n x y z u w e h g = refl
rest_stage (Abort number) n x y z u w e h g = refl
rest_stage (Hand flight from to began ended) n x y z u w e h g = refl
rest_stage (AsOf key time) n x y z u w e h g = no (sym e)
rest_stage (Changes key t1 t2 bytes) n x y z u w e h g = no (sym e)
rest_stage StoreLog n x y z u w e h g = refl
rest_stage (StorePage page) n x y z u w e h g = refl
rest_stage Checkpoint n x y z u w e h g = refl
rest_stage (Block block) n x y z u w e h g = no (sym e)
rest_stage (Page page) n x y z u w e h g = no (sym e)
rest_stage (Poke offset byte) n x y z u w e h g = absurd (w offset byte refl)
rest_stage Other n x y z u w e h g = absurd (omega arith)

-- a cache of the right length
pub open_right : (t : Standing) (m c : List ℕ) (s : State) (n byte : ℕ) (x : Turn) → 2 ≤ stage_of t
    → n ≡ right_length t.pages → x ≡ opening 79 (room_of t m c s) (replicate n byte)
    → x ≡ opening 79 (room_of t m c s) (replicate (right_length (pages_in (room_of t m c s))) byte)
open_right t m c s n byte x h e f =
    f ∙ ap (λ (j : ℕ). opening 79 (room_of t m c s) (replicate j byte))
    (e ∙ ap right_length (sym (pages_in_law t m c s (stage_2 t h))))
