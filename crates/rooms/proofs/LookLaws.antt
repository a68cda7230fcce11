-- A line that looks leaves the room as it is, for the outcome of its call is the room's own state, medium and cache;
-- and a list that is answered lies within its buffer.
use Rattle.std.specs.Prelude.{Err, Ok, Result}
use mathlib.Core.Path.{◌≡◌, refl, sym, ap, ◌∙◌}
use mathlib.Core.Bool.{true, false}
use mathlib.Core.List.{List, ◌++◌, append-nil, append_assoc}
use Prim.Native.Nat.{ℕ, ◌*◌, ◌≤◌}
use native.Mathlib.Omega.{arith}
use lib.ListN.{length, take, replicate}
use lib.Seq.{length-take-le}
use lib.Dec.{eqb, leb}
use borrow.Author.Tests.{leb-true}
use Rattle.fields.specs.Block.{zeros}
use Rattle.layout.specs.Slot.{key_form}
use Rattle.store.specs.declared.Answer.{Answer}
use Rattle.store.specs.declared.Answer.TheVariants.{Listed}
use Rattle.store.specs.declared.Refusal.{Refusal}
use Rattle.store.specs.declared.State.{State}
use Rattle.store.specs.Answer.{Outcome}
use Rattle.store.specs.State.{fits}
use Rattle.store.specs.CurrentRead.{reads}
use Rattle.store.specs.Changes.{change_lines, changes_if, changes_of}
use Rattle.script.specs.declared.call.Call.{Call}
use Rattle.script.specs.declared.call.Call.TheVariants.{Format, Open, OpenSized, Cut, Begin, Write, Erase, Read, Commit}
use Rattle.script.specs.declared.call.Call.TheVariants.{Abort, Hand, AsOf, Changes, StoreLog, StorePage, Checkpoint}
use Rattle.script.specs.declared.call.Call.TheVariants.{Block, Page, Poke, Other}
use Rattle.fields.proofs.Choose.{bool_case, no}
use Rattle.rooms.specs.declared.parts.Standing.{Standing}
use Rattle.answers.specs.Text.{answer_text, list_text}
use Rattle.rooms.specs.Room.{ready, plan_of, outcome_of, called, calling}
use Rattle.rooms.specs.Parts.{stage_of, medium_part, cache_part, room_of, Prints}
use Rattle.rooms.proofs.RoomLaws.{stage_3, room_ready}

-- a read, by a letter that is not that of a list
pub read_prints : (x y v m c : List ℕ) (s : State) (a : Result Answer Refusal) (o : Outcome) (l d letter : ℕ) → eqb letter 76 ≡ false
    → y ≡ x ++ answer_text letter a v → reads a v s m c ≡ o
    → Prints x y (ready l d m c s) (called letter l d o)
unfolding called
read_prints x y v m c s a o l d letter z e f = (simp (← f, z, append-nil) e, simp (← f))

-- a list
pub list_prints : (x z y m c b : List ℕ) (s : State) (a : Result Answer Refusal) (o : Outcome) (l d : ℕ)
    → z ≡ x ++ answer_text 76 a (zeros 16) → y ≡ z ++ list_text a b
    → record { answer = a; value = zeros 16; state = s; medium = m; cache = c; buffer = b } ≡ o
    → Prints x y (ready l d m c s) (called 76 l d o)
unfolding called
list_prints x z y m c b s a o l d e g f = (
  simp (← f) (g ∙ ap (λ (w : List ℕ). w ++ list_text a b) e
      ∙ append_assoc x (answer_text 76 a (zeros 16)) (list_text a b)),
  simp (← f),
)

-- question 14: a list that is answered lies within its buffer
pub list_fits : (s : State) (m c b : List ℕ) (key t1 t2 k : ℕ) (a : Result Answer Refusal) → a ≡ (changes_of s m c b key t1 t2).answer
    → a ≡ Ok (Listed k) → 32 * k ≤ length b
unfolding changes_of changes_if
list_fits s m c b key t1 t2 k a e f =
    let g = sym f ∙ e in
    bool_case (fits s (length m) (length c))
    (λ u. bool_case (key_form key)
    (λ q. bool_case (leb t2 s.saved.0)
    (λ v. bool_case (leb (32 * length (change_lines s c key t1 t2)) (length b))
    (λ w.
    let h : ◌≡◌ {A = Result Answer Refusal} (Ok (Listed k)) (Ok (Listed (length (change_lines s c key t1 t2)))) = simp (u, q, v, w) at g in
    let j : k ≡ length (change_lines s c key t1 t2) = cc in
    let r : 32 * length (change_lines s c key t1 t2) ≤ length b = leb-true _ _ w in omega arith)
    (λ w. refused (simp (u, q, v, w) at g)))
    (λ v. refused (simp (u, q, v) at g)))
    (λ q. refused (simp (u, q) at g)))
    (λ u. refused (simp u at g))
  where
    refused : {P : Type 0} {r : Refusal} → ◌≡◌ {A = Result Answer Refusal} (Ok (Listed k)) (Err r) → P
    refused h = let z : ◌≡◌ {A = ℕ} 0 1 = cc in absurd (omega arith)

-- a call of an opened store
pub look_call : (t : Standing) (m c : List ℕ) (s : State) (k : Call) (v x y : List ℕ) (pm pc : ℕ) → 3 ≤ stage_of t
    → pm ≡ medium_part t → pc ≡ cache_part t
    → Prints x y (ready t.blocks t.pages (take pm m) (take pc c) s)
    (called (plan_of k).letter t.blocks t.pages (outcome_of k v s (take pm m) (take pc c)))
    → Prints x y (room_of t m c s) (calling k v (room_of t m c s))
unfolding calling
look_call t m c s k v x y pm pc h em ec p = simp (room_ready t m c s (stage_3 t h)) (rw (em, ec) at p)

-- a list into the first bytes of the buffer b
pub look_list : (b x y m c : List ℕ) (s : State) (l d key t1 t2 k : ℕ) → length b ≡ 40000 → k ≤ 40000
    → Prints x y (ready l d m c s) (called 76 l d (changes_of s m c (replicate (length (take k b)) 170) key t1 t2))
    → Prints x y (ready l d m c s) (called 76 l d (changes_of s m c (replicate k 170) key t1 t2))
look_list b x y m c s l d key t1 t2 k e h p = rw (length-take-le k b (omega arith)) at p

-- no other line looks
pub look_rest : (k : Call) → ((a b : ℕ) → k ≡ Read a b → ⊥) → ((a b : ℕ) → k ≡ AsOf a b → ⊥)
    → ((a b c d : ℕ) → k ≡ Changes a b c d → ⊥) → ((a : ℕ) → k ≡ Block a → ⊥) → ((a : ℕ) → k ≡ Page a → ⊥)
    → (plan_of k).looks ≡ true → ⊥
unfolding plan_of
look_rest (Format l d) x y z u w e = no e
look_rest (Open byte) x y z u w e = no e
look_rest (OpenSized bytes) x y z u w e = no e
look_rest Cut x y z u w e = no e
look_rest (Begin clock) x y z u w e = no e
look_rest (Write number key) x y z u w e = no e
look_rest (Erase number key) x y z u w e = no e
look_rest (Read number key) x y z u w e = x number key refl
look_rest (Commit number clock) x y z u w e = no e
look_rest (Abort number) x y z u w e = no e
look_rest (Hand flight from to began ended) x y z u w e = no e
look_rest (AsOf key time) x y z u w e = y key time refl
look_rest (Changes key t1 t2 bytes) x y z u w e = z key t1 t2 bytes refl
look_rest StoreLog x y z u w e = no e
look_rest (StorePage page) x y z u w e = no e
look_rest Checkpoint x y z u w e = no e
look_rest (Block block) x y z u w e = u block refl
look_rest (Page page) x y z u w e = w page refl
look_rest (Poke offset byte) x y z u w e = no e
look_rest Other x y z u w e = no e
