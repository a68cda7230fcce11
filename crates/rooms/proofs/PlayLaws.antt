-- A line taken at once is its bytes taken one by one, so each turn of the loop over a read's lines goes on from where
-- the bytes before it led.
use mathlib.Core.Path.{◌≡◌, refl, sym, ap, ◌∙◌}
use mathlib.Core.Bool.{true, false}
use mathlib.Core.List.{List, [], ◌∷◌, ◌++◌}
use Prim.Native.Nat.{ℕ, zero, suc, ◌+◌, ◌-◌, ◌≤◌, ◌<◌}
use native.Mathlib.Omega.{arith}
use lib.ListN.{length, take, drop, length-drop}
use lib.Seq.{take_all}
use lib.Dec.{eqb}
use borrow.Author.Tests.{le-leb, lt-leb}
use Rattle.store.specs.declared.State.{State}
use Rattle.script.specs.declared.call.Asked.{Asked}
use Rattle.script.specs.declared.line.Line.{Line}
use Rattle.script.specs.declared.line.Taken.{Taken}
use Rattle.script.specs.Reader.{no_line, grown, take_of}
use Rattle.script.specs.Replay.{meaning_of}
use Rattle.script.specs.Run.{Stand, stand, stepped, turned, play_of}
use Rattle.fields.proofs.Choose.{bool_case, no}
use Rattle.script.proofs.RunLaws.{play_append}
use Rattle.script.proofs.TakeLaws.{take_next, step_on, step_stop}
use Rattle.rooms.specs.declared.parts.Standing.{Standing}
use Rattle.rooms.specs.declared.plan.Plan.{Plan}
use Rattle.rooms.specs.Room.{Room, plan_of, plays, turn_of}
use Rattle.rooms.specs.Parts.{stage_of, room_of}
use Rattle.rooms.specs.Steps.{step_of, does}
use Rattle.rooms.proofs.RoomLaws.{stage_in_law}

no_end : (l : Line) (i : ℕ) → (take_of l [] i).ended ≡ false
unfolding take_of
no_end l i = refl

-- a byte of a line
take_ends : (l : Line) (b : ℕ) (bs : List ℕ) (i : ℕ) → eqb b 10 ≡ true
    → take_of l (b ∷ bs) i ≡ record { line = l; next = i + 1; ended = true }
unfolding take_of
take_ends l b bs i f = simp f

take_goes : (l : Line) (b : ℕ) (bs : List ℕ) (i : ℕ) → eqb b 10 ≡ false
    → take_of l (b ∷ bs) i ≡ take_of (grown l b) bs (i + 1)
unfolding take_of
take_goes l b bs i f = simp f

byte_ends : (l : Line) (b : ℕ) (r : Room) (o : List ℕ) → eqb b 10 ≡ true
    → play_of does (stand l r true o) (b ∷ []) ≡ stepped (does r l) r o
unfolding play_of turned
byte_ends l b r o f = simp f

byte_goes : (l : Line) (b : ℕ) (bs : List ℕ) (r : Room) (o : List ℕ) → eqb b 10 ≡ false
    → play_of does (stand l r true o) (b ∷ bs) ≡ play_of does (stand (grown l b) r true o) bs
unfolding play_of turned
byte_goes l b bs r o f = simp f

-- the bytes of a line that ended
piece : (l : Line) (bs : List ℕ) (i : ℕ) (r : Room) (o : List ℕ) → (take_of l bs i).ended ≡ true
    → play_of does (stand l r true o) (take ((take_of l bs i).next - i) bs) ≡ stepped (does r (take_of l bs i).line) r o
piece l [] i r o e = no (sym (no_end l i) ∙ e)
piece l (b ∷ bs) i r o e =
    let k : i + 1 - i ≡ 1 = omega arith in
    bool_case (eqb b 10)
    (λ f. rw (take_ends l b bs i f) (ap (λ (j : ℕ). play_of does (stand l r true o) (take j (b ∷ bs))) k
    ∙ byte_ends l b r o f))
    (λ f.
    let h = take_next (grown l b) bs (i + 1) in
    let n : (take_of (grown l b) bs (i + 1)).next - i ≡ suc ((take_of (grown l b) bs (i + 1)).next - (i + 1)) =
    omega arith in
    rw (take_goes l b bs i f)
    (ap (λ (j : ℕ). play_of does (stand l r true o) (take j (b ∷ bs))) n
    ∙ byte_goes l b (take ((take_of (grown l b) bs (i + 1)).next - (i + 1)) bs) r o f
    ∙ piece (grown l b) bs (i + 1) r o (rw (take_goes l b bs i f) at e)))

take_parts : (bs : List ℕ) (i n : ℕ) → i ≤ n → take n bs ≡ take i bs ++ take (n - i) (drop i bs)
take_parts bs zero n h = let k : n - 0 ≡ n = omega arith in ap (λ (j : ℕ). take j bs) (sym k)
take_parts bs (suc i) zero h = absurd (omega arith)
take_parts [] (suc i) (suc n) h = sym (take_all (suc n - suc i) [] (omega arith))
take_parts (b ∷ bs) (suc i) (suc n) h =
    let k : suc n - suc i ≡ n - i = omega arith in
    ap (λ (z : List ℕ). b ∷ z) (take_parts bs i n (omega arith)
    ∙ ap (λ (j : ℕ). take i bs ++ take j (drop i bs)) (sym k))

-- u is where the run began; the bytes before i led to the line l, the room r and the output o
module _ (u : Stand Room) (bytes : List ℕ) (l : Line) (r : Room) (o : List ℕ) (i : ℕ) (k : Taken) (h : i < length bytes)
    (e : k ≡ take_of l (drop i bytes) i) (here : stand l r true o ≡ play_of does u (take i bytes)) where
  on_piece : play_of does u (take k.next bytes) ≡ play_of does (stand l r true o) (take (k.next - i) (drop i bytes))
  on_piece =
      let w = step_on bytes l i k h e in
      ap (play_of does u) (take_parts bytes i k.next (omega arith))
      ∙ play_append does u (take i bytes) (take (k.next - i) (drop i bytes))
      ∙ ap (λ (t : Stand Room). play_of does t (take (k.next - i) (drop i bytes))) (sym here)

  -- the bytes end before the line does
  pub play_stop : k.ended ≡ false → stand k.line r true o ≡ play_of does u (take (length bytes) bytes)
  play_stop f =
      sym
      (ap (play_of does u) (take_parts bytes i (length bytes) (omega arith))
      ∙ play_append does u (take i bytes) (take (length bytes - i) (drop i bytes))
      ∙ ap (λ (t : Stand Room). play_of does t (take (length bytes - i) (drop i bytes))) (sym here)
      ∙ ap (play_of does (stand l r true o))
      (take_all (length bytes - i) (drop i bytes) (simp length-drop (omega arith)))
      ∙ step_stop bytes l i k h e does r o f)

  ends : k.ended ≡ true → play_of does u (take k.next bytes) ≡ stepped (does r k.line) r o
  ends f =
      on_piece
      ∙ ap (λ (t : Taken). play_of does (stand l r true o) (take (t.next - i) (drop i bytes))) e
      ∙ piece l (drop i bytes) i r o (ap (λ (t : Taken). t.ended) (sym e) ∙ f)
      ∙ ap (λ (t : Taken). stepped (does r t.line) r o) (sym e)

  module _ (f : k.ended ≡ true) (a : Asked) (n : Line) (ea : a ≡ meaning_of k.line) (en : n ≡ no_line) where
    -- a line that is not played
    pub play_over : plays a.call r ≡ false → stand n r false o ≡ play_of does u (take k.next bytes)
    unfolding does step_of
    play_over p = sym (ends f ∙ simp (← ea, p, ← en))

    -- a line that is played
    pub play_goes : (t : Room) (x : List ℕ) → plays a.call r ≡ true → x ≡ o ++ (turn_of a r).text
        → t ≡ (turn_of a r).room → stand n t true x ≡ play_of does u (take k.next bytes)
    unfolding does step_of
    play_goes t x p q z = sym (ends f ∙ simp (← ea, p, ← q, ← z, ← en))

-- is a line played?
module _ (a : Asked) (p : Plan) (t : Standing) (m c : List ℕ) (s : State) (e : p ≡ plan_of a.call) where
  pub not_played : stage_of t < p.stage → plays a.call (room_of t m c s) ≡ false
  unfolding plays
  not_played h = simp (stage_in_law t m c s, ← e, lt-leb _ _ h)

  pub is_played : p.stage ≤ stage_of t → plays a.call (room_of t m c s) ≡ true
  unfolding plays
  is_played h = simp (stage_in_law t m c s, ← e, le-leb _ _ h)

-- the newline that ends the last line
pub last_byte : (t u : Stand Room) (k : ℕ) → (0 < k) × (k ≤ 1) → u ≡ play_of does t (take k (10 ∷ []))
    → u ≡ play_of does t (10 ∷ [])
last_byte t u k h e = let z : k ≡ 1 = omega arith in rw z at e
