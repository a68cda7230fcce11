-- What a line leaves in the buffers is what its definition leaves in the room: a call is lent the first bytes, and its
-- outcome stands in their place.
use Rattle.layout.specs.declared.CommitTime.{CommitTime}
use Rattle.store.specs.declared.Refusal.{Refusal}
use Rattle.store.specs.declared.Refusal.TheVariants.{BadSizes, BadCache, Malformed, NoPlace, NotActive, Held, NoSlot, LogFull, NoTime, NotYet, NoPage, NotLogged, Unchanged, ShortBuffer, NoNumber, Unfit, NoRecord}
use Rattle.std.specs.Prelude.{Ok, Err, Result, is_ok}
use mathlib.Core.Path.{◌≡◌, refl, sym, ap, ◌∙◌}
use mathlib.Core.Bool.{true, false, cond, ◌&&◌, false≢true}
use mathlib.Core.List.{List, ◌++◌, append-nil}
use Prim.Native.Nat.{ℕ, ◌≤◌, ◌<◌}
use native.Mathlib.Omega.{arith}
use native.Mathlib.Nat.{min-eq_left}
use lib.ListN.{length, take, drop, set, replicate, length-take, length-replicate}
use lib.Seq.{length-take-le, take_at, take-set-lt, set_out}
use lib.Dec.{eqb}
use borrow.Author.Tests.{lt-ltb, le-ltb, eq-eqb, ne_eqb, eqb-true, le-leb}
use Rattle.fields.specs.Block.{zeros, medium_length, cache_length}
use Rattle.fields.proofs.Choose.{and_0, bool_case, no}
use Rattle.store.specs.declared.Answer.{Answer}
use Rattle.store.specs.declared.Answer.TheVariants.{Done}
use Rattle.store.specs.declared.State.{State}
use Rattle.store.specs.Answer.{Outcome, answer_number, refusal_number, leaves}
use Rattle.store.specs.State.{in_range}
use Rattle.store.specs.Format.{format_if, format_of}
use Rattle.store.specs.Open.{open_if, open_of}
use Rattle.store.proofs.FitLaws.{range_of}
use Rattle.handover.specs.declared.HandRefusal.{HandRefusal}
use Rattle.handover.specs.declared.Transfer.{Transfer}
use Rattle.handover.specs.Hand.{hand_ends, hand_of}
use Rattle.script.specs.declared.call.Call.{Call}
use Rattle.script.specs.declared.call.Call.TheVariants.{Format, Open, OpenSized, Cut, Begin, Write, Erase, Read, Commit}
use Rattle.script.specs.declared.call.Call.TheVariants.{Abort, Hand, AsOf, Changes, StoreLog, StorePage, Checkpoint}
use Rattle.script.specs.declared.call.Call.TheVariants.{Block, Page, Poke, Other}
use Rattle.script.specs.declared.call.Asked.{Asked}
use Rattle.rooms.specs.declared.parts.Standing.{Standing}
use Rattle.answers.specs.Text.{answer_text, handed_text}
use Rattle.answers.proofs.TextLaws.{no_number}
use Rattle.rooms.specs.Room.{Room, shut, ready, Turn, plan_of, fresh_length, formatted, right_length, opened, opening}
use Rattle.rooms.specs.Room.{cut, poked, outcome_of, called, calling, handed, handing, moves, turn_by, turn_of}
use Rattle.rooms.specs.Parts.{stage_of, medium_part, cache_part, room_of, stage_after, left_by}
use Rattle.rooms.proofs.RoomLaws.{first_back, stage_case, stage_2, stage_3, room_gone, room_shut, room_ready}
use Rattle.rooms.proofs.RoomLaws.{medium_in_law, blocks_in_law, pages_in_law, medium_part_law, no_medium}

-- ---- whether a call is refused, by the number of its answer

pub refused_number : (r : Refusal) → refusal_number r ≡ 0 → ⊥
unfolding refusal_number
refused_number BadSizes e = omega arith
refused_number BadCache e = omega arith
refused_number Malformed e = omega arith
refused_number NoPlace e = omega arith
refused_number NotActive e = omega arith
refused_number Held e = omega arith
refused_number NoSlot e = omega arith
refused_number LogFull e = omega arith
refused_number NoTime e = omega arith
refused_number NotYet e = omega arith
refused_number NoPage e = omega arith
refused_number NotLogged e = omega arith
refused_number Unchanged e = omega arith
refused_number ShortBuffer e = omega arith
refused_number NoNumber e = omega arith
refused_number Unfit e = omega arith
refused_number NoRecord e = omega arith

pub stage_accepted : (a : Result Answer Refusal) → is_ok a ≡ true → 2 ≡ stage_after a
unfolding stage_after
stage_accepted (Ok x) e = simp (eq-eqb _ _ (no_number x))
stage_accepted (Err r) e = absurd (false≢true e)

pub stage_refused : (a : Result Answer Refusal) → is_ok a ≡ false → 1 ≡ stage_after a
unfolding stage_after answer_number
stage_refused (Ok x) e = absurd (false≢true (sym e))
stage_refused (Err r) e = simp (ne_eqb _ _ (refused_number r))

-- ---- formatting: what a medium held before does not matter

format_same : (m n : List ℕ) (l d : ℕ) → length m ≡ length n
    → formatted l d (format_of m l d) ≡ formatted l d (format_of n l d)
unfolding formatted format_of format_if answer_number refusal_number
format_same m n l d e =
    bool_case (in_range l d && eqb (length n) (medium_length l d)) (λ t. simp (e, t)) (λ t. simp (e, t))

pub format_left : (l d r n : ℕ) (a : Result Answer Refusal) (v m c : List ℕ) (s : State) → r ≡ stage_after a → n ≡ fresh_length l d
    → n ≤ 50688 → n ≤ length m → length v ≡ length (take n m)
    → record { answer = a; medium = v } ≡ format_of (take n m) l d
    → left_by (record { stage = r; blocks = l; pages = d; bytes = n }) (v ++ drop n m) c s 70 a
    ≡ formatted l d (format_of (zeros (fresh_length l d)) l d)
unfolding formatted room_of stage_after
format_left l d r n a v m c s er en hn h lv e =
    go ∙ ap (formatted l d) e ∙ format_same (take n m) (zeros (fresh_length l d)) l d
    (length-take-le n m h ∙ en ∙ sym (length-replicate (fresh_length l d) 0))
  where
    go : left_by (record { stage = r; blocks = l; pages = d; bytes = n }) (v ++ drop n m) c s 70 a
        ≡ formatted l d (record { answer = a; medium = v })
    go =
        bool_case (eqb (answer_number a) 0) (λ t. simp (er, t, min-eq_left hn, first_back m v n h lv))
        (λ t. simp (er, t))

-- ---- opening

-- an accepted opening was given a cache of the right length
pub open_accepted : (m g : List ℕ) (l d : ℕ) → answer_number (open_of m g l d).answer ≡ 0
    → (length g ≡ cache_length d) × (d ≤ 64)
unfolding open_of open_if answer_number refusal_number
open_accepted m g l d h =
    bool_case (in_range l d && eqb (length m) (medium_length l d))
    (λ e. bool_case (eqb (length g) (cache_length d))
    (λ f. (eqb-true _ _ f, (range_of l d (and_0 (in_range l d) _ e)).pages_high))
    (λ f. let z : ◌≡◌ {A = ℕ} 2 0 = simp (e, f) at h in absurd (omega arith)))
    (λ e. let z : ◌≡◌ {A = ℕ} 1 0 = simp e at h in absurd (omega arith))

-- the room opens with a cache of so many bytes, each of them this one, laid in the first bytes of the buffer b; pm is
-- the medium's part
module _ (t : Standing) (m c b : List ℕ) (s : State) (letter byte pm bytes : ℕ) (h : 2 ≤ stage_of t)
    (em : pm ≡ medium_part t) (hb : bytes ≤ length b) where
  abbrev opens_to : Outcome → Turn
  opens_to o = record {
    room = cond (eqb (answer_number o.answer) 0) (ready t.blocks t.pages o.medium o.cache o.state) (room_of t m c s);
    text = answer_text letter o.answer (zeros 16);
  }

  open_is : opening letter (room_of t m c s) (replicate bytes byte)
      ≡ opens_to (open_of (take (medium_part t) m) (replicate bytes byte) t.blocks t.pages)
  unfolding opening opened
  open_is = let k = stage_2 t h in rw (medium_in_law t m c s, blocks_in_law t m c s k, pages_in_law t m c s k)

  module _ (a : Result Answer Refusal) (st : State) (k : List ℕ)
      (e : leaves a st (take pm m) k ≡ open_of (take pm m) (replicate (length (take bytes b)) byte) t.blocks
      t.pages) where
    found : leaves a st (take (medium_part t) m) k ≡ open_of (take (medium_part t) m) (replicate bytes byte)
        t.blocks t.pages
    found = rw (length-take-le bytes b hb, em) at e

    pub open_refused : (answer_number a ≡ 0 → ⊥) → left_by t m c s letter a
        ≡ opening letter (room_of t m c s) (replicate bytes byte)
    open_refused z = sym (open_is ∙ ap opens_to (sym found) ∙ simp (ne_eqb _ _ z))

    right_bytes : answer_number a ≡ 0 → right_length t.pages ≡ bytes
    unfolding right_length
    right_bytes z =
        let f = open_accepted (take (medium_part t) m) (replicate bytes byte) t.blocks t.pages
        (ap (λ (o : Outcome). answer_number o.answer) (sym found) ∙ z) in
        simp (le-leb _ _ f.1) (sym f.0 ∙ length-replicate bytes byte)

    pub open_taken : (n : ℕ) (v : List ℕ) → answer_number a ≡ 0 → n ≡ right_length t.pages
        → v ≡ take n (k ++ drop bytes b) → length k ≡ length (take bytes b)
        → left_by (record { stage = 3; blocks = t.blocks; pages = t.pages; bytes = t.bytes }) m (v ++ drop n c) st
        letter a ≡ opening letter (room_of t m c s) (replicate bytes byte)
    unfolding room_of
    open_taken n v z en ev ek =
        let q : n ≡ bytes = en ∙ right_bytes z in
        let lk : length k ≡ n = ek ∙ length-take-le bytes b hb ∙ sym q in
        let vk : v ≡ k = ev ∙ take_at k (drop bytes b) n lk in
        let back : take (right_length t.pages) (v ++ drop n c) ≡ k =
        ap (λ (j : ℕ). take j (v ++ drop n c)) (sym en) ∙ take_at v (drop n c) n (ap length vk ∙ lk) ∙ vk in
        simp back (sym (open_is ∙ ap opens_to (sym found) ∙ simp (eq-eqb _ _ z, medium_part_law t (stage_2 t h))))

-- ---- a cut, and a byte put into the medium

pub cut_left : (t : Standing) (m c : List ℕ) (s : State) → 2 ≤ stage_of t
    → left_by (record { stage = 2; blocks = t.blocks; pages = t.pages; bytes = t.bytes }) m c s 88 (Ok Done)
    ≡ moves 88 (cut (room_of t m c s))
unfolding room_of cut
cut_left t m c s h =
    let k = stage_2 t h in
    stage_case t (λ g. absurd (omega arith)) (λ g j. simp (le-ltb _ _ g, lt-ltb _ _ j))
    (λ g. simp (le-ltb _ _ k, le-ltb _ _ g))

pub poke_in : (t : Standing) (m c : List ℕ) (s : State) (at b n : ℕ) → n ≡ medium_part t → at < n
    → left_by t (set m at b) c s 90 (Ok Done) ≡ moves 90 (poked (room_of t m c s) at b)
unfolding poked
poke_in t m c s at b n e h =
    let k : take (medium_part t) (set m at b) ≡ set (take (medium_part t) m) at b =
    take-set-lt (medium_part t) m at b (rw e at h) in
    ap (moves 90)
    (stage_case t (λ g. absurd (gone_none g))
    (λ g j. room_shut t (set m at b) c s g j ∙ ap (shut t.blocks t.pages) k
    ∙ ap (λ (r : Room). poked r at b) (sym (room_shut t m c s g j)))
    (λ g. room_ready t (set m at b) c s g ∙ ap (λ (x : List ℕ). ready t.blocks t.pages x (take (cache_part t) c) s) k
    ∙ ap (λ (r : Room). poked r at b) (sym (room_ready t m c s g))))
  where
    gone_none : t.stage < 2 → ⊥
    gone_none g = let z : n ≡ 0 = e ∙ no_medium t g in omega arith

pub poke_out : (t : Standing) (m c : List ℕ) (s : State) (at b n : ℕ) → n ≡ medium_part t → n ≤ at
    → left_by t m c s 90 (Ok Done) ≡ moves 90 (poked (room_of t m c s) at b)
unfolding poked
poke_out t m c s at b n e h =
    let k : take (medium_part t) m ≡ set (take (medium_part t) m) at b =
    sym (set_out (take (medium_part t) m) at b (simp length-take (omega arith))) in
    ap (moves 90)
    (stage_case t (λ g. room_gone t m c s g ∙ ap (λ (r : Room). poked r at b) (sym (room_gone t m c s g)))
    (λ g j. room_shut t m c s g j ∙ ap (shut t.blocks t.pages) k
    ∙ ap (λ (r : Room). poked r at b) (sym (room_shut t m c s g j)))
    (λ g. room_ready t m c s g ∙ ap (λ (x : List ℕ). ready t.blocks t.pages x (take (cache_part t) c) s) k
    ∙ ap (λ (r : Room). poked r at b) (sym (room_ready t m c s g))))

-- ---- a call that changes an opened store

-- no such line has the letter of a list
change_letter : (k : Call) → (plan_of k).looks ≡ false → eqb (plan_of k).letter 76 ≡ false
unfolding plan_of
change_letter (Format l d) e = refl
change_letter (Open byte) e = refl
change_letter (OpenSized bytes) e = refl
change_letter Cut e = refl
change_letter (Begin clock) e = refl
change_letter (Write number key) e = refl
change_letter (Erase number key) e = refl
change_letter (Read number key) e = refl
change_letter (Commit number clock) e = refl
change_letter (Abort number) e = refl
change_letter (Hand flight from to began ended) e = refl
change_letter (AsOf key time) e = refl
change_letter (Changes key t1 t2 bytes) e = no (sym e)
change_letter StoreLog e = refl
change_letter (StorePage page) e = refl
change_letter Checkpoint e = refl
change_letter (Block block) e = refl
change_letter (Page page) e = refl
change_letter (Poke offset byte) e = refl
change_letter Other e = refl

pub make_left : (t : Standing) (m c : List ℕ) (s : State) (k : Call) (v : List ℕ) (a : Result Answer Refusal) (st : State) (pm pc : ℕ)
    (vm vc : List ℕ)
    → 3 ≤ stage_of t → (plan_of k).looks ≡ false → pm ≡ medium_part t → pc ≡ cache_part t → pm ≤ length m
    → pc ≤ length c
    → length vm ≡ length (take pm m) → length vc ≡ length (take pc c)
    → leaves a st vm vc ≡ outcome_of k v s (take pm m) (take pc c)
    → left_by t (vm ++ drop pm m) (vc ++ drop pc c) st (plan_of k).letter a ≡ calling k v (room_of t m c s)
unfolding calling called
make_left t m c s k v a st pm pc vm vc h lk em ec hm hc lm lc e =
    let g = stage_3 t h in
    simp (
      room_ready t (vm ++ drop pm m) (vc ++ drop pc c) st g,
      room_ready t m c s g,
      ← em,
      ← ec,
      first_back m vm pm hm lm,
      first_back c vc pc hc lc,
      ← e,
      change_letter k lk,
      append-nil,
    )

-- ---- a handover

-- any other line
pub not_hand : (k : Call) → ((a b c d e : ℕ) → k ≡ Hand a b c d e → ⊥) → eqb (plan_of k).letter 72 ≡ false
unfolding plan_of
not_hand (Format l d) o = refl
not_hand (Open byte) o = refl
not_hand (OpenSized bytes) o = refl
not_hand Cut o = refl
not_hand (Begin clock) o = refl
not_hand (Write number key) o = refl
not_hand (Erase number key) o = refl
not_hand (Read number key) o = refl
not_hand (Commit number clock) o = refl
not_hand (Abort number) o = refl
not_hand (Hand flight from to began ended) o = absurd (o flight from to began ended refl)
not_hand (AsOf key time) o = refl
not_hand (Changes key t1 t2 bytes) o = refl
not_hand StoreLog o = refl
not_hand (StorePage page) o = refl
not_hand Checkpoint o = refl
not_hand (Block block) o = refl
not_hand (Page page) o = refl
not_hand (Poke offset byte) o = refl
not_hand Other o = refl

pub hand_left : (t : Standing) (m c : List ℕ) (s : State) (h : Transfer) (a : Result CommitTime HandRefusal) (st : State) (pm pc : ℕ)
    (vm vc : List ℕ)
    → 3 ≤ stage_of t → pm ≡ medium_part t → pc ≡ cache_part t → pm ≤ length m → pc ≤ length c
    → length vm ≡ length (take pm m) → length vc ≡ length (take pc c)
    → hand_ends a st vm vc ≡ hand_of s (take pm m) (take pc c) h
    → record { room = room_of t (vm ++ drop pm m) (vc ++ drop pc c) st; text = handed_text a }
    ≡ handing h (room_of t m c s)
unfolding handing handed
hand_left t m c s h a st pm pc vm vc k em ec hm hc lm lc e =
    let g = stage_3 t k in
    simp (
      room_ready t (vm ++ drop pm m) (vc ++ drop pc c) st g,
      room_ready t m c s g,
      ← em,
      ← ec,
      first_back m vm pm hm lm,
      first_back c vc pc hc lc,
      ← e,
    )

pub hand_turn : (a : Asked) (r : Room) (u : Turn) (flight from to began ended : ℕ)
    → a.call ≡ Hand flight from to began ended
    → u ≡ handing (record { flight = flight; from = from; to = to; began = began; ended = ended }) r → u ≡ turn_of a r
unfolding turn_by turn_of
hand_turn a r u flight from to began ended e w = simp e w
