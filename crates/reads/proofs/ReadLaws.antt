-- What the reads need: what a search finds lies in the cache's room, the bytes of a slot are what its version says, and
-- each read is answered by what its search found once its questions are. Assumes nothing.
use Rattle.layout.specs.declared.CommitTime.{CommitTime}
use Rattle.std.specs.Prelude.{Option, Some, None, Err, Ok}
use mathlib.Core.Path.{◌≡◌, refl, sym, ap, subst, ◌∙◌}
use mathlib.Core.Bool.{Bool, true, false, cond}
use mathlib.Core.List.{List}
use Prim.Native.Nat.{ℕ, zero, suc, ◌+◌, ◌-◌, ◌*◌, ◌≤◌, ◌<◌}
use native.Mathlib.Omega.{arith}
use lib.ListN.{length, take, drop, get_or}
use lib.Dec.{eqb, leb, ltb}
use borrow.Author.Tests.{eq-eqb, ne_eqb, ltb-true, le-leb}
use Rattle.fields.specs.Block.{zeros, slot_at}
use Rattle.fields.specs.Part.{splice}
use Rattle.fields.specs.Cells.{flat}
use Rattle.layout.specs.Slot.{Cell, key_form}
use Rattle.layout.specs.declared.slot.Slot.{Slot}
use Rattle.layout.specs.declared.slot.Slot.TheVariants.{Empty, Waiting, Stamped}
use Rattle.fields.proofs.Choose.{cond_elim}
use Rattle.fields.proofs.PartLaws.{lent_part}
use Rattle.store.specs.declared.Answer.TheVariants.{Listed}
use Rattle.store.specs.declared.Reading.TheVariants.{Erased, Present}
use Rattle.store.specs.Reading.{answer_of, value_of}
use Rattle.store.specs.declared.Refusal.TheVariants.{ShortBuffer}
use Rattle.store.specs.declared.Reading.{Reading}
use Rattle.store.specs.declared.State.{State}
use Rattle.store.specs.Places.{find_active, time_under}
use Rattle.store.specs.State.{fits}
use Rattle.store.specs.Chain.{newest, held, cell_at, visible, unless_empty, visible_from, visible_of, best_of}
use Rattle.store.specs.CurrentRead.{reads, read_cell, current_at, current_if, current_of}
use Rattle.store.specs.AsOf.{as_of_at, as_of_if, as_of_of}
use Rattle.store.specs.Changes.{Line, line_bytes, lines_below, change_lines, changes_if, changes_of}
use Rattle.cached.specs.Room.{Room, Head}
use Rattle.cached.proofs.RoomLaws.{room_lower, kind_read, value_read}
use Rattle.reads.specs.Said.{reading_of}

-- ---- the room

unless_head : (l : ℕ) (st : Slot) (f : Option ℕ) → Head f l → Head (unless_empty st None f) l
unless_head l Empty f h = tt
unless_head l (Waiting n) f h = h
unless_head l (Stamped t) f h = h

visible_in : (c : List ℕ) (pair : ℕ → Option CommitTime) (n l k s : ℕ) → Room l (suc s) → Head (visible_from c pair n k s) l
unfolding visible_from
visible_in c pair n l zero s r = tt
visible_in c pair n l (suc k) s r =
    let e = (cell_at c s).earlier in
    unless_head l (cell_at c s).state _
    (cond_elim (λ (f : Option ℕ). Head f l) (visible (cell_at c s).state pair n) (λ _. r) (λ _.
    cond_elim (λ (f : Option ℕ). Head f l) (ltb e s) (λ t.
    let h : e < s = ltb-true e s t in
    visible_in c pair n l k e (room_lower l (suc s) (suc e) r (omega arith))) (λ _. tt)))

-- f is what was found
pub visible_head : (head : Option ℕ) (c : List ℕ) (pair : ℕ → Option CommitTime) (n l : ℕ) (f : Option ℕ) → f ≡ visible_of head c pair n → Head head l → Head f l
unfolding visible_of
visible_head (Some s) c pair n l f e h = subst (λ (g : Option ℕ). Head g l) (sym e) (visible_in c pair n l (suc s) s h)
visible_head None c pair n l f e h = subst (λ (g : Option ℕ). Head g l) (sym e) tt

-- ---- what a version says; a is where its slot begins, v the bytes copied

pub says_erased : (c : List ℕ) (n a : ℕ) → a ≡ slot_at n → get_or c (a + 2) 0 ≡ 1 → Erased ≡ reading_of (cell_at c n)
unfolding reading_of
says_erased c n a e h = simp (eq-eqb _ _ (sym (kind_read c n a e) ∙ h))

pub says_present : (c v : List ℕ) (n a : ℕ) → a ≡ slot_at n → (get_or c (a + 2) 0 ≡ 1 → ⊥) → v ≡ take (a + 32 - (a + 16)) (drop (a + 16) c)
    → Present v ≡ reading_of (cell_at c n)
unfolding reading_of
says_present c v n a e h k =
    let z : a + 32 ≡ a + 16 + 16 = omega arith in
    let w : v ≡ (cell_at c n).value = k ∙ rw z refl ∙ lent_part c (a + 16) 16 ∙ value_read c n a e in
    simp (ne_eqb (cell_at c n).kind 1 (λ q. h (kind_read c n a e ∙ q)), w)

pub read_cell_law : (r : Reading) (v : Cell) (s : State) (m c : List ℕ) → r ≡ reading_of v
    → reads (Ok (answer_of r)) (value_of r) s m c ≡ read_cell v s m c
unfolding reading_of read_cell
read_cell_law r v s m c e = ap (λ (x : Reading). reads (Ok (answer_of x)) (value_of x) s m c) e ∙ go (eqb v.kind 1) _ _
  where
    go : (b : Bool) (x y : Reading)
        → reads (Ok (answer_of (cond b x y))) (value_of (cond b x y)) s m c
        ≡ cond b (reads (Ok (answer_of x)) (value_of x) s m c) (reads (Ok (answer_of y)) (value_of y) s m c)
    go true x y = refl
    go false x y = refl

-- ---- the reads, once their questions are answered

pub current_done : (s : State) (m c : List ℕ) (n key i : ℕ) (head f : Option ℕ) → fits s (length m) (length c) ≡ true
    → key_form key ≡ true → find_active s.places n ≡ Some i → held c s.places s.slots key n ≡ false
    → head ≡ newest c key s.slots → f ≡ visible_of head c (time_under s.places) n → current_of s m c n key ≡ current_at f s m c
unfolding current_of current_if
current_done s m c n key i head f e k a h eh ef = simp (e, k, a, h, ef, eh)

pub as_of_done : (s : State) (m c : List ℕ) (key t : ℕ) (head : Option ℕ) (b : Option (ℕ × CommitTime)) → fits s (length m) (length c) ≡ true
    → key_form key ≡ true → t ≤ s.saved.0 → head ≡ newest c key s.slots → b ≡ best_of head c (time_under s.places) t → as_of_of s m c key t ≡ as_of_at b s m c
unfolding as_of_of as_of_if
as_of_done s m c key t head b e k l eh eb = simp (e, k, le-leb t s.saved.0 l, eb, eh)

-- a list of changes: b is the buffer before it and d behind it, r what writing its lines answered
module _ (s : State) (m c b d : List ℕ) (key t1 t2 : ℕ) (head r : Option ℕ) (e : fits s (length m) (length c) ≡ true) (k : key_form key ≡ true)
    (l : t2 ≤ s.saved.0) (eh : head ≡ newest c key s.slots) where
  abbrev found : List Line
  found = lines_below c (time_under s.places) head t1 (suc (suc t2)) (suc t2)

  lines_are : found ≡ change_lines s c key t1 t2
  unfolding change_lines
  lines_are = rw eh

  module _ (er : r ≡ cond (leb (32 * length found) (length b)) (Some (length found)) None)
      (ed : d ≡ cond (leb (32 * length found) (length b)) (splice b 0 (flat line_bytes found)) b) where
    pub changes_listed : (n : ℕ) → r ≡ Some n
        → record { answer = Ok (Listed n); value = zeros 16; state = s; medium = m; cache = c; buffer = d } ≡ changes_of s m c b key t1 t2
    unfolding changes_of changes_if
    changes_listed n en = go (leb (32 * length found) (length b)) refl er ed
      where
        go : (t : Bool) → leb (32 * length found) (length b) ≡ t → r ≡ cond t (Some (length found)) None → d ≡ cond t (splice b 0 (flat line_bytes found)) b
            → record { answer = Ok (Listed n); value = zeros 16; state = s; medium = m; cache = c; buffer = d } ≡ changes_of s m c b key t1 t2
        go true q x y =
            let z : n ≡ length found = cc in
            simp (e, k, le-leb t2 s.saved.0 l, ← lines_are, q, z, y)
        go false q x y = let z : ◌≡◌ {A = ℕ} 0 1 = cc in absurd (omega arith)

    pub changes_short : r ≡ None
        → record { answer = Err ShortBuffer; value = zeros 16; state = s; medium = m; cache = c; buffer = d } ≡ changes_of s m c b key t1 t2
    unfolding changes_of changes_if
    changes_short en = go (leb (32 * length found) (length b)) refl er ed
      where
        go : (t : Bool) → leb (32 * length found) (length b) ≡ t → r ≡ cond t (Some (length found)) None → d ≡ cond t (splice b 0 (flat line_bytes found)) b
            → record { answer = Err ShortBuffer; value = zeros 16; state = s; medium = m; cache = c; buffer = d } ≡ changes_of s m c b key t1 t2
        go true q x y = let z : ◌≡◌ {A = ℕ} 0 1 = cc in absurd (omega arith)
        go false q x y = simp (e, k, le-leb t2 s.saved.0 l, ← lines_are, q, y)
