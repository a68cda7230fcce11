-- Every run from an old medium agrees with the book: the invariant says nothing of a record's width, so a write under
-- tag 1 keeps it as one under tag 3 does, and what the store as it was leaves at a cut is a start like any other. Its
-- medium is an old one at every moment, and byte 3 of every slot is zero in its cache too: so its openings, and its
-- calls but for writes, are those of today.
use Rattle.std.specs.Prelude.{Option}
use Prim.Native.Nat.{ℕ, ◌*◌, ◌<◌}
use native.Mathlib.Omega.{arith}
use mathlib.Core.Bool.{true, false, not, false≢true}
use mathlib.Core.List.{List, [], ◌∷◌, ◌++◌}
use mathlib.Core.Path.{◌≡◌, refl, subst}
use lib.Dec.{eqb}
use lib.ListN.{length}
use borrow.Author.Tests.{eqb-true, ltb-true}
use Rattle.fields.specs.Block.{zeros}
use Rattle.fields.proofs.Choose.{and_0, and_1}
use Rattle.fields.proofs.FieldLaws.{Bytes}
use Rattle.fields.proofs.CellLaws.{Each, bytes_zeros}
use Rattle.fields.proofs.EqualLaws.{zero_zeros}
use Rattle.layout.specs.Item.{bytes_of}
use Rattle.layout.specs.Journal.{Record, version as version_record}
use Rattle.layout.specs.Slot.{kind_form}
use Rattle.layout.specs.declared.item.Width.TheVariants.{One}
use Rattle.store.specs.declared.Refusal.{Refusal}
use Rattle.store.specs.declared.State.{State}
use Rattle.store.specs.Answer.{Outcome, refusal_number, answer_number, answer_value, ask}
use Rattle.store.specs.Places.{find_active}
use Rattle.store.specs.State.{in_range}
use Rattle.store.specs.Chain.{held}
use Rattle.store.specs.Write.{write_step, write_at, written}
use Rattle.runs.specs.Event.{Call, Event, opening, cut, call, begin, write, erase, current_read, commit, abort, as_of}
use Rattle.runs.specs.Event.{changes, store_log, store_page, checkpoint, are_bytes, is_word, is_record, call_typed}
use Rattle.runs.specs.Event.{typed}
use Rattle.runs.specs.Book.{Book, Row, blank, version, versions, add, fall, entered, unless_refused, feed, Fits}
use Rattle.runs.specs.Machine.{World, up, down, medium_of, after, seen_of, step, allowed, is_run, formatted}
use Rattle.runs.specs.Machine.{log_changed}
use Rattle.runs.specs.Demand.{Agrees}
use Rattle.runs.specs.EarlierCalls.{old_asks, old_head, old_if, old_called}
use Rattle.runs.specs.OldMedia.{of_byte, old_typed, old_step, is_old_run, old_world, old_book, OldAgrees, OldMedia}
use Rattle.runs.proofs.EarlierReads.{bytes_of_law, Low, newest_same}
use Rattle.runs.proofs.EarlierCalls.{is_adding, byte_form, held_same, call_same, opening_same}
use Rattle.runs.proofs.Asks.{asked, found, way}
use Rattle.agreement.proofs.history.Ghost.{records, Disk}
use Rattle.agreement.proofs.invariant.Invariant.{SizesOn, Up, Down, Inv, running, fallen}
use Rattle.agreement.proofs.transactions.Write.{head_as, slot_row, taken, wrote_as}
use Rattle.agreement.proofs.reads.ReadFacts.{positive}
use Rattle.agreement.proofs.Cut.{cut_down, fall_down}
use Rattle.agreement.proofs.Start.{start}
use Rattle.agreement.proofs.Main.{old_book_law, keeps, runs}
use Rattle.agreement.proofs.earlier.Blocks.{ShortBlock, Kept, kept_logged}
use Rattle.agreement.proofs.earlier.Rows.{LowRow, low_feed, low_versions, low_cache}
use Rattle.agreement.proofs.earlier.Old.{old_medium}
use Rattle.agreement.proofs.earlier.Calls.{KeptWorld, by_way, kept_opening, kept_start}

-- ---- what holds at every moment of a run

pub record Holds (l d : ℕ) (w : World) (b : Book) : Type 0 where
  pub inv : Inv l d w b
  pub kept : KeptWorld l w
  pub low : Each LowRow b.rows

-- what an event shows, and what holds of the world that it leaves
abbrev OldKeeps : ℕ → ℕ → World → Book → Event → Type 0
OldKeeps l d w b e =
    Fits d b e (old_step l d w e).seen × Inv l d (old_step l d w e).world (feed b e (old_step l d w e).seen)
    × KeptWorld l (old_step l d w e).world

-- ---- a version under tag 1

module _ {l d : ℕ} {m c : List ℕ} {s : State} {b : Book} {disk : Disk} {closed : List (List Record)}
    {tail : List Record} (u : Up l d m c s b disk closed tail)
    (kept : Kept l m) (short : ShortBlock s.tail) (low : Low c) where
  -- the slot answered is the version's row, and the book has one row more where the call is not refused
  abbrev Adds : ℕ → ℕ → ℕ → List ℕ → Outcome → Type 0
  Adds n key kind v o =
      (answer_number o.answer ≡ 0 → answer_value o.answer ≡ length (versions b.rows))
      × Inv l d (after o) (unless_refused (answer_number o.answer) b
      (add b (version (record { number = n; key = key; kind = kind; value = v })) (log_changed l m o.medium) b.opened))
      × KeptWorld l (after o)

  -- the head that it logs, with both readers
  head_same : (n key kind : ℕ) → old_head s c n key kind ≡ head_as One s c n key kind
  unfolding old_head
  head_same n key kind = rw (newest_same c low key s.slots)

  added : (n key kind : ℕ) (v : List ℕ) → key < 256 → kind < 2 → length v ≡ 16 → Bytes v → kind_form kind v ≡ true
      → Adds n key kind v (old_if (ask (old_asks s m c n key)) s m c n key kind v)
  unfolding old_if answer_number answer_value write_step written bytes_of
  added n key kind v byte hd size bytes form =
      asked (λ (a : Option Refusal). Adds n key kind v (old_if a s m c n key kind v)) (old_asks s m c n key)
      (λ r e. (
        λ z. absurd (omega (arith, positive r)),
        rw (old_book_law (refusal_number r) b _ (positive r)) (running u),
        (kept, short),
      ))
      (λ p. rw (head_same n key kind) (found
      (λ (f : Option ℕ). Adds n key kind v (write_at f s m c (head_as One s c n key kind) v))
      (find_active s.places n) p.1.0
      (λ i f.
      let free : not (held c s.places s.slots key n) ≡ true = rw (held_same m c s low key n) at p.1.1.0 in
      let room : s.slots < 15 * d = omega (arith, ltb-true s.slots (15 * s.pages) p.1.1.1.0, u.state.pages) in (
        λ z. slot_row u,
        wrote_as u One n key kind i v byte (byte_form key byte) hd size bytes form f free p.1.1.1.0 p.1.1.1.1.0,
        kept_logged u (version_record (head_as One s c n key kind) v)
            (taken u One n key kind i v byte (byte_form key byte) hd size bytes form f room).sized refl short kept,
      ))))

-- ---- an event

module _ {l d : ℕ} {m c : List ℕ} {s : State} {b : Book} {disk : Disk} {closed : List (List Record)}
    {tail : List Record} (u : Up l d m c s b disk closed tail)
    (kept : Kept l m) (short : ShortBlock s.tail) (rows : Each LowRow b.rows) where
  low : Low c
  low =
      low_cache u.medium (low_versions (records (closed ++ (tail ∷ [])))
      (subst (λ (rs : List Row). Each LowRow rs) u.rows rows)) u.cache

  -- the calls that are as they were
  same : (x : Call) → is_adding x ≡ false → call_typed x ≡ true → of_byte x ≡ true → OldKeeps l d (up m c s) b (call x)
  unfolding typed old_step step
  same x a t h =
      let k = keeps l d (up m c s) b (call x) (running u) refl t in
      rw (call_same m c s low x a h) (k.0, k.1, by_way u kept short a t (way m c s x))

  call_keeps : (x : Call) → call_typed x ≡ true → of_byte x ≡ true → OldKeeps l d (up m c s) b (call x)
  unfolding old_step old_called feed seen_of entered call_typed kind_form
  call_keeps (begin k) t h = same (begin k) refl t h
  call_keeps (write n key v) t h =
      let t1 = and_1 (is_word n) _ t in
      let t2 = and_1 (is_record key) _ t1 in
      added u kept short low n key 0 v (ltb-true key 256 h) (omega arith)
      (eqb-true (length v) 16 (and_0 (eqb (length v) 16) (are_bytes v) t2))
      (bytes_of_law v (and_1 (eqb (length v) 16) (are_bytes v) t2)) refl
  call_keeps (erase n key) t h =
      added u kept short low n key 1 (zeros 16) (ltb-true key 256 h) (omega arith) refl (bytes_zeros 16) (zero_zeros 16)
  call_keeps (current_read n key) t h = same (current_read n key) refl t h
  call_keeps (commit n k) t h = same (commit n k) refl t h
  call_keeps (abort n) t h = same (abort n) refl t h
  call_keeps (as_of key k) t h = same (as_of key k) refl t h
  call_keeps (changes key t1 t2 y) t h = same (changes key t1 t2 y) refl t h
  call_keeps store_log t h = same store_log refl t h
  call_keeps (store_page p) t h = same (store_page p) refl t h
  call_keeps checkpoint t h = same checkpoint refl t h

sizes_on : {l d : ℕ} {w : World} {b : Book} → Inv l d w b → SizesOn l d (medium_of w)
sizes_on (running u) = u.medium.sizes
sizes_on (fallen x) = x.medium.sizes

open_keeps : {l d : ℕ} {w : World} {b : Book} (y : List ℕ) → Holds l d w b → allowed l d w (opening y) ≡ true
    → typed (opening y) ≡ true → OldKeeps l d w b (opening y)
unfolding old_step step
open_keeps {l} {d} {w} {b} y i a t =
    let k = keeps l d w b (opening y) i.inv a t in
    let z = sizes_on i.inv in
    rw (opening_same l d w y (old_medium i.inv i.kept.0 i.low) z.size)
    (k.0, k.1, kept_opening l d w y (omega (arith, z.range.blocks_low)) i.kept)

old_keeps : (l d : ℕ) (w : World) (b : Book) (e : Event) → Holds l d w b → allowed l d w e ≡ true → old_typed e ≡ true
    → OldKeeps l d w b e
unfolding old_typed typed
old_keeps l d w b (opening y) i a t = open_keeps y i a t
old_keeps l d w b cut i a t = let k = keeps l d w b cut i.inv a t in unfold old_step step in (k.0, k.1, (i.kept.0, tt))
old_keeps l d (up m c s) b (call x) i a t = go i.inv
  where
    go : Inv l d (up m c s) b → OldKeeps l d (up m c s) b (call x)
    go (running u) =
        call_keeps u i.kept.0 i.kept.1 i.low x (and_0 (call_typed x) (of_byte x) t) (and_1 (call_typed x) (of_byte x) t)
old_keeps l d (down m) b (call x) i a t = absurd (false≢true a)

-- ---- a run

-- what a run of the store as it was shows, and what holds where it ends
old_runs : (l d : ℕ) (es : List Event) (w : World) (b : Book) → Holds l d w b → is_old_run l d w es ≡ true
    → OldAgrees l d w b es × Holds l d (old_world l d w es) (old_book l d w b es)
unfolding is_old_run old_world old_book
old_runs l d [] w b i r = (tt, i)
old_runs l d (e ∷ es) w b i r =
    let t = and_0 (old_typed e) _ r in
    let r1 = and_1 (old_typed e) _ r in
    let k : OldKeeps l d w b e = old_keeps l d w b e i (and_0 (allowed l d w e) _ r1) t in
    let n : Holds l d (old_step l d w e).world (feed b e (old_step l d w e).seen) =
    record { inv = k.1; kept = k.2; low = low_feed b e (old_step l d w e).seen t i.low } in
    let q = old_runs l d es _ _ n (and_1 (allowed l d w e) _ r1) in
    ((k.0, q.0), q.1)

-- from a medium at rest that the invariant holds of with a book, whatever the tags of its records
pub taken_over : {l d : ℕ} {m : List ℕ} {b : Book} {disk : Disk} → Down l d m b disk → (es : List Event)
    → is_run l d (down m) es ≡ true → Agrees l d (down m) b es
taken_over {l} {d} {m} {b} x es r = runs l d es (down m) b (fallen x) r

-- a cut leaves the medium
cut_inv : {l d : ℕ} {w : World} {b : Book} → Inv l d w b → Inv l d (down (medium_of w)) (fall b)
cut_inv (running u) = fallen (cut_down u)
cut_inv (fallen x) = rw (fall_down x) (fallen x)

-- from the formatted medium
old_run : (l d : ℕ) → in_range l d ≡ true → (es : List Event) → is_old_run l d (formatted l d) es ≡ true
    → OldAgrees l d (formatted l d) blank es
    × Holds l d (old_world l d (formatted l d) es) (old_book l d (formatted l d) blank es)
unfolding formatted blank
old_run l d h es r =
    old_runs l d es (formatted l d) blank (record {
      inv = fallen (start l d h);
      kept = (kept_start l d h, tt);
      low = tt;
    }) r

pub old_media : OldMedia
old_media = record {
  before = λ l d h es r. (old_run l d h es r).0;
  left = λ l d h es r. let i = (old_run l d h es r).1 in old_medium i.inv i.kept.0 i.low;
  since = λ l d h es r fs q. runs l d fs _ _ (cut_inv (old_run l d h es r).1.inv) q;
}
