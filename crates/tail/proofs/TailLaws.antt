-- What the functions of the tail need of its definitions: the bounds of its numbers, what may be logged, the end place of what
-- stands in it, what is left once a record is taken, and what a fitting state gives. Assumes nothing.
use mathlib.Core.Path.{◌≡◌, refl, ap, ◌∙◌}
use mathlib.Core.Bool.{Bool, true, false, cond, ◌&&◌}
use mathlib.Core.List.{List}
use Prim.Native.Nat.{ℕ, ◌+◌, ◌^◌, ◌≤◌, ◌<◌}
use native.Mathlib.Omega.{arith}
use lib.ListN.{drop, get_or, length-take}
use lib.Dec.{ltb}
use borrow.Author.Tests.{ltb-true, leb-true, lt-ltb, le-ltb}
use Rattle.fields.specs.Block.{end_place}
use Rattle.fields.specs.Part.{part}
use Rattle.layout.specs.Journal.{Record, record_size, sequence_of, used_of, empty_block, add_record}
use Rattle.layout.specs.Master.{oldest_on}
use Rattle.fields.proofs.Choose.{and_1}
use Rattle.fields.proofs.FieldLaws.{Bytes, bytes_take, bytes_drop, dec_lt}
use Rattle.layout.proofs.JournalLaws.{sequence_empty_block, used_empty_block, sequence_add_record}
use Rattle.layout.specs.declared.EndPlace.{EndPlace}
use Rattle.store.specs.declared.State.{State}
use Rattle.store.specs.State.{fits}
use Rattle.store.specs.Tail.{tail_fits, may_log, tail_end, stored_tail, logged, logged_if}
use Rattle.store.proofs.FitLaws.{fit_of}
use Rattle.tail.specs.Taken.{Ready, taken, begun}

-- a number of two bytes
pub used_below : (b : List ℕ) → ((i : ℕ) → get_or b i 0 < 256) → used_of b < 65536
unfolding used_of
used_below b k =
    let bytes : Bytes b = λ i. omega (arith, k i) in
    dec_lt 2 (part b 8 2) (bytes_take 2 (drop 8 b) (bytes_drop 8 b bytes)) (simp length-take (omega arith))

pub room_for : (t : List ℕ) (size : ℕ) → tail_fits t size ≡ true → used_of t + size ≤ 512
unfolding tail_fits
room_for t size e = leb-true (used_of t + size) 512 e

-- ---- whether the log may take a record; q is the tail's sequence

module _ (s : State) (m : List ℕ) (size q : ℕ) (e : q ≡ sequence_of s.tail) (f : tail_fits s.tail size ≡ false) where
  pub may_not : oldest_on m + s.blocks ≤ q + 1 → may_log s m size ≡ false
  unfolding may_log
  may_not h = simp (f, ← e, le-ltb _ _ h)

  pub may_if : q + 1 < oldest_on m + s.blocks → may_log s m size ≡ ltb (q + 1) (2 ^ 48)
  unfolding may_log
  may_if h = simp (f, ← e, lt-ltb _ _ h)

pub may_begin : (s : State) (m : List ℕ) (size : ℕ) → may_log s m size ≡ true → tail_fits s.tail size ≡ false → sequence_of s.tail + 1 < 2 ^ 48
unfolding may_log
may_begin s m size e f =
    let w : ltb (sequence_of s.tail + 1) (oldest_on m + s.blocks) && ltb (sequence_of s.tail + 1) (2 ^ 48) ≡ true = rw f at e in
    ltb-true (sequence_of s.tail + 1) (2 ^ 48) (and_1 (ltb (sequence_of s.tail + 1) (oldest_on m + s.blocks)) _ w)

-- ---- the end place of what stands in the tail; q is its sequence and u its used bytes

end_at : ℕ → EndPlace
end_at e = record { 0 = e }

pub end_is : (t : List ℕ) (r : EndPlace) (q u : ℕ) → r.0 ≡ end_place q u → q ≡ sequence_of t → u ≡ used_of t → r ≡ tail_end t
unfolding tail_end end_at
end_is t r q u e eq eu = ap end_at (e ∙ rw (eq, eu))

-- ---- a record taken; x is the state with room made for it, and n the medium

-- the state with another tail
abbrev pub with_tail : State → List ℕ → State
with_tail s t = record {
  blocks = s.blocks;
  pages = s.pages;
  slots = s.slots;
  next = s.next;
  last = s.last;
  saved = s.saved;
  end = s.end;
  tail = t;
  places = s.places;
  ring = s.ring;
  first = s.first;
  phase = s.phase;
}

pub room_made : (s x : State) (size m : ℕ) → Ready s m → size ≤ 502 → x ≡ cond (tail_fits s.tail size) s (begun s)
    → (10 ≤ used_of x.tail) × (used_of x.tail + size ≤ 512)
unfolding begun taken
room_made s x size m h l e = rw e (by (tail_fits s.tail size) refl)
  where
    by : (b : Bool) → tail_fits s.tail size ≡ b → (10 ≤ used_of (cond b s (begun s)).tail) × (used_of (cond b s (begun s)).tail + size ≤ 512)
    by true f = (h.used, room_for s.tail size f)
    by false f = rw (used_empty_block (sequence_of s.tail + 1)) (omega arith, omega arith)

-- t is the tail with the record
pub took : (s x : State) (m n : List ℕ) (r : Record) (t : List ℕ) → x ≡ cond (tail_fits s.tail (record_size r)) s (begun s)
    → n ≡ cond (tail_fits s.tail (record_size r)) m (stored_tail s.blocks m s.tail) → t ≡ add_record x.tail r
    → (with_tail x t ≡ taken s (logged s m r)) × (n ≡ (logged s m r).medium)
unfolding taken logged logged_if begun
took s x m n r t e en et = rw (et, e, en) (by (tail_fits s.tail (record_size r)))
  where
    by : (b : Bool) → (with_tail (cond b s (begun s)) (add_record (cond b s (begun s)).tail r) ≡ taken s (logged_if b s m r))
        × (cond b m (stored_tail s.blocks m s.tail) ≡ (logged_if b s m r).medium)
    by true = (refl, refl)
    by false = (refl, refl)

-- ---- the sequence of a tail that took a record is one that an end place can hold

pub sequence_logged : (s t : State) (m : List ℕ) (c k : ℕ) (r : Record) → fits s k c ≡ true → may_log s m (record_size r) ≡ true
    → t ≡ taken s (logged s m r) → sequence_of t.tail < 2 ^ 48
unfolding taken logged logged_if
sequence_logged s t m c k r f w e = rw e (by (tail_fits s.tail (record_size r)) refl)
  where
    by : (b : Bool) → tail_fits s.tail (record_size r) ≡ b → sequence_of (logged_if b s m r).tail < 2 ^ 48
    by true x =
        let h = fit_of s k c f in
        let u = h.tail.used_low in
        rw (sequence_add_record s.tail r (omega arith)) h.tail.sequence_high
    by false x =
        let n = sequence_of s.tail + 1 in
        let l : n < 2 ^ 48 = may_begin s m (record_size r) w x in
        let u : 8 ≤ used_of (empty_block n) = rw (used_empty_block n) (omega arith) in
        rw (sequence_add_record (empty_block n) r u, sequence_empty_block n (omega arith)) l

-- ---- what a fitting state gives

pub ready : (s : State) (m c : ℕ) → fits s m c ≡ true → Ready s m
ready s m c e =
    let f = fit_of s m c e in
    record {
      low = f.range.blocks_low;
      high = f.range.blocks_high;
      pages = f.range.pages_high;
      medium = f.medium;
      used = f.tail.used_low;
      room = f.tail.used_high;
      sequence = f.tail.sequence_high;
    }
