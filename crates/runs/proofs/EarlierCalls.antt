-- The calls as they were are those of today, but for writes and erases, on a record number of one byte and a cache in
-- which byte 3 of every slot is zero: both readers then find the same newest version of a record, and question 18 is
-- passed. So is what an opening finds. Written with such a record number, a slot and a record of tag 1 are the bytes
-- that they were.
use Rattle.std.specs.Prelude.{Option, None, Some}
use Prim.Native.Nat.{ℕ, zero, suc, ◌+◌, ◌/◌, ◌%◌, ◌<◌}
use native.Mathlib.Omega.{arith}
use mathlib.Core.Bool.{Bool, true, false, false≢true}
use mathlib.Core.List.{List, [], ◌∷◌}
use mathlib.Core.Path.{◌≡◌, refl, sym, ap, ◌∙◌}
use lib.ListN.{length}
use borrow.Author.Tests.{ltb-true, lt-ltb}
use Rattle.fields.specs.Field.{enc}
use Rattle.fields.specs.Block.{medium_length}
use Rattle.layout.specs.Item.{bytes_of, tag_of}
use Rattle.layout.specs.Journal.{version, version_body, record_bytes}
use Rattle.layout.specs.Slot.{Cell, slot_bytes, key_form}
use Rattle.layout.specs.declared.item.Width.TheVariants.{One}
use Rattle.layout.specs.declared.item.VersionHead.{VersionHead}
use Rattle.store.specs.declared.Place.{Place}
use Rattle.store.specs.declared.Refusal.{Refusal}
use Rattle.store.specs.declared.State.{State}
use Rattle.store.specs.Answer.{ask}
use Rattle.store.specs.State.{no_state}
use Rattle.store.specs.Chain.{held}
use Rattle.store.specs.CurrentRead.{current_if, current_of}
use Rattle.store.specs.AsOf.{as_of_if, as_of_of}
use Rattle.store.specs.Changes.{change_lines, changes_of}
use Rattle.store.specs.Open.{open_asks, opened_state, open_if, open_of}
use Rattle.runs.specs.Event.{Call, begin, write, erase, current_read, commit, abort, as_of, changes, store_log}
use Rattle.runs.specs.Event.{store_page, checkpoint}
use Rattle.runs.specs.Machine.{World, medium_of, called, opens, sight_at, sights_from}
use Rattle.runs.specs.Earlier.{Old, OpensAsBefore, open_before}
use Rattle.runs.specs.EarlierCalls.{held_before, old_current_asks, old_current_if, old_as_of_asks, old_as_of_if}
use Rattle.runs.specs.EarlierCalls.{old_lines, old_called, slot_before, version_before, WritesAsBefore}
use Rattle.runs.specs.OldMedia.{of_byte, old_sight, old_sights, old_opens}
use Rattle.runs.proofs.Asks.{asked}
use Rattle.runs.proofs.EarlierReads.{Low, at_same, newest_same}
use Rattle.runs.proofs.Earlier.{low_opened, opens_as_before}

-- ---- calls

-- those that log a version
abbrev pub is_adding : Call → Bool
is_adding (begin k) = false
is_adding (write n key v) = true
is_adding (erase n key) = true
is_adding (current_read n key) = false
is_adding (commit n k) = false
is_adding (abort n) = false
is_adding (as_of key t) = false
is_adding (changes key t1 t2 b) = false
is_adding store_log = false
is_adding (store_page p) = false
is_adding checkpoint = false

-- a record number of one byte is below 1,024
pub byte_form : (key : ℕ) → key < 256 → key_form key ≡ true
unfolding key_form
byte_form key h = lt-ltb key 1024 (omega arith)

module _ (m c : List ℕ) (s : State) (low : Low c) where
  pub held_same : (key n : ℕ) → held_before c s.places s.slots key n ≡ held c s.places s.slots key n
  unfolding held_before held
  held_same key n = rw (newest_same c low key s.slots)

  current_same : (n key : ℕ) → key < 256 → old_current_if (ask (old_current_asks s m c n key)) s m c n key
      ≡ current_of s m c n key
  unfolding current_of old_current_if current_if
  current_same n key h = rw (byte_form key h, ← held_same key n) (go (ask (old_current_asks s m c n key)))
    where
      go : (a : Option Refusal) → old_current_if a s m c n key ≡ current_if a s m c n key
      go (Some r) = refl
      go None = rw (newest_same c low key s.slots)

  as_of_same : (key t : ℕ) → key < 256 → old_as_of_if (ask (old_as_of_asks s m c t)) s m c key t ≡ as_of_of s m c key t
  unfolding as_of_of old_as_of_if as_of_if
  as_of_same key t h = rw (byte_form key h) (go (ask (old_as_of_asks s m c t)))
    where
      go : (a : Option Refusal) → old_as_of_if a s m c key t ≡ as_of_if a s m c key t
      go (Some r) = refl
      go None = rw (newest_same c low key s.slots)

  lines_same : (key t1 t2 : ℕ) → old_lines s c key t1 t2 ≡ change_lines s c key t1 t2
  unfolding old_lines change_lines
  lines_same key t1 t2 = rw (newest_same c low key s.slots)

  pub call_same : (x : Call) → is_adding x ≡ false → of_byte x ≡ true → old_called m c s x ≡ called m c s x
  unfolding old_called called changes_of
  call_same (begin k) a h = refl
  call_same (write n key v) a h = absurd (false≢true (sym a))
  call_same (erase n key) a h = absurd (false≢true (sym a))
  call_same (current_read n key) a h = current_same n key (ltb-true key 256 h)
  call_same (commit n k) a h = refl
  call_same (abort n) a h = refl
  call_same (as_of key t) a h = as_of_same key t (ltb-true key 256 h)
  call_same (changes key t1 t2 b) a h = rw (byte_form key (ltb-true key 256 h), lines_same key t1 t2)
  call_same store_log a h = refl
  call_same (store_page p) a h = refl
  call_same checkpoint a h = refl

-- ---- an opening

sights_same : (c : List ℕ) (ps : List Place) → Low c → (n k : ℕ) → old_sights c ps n k ≡ sights_from c ps n k
unfolding old_sights old_sight sights_from sight_at
sights_same c ps low n zero = refl
sights_same c ps low n (suc k) = rw (at_same c low n, sights_same c ps low (n + 1) k)

-- it gives what it gives today, and finds the same
pub opening_same : (l d : ℕ) (w : World) (y : List ℕ) → Old (medium_of w) l d → length (medium_of w) ≡ medium_length l d
    → old_opens l d w (open_before (medium_of w) y l d) ≡ opens l d w (open_of (medium_of w) y l d)
unfolding OpensAsBefore open_of
opening_same l d w y old size =
    ap (old_opens l d w) (sym (opens_as_before (medium_of w) y l d old))
    ∙ asked (λ (a : Option Refusal). old_opens l d w (open_if a (medium_of w) y l d)
    ≡ opens l d w (open_if a (medium_of w) y l d)) (open_asks (medium_of w) y l d)
    (λ r e. unfold old_opens opens open_if no_state old_sights sights_from in refl)
    (λ p. unfold old_opens opens open_if opened_state in
    rw (sights_same _ _ (low_opened (medium_of w) l d old size) 0 _))

-- ---- the bytes that were written

slot_as_before : (c : Cell) → c.key < 256 → slot_bytes c ≡ slot_before c
unfolding slot_bytes slot_before
slot_as_before c h =
    let a : c.key % 256 ≡ c.key = omega arith in
    let b : c.key / 256 % 256 ≡ 0 = omega arith in
    rw (a, b)

enc_one : (n : ℕ) → n < 256 → enc 1 n ≡ n ∷ []
unfolding enc
enc_one n h = let a : n % 256 ≡ n = omega arith in rw a

version_as_before : (h : VersionHead) (v : List ℕ) → h.width ≡ One → h.key < 256
    → record_bytes (version h v) ≡ version_before h v
unfolding record_bytes version_before version_body tag_of bytes_of
version_as_before h v w k = rw (w, enc_one h.key k)

pub writes_as_before : WritesAsBefore
writes_as_before = record { slot = slot_as_before; logged = version_as_before }
