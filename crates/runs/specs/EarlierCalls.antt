-- The calls as they were before request #104: no question 18, a version record of 33 bytes under tag 1, and a record's
-- newest version by the earlier reader of a slot. What reads no record number is the store's own, and so are the
-- writers of a slot and of a record.
use Rattle.std.specs.Prelude.{ℕ, suc, ◌*◌, ◌<◌, Bool, not, List, [], ◌∷◌, ◌++◌, ◌≡◌, length, leb, ltb, Option, None, Some}
use Rattle.fields.specs.Field.{enc}
use Rattle.fields.specs.Block.{zeros}
use Rattle.layout.specs.Item.{item_bytes}
use Rattle.layout.specs.Journal.{version, record_bytes}
use Rattle.layout.specs.Slot.{Cell, code_of, shared_field, slot_bytes}
use Rattle.layout.specs.declared.item.Width.TheVariants.{One}
use Rattle.layout.specs.declared.item.VersionHead.{VersionHead}
use Rattle.store.specs.declared.Place.{Place}
use Rattle.store.specs.declared.Refusal.{Refusal}
use Rattle.store.specs.declared.Refusal.TheVariants.{Unfit, NotActive, Held, NoSlot, LogFull, NotYet, ShortBuffer}
use Rattle.store.specs.declared.State.{State}
use Rattle.store.specs.Answer.{Outcome, refuses, ask}
use Rattle.store.specs.Places.{is_at, find_active, time_under}
use Rattle.store.specs.State.{fits}
use Rattle.store.specs.Tail.{may_log}
use Rattle.store.specs.Chain.{held_at, visible_of, best_of}
use Rattle.store.specs.Write.{or_none, write_at}
use Rattle.store.specs.CurrentRead.{current_at}
use Rattle.store.specs.AsOf.{as_of_at}
use Rattle.store.specs.Changes.{Line, lines_below, changes_if}
use Rattle.runs.specs.Event.{Call, begin, write, erase, current_read, commit, abort, as_of, changes, store_log}
use Rattle.runs.specs.Event.{store_page, checkpoint}
use Rattle.runs.specs.Machine.{called}
use Rattle.runs.specs.Earlier.{newest_before}

-- ---- write and erase

-- 01: "The record is held while its newest version waits under another active number"
unfoldable pub held_before : List ℕ → List Place → ℕ → ℕ → ℕ → Bool
held_before c ps slots key n = held_at (newest_before c key slots) c ps n

-- 01, 'Questions put to a call', without #104: no 18, and "may the log take it? 8" of a version record of 33 bytes
abbrev pub old_asks : State → List ℕ → List ℕ → ℕ → ℕ → List (Bool × Refusal)
old_asks s m c n key =
    (fits s (length m) (length c), Unfit)
    ∷ (is_at (find_active s.places n), NotActive)
    ∷ (not (held_before c s.places s.slots key n), Held)
    ∷ (ltb s.slots (15 * s.pages), NoSlot)
    ∷ (may_log s m 33, LogFull)
    ∷ []

-- 01: "Tag 1, version", "record number (1)"
unfoldable pub old_head : State → List ℕ → ℕ → ℕ → ℕ → VersionHead
old_head s c n key kind = record {
  width = One;
  slot = s.slots;
  key = key;
  kind = kind;
  earlier = or_none (newest_before c key s.slots);
  number = record { 0 = n };
}

-- 01: "on "no", this number with zeros": a write or erase refused, or done at the number's place
unfoldable pub old_if : Option Refusal → State → List ℕ → List ℕ → ℕ → ℕ → ℕ → List ℕ → Outcome
old_if (Some r) s m c n key kind value = refuses r s m c
old_if None s m c n key kind value = write_at (find_active s.places n) s m c (old_head s c n key kind) value

-- ---- reads and lists

-- 01: "state and buffers fit .. ? 16", "number active? 5", "not held by another? 6"
abbrev pub old_current_asks : State → List ℕ → List ℕ → ℕ → ℕ → List (Bool × Refusal)
old_current_asks s m c n key =
    (fits s (length m) (length c), Unfit)
    ∷ (is_at (find_active s.places n), NotActive)
    ∷ (not (held_before c s.places s.slots key n), Held)
    ∷ []

-- 01: "A current read gives the record's newest version that is committed or its own": refused, or the search for it
unfoldable pub old_current_if : Option Refusal → State → List ℕ → List ℕ → ℕ → ℕ → Outcome
old_current_if (Some r) s m c n key = refuses r s m c
old_current_if None s m c n key = current_at (visible_of (newest_before c key s.slots) c (time_under s.places) n) s m c

-- 01: "state and buffers fit .. ? 16", "t (t2) not above the last commit time? 10"; 02, #102: "compare their time with
-- the last stored commit time"
abbrev pub old_as_of_asks : State → List ℕ → List ℕ → ℕ → List (Bool × Refusal)
old_as_of_asks s m c t = (fits s (length m) (length c), Unfit) ∷ (leb t s.saved.0, NotYet) ∷ []

-- 01: "As of t: the committed version with greatest time not above t": refused, or the search for it
unfoldable pub old_as_of_if : Option Refusal → State → List ℕ → List ℕ → ℕ → ℕ → Outcome
old_as_of_if (Some r) s m c key t = refuses r s m c
old_as_of_if None s m c key t = as_of_at (best_of (newest_before c key s.slots) c (time_under s.places) t) s m c

-- 01: "Changes of a record from t1 to t2": its lines, found from its newest version
unfoldable pub old_lines : State → List ℕ → ℕ → ℕ → ℕ → List Line
old_lines s c key t1 t2 = lines_below c (time_under s.places) (newest_before c key s.slots) t1 (suc (suc t2)) (suc t2)

-- 01: "state and buffers fit .. ? 16", "t (t2) not above the last commit time? 10", "answer buffer at least 32 bytes
-- per line listed? 14"; 02, #102: "compare their time with the last stored commit time"
abbrev pub old_changes_asks : State → List ℕ → List ℕ → ℕ → List Line → ℕ → List (Bool × Refusal)
old_changes_asks s m c t2 ls room =
    (fits s (length m) (length c), Unfit) ∷ (leb t2 s.saved.0, NotYet) ∷ (leb (32 * length ls) room, ShortBuffer) ∷ []

-- ---- each call

-- 01: "Each call gets the state, medium and cache": the outcome of a call on an open store; those that name no record
-- are as they were
unfoldable pub old_called : List ℕ → List ℕ → State → Call → Outcome
old_called m c s (begin k) = called m c s (begin k)
old_called m c s (write n key v) = old_if (ask (old_asks s m c n key)) s m c n key 0 v
old_called m c s (erase n key) = old_if (ask (old_asks s m c n key)) s m c n key 1 (zeros 16)
old_called m c s (current_read n key) = old_current_if (ask (old_current_asks s m c n key)) s m c n key
old_called m c s (commit n k) = called m c s (commit n k)
old_called m c s (abort n) = called m c s (abort n)
old_called m c s (as_of key t) = old_as_of_if (ask (old_as_of_asks s m c t)) s m c key t
old_called m c s (changes key t1 t2 b) =
    let ls = old_lines s c key t1 t2 in changes_if (ask (old_changes_asks s m c t2 ls (length b))) s m c b ls
old_called m c s store_log = called m c s store_log
old_called m c s (store_page p) = called m c s (store_page p)
old_called m c s checkpoint = called m c s checkpoint

-- ---- the bytes that were written

-- 01: "Slot bytes: 0 state, 1 record number, 2 kind (0 present, 1 erased), 3 zero, 4-5 earlier slot of that record
-- (65535: none), 6-7 zero, 8-15 number or time, 16-31 value"
unfoldable pub slot_before : Cell → List ℕ
slot_before c =
    code_of c.state ∷ c.key ∷ c.kind ∷ 0 ∷
    (enc 2 c.earlier ++ (0 ∷ 0 ∷ (enc 8 (shared_field c.state) ++ c.value)))

-- 01: "Tag 1, version, body 30 bytes: slot (2), record number (1), kind (1), earlier slot (2), transaction number (8),
-- value (16)"
unfoldable pub version_before : VersionHead → List ℕ → List ℕ
version_before h v =
    item_bytes 1 (enc 2 h.slot ++ (h.key ∷ h.kind ∷ (enc 2 h.earlier ++ (enc 8 h.number.0 ++ v))))

-- 02, #104: "Old media": on a record number of one byte the store writes a slot, and under tag 1 a version record, as
-- it did
pub record WritesAsBefore : Type 0 where
  pub slot : (c : Cell) → c.key < 256 → slot_bytes c ≡ slot_before c
  pub logged : (h : VersionHead) (v : List ℕ) → h.width ≡ One → h.key < 256
      → record_bytes (version h v) ≡ version_before h v
