-- A slot of a page: 32 bytes.
use Rattle.std.specs.Prelude.{ℕ, ◌+◌, ◌*◌, ◌/◌, ◌%◌, Bool, cond, ◌&&◌, ◌||◌, List, ◌∷◌, ◌++◌, get_or, set, eqb, leb, ltb}
use Rattle.fields.specs.Field.{enc, dec}
use Rattle.fields.specs.Part.{part, splice}
use Rattle.fields.specs.Equal.{all_zero}
use Rattle.layout.specs.declared.slot.Slot.{Slot}
use Rattle.layout.specs.declared.slot.Slot.TheVariants.{Empty, Waiting, Stamped}

-- 01: "Slot bytes: 0 state, 1 record number, 2 kind (0 present, 1 erased), 3 zero, 4-5 earlier slot of that record
-- (65535: none), 6-7 zero, 8-15 number or time, 16-31 value"; 02, #104: "slot byte 3 is the high byte". A key is 01's record
-- number.
pub record Cell : Type 0 where
  pub state : Slot
  pub key : ℕ
  pub kind : ℕ
  pub earlier : ℕ
  pub value : List ℕ

-- 01: "State codes are 0, 1, 2"
unfoldable pub code_of : Slot → ℕ
code_of Empty = 0
code_of (Waiting n) = 1
code_of (Stamped t) = 2

-- 01: "Number and time share one field of a slot"
unfoldable pub shared_field : Slot → ℕ
shared_field Empty = 0
shared_field (Waiting n) = n.0
shared_field (Stamped t) = t.0

unfoldable pub slot_bytes : Cell → List ℕ
slot_bytes c =
    code_of c.state ∷ c.key % 256 ∷ c.kind ∷ c.key / 256 % 256 ∷
    (enc 2 c.earlier ++ (0 ∷ 0 ∷ (enc 8 (shared_field c.state) ++ c.value)))

-- 01: "A slot is empty, waiting under a number, or stamped with a time"; a code of another value reads as empty
abbrev pub state_of : ℕ → ℕ → Slot
state_of code n =
    cond (eqb code 1) (Waiting (record { 0 = n }))
    (cond (eqb code 2) (Stamped (record { 0 = n })) Empty)

unfoldable pub slot_state : List ℕ → Slot
slot_state s = state_of (get_or s 0 0) (dec (part s 8 8))

-- 01: "1 record number"; 02, #104: "slot byte 3 is the high byte"
unfoldable pub slot_key : List ℕ → ℕ
slot_key s = get_or s 1 0 + 256 * get_or s 3 0

unfoldable pub cell_of : List ℕ → Cell
cell_of s = record {
  state = slot_state s;
  key = slot_key s;
  kind = get_or s 2 0;
  earlier = dec (part s 4 2);
  value = part s 16 16;
}

-- the slot with state 2 and a time in place of its number
unfoldable pub stamped : List ℕ → ℕ → List ℕ
stamped s t = splice (set s 0 2) 8 (enc 8 t)

-- 01: "kind (0 present, 1 erased)", "An empty slot and an erased value are zeros"
unfoldable pub kind_form : ℕ → List ℕ → Bool
kind_form kind value = eqb kind 0 || (eqb kind 1 && all_zero value)

-- 02, #104: "Record numbers become two bytes, 0 to 1,023"
unfoldable pub key_form : ℕ → Bool
key_form key = ltb key 1024

-- a slot that holds a version is in form; 02, #104: a record number below 1,024 has a high byte of at most 3
unfoldable pub slot_form : List ℕ → Bool
slot_form s =
    (eqb (get_or s 0 0) 1 || eqb (get_or s 0 0) 2)
    && (leb (get_or s 3 0) 3 && (all_zero (part s 6 2) && kind_form (get_or s 2 0) (part s 16 16)))
