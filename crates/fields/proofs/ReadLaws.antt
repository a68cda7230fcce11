-- Fields read at their places: in a list put together from parts each part is found again, and a list is its parts put
-- together. Assumes nothing.
use mathlib.Core.Path.{◌≡◌, sym, ap, ◌∙◌}
use Prim.Native.Nat.{ℕ, suc, ◌+◌, ◌^◌, ◌≤◌, ◌<◌}
use native.Mathlib.Numerals.{add-one}
use mathlib.Core.List.{List, ◌∷◌, ◌++◌}
use lib.ListN.{length, take, drop, get_or}
use lib.Seq.{take_at, drop_at, take-add, drop-drop, drop-cons}
use Rattle.fields.specs.Field.{enc, dec}
use Rattle.fields.specs.Part.{part}
use Rattle.fields.proofs.PartLaws.{length_part}
use Rattle.fields.proofs.FieldLaws.{Bytes, length_enc, dec_enc, enc_dec, bytes_take, bytes_drop}

-- a part behind p
pub part_mid : (p m q : List ℕ) (at w : ℕ) → length p ≡ at → length m ≡ w → part (p ++ (m ++ q)) at w ≡ m
part_mid p m q at w e f = ap (take w) (drop_at p (m ++ q) at e) ∙ take_at m q w f

-- a number behind p
pub dec_mid : (p q : List ℕ) (at w n : ℕ) → length p ≡ at → n < 256 ^ w → dec (part (p ++ (enc w n ++ q)) at w) ≡ n
dec_mid p q at w n e h = ap dec (part_mid p (enc w n) q at w e (length_enc w n)) ∙ dec_enc w n h

-- two parts side by side, and a part with its first element
pub part_join : (l : List ℕ) (at n m : ℕ) → part l at n ++ part l (at + n) m ≡ part l at (n + m)
part_join l at n m = sym (take-add n m (drop at l) ∙ rw (drop-drop n at l))

pub part_cons : (l : List ℕ) (at n : ℕ) → at < length l → get_or l at 0 ∷ part l (at + 1) n ≡ part l at (suc n)
part_cons l at n h = rw (add-one, drop-cons l at 0 h)

-- the bytes of a number that is read and written again
pub enc_part : (l : List ℕ) (at w : ℕ) → at + w ≤ length l → Bytes l → enc w (dec (part l at w)) ≡ part l at w
enc_part l at w h b =
    let e : enc (length (part l at w)) (dec (part l at w)) ≡ part l at w = enc_dec (part l at w) (bytes_take w (drop at l) (bytes_drop at l b)) in
    rw (length_part l at w h) at e
