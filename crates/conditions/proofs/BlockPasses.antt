-- A block's records, one after the other: what its bytes are read as, the loop that judges the records, and the loops over
-- the blocks and the pages. Each turn is one clause of the definition; assumes nothing.
use mathlib.Core.Path.{◌≡◌, refl, sym, ap, ◌∙◌}
use mathlib.Core.Bool.{Bool, true, false, ◌&&◌}
use mathlib.Core.Logic.{◌⊎◌, ⊎_elim}
use Prim.Native.Nat.{ℕ, zero, suc, ◌+◌, ◌-◌, ◌*◌, ◌≤◌, ◌<◌, ◌^◌, min}
use native.Mathlib.Nat.{add-zero, sub-zero}
use native.Mathlib.Numerals.{add-one}
use native.Mathlib.Omega.{arith}
use mathlib.Core.List.{List, [], ◌∷◌, ◌++◌}
use lib.ListN.{length, take, drop, length-take, length-drop, drop_of_length-le}
use lib.Seq.{drop-drop}
use lib.Dec.{leb, ltb}
use borrow.Author.Tests.{lt-ltb, le-ltb}
use Rattle.fields.specs.Part.{part}
use Rattle.fields.specs.Block.{blk, page_block_at}
use Rattle.layout.specs.Page.{page_form, page_end}
use Rattle.layout.specs.Item.{bytes_of, item_of, value_of}
use Rattle.layout.specs.Slot.{key_form, kind_form}
use Rattle.layout.specs.Journal.{Record, version, commit, Parsed, onward, used_of, body_of, parse, parse_more, parsed, used_form, record_form}
use Rattle.layout.specs.declared.item.Area.TheVariants.{Journal}
use Rattle.layout.specs.declared.item.Width.{Width}
use Rattle.layout.specs.declared.item.VersionHead.{VersionHead}
use Rattle.layout.specs.declared.item.Pair.{Pair}
use Rattle.layout.specs.declared.item.Item.{Item}
use Rattle.layout.specs.declared.item.Item.TheVariants.{End, Version, Commit, Number, Damaged}
use Rattle.fields.proofs.Choose.{and_0, and_1}
use Rattle.fields.proofs.FieldLaws.{Bytes, bytes_take, bytes_drop}
use Rattle.fields.proofs.PartLaws.{part_part, lent_part, lent_rest}
use Rattle.layout.proofs.ItemLaws.{Told, told}
use Rattle.layout.proofs.ParseLaws.{parse_fuel}
use Rattle.store.specs.OpenLog.{Placed, place_from, block_of, logged_from, log_end}
use Rattle.store.specs.OpenConditions.{record_fits, low_after, low_after_all}
use Rattle.conditions.specs.Lookup.{slot_below, slots_below}
use Rattle.conditions.specs.Passes.{records_ok, blocks_ok, page_ok}

-- ---- the bytes of a block's records

pub bytes_blk : (m : List ℕ) (k : ℕ) → Bytes m → Bytes (blk m k)
unfolding blk
bytes_blk m k h = bytes_take 512 (drop (512 * k) m) (bytes_drop (512 * k) m h)

pub body_short : (b : List ℕ) → length b ≤ 512 → length (body_of b) ≤ 502
unfolding body_of
body_short b h = simp (length-take, length-drop) (omega arith)

pub body_used : (b : List ℕ) → length (body_of b) ≤ used_of b - 10
unfolding body_of
body_used b = simp (length-take, length-drop) (omega arith)

pub body_is : (b : List ℕ) → length b ≡ 512 → length (body_of b) ≡ min (used_of b - 10) 502
unfolding body_of
body_is b h = simp (length-take, length-drop) (omega arith)

-- the bytes from an offset on, as `&block[at..end]` is lent
pub body_from : (b : List ℕ) (at end : ℕ) → 10 ≤ at → at ≤ end → end ≡ 10 + length (body_of b)
    → take (end - at) (drop at b) ≡ drop (at - 10) (body_of b)
unfolding body_of
body_from b at end h k e =
    let p = part b 10 (used_of b - 10) in
    let u : length p ≤ used_of b - 10 = body_used b in
    let n : end - at ≡ length p - (at - 10) = omega arith in
    let a : 10 + (at - 10) ≡ at = omega arith in
    sym (sym (lent_rest p (at - 10)) ∙ part_part b 10 (used_of b - 10) (at - 10) (length p - (at - 10)) (omega arith) ∙ rw (a, n))

pub item_end : (bs : List ℕ) (at : ℕ) → length bs ≤ at → item_of Journal (drop at bs) ≡ End
unfolding item_of
item_end bs at h = ap (item_of Journal) (drop_of_length-le bs h)

-- a record of n bytes ends within the block
pub record_in : (b : List ℕ) (at n : ℕ) → length b ≤ 512 → 10 ≤ at → n ≤ length (drop (at - 10) (body_of b)) → 0 < n → at + n ≤ 512
record_in b at n h g r z = omega (arith, body_short b h, length-drop (at - 10) (body_of b))

-- the value of a version record, where it lies in the block: in front of the record's end
pub value_in : (b : List ℕ) (at end : ℕ) (w : Width) → 10 ≤ at → 32 + bytes_of w ≤ length (drop (at - 10) (body_of b)) → end ≡ at + (32 + bytes_of w)
    → value_of w (drop 3 (drop (at - 10) (body_of b))) ≡ part b (end - 16) 16
unfolding value_of body_of
value_in b at end w h r q =
    let p = part b 10 (used_of b - 10) in
    let k = bytes_of w in
    let u : length p ≤ used_of b - 10 = body_used b in
    let d : 32 + k ≤ length p - (at - 10) = rw length-drop at r in
    let e : at - 10 + (3 + (13 + k)) ≡ end - 16 - 10 = omega arith in
    let f : 10 + (end - 16 - 10) ≡ end - 16 = omega arith in
    let a : drop (13 + k) (drop 3 (drop (at - 10) p)) ≡ drop (end - 16 - 10) p =
    drop-drop (13 + k) 3 (drop (at - 10) p) ∙ drop-drop (3 + (13 + k)) (at - 10) p ∙ ap (λ (j : ℕ). drop j p) e in
    ap (take 16) a ∙ part_part b 10 (used_of b - 10) (end - 16 - 10) 16 (omega arith) ∙ rw f

-- ---- the records from an offset on

unfoldable pub left_of : List ℕ → ℕ → Parsed
left_of b at = parse (suc (length (drop (at - 10) (body_of b)))) (drop (at - 10) (body_of b))

pub left_all : (b : List ℕ) → left_of b 10 ≡ parsed b
unfolding left_of parsed
left_all b = refl

-- behind n bytes more
pub left_behind : (b : List ℕ) (at n : ℕ) → 10 ≤ at → 0 < n → n ≤ length (drop (at - 10) (body_of b))
    → parse (length (drop (at - 10) (body_of b))) (drop n (drop (at - 10) (body_of b))) ≡ left_of b (at + n)
unfolding left_of
left_behind b at n h z r =
    let x = drop (at - 10) (body_of b) in
    let a : at - 10 + n ≡ at + n - 10 = omega arith in
    let d : drop n x ≡ drop (at + n - 10) (body_of b) = drop-drop n (at - 10) (body_of b) ∙ rw a in
    let w : length (drop n x) < length x = rw (length-drop n x) (omega arith) in
    parse_fuel (length x) (suc (length (drop n x))) (drop n x) w (omega arith) ∙ rw d

-- by the item that is read there
module _ (b : List ℕ) (at : ℕ) (low : 10 ≤ at) (i : Item) (read : i ≡ item_of Journal (drop (at - 10) (body_of b))) where
  left_is : left_of b at ≡ parse_more i (drop (at - 10) (body_of b)) (λ n. parse (length (drop (at - 10) (body_of b))) (drop n (drop (at - 10) (body_of b))))
  unfolding left_of parse
  left_is = rw read

  told_here : Told Journal (drop (at - 10) (body_of b)) i
  told_here = rw read (told Journal (drop (at - 10) (body_of b)))

  pub left_end : i ≡ End → left_of b at ≡ record { records = []; whole = true }
  left_end e = left_is ∙ rw e

  pub left_cut : ((t : ℕ) × (n : ℕ) × (i ≡ Number t n)) ⊎ (i ≡ Damaged) → left_of b at ≡ record { records = []; whole = false }
  left_cut e = left_is ∙ ⊎_elim (λ w. rw w.2) (λ q. rw q) e

  version_room : (h : VersionHead) → i ≡ Version h → 32 + bytes_of h.width ≤ length (drop (at - 10) (body_of b))
  version_room h e = let t : Told Journal (drop (at - 10) (body_of b)) (Version h) = rw e at told_here in omega (arith, t.0.room)

  commit_room : (p : Pair) → i ≡ Commit p → 19 ≤ length (drop (at - 10) (body_of b))
  commit_room p e = let t : Told Journal (drop (at - 10) (body_of b)) (Commit p) = rw e at told_here in t.0.room

  pub version_in : (h : VersionHead) (w : ℕ) → length b ≤ 512 → i ≡ Version h → w ≡ bytes_of h.width → at + 32 + w ≤ 512
  version_in h w n e f = omega (arith, record_in b at (32 + bytes_of h.width) n low (version_room h e) (omega arith))

  pub commit_in : (p : Pair) → length b ≤ 512 → i ≡ Commit p → at + 19 ≤ 512
  commit_in p n e = record_in b at 19 n low (commit_room p e) (omega arith)

  pub left_version : (h : VersionHead) (end : ℕ) → i ≡ Version h → end ≡ at + (32 + bytes_of h.width)
      → left_of b at ≡ onward (version h (part b (end - 16) 16)) (left_of b end)
  left_version h end e q =
      let r = version_room h e in
      left_is ∙ rw (e, value_in b at end h.width low r q, left_behind b at (32 + bytes_of h.width) low (omega arith) r, ← q)

  pub left_commit : (p : Pair) → i ≡ Commit p → left_of b at ≡ onward (commit p) (left_of b (at + 19))
  left_commit p e = left_is ∙ rw (e, left_behind b at 19 low (omega arith) (commit_room p e))

-- ---- the loop that judges a block's records

-- p, judged from `low` on, is what q is from `start` on
pub record Same (d low : ℕ) (p : Parsed) (start : ℕ) (q : Parsed) : Type 0 where
  pub ok : records_ok d low p.records && p.whole ≡ records_ok d start q.records && q.whole
  pub after : low_after_all low p.records ≡ low_after_all start q.records

pub same_begin : (b : List ℕ) (d low : ℕ) → Same d low (left_of b 10) low (parsed b)
same_begin b d low = rw (left_all b) (record { ok = refl; after = refl })

-- nothing is left, or no whole record
pub same_end : {d low start : ℕ} {p q : Parsed} → Same d low p start q → p ≡ record { records = []; whole = true }
    → (true ≡ records_ok d start q.records && q.whole) × (low ≡ low_after_all start q.records)
unfolding records_ok low_after_all
same_end s e = (rw e at s.ok, rw e at s.after)

pub same_cut : {d low start : ℕ} {p q : Parsed} → Same d low p start q → p ≡ record { records = []; whole = false }
    → false ≡ records_ok d start q.records && q.whole
unfolding records_ok
same_cut s e = rw e at s.ok

-- a record more: t is what was found of it
module _ {d low start : ℕ} {p r q : Parsed} (x : Record) (s : Same d low p start q) (e : p ≡ onward x r) (t : Bool) (f : t ≡ record_form x && record_fits d low x) where
  same_turn : t ≡ true → Same d (low_after low x) r start q
  unfolding records_ok low_after_all
  same_turn g = record { ok = rw (e, sym f ∙ g) at s.ok; after = rw e at s.after }

  same_stop : t ≡ false → false ≡ records_ok d start q.records && q.whole
  unfolding records_ok
  same_stop g = rw (e, sym f ∙ g) at s.ok

-- at the item that was read; a version's value is lent as `&block[end - 16..end]`, where `end` is `at + 32 + w`
module _ (b : List ℕ) (at : ℕ) (from : 10 ≤ at) (i : Item) (read : i ≡ item_of Journal (drop (at - 10) (body_of b))) {d low start : ℕ} {q : Parsed}
    (s : Same d low (left_of b at) start q) (t : Bool) where
  module _ (h : VersionHead) (w : ℕ) (is-version : i ≡ Version h) (is-width : w ≡ bytes_of h.width)
      (judged : t ≡ (key_form h.key && kind_form h.kind (take (at + 32 + w - (at + 32 + w - 16)) (drop (at + 32 + w - 16) b))) && ltb h.slot (15 * d)) where
    found : t ≡ record_form (version h (part b (at + 32 + w - 16) 16)) && record_fits d low (version h (part b (at + 32 + w - 16) 16))
    unfolding record_form
    found = let e : at + 32 + w - (at + 32 + w - 16) ≡ 16 = omega arith in rw e at judged

    left : left_of b at ≡ onward (version h (part b (at + 32 + w - 16) 16)) (left_of b (at + 32 + w))
    left = left_version b at from i read h (at + 32 + w) is-version (omega arith)

    pub version_turn : t ≡ true → Same d low (left_of b (at + 32 + w)) start q
    version_turn g = same_turn (version h (part b (at + 32 + w - 16) 16)) s left t found g

    pub version_stop : t ≡ false → false ≡ records_ok d start q.records && q.whole
    version_stop g = same_stop (version h (part b (at + 32 + w - 16) 16)) s left t found g

  pub commit_turn : (p : Pair) → i ≡ Commit p → t ≡ leb low p.time.0 → t ≡ true → Same d (p.time.0 + 1) (left_of b (at + 19)) start q
  unfolding record_form
  commit_turn p e f g = same_turn (commit p) s (left_commit b at from i read p e) t f g

  pub commit_stop : (p : Pair) → i ≡ Commit p → t ≡ leb low p.time.0 → t ≡ false → false ≡ records_ok d start q.records && q.whole
  unfolding record_form
  commit_stop p e f g = same_stop (commit p) s (left_commit b at from i read p e) t f g

pub ltb_low : (a b : ℕ) → ltb a b ≡ leb (a + 1) b
ltb_low a b = rw add-one

-- ---- the blocks

module _ (m : List ℕ) (l d low s k n : ℕ) (more : k < n) where
  blocks_is : blocks_ok m l d low (s + k) (n - k)
      ≡ ((ltb (s + k) (2 ^ 48) && (used_form (block_of m l (s + k)) && (records_ok d low (parsed (block_of m l (s + k))).records && (parsed (block_of m l (s + k))).whole)))
      && blocks_ok m l d (low_after_all low (parsed (block_of m l (s + k))).records) (s + k + 1) (n - (k + 1)))
  unfolding blocks_ok
  blocks_is = let e : n - k ≡ suc (n - (k + 1)) = omega arith in rw e

  pub blocks_high : 2 ^ 48 ≤ s + k → false ≡ blocks_ok m l d low (s + k) (n - k)
  blocks_high h = sym (blocks_is ∙ rw (le-ltb (s + k) (2 ^ 48) h))

  module _ (b : List ℕ) (lent : b ≡ block_of m l (s + k)) (below : s + k < 2 ^ 48) (u : Bool) (form : u ≡ used_form b) where
    pub blocks_form : u ≡ false → false ≡ blocks_ok m l d low (s + k) (n - k)
    blocks_form e =
        let f : used_form (block_of m l (s + k)) ≡ false = ap used_form (sym lent) ∙ sym form ∙ e in
        sym (blocks_is ∙ rw (lt-ltb (s + k) (2 ^ 48) below, f))

    module _ (fine : u ≡ true) (r : Bool) (judged : r ≡ records_ok d low (parsed b).records && (parsed b).whole) where
      pub blocks_records : r ≡ false → false ≡ blocks_ok m l d low (s + k) (n - k)
      blocks_records e =
          let f : used_form (block_of m l (s + k)) ≡ true = ap used_form (sym lent) ∙ sym form ∙ fine in
          let g : records_ok d low (parsed (block_of m l (s + k))).records && (parsed (block_of m l (s + k))).whole ≡ false = rw (lent, e) at (sym judged) in
          sym (blocks_is ∙ rw (lt-ltb (s + k) (2 ^ 48) below, f, g))

      pub blocks_turn : (next : ℕ) → r ≡ true → next ≡ low_after_all low (parsed b).records
          → blocks_ok m l d next (s + (k + 1)) (n - (k + 1)) ≡ blocks_ok m l d low (s + k) (n - k)
      blocks_turn next e w =
          let f : used_form (block_of m l (s + k)) ≡ true = ap used_form (sym lent) ∙ sym form ∙ fine in
          let g : records_ok d low (parsed (block_of m l (s + k))).records && (parsed (block_of m l (s + k))).whole ≡ true = rw (lent, e) at (sym judged) in
          let a : s + (k + 1) ≡ s + k + 1 = omega arith in
          let v : next ≡ low_after_all low (parsed (block_of m l (s + k))).records = rw lent at w in
          rw (a, v) (sym (blocks_is ∙ rw (lt-ltb (s + k) (2 ^ 48) below, f, g)))

pub blocks_begin : (m : List ℕ) (l d s n : ℕ) → blocks_ok m l d 0 (s + 0) (n - 0) ≡ blocks_ok m l d 0 s n
blocks_begin m l d s n = simp (add-zero, sub-zero)

pub blocks_end : (m : List ℕ) (l d low s k n : ℕ) → n ≤ k → true ≡ blocks_ok m l d low s (n - k)
unfolding blocks_ok
blocks_end m l d low s k n h = let z : n - k ≡ 0 = omega arith in rw z

-- every slot that is logged is in range
slots_append : (d : ℕ) (xs ys : List Placed) → slots_below d xs ≡ true → slots_below d ys ≡ true → slots_below d (xs ++ ys) ≡ true
unfolding slots_below
slots_append d [] ys a b = b
slots_append d (x ∷ xs) ys a b = rw (and_0 (slot_below d x.rec) (slots_below d xs) a) (slots_append d xs ys (and_1 (slot_below d x.rec) (slots_below d xs) a) b)

slots_placed : (d low s off : ℕ) (rs : List Record) → records_ok d low rs ≡ true → slots_below d (place_from s off rs) ≡ true
unfolding slots_below records_ok place_from
slots_placed d low s off [] e = refl
slots_placed d low s off (version h v ∷ rs) e =
    let t : record_form (version h v) && ltb h.slot (15 * d) ≡ true = and_0 _ (records_ok d low rs) e in
    rw (and_1 (record_form (version h v)) (ltb h.slot (15 * d)) t) (slots_placed d low s _ rs (and_1 (record_form (version h v) && ltb h.slot (15 * d)) _ e))
slots_placed d low s off (commit p ∷ rs) e =
    slots_placed d (p.time.0 + 1) s _ rs (and_1 (record_form (commit p) && leb low p.time.0) _ e)

pub blocks_slots : (m : List ℕ) (l d low s k : ℕ) → blocks_ok m l d low s k ≡ true → slots_below d (logged_from m l s k) ≡ true
unfolding blocks_ok logged_from slots_below
blocks_slots m l d low s zero e = refl
blocks_slots m l d low s (suc k) e =
    let b = block_of m l s in
    let x = records_ok d low (parsed b).records in
    let y = low_after_all low (parsed b).records in
    let f : ltb s (2 ^ 48) && (used_form b && (x && (parsed b).whole)) ≡ true = and_0 _ (blocks_ok m l d y (s + 1) k) e in
    let g : used_form b && (x && (parsed b).whole) ≡ true = and_1 (ltb s (2 ^ 48)) _ f in
    let h : x && (parsed b).whole ≡ true = and_1 (used_form b) _ g in
    slots_append d (place_from s 10 (parsed b).records) (logged_from m l (s + 1) k)
    (slots_placed d low s 10 (parsed b).records (and_0 x (parsed b).whole h))
    (blocks_slots m l d y (s + 1) k (and_1 (ltb s (2 ^ 48) && (used_form b && (x && (parsed b).whole))) _ e))

-- ---- a page on the medium: k is its block, lent as `&medium[512 * k..512 * k + 512]`, u and e are its form and end place

module _ (m : List ℕ) (l d p k end : ℕ) (place : k ≡ page_block_at l p) (log : end ≡ log_end m l) (u : Bool) (form : u ≡ page_form (take (512 * k + 512 - 512 * k) (drop (512 * k) m))) where
  page_lent : take (512 * k + 512 - 512 * k) (drop (512 * k) m) ≡ blk m (page_block_at l p)
  unfolding blk
  page_lent = lent_part m (512 * k) 512 ∙ rw place

  form_is : page_form (blk m (page_block_at l p)) ≡ u
  form_is = sym (form ∙ ap page_form page_lent)

  pub page_bad : u ≡ false → false ≡ page_ok m l d p
  unfolding page_ok
  page_bad f = sym (rw (form_is, f))

  module _ (fine : u ≡ true) (e : ℕ) (read : e ≡ page_end (take (512 * k + 512 - 512 * k) (drop (512 * k) m))) where
    end_is : page_end (blk m (page_block_at l p)) ≡ e
    end_is = sym (read ∙ ap page_end page_lent)

    pub page_judged : leb e end ≡ page_ok m l d p
    unfolding page_ok
    page_judged = sym (rw (form_is, fine, end_is, ← log))
