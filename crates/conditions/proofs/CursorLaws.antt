-- The laws of loops over the log: what a step of the cursor leaves of the records, that it leads to a valid cursor and nearer
-- to the end, and that end places rise. By the item that is read; assumes nothing.
use Rattle.std.specs.Prelude.{Option, None, Some}
use mathlib.Core.Path.{◌≡◌, refl, sym, ap, ◌∙◌}
use mathlib.Core.Bool.{Bool, true, false, cond}
use mathlib.Core.Logic.{◌⊎◌, inl, inr, ⊎_elim}
use Prim.Native.Nat.{ℕ, zero, suc, ◌+◌, ◌-◌, ◌*◌, ◌≤◌, ◌<◌, ◌^◌}
use native.Mathlib.Nat.{add-zero, zero-add, sub-zero}
use native.Mathlib.Omega.{arith}
use mathlib.Core.List.{List, [], ◌∷◌, ◌++◌}
use lib.ListN.{length, take, drop, length-take, length-drop}
use lib.Dec.{eqb}
use borrow.Author.Tests.{eq-eqb, ne_eqb}
use Rattle.fields.specs.Part.{part}
use Rattle.fields.specs.Block.{blk, log_block_at, end_place}
use Rattle.layout.specs.Item.{bytes_of, item_of, value_of}
use Rattle.layout.specs.Journal.{Record, version, commit, record_size, Parsed, sequence_of, body_of, parse, parse_more, parsed}
use Rattle.layout.specs.declared.EndPlace.{EndPlace}
use Rattle.layout.specs.declared.item.Area.TheVariants.{Journal}
use Rattle.layout.specs.declared.item.Width.{Width}
use Rattle.layout.specs.declared.item.VersionHead.{VersionHead}
use Rattle.layout.specs.declared.item.Pair.{Pair}
use Rattle.layout.specs.declared.item.Item.{Item}
use Rattle.layout.specs.declared.item.Item.TheVariants.{End, Version, Commit, Number, Damaged}
use Rattle.fields.proofs.Choose.{cond_elim}
use Rattle.fields.proofs.PartLaws.{lent_part}
use Rattle.fields.proofs.BlockLaws.{part_blk}
use Rattle.layout.proofs.ItemLaws.{Told, told}
use Rattle.layout.proofs.PlaceLaws.{log_in_medium}
use Rattle.store.specs.OpenLog.{Placed, place_from, block_of, logged_from, matching, commit_in, or_else, commit_under, Commitment}
use Rattle.conditions.specs.declared.cursor.Cursor.{Cursor}
use Rattle.conditions.specs.declared.cursor.Step.{Step}
use Rattle.conditions.specs.declared.cursor.Step.TheVariants.{Done, Skip, Written, Committed}
use Rattle.conditions.specs.Cursor.{block_from, rest_from, rest_of, onward, step_at, step_from, step_of, shown, Ready, Valid}
use Rattle.conditions.proofs.BlockPasses.{body_short, left_of, left_behind, record_in, value_in}

-- a log block, as `&medium[start..start + 512]` is lent
pub block_lent : (m : List ℕ) (l s start : ℕ) → start ≡ 512 * log_block_at l s → take (start + 512 - start) (drop start m) ≡ block_of m l s
unfolding block_of blk
block_lent m l s start e = lent_part m start 512 ∙ rw e

-- ---- what `next` makes of the item that it read at `start`

pub step_none : (m : List ℕ) (l : ℕ) (c : Cursor) → c.left ≡ 0 → step_of m l c ≡ Done
unfolding step_of step_from
step_none m l c e = rw e

module _ (m : List ℕ) (l : ℕ) (c : Cursor) (start : ℕ) (i : Item) (some_left : c.left ≡ 0 → ⊥) (at-start : start ≡ 512 * log_block_at l c.sequence)
    (read : i ≡ item_of Journal (drop (c.at - 10) (body_of (take (start + 512 - start) (drop start m))))) where
  step_is : step_of m l c ≡ step_at m l i c.sequence c.at (c.left - 1)
  unfolding step_of step_from
  step_is =
      let k : c.left ≡ suc (c.left - 1) = omega arith in
      let b : take (start + 512 - start) (drop start m) ≡ block_of m l c.sequence = block_lent m l c.sequence start at-start in
      let e : i ≡ item_of Journal (drop (c.at - 10) (body_of (block_of m l c.sequence))) = rw b at read in
      ap (step_from m l c.sequence c.at) k ∙ rw e

  -- no record is left in the block
  pub makes_skip : (d : Cursor) → (i ≡ End) ⊎ (((t : ℕ) × (n : ℕ) × (i ≡ Number t n)) ⊎ (i ≡ Damaged))
      → d ≡ record { sequence = c.sequence + 1; at = 10; left = c.left - 1 } → Skip d ≡ step_of m l c
  makes_skip d f e = ap Skip e ∙ sym (step_is ∙ ⊎_elim (λ q. rw q) (⊎_elim (λ w. rw w.2) (λ q. rw q)) f)

  pub makes_written : (h : VersionHead) (n : ℕ) (e : EndPlace) → i ≡ Version h → n ≡ bytes_of h.width → e ≡ record { 0 = end_place c.sequence (c.at + (32 + n)) }
      → Written h (start + c.at + (32 + n - 16)) e (record { sequence = c.sequence; at = c.at + (32 + n); left = c.left }) ≡ step_of m l c
  makes_written h n e f q g = sym (step_is ∙ rw (f, g, at-start, ← left_is, q))
    where
      left_is : c.left ≡ suc (c.left - 1)
      left_is = omega arith

  pub makes_committed : (p : Pair) (e : EndPlace) → i ≡ Commit p → e ≡ record { 0 = end_place c.sequence (c.at + 19) }
      → Committed p e (record { sequence = c.sequence; at = c.at + 19; left = c.left }) ≡ step_of m l c
  makes_committed p e f g = sym (step_is ∙ rw (f, g, ← left_is))
    where
      left_is : c.left ≡ suc (c.left - 1)
      left_is = omega arith

-- ---- what is left of the log after a step

module _ (m : List ℕ) (l : ℕ) where
  block_short : (s : ℕ) → length (block_of m l s) ≤ 512
  unfolding block_of blk
  block_short s = simp length-take (omega arith)

  -- a whole block more
  pub rest_block : (s k : ℕ) → rest_from m l s 10 k ≡ logged_from m l s k
  unfolding rest_from logged_from block_from parsed
  rest_block s zero = refl
  rest_block s (suc k) = refl

  -- the value of a version record, where it lies on the medium
  value_at : (s at : ℕ) (w : Width) → 10 ≤ at → 32 + bytes_of w ≤ length (drop (at - 10) (body_of (block_of m l s)))
      → value_of w (drop 3 (drop (at - 10) (body_of (block_of m l s)))) ≡ part m (512 * log_block_at l s + at + (32 + bytes_of w - 16)) 16
  unfolding block_of
  value_at s at w h r =
      let n = 32 + bytes_of w in
      let g : 512 * log_block_at l s + (at + n - 16) ≡ 512 * log_block_at l s + at + (n - 16) = omega arith in
      let u : at + n ≤ 512 = record_in (block_of m l s) at n (block_short s) h r (omega arith) in
      value_in (block_of m l s) at (at + n) w h r refl ∙ part_blk m (log_block_at l s) (at + n - 16) 16 (omega arith) ∙ rw g

  -- by the item at the cursor: `rest` is what is left of its block behind it
  item_shown : (s at k : ℕ) (i : Item) (f : ℕ → Parsed) → 10 ≤ at → Told Journal (drop (at - 10) (body_of (block_of m l s))) i
      → ((n : ℕ) → 0 < n → n ≤ length (drop (at - 10) (body_of (block_of m l s))) → place_from s (at + n) (f n).records ≡ block_from m l s (at + n))
      → place_from s at (parse_more i (drop (at - 10) (body_of (block_of m l s))) f).records ++ logged_from m l (s + 1) k
      ≡ shown m l (step_at m l i s at k) s (rest_of m l)
  unfolding rest_of rest_from place_from record_size
  item_shown s at k End f h t e = sym (rest_block (s + 1) k)
  item_shown s at k (Version x) f h t e =
      let r : 32 + bytes_of x.width ≤ length (drop (at - 10) (body_of (block_of m l s))) = omega (arith, t.0.room) in
      rw (e (32 + bytes_of x.width) (omega arith) r, value_at s at x.width h r)
  item_shown s at k (Commit p) f h t e = rw (e 19 (omega arith) t.0.room)
  item_shown s at k (Number n v) f h t e = sym (rest_block (s + 1) k)
  item_shown s at k Damaged f h t e = sym (rest_block (s + 1) k)

  -- what is left of a block behind n bytes more
  block_behind : (s at n : ℕ) → 10 ≤ at → 0 < n → n ≤ length (drop (at - 10) (body_of (block_of m l s)))
      → place_from s (at + n) (parse (length (drop (at - 10) (body_of (block_of m l s)))) (drop n (drop (at - 10) (body_of (block_of m l s))))).records
      ≡ block_from m l s (at + n)
  unfolding block_from left_of
  block_behind s at n h z r = ap (λ (p : Parsed). place_from s (at + n) p.records) (left_behind (block_of m l s) at n h z r)

  pub rest_step : (c : Cursor) → 10 ≤ c.at → rest_of m l c ≡ shown m l (step_of m l c) c.sequence (rest_of m l)
  unfolding rest_of step_of rest_from step_from block_from parse
  rest_step c h = go c.sequence c.at c.left h
    where
      go : (s at k : ℕ) → 10 ≤ at → rest_from m l s at k ≡ shown m l (step_from m l s at k) s (rest_of m l)
      go s at zero h = refl
      go s at (suc k) h =
          let bs = drop (at - 10) (body_of (block_of m l s)) in
          item_shown s at k (item_of Journal bs) (λ n. parse (length bs) (drop n bs)) h (told Journal bs) (λ n z r. block_behind s at n h z r)

-- ---- a step leads to a valid cursor, nearer to the end

-- what falls at each step
abbrev pub measure : Cursor → ℕ
measure c = 513 * c.left - c.at

-- d lies behind c: the records xs are between them
pub record Next (m : List ℕ) (l : ℕ) (c d : Cursor) (xs : List Placed) : Type 0 where
  pub valid : Valid d
  pub less : measure d < measure c
  pub rest : rest_of m l c ≡ xs ++ rest_of m l d

-- the cursor that a step gives, and the place of a value
abbrev Leads : List ℕ → Cursor → Step → Type 0
Leads m c Done = Unit {0}
Leads m c (Skip d) = Valid d × (measure d < measure c)
Leads m c (Written h v e d) = Valid d × (measure d < measure c) × (v + 16 ≤ length m)
Leads m c (Committed p e d) = Valid d × (measure d + 19 ≤ measure c)

module _ (m : List ℕ) (l : ℕ) (ready : Ready l (length m)) where
  pub block_in : (s : ℕ) → 512 * log_block_at l s + 512 ≤ length m
  block_in s = rw ready.medium (log_in_medium l ready.pages s (omega (arith, ready.low)))

  item_leads : (s at k : ℕ) (i : Item) → Valid (onward m l s at (suc k)) → Told Journal (drop (at - 10) (body_of (block_of m l s))) i
      → Leads m (onward m l s at (suc k)) (step_at m l i s at k)
  item_leads s at k i v t = go i t
    where
      b : List ℕ
      b = body_of (block_of m l s)

      -- a record of n bytes ends within the block
      room : (n : ℕ) → n ≤ length (drop (at - 10) b) → 0 < n → at + n ≤ 512
      room n h z = record_in (block_of m l s) at n (block_short m l s) v.from h z

      skip : Valid (onward m l (s + 1) 10 k) × (measure (onward m l (s + 1) 10 k) < measure (onward m l s at (suc k)))
      skip =
          let a : at ≤ 512 = v.up_to in
          let f : suc k ≤ 32 = v.blocks in
          let g : s + suc k ≤ 2 ^ 48 + 32 = v.below in
          (record { from = omega arith; up_to = omega arith; blocks = omega arith; below = omega arith }, omega arith)

      within : (n : ℕ) → 0 < n → at + n ≤ 512 → Valid (onward m l s (at + n) (suc k)) × (measure (onward m l s (at + n) (suc k)) + n ≤ measure (onward m l s at (suc k)))
      within n z h =
          let a : 10 ≤ at = v.from in
          (record { from = omega arith; up_to = h; blocks = v.blocks; below = v.below }, omega arith)

      go : (i : Item) → Told Journal (drop (at - 10) b) i → Leads m (onward m l s at (suc k)) (step_at m l i s at k)
      go End t = skip
      go (Version h) t =
          let n = 32 + bytes_of h.width in
          let r : at + n ≤ 512 = room n (omega (arith, t.0.room)) (omega arith) in
          let w = within n (omega arith) r in
          (w.0, omega (arith, w.1), omega (arith, block_in s))
      go (Commit p) t = within 19 (omega arith) (room 19 t.0.room (omega arith))
      go (Number n x) t = skip
      go Damaged t = skip

  step_leads : (c : Cursor) → Valid c → Leads m c (step_of m l c)
  unfolding step_of step_from
  step_leads c v = go c.sequence c.at c.left v
    where
      go : (s at k : ℕ) → Valid (onward m l s at k) → Leads m (onward m l s at k) (step_from m l s at k)
      go s at zero v = tt
      go s at (suc k) v = item_leads s at k (item_of Journal (drop (at - 10) (body_of (block_of m l s)))) v (told Journal _)

  -- by the step that was taken
  pub step_done : (c : Cursor) → Valid c → Done ≡ step_of m l c → rest_of m l c ≡ []
  step_done c v e = rest_step m l c v.from ∙ rw (← e)

  pub step_skip : (c d : Cursor) → Valid c → Skip d ≡ step_of m l c → Next m l c d []
  step_skip c d v e =
      let w : Leads m c (Skip d) = rw (← e) at (step_leads c v) in
      record { valid = w.0; less = w.1; rest = rest_step m l c v.from ∙ rw (← e) }

  pub step_written : (c d : Cursor) (h : VersionHead) (p : ℕ) (e : EndPlace) → Valid c → Written h p e d ≡ step_of m l c
      → Next m l c d (record { seq = c.sequence; end = e.0; rec = version h (part m p 16) } ∷ []) × (p + 16 ≤ length m)
  step_written c d h p e v f =
      let w : Leads m c (Written h p e d) = rw (← f) at (step_leads c v) in
      (record { valid = w.0; less = w.1; rest = rest_step m l c v.from ∙ rw (← f) }, w.2)

  pub step_committed : (c d : Cursor) (p : Pair) (e : EndPlace) → Valid c → Committed p e d ≡ step_of m l c
      → Next m l c d (record { seq = c.sequence; end = e.0; rec = commit p } ∷ [])
  step_committed c d p e v f =
      let w : Leads m c (Committed p e d) = rw (← f) at (step_leads c v) in
      record { valid = w.0; less = omega (arith, w.1); rest = rest_step m l c v.from ∙ rw (← f) }

  -- a commit record takes 19 bytes
  pub committed_far : (c d : Cursor) (p : Pair) (e : EndPlace) → Valid c → Committed p e d ≡ step_of m l c → measure d + 19 ≤ measure c
  committed_far c d p e v f =
      let w : Leads m c (Committed p e d) = rw (← f) at (step_leads c v) in
      w.1

-- ---- the whole log, from its start

pub matching_low : (m : List ℕ) (l s k : ℕ) → matching m l s k ≤ k
unfolding matching
matching_low m l s zero = omega arith
matching_low m l s (suc k) =
    cond_elim (λ n. n ≤ suc k) (eqb (sequence_of (block_of m l s)) s) (λ _. omega (arith, matching_low m l (s + 1) k)) (λ _. omega arith)

-- the loop that counts the blocks: q is the sequence that was read at `start`
pub matching_begin : (m : List ℕ) (l s n : ℕ) → 0 + matching m l (s + 0) (n - 0) ≡ matching m l s n
matching_begin m l s n = simp (add-zero, zero-add, sub-zero)

module _ (m : List ℕ) (l s k n start q : ℕ) (more : k < n) (at-start : start ≡ 512 * log_block_at l (s + k)) (read : q ≡ sequence_of (take (start + 512 - start) (drop start m))) where
  read_is : q ≡ sequence_of (block_of m l (s + k))
  read_is = rw (block_lent m l (s + k) start at-start) at read

  left_is : n - k ≡ suc (n - (k + 1))
  left_is = omega arith

  pub matching_turn : q ≡ s + k → k + 1 + matching m l (s + (k + 1)) (n - (k + 1)) ≡ k + matching m l (s + k) (n - k)
  unfolding matching
  matching_turn e =
      let a : s + (k + 1) ≡ s + k + 1 = omega arith in
      rw (left_is, ← read_is, eq-eqb q (s + k) e, a) (omega arith)

  pub matching_stop : (q ≡ s + k → ⊥) → k ≡ k + matching m l (s + k) (n - k)
  unfolding matching
  matching_stop e = rw (left_is, ← read_is, ne_eqb q (s + k) e) (omega arith)

pub matching_end : (m : List ℕ) (l s k n : ℕ) → n ≤ k → k ≡ k + matching m l (s + k) (n - k)
unfolding matching
matching_end m l s k n h = let z : n - k ≡ 0 = omega arith in rw z (omega arith)

-- ---- end places rise

-- each end place lies above the one before it, the first above `low`
unfoldable pub Rising : ℕ → List Placed → Type 0
Rising low [] = Unit {0}
Rising low (x ∷ xs) = (low < x.end) × Rising x.end xs

rising_from : (a b : ℕ) (xs : List Placed) → a ≤ b → Rising b xs → Rising a xs
unfolding Rising
rising_from a b [] h r = tt
rising_from a b (x ∷ xs) h r = let q : b < x.end = r.0 in (omega arith, r.1)

rising_none : (a : ℕ) → Rising a []
unfolding Rising
rising_none a = tt

rise_item : (s at : ℕ) (bs : List ℕ) (rest : List Placed) (i : Item) (f : ℕ → Parsed) → at + length bs ≤ 512 → Told Journal bs i → Rising (end_place s 512) rest
    → ((n : ℕ) → n ≤ length bs → Rising (end_place s (at + n)) (place_from s (at + n) (f n).records ++ rest))
    → Rising (end_place s at) (place_from s at (parse_more i bs f).records ++ rest)
unfolding Rising place_from record_size end_place
rise_item s at bs rest End f h t r e = rising_from (end_place s at) (end_place s 512) rest (omega arith) r
rise_item s at bs rest (Version x) f h t r e = (omega arith, e (32 + bytes_of x.width) (omega (arith, t.0.room)))
rise_item s at bs rest (Commit p) f h t r e = (omega arith, e 19 t.0.room)
rise_item s at bs rest (Number n v) f h t r e = rising_from (end_place s at) (end_place s 512) rest (omega arith) r
rise_item s at bs rest Damaged f h t r e = rising_from (end_place s at) (end_place s 512) rest (omega arith) r

rise_parse : (k s at : ℕ) (bs : List ℕ) (rest : List Placed) → at + length bs ≤ 512 → Rising (end_place s 512) rest
    → Rising (end_place s at) (place_from s at (parse k bs).records ++ rest)
unfolding parse place_from end_place
rise_parse zero s at bs rest h r = rising_from (end_place s at) (end_place s 512) rest (omega arith) r
rise_parse (suc k) s at bs rest h r =
    rise_item s at bs rest (item_of Journal bs) (λ n. parse k (drop n bs)) h (told Journal bs) r
    (λ n w. rise_parse k s (at + n) (drop n bs) rest (omega (arith, length-drop n bs)) r)

module _ (m : List ℕ) (l : ℕ) where
  rise_logged : (s k : ℕ) → Rising (512 * s) (logged_from m l s k)
  unfolding logged_from parsed end_place
  rise_logged s zero = rising_none (512 * s)
  rise_logged s (suc k) =
      let b = body_of (block_of m l s) in
      let n : length b ≤ 502 = body_short (block_of m l s) (block_short m l s) in
      rising_from (512 * s) (end_place s 10) _ (omega arith)
      (rise_parse (suc (length b)) s 10 b (logged_from m l (s + 1) k) (omega arith)
      (rising_from (end_place s 512) (512 * (s + 1)) _ (omega arith) (rise_logged (s + 1) k)))

  -- from a cursor on, above its own place
  pub rest_rises : (c : Cursor) → Valid c → Rising (end_place c.sequence c.at) (rest_of m l c)
  unfolding rest_of rest_from block_from end_place
  rest_rises c v = go c.sequence c.at c.left v.from v.up_to
    where
      go : (s at k : ℕ) → 10 ≤ at → at ≤ 512 → Rising (end_place s at) (rest_from m l s at k)
      go s at zero h g = rising_none (end_place s at)
      go s at (suc k) h g =
          let b = body_of (block_of m l s) in
          let n : length b ≤ 502 = body_short (block_of m l s) (block_short m l s) in
          rise_parse (suc (length (drop (at - 10) b))) s at (drop (at - 10) b) (logged_from m l (s + 1) k) (omega (arith, length-drop (at - 10) b))
          (rising_from (end_place s 512) (512 * (s + 1)) _ (omega arith) (rise_logged (s + 1) k))

-- a record further on ends above
pub rising_above : (low : ℕ) (seen : List Placed) (x : Placed) (xs : List Placed) → Rising low (seen ++ (x ∷ xs)) → low < x.end
unfolding Rising
rising_above low [] x xs r = r.0
rising_above low (y ∷ ys) x xs r = let q : low < y.end = r.0 in let w : y.end < x.end = rising_above y.end ys x xs r.1 in omega arith

-- and so above a commit record that was found before it
pub commit_below : (low n : ℕ) (seen : List Placed) (x : Placed) (xs : List Placed) (y : Commitment)
    → Rising low (seen ++ (x ∷ xs)) → commit_under seen n ≡ Some y → y.end < x.end
unfolding Rising commit_under
commit_below low n [] x xs y r e = let z : ◌≡◌ {A = ℕ} 0 1 = cc in absurd (omega arith)
commit_below low n (z ∷ zs) x xs y r e = go z.rec e (λ f. commit_below z.end n zs x xs y r.1 f)
  where
    either : (p : Pair) (b : Bool) → or_else (cond b (Some (record { time = p.time.0; end = z.end })) None) (commit_under zs n) ≡ Some y → (z.end ≡ y.end) ⊎ (commit_under zs n ≡ Some y)
    either p true f = inl (cc)
    either p false f = inr f

    go : (q : Record) → or_else (commit_in q z.end n) (commit_under zs n) ≡ Some y → (commit_under zs n ≡ Some y → y.end < x.end) → y.end < x.end
    go (version h v) f more = more f
    go (commit p) f more = ⊎_elim (λ q. rw q at (rising_above z.end zs x xs r.1)) more (either p (eqb p.number.0 n) f)

-- the first under a number, in two parts of a log
pub commit_append : (xs ys : List Placed) (n : ℕ) → commit_under (xs ++ ys) n ≡ or_else (commit_under xs n) (commit_under ys n)
unfolding commit_under
commit_append [] ys n = refl
commit_append (x ∷ xs) ys n = ap (or_else (commit_in x.rec x.end n)) (commit_append xs ys n) ∙ grouped (commit_in x.rec x.end n) (commit_under xs n) (commit_under ys n)
  where
    grouped : (a b c : Option Commitment) → or_else a (or_else b c) ≡ or_else (or_else a b) c
    grouped None b c = refl
    grouped (Some y) b c = refl
