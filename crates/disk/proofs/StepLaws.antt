-- What a line says of the file holds of the media before and behind it: they lie in the buffers' first bytes, and are
-- alike but for the block.
use mathlib.Core.Path.{◌≡◌, sym, ap, ◌∙◌}
use mathlib.Core.Bool.{Bool, false, not}
use mathlib.Core.List.{List}
use Prim.Native.Nat.{ℕ, ◌+◌, ◌≤◌}
use native.Mathlib.Omega.{arith}
use lib.ListN.{length, take}
use lib.Seq.{length-take-le}
use lib.Dec.{ltb}
use Rattle.fields.specs.Part.{part}
use Rattle.fields.specs.Equal.{eq_list}
use Rattle.fields.proofs.PartLaws.{part_part}
use Rattle.store.specs.declared.State.{State}
use Rattle.fields.proofs.Choose.{bool_case}
use Rattle.script.specs.declared.call.Asked.{Asked}
use Rattle.rooms.specs.declared.parts.Standing.{Standing}
use Rattle.rooms.specs.Room.{medium_in, turn_of}
use Rattle.rooms.specs.Parts.{medium_part, room_of}
use Rattle.rooms.proofs.RoomLaws.{medium_in_law}
use Rattle.disk.specs.Block.{block_of, start_of, length_of}
use Rattle.disk.specs.Stored.{is_format, stored, Whole}
use Rattle.disk.proofs.AlikeLaws.{Alike, alike_eq, alike_stored, alike_whole}
use Rattle.disk.proofs.LineLaws.{alike_line}

-- the first bytes of a buffer, and bytes within them
part_take : (l : List ℕ) (q at len : ℕ) → at + len ≤ q → part (take q l) at len ≡ part l at len
part_take l q at len h =
    part_part l 0 q at len h ∙ (let z : 0 + at ≡ at = omega arith in ap (λ (i : ℕ). part l i len) z)

part_most : (t : Standing) → medium_part t ≤ 50688
unfolding medium_part
part_most t = bool_case (ltb t.stage 2) (λ e. simp e (omega arith)) (λ e. simp e (omega arith))

part_length : (t : Standing) (m : List ℕ) → length m ≡ 50688 → length (take (medium_part t) m) ≡ medium_part t
part_length t m h = let k = part_most t in length-take-le (medium_part t) m (omega arith)

-- m and n are the buffers before and behind the line
module _ (a : Asked) (t u : Standing) (m c : List ℕ) (s : State) (n d : List ℕ) (r : State) (hm : length m ≡ 50688)
    (hn : length n ≡ 50688) (e : room_of u n d r ≡ (turn_of a (room_of t m c s)).room)
    (f : is_format a.call ≡ false) where
  line_alike : Alike (medium_in (room_of t m c s)) (block_of s a.call) (medium_in (room_of u n d r))
  line_alike = rw e (alike_line a t m c s f)

  module _ (p k at len : ℕ) (kept : List ℕ) (b : Bool) (ep : p ≡ medium_part t) (ek : k ≡ block_of s a.call)
      (ea : at ≡ start_of k p) (el : len ≡ length_of (start_of k p) p) (h : at + len ≤ p) (ev : kept ≡ part m at len)
      (eb : b ≡ not (eq_list kept (part n at len))) where
    size : length (medium_in (room_of t m c s)) ≡ p
    size = ap length (medium_in_law t m c s) ∙ part_length t m hm ∙ sym ep

    at_is : at ≡ start_of (block_of s a.call) (length (medium_in (room_of t m c s)))
    at_is = rw (size, ← ek) ea

    len_is : len ≡ length_of (start_of (block_of s a.call) (length (medium_in (room_of t m c s))))
        (length (medium_in (room_of t m c s)))
    len_is = rw (size, ← ek) el

    before_is : part (medium_in (room_of t m c s)) at len ≡ part m at len
    before_is = rw (medium_in_law t m c s) (part_take m (medium_part t) at len (rw ep at h))

    behind_is : part (medium_in (room_of u n d r)) at len ≡ part n at len
    behind_is =
        let q : medium_part u ≡ p = sym (part_length u n hn) ∙ ap length (sym (medium_in_law u n d r))
        ∙ line_alike.size ∙ size in
        rw (medium_in_law u n d r) (part_take n (medium_part u) at len (omega arith))

    pub line_whole : Whole (medium_in (room_of t m c s)) at len
    line_whole = rw (at_is, len_is) (alike_whole _ _ _ line_alike)

    pub line_changed : b ≡ not (eq_list (medium_in (room_of t m c s)) (medium_in (room_of u n d r)))
    line_changed =
        let z : eq_list (part (medium_in (room_of t m c s)) at len) (part (medium_in (room_of u n d r)) at len)
        ≡ eq_list (medium_in (room_of t m c s)) (medium_in (room_of u n d r)) =
        rw (at_is, len_is) (alike_eq _ _ _ line_alike) in
        eb ∙ ap not (ap (λ (v : List ℕ). eq_list v (part n at len)) (ev ∙ sym before_is)
        ∙ ap (eq_list (part (medium_in (room_of t m c s)) at len)) (sym behind_is) ∙ z)

    pub line_stored : stored b (medium_in (room_of t m c s)) at (part n at len) ≡ medium_in (room_of u n d r)
    line_stored =
        let z : part n at len ≡ part (medium_in (room_of u n d r))
        (start_of (block_of s a.call) (length (medium_in (room_of t m c s))))
        (length_of (start_of (block_of s a.call) (length (medium_in (room_of t m c s))))
        (length (medium_in (room_of t m c s)))) = sym behind_is
        ∙ ap (λ (i : ℕ). part (medium_in (room_of u n d r)) i len) at_is
        ∙ ap (part (medium_in (room_of u n d r))
        (start_of (block_of s a.call) (length (medium_in (room_of t m c s))))) len_is in
        ap (λ (i : ℕ). stored b (medium_in (room_of t m c s)) i (part n at len)) at_is
        ∙ alike_stored _ _ _ line_alike (part n at len) b z line_changed
