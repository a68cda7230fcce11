-- Laws of the slots: how many wait under a number, and the bytes of a page with its first slots.
use Prim.Native.Nat.{ℕ, zero, suc, ◌+◌, ◌-◌, ◌*◌, ◌^◌, ◌≤◌, ◌<◌, suc-le-suc}
use native.Mathlib.Nat.{zero-add, le_of_suc-le-suc}
use native.Mathlib.Omega.{arith}
use mathlib.Core.Bool.{Bool, true, false, cond}
use mathlib.Core.List.{List, [], ◌∷◌, ◌++◌}
use mathlib.Core.Path.{◌≡◌, refl, sym, ap, ◌∙◌}
use lib.ListN.{length, take, drop, set, length-drop, length-take, get_or-append, take-append-drop}
use lib.Seq.{take-append-le, drop-append-le, take-suc, get_or-drop, get_or-take, ext_get_or}
use Rattle.layout.specs.Page.{page_bytes, page_end, page_used, page_slot, put_cell}
use Rattle.layout.specs.Slot.{Cell, slot_bytes}
use Rattle.fields.proofs.CellLaws.{Each, each_at}
use Rattle.layout.proofs.SlotLaws.{SlotSized}
use Rattle.layout.proofs.PageLaws.{no_cell, length_page_bytes, end_page_bytes, used_page_bytes, slot_page_bytes}
use Rattle.layout.proofs.PageLaws.{put_page_bytes}
use Rattle.store.specs.OpenPairs.{waits_under}
use Rattle.agreement.proofs.history.Ghost.{LoggedVersion, no_version, at, cell, count, end_of_page, page_with}
use Rattle.agreement.proofs.history.ListLaws.{each_drop, each_take}

-- ---- how many slots wait under a number

pub count_append : (n : ℕ) (xs ys : List Cell) → count n (xs ++ ys) ≡ count n xs + count n ys
unfolding count
count_append n [] ys = rw zero-add
count_append n (c ∷ xs) ys = rw (count_append n xs ys) (omega arith)

pub count_small : (n : ℕ) (cs : List Cell) → count n cs ≤ length cs
unfolding count
count_small n [] = omega arith
count_small n (c ∷ cs) = go (waits_under c.state n) (count_small n cs)
  where
    go : (t : Bool) → count n cs ≤ length cs → cond t 1 0 + count n cs ≤ suc (length cs)
    go true h = omega arith
    go false h = omega arith

pub count_some : (n : ℕ) (cs : List Cell) → 0 < count n cs → (j : ℕ) × (j < length cs)
    × (waits_under (cell cs j).state n ≡ true)
unfolding count
count_some n [] h = absurd (omega arith)
count_some n (c ∷ cs) h = go (count_some n cs) (waits_under c.state n) refl h
  where
    go : (0 < count n cs → (j : ℕ) × (j < length cs) × (waits_under (cell cs j).state n ≡ true)) → (t : Bool)
        → waits_under c.state n ≡ t → 0 < cond t 1 0 + count n cs
        → (j : ℕ) × (j < length (c ∷ cs)) × (waits_under (cell (c ∷ cs) j).state n ≡ true)
    go ih true e h = (0, omega arith, e)
    go ih false e h = let (j, l, w) = ih (omega arith) in (suc j, suc-le-suc l, w)

pub count_at : (n j : ℕ) (cs : List Cell) → j < length cs → waits_under (cell cs j).state n ≡ true → 0 < count n cs
unfolding count
count_at n j [] h e = absurd (omega arith)
count_at n zero (c ∷ cs) h e = rw e (omega arith)
count_at n (suc j) (c ∷ cs) h e = omega (arith, count_at n j cs (le_of_suc-le-suc h) e)

-- one slot replaced
pub count_set : (n j : ℕ) (cs : List Cell) (x : Cell) → j < length cs
    → count n (set cs j x) + cond (waits_under (cell cs j).state n) 1 0 ≡ count n cs + cond (waits_under x.state n) 1 0
unfolding count
count_set n j [] x h = absurd (omega arith)
count_set n zero (c ∷ cs) x h = omega arith
count_set n (suc j) (c ∷ cs) x h = omega (arith, count_set n j cs x (le_of_suc-le-suc h))

pub count_take : (n k : ℕ) (cs : List Cell) → count n (take k cs) ≤ count n cs
count_take n k cs = omega (arith, ap (count n) (take-append-drop k cs), count_append n (take k cs) (drop k cs))

-- ---- pages

pub page_with_grow : (vs xs : List LoggedVersion) (cs ys : List Cell) (p c : ℕ) → length cs ≡ length vs
    → c ≤ length vs - 15 * p
    → page_with (vs ++ xs) (cs ++ ys) p c ≡ page_with vs cs p c
unfolding page_with
page_with_grow vs xs cs ys p zero l h = refl
page_with_grow vs xs cs ys p (suc c) l h =
    cc (
      get_or-append vs xs no_version (15 * p + c) (omega arith),
      drop-append-le (15 * p) cs ys (omega arith),
      take-append-le (suc c) (drop (15 * p) cs) ys (rw length-drop (omega arith)),
    )

pub length_page : (vs : List LoggedVersion) (cs : List Cell) (p c : ℕ) → Each SlotSized cs → c ≤ 15
    → length (page_with vs cs p c) ≡ 512
unfolding page_with
length_page vs cs p c z h =
    length_page_bytes _ _ (each_take SlotSized c (drop (15 * p) cs) (each_drop SlotSized (15 * p) cs z))
    (simp length-take (omega arith))

-- two lists of slots that agree on a page
pub page_with_ext : (vs : List LoggedVersion) (cs es : List Cell) (p c : ℕ) → length cs ≡ length es
    → ((i : ℕ) → i < c → cell cs (15 * p + i) ≡ cell es (15 * p + i)) → page_with vs cs p c ≡ page_with vs es p c
unfolding page_with
page_with_ext vs cs es p c l h =
    ap (page_bytes (end_of_page vs p c)) (ext_get_or no_cell (take c (drop (15 * p) cs)) (take c (drop (15 * p) es))
    (simp (length-take, length-drop, l))
    (λ i k.
    let lt : i < c = omega (arith, length-take c (drop (15 * p) cs)) in
    get_or-take c (drop (15 * p) cs) i no_cell lt ∙ get_or-drop (15 * p) cs i no_cell ∙ h i lt
    ∙ sym (get_or-take c (drop (15 * p) es) i no_cell lt ∙ get_or-drop (15 * p) es i no_cell)))

pub used_page : (vs : List LoggedVersion) (cs : List Cell) (p c : ℕ) → c ≤ length cs - 15 * p
    → page_used (page_with vs cs p c) ≡ c
unfolding page_with
used_page vs cs p c h = simp (used_page_bytes, length-take, length-drop) (omega arith)

pub end_page : (vs : List LoggedVersion) (cs : List Cell) (p c : ℕ) → end_of_page vs p c < 2 ^ 64
    → page_end (page_with vs cs p c) ≡ end_of_page vs p c
unfolding page_with
end_page vs cs p c h = end_page_bytes _ _ h

-- the next slot of a page
pub page_with_step : (vs : List LoggedVersion) (cs : List Cell) (p c : ℕ) → Each SlotSized cs → length cs ≡ length vs
    → c < 15 → 15 * p + c < length vs
    → put_cell (page_with vs cs p c) c (at vs (15 * p + c)).end (cell cs (15 * p + c)) ≡ page_with vs cs p (suc c)
unfolding page_with
page_with_step vs cs p c z l f h =
    let n : length (take c (drop (15 * p) cs)) ≡ c = simp (length-take, length-drop) (omega arith) in
    let g : put_cell (page_bytes (end_of_page vs p c) (take c (drop (15 * p) cs))) (length (take c (drop (15 * p) cs)))
    (at vs (15 * p + c)).end (cell cs (15 * p + c))
    ≡ page_bytes (at vs (15 * p + c)).end (take c (drop (15 * p) cs) ++ (cell cs (15 * p + c) ∷ [])) =
    put_page_bytes _ _ (take c (drop (15 * p) cs)) _
    (each_take SlotSized c (drop (15 * p) cs) (each_drop SlotSized (15 * p) cs z))
    (each_at SlotSized cs (15 * p + c) no_cell z (omega arith)) (omega arith) in
    ap (λ (i : ℕ). put_cell (page_bytes (end_of_page vs p c) (take c (drop (15 * p) cs))) i (at vs (15 * p + c)).end
    (cell cs (15 * p + c))) (sym n)
    ∙ g
    ∙ ap (page_bytes (at vs (15 * p + c)).end)
    (sym (rw get_or-drop at (take-suc (drop (15 * p) cs) c no_cell (rw length-drop (omega arith)))))

-- slot i of a page
pub slot_page : (vs : List LoggedVersion) (cs : List Cell) (p c i : ℕ) → Each SlotSized cs
    → c ≤ length cs - 15 * p → i < c
    → page_slot (page_with vs cs p c) i ≡ slot_bytes (cell cs (15 * p + i))
unfolding page_with
slot_page vs cs p c i z h k =
    let n : length (take c (drop (15 * p) cs)) ≡ c = simp (length-take, length-drop) (omega arith) in
    slot_page_bytes _ _ i (each_take SlotSized c (drop (15 * p) cs) (each_drop SlotSized (15 * p) cs z)) (omega arith)
    ∙ ap slot_bytes (get_or-take c (drop (15 * p) cs) i no_cell k ∙ get_or-drop (15 * p) cs i no_cell)
