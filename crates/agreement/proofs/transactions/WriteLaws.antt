-- A version more, for the parts of the invariant: what waits under each number, the cache, the pages' first changes,
-- and who may write a record. A number that wrote a record and is active holds it, since the record's newest version is
-- then its own and waits.
use Rattle.std.specs.Prelude.{Option, Some, None}
use Prim.Native.Nat.{ℕ, suc, ◌+◌, ◌*◌, ◌/◌, ◌%◌, ◌≤◌, ◌<◌}
use native.Mathlib.Omega.{arith}
use mathlib.Core.Bool.{Bool, true, false, not, ◌&&◌, false≢true}
use mathlib.Core.List.{List, [], ◌∷◌, ◌++◌}
use mathlib.Core.Logic.{◌⊎◌, inl, inr, ◌≢◌}
use mathlib.Core.Path.{◌≡◌, refl, sym, ap, ◌∙◌}
use lib.Dec.{eqb}
use lib.ListN.{length, get_or, length-append, get_or-append}
use lib.Seq.{get_or-append_seam}
use borrow.Author.Tests.{eq-eqb, ne_eqb, eqb-true}
use Rattle.fields.specs.Block.{page_of}
use Rattle.layout.specs.Page.{put_version}
use Rattle.layout.specs.Journal.{Record}
use Rattle.layout.specs.Slot.{Cell}
use Rattle.layout.proofs.CacheLaws.{length_put_version}
use Rattle.fields.proofs.CellLaws.{Each}
use Rattle.layout.proofs.PageLaws.{no_cell}
use Rattle.layout.proofs.SlotLaws.{SlotSized}
use Rattle.store.specs.declared.State.{State}
use Rattle.store.specs.Places.{find_active}
use Rattle.store.specs.Chain.{cell_at, newest, held, held_at, held_as}
use Rattle.store.specs.Write.{touched}
use Rattle.runs.specs.Book.{Book}
use Rattle.agreement.proofs.history.Ghost.{versions_of, LoggedVersion, no_version, at, newest_of, cell, waiting_cell}
use Rattle.agreement.proofs.history.Ghost.{count, full, Disk}
use Rattle.agreement.proofs.history.ListLaws.{split, same?}
use Rattle.agreement.proofs.history.SlotLaws.{count_append, page_with_grow}
use Rattle.agreement.proofs.history.VersionLaws.{newest_at, newest_none}
use Rattle.agreement.proofs.invariant.MediumFacts.{cell_cached, newest_cached}
use Rattle.agreement.proofs.invariant.PlaceFacts.{active_finds}
use Rattle.agreement.proofs.transactions.ActiveLaws.{all_wait}
use Rattle.agreement.proofs.invariant.Invariant.{num_at, time_at, CacheIs, Firsts, Up}
use Rattle.agreement.proofs.opening.RedoLaws.{Touch, other, newly, stays, touch_at, firsts_touched, cached_put}

-- ---- one more waits under the version's number

pub count_other : (i : ℕ) (v : LoggedVersion) (cs : List Cell) → i ≢ v.num
    → count i (cs ++ (waiting_cell v ∷ [])) ≡ count i cs
unfolding count
count_other i v cs h = count_append i cs (waiting_cell v ∷ []) ∙ rw (ne_eqb v.num i (λ e. h (sym e))) (omega arith)

pub count_same : (v : LoggedVersion) (cs : List Cell) → count v.num (cs ++ (waiting_cell v ∷ [])) ≡ count v.num cs + 1
unfolding count
count_same v cs = count_append v.num cs (waiting_cell v ∷ []) ∙ rw (eq-eqb v.num v.num refl) (omega arith)

-- ---- the pages' first changes

pub touch_low : (d : ℕ) (first : List ℕ) (p q : ℕ) → p < length first → (o : ℕ)
    → ((j : ℕ) → j < d → 0 < get_or first j 0 → o ≤ get_or first j 0) → o ≤ q
    → (j : ℕ) → j < d → 0 < get_or (touched first p q) j 0 → o ≤ get_or (touched first p q) j 0
touch_low d first p q h o f k j a z = go (touch_at first p q h j)
  where
    go : Touch j p (get_or first j 0) (get_or (touched first p q) j 0) q → o ≤ get_or (touched first p q) j 0
    go (other i e) = omega (arith, f j a (omega arith))
    go (newly i e e') = omega arith
    go (stays i w e) = omega (arith, f j a w)

pub firsts_grow : (d : ℕ) (vs : List LoggedVersion) (w : LoggedVersion) (on : ℕ → ℕ) (o q : ℕ) (first : List ℕ)
    → Firsts d vs on (length vs) o q first → Firsts d (vs ++ (w ∷ [])) on (length vs) o q first
firsts_grow d vs w on o q first f = record {
  size = f.size;
  noted = λ n h k. rw (get_or-append vs (w ∷ []) no_version n h) (f.noted n h k);
  low = f.low;
  high = f.high;
  lacks = f.lacks;
}

pub firsts_more : (d : ℕ) (vs : List LoggedVersion) (w : LoggedVersion) (on : ℕ → ℕ) (o q q' : ℕ) (first : List ℕ)
    → Firsts d vs on (length vs) o q first
    → w.seq ≡ q' → q ≤ q' → o ≤ q' → 0 < q' → length vs < 15 * d → d ≤ 64 → on (length vs / 15) ≤ length vs % 15
    → Firsts d (vs ++ (w ∷ [])) on (length (vs ++ (w ∷ []))) o q' (touched first (page_of (length vs)) q')
unfolding page_of
firsts_more d vs w on o q q' first f e h k z room few new =
    let a : length (vs ++ (w ∷ [])) ≡ suc (length vs) = length-append vs (w ∷ []) ∙ omega arith in
    rw a
    (firsts_touched d (vs ++ (w ∷ [])) on (length vs) o q first (firsts_grow d vs w on o q first f) q'
    (ap (λ (v : LoggedVersion). v.seq) (get_or-append_seam vs w [] no_version) ∙ e) h k z room few new)

-- ---- the cache

pub cache_more : (d : ℕ) (c : List ℕ) (vs : List LoggedVersion) (cs : List Cell) (w : LoggedVersion) (y : Cell)
    → CacheIs d c vs cs → length cs ≡ length vs → length vs < 15 * d → Each SlotSized (cs ++ (y ∷ []))
    → CacheIs d (put_version c (length vs) w.end y) (vs ++ (w ∷ [])) (cs ++ (y ∷ []))
cache_more d c vs cs w y cache same room sized = record {
  size = length_put_version c (length vs) w.end y ∙ cache.size;
  pages =
      rw (end, last) at (cached_put d c (vs ++ (w ∷ [])) (cs ++ (y ∷ [])) (length vs) cache.size room more sized
      (rw length-append (omega arith)) (full (length vs))
      (λ p h. cache.pages p h ∙ sym (page_with_grow vs (w ∷ []) cs (y ∷ []) p (full (length vs) p) same (omega arith)))
      (omega arith)
      (full (length (vs ++ (w ∷ [])))) (rw long (omega arith)) (λ p h. rw long (omega arith)));
}
  where
    long : length (vs ++ (w ∷ [])) ≡ suc (length vs)
    long = length-append vs (w ∷ []) ∙ omega arith

    more : length (cs ++ (y ∷ [])) ≡ length (vs ++ (w ∷ []))
    more = length-append cs (y ∷ []) ∙ ap (λ (n : ℕ). n + 1) same ∙ sym (length-append vs (w ∷ []))

    end : at (vs ++ (w ∷ [])) (length vs) ≡ w
    end = get_or-append_seam vs w [] no_version

    last : cell (cs ++ (y ∷ [])) (length vs) ≡ y
    last = ap (λ (n : ℕ). cell (cs ++ (y ∷ [])) n) (sym same) ∙ get_or-append_seam cs y [] no_cell

-- ---- who may write a record

module _ {l d : ℕ} {m c : List ℕ} {s : State} {b : Book} {disk : Disk} {closed : List (List Record)}
    {tail : List Record} (u : Up l d m c s b disk closed tail) where
  -- the newest version of a record as the cache has it
  pub newest_is : (key : ℕ) → newest c key s.slots ≡ newest_of (versions_of (closed ++ (tail ∷ []))) key
      (length (versions_of (closed ++ (tail ∷ []))))
  newest_is key =
      ap (newest c key) u.state.slots ∙ newest_cached u.medium u.cache key
      (length (versions_of (closed ++ (tail ∷ [])))) (omega arith)

  -- no other active number wrote the record, if it is not held
  pub not_held : (n key : ℕ) → held c s.places s.slots key n ≡ false → (j : ℕ) → j < 64 → 0 < num_at s.places j
      → time_at s.places j ≡ 0
      → (x : ℕ) → x < length (versions_of (closed ++ (tail ∷ [])))
      → (at (versions_of (closed ++ (tail ∷ []))) x).num ≡ num_at s.places j
      → (at (versions_of (closed ++ (tail ∷ []))) x).key ≡ key
      → n ≡ num_at s.places j
  unfolding held
  not_held n key q j h z t x a e w =
      go (newest_of (versions_of (closed ++ (tail ∷ []))) key (length (versions_of (closed ++ (tail ∷ []))))) refl
      (sym (ap (λ (f : Option ℕ). held_at f c s.places n) (newest_is key)) ∙ q)
    where
      -- the newest is that number's own
      own : (y : ℕ) → y < length (versions_of (closed ++ (tail ∷ [])))
          → (at (versions_of (closed ++ (tail ∷ []))) y).key ≡ key → (x < y) ⊎ (y ≤ x) → (y < x → ⊥)
          → (at (versions_of (closed ++ (tail ∷ []))) y).num ≡ num_at s.places j
      own y g i (inl r) p = u.opens.held j h z t x y r g e (w ∙ sym i)
      own y g i (inr r) p =
          let v : y ≡ x = last r p in ap (λ (o : ℕ). (at (versions_of (closed ++ (tail ∷ []))) o).num) v ∙ e
        where
          last : y ≤ x → (y < x → ⊥) → y ≡ x
          last r p = by (same? y x)
            where
              by : (y ≡ x) ⊎ (y ≢ x) → y ≡ x
              by (inl o) = o
              by (inr o) = absurd (p (omega arith))

      active : find_active s.places (num_at s.places j) ≡ Some j
      active = active_finds u.living (num_at s.places j) j h z refl t

      same : (o : Bool) → eqb (num_at s.places j) n ≡ o → not o && true ≡ false → n ≡ num_at s.places j
      same true p r = sym (eqb-true _ _ p)
      same false p r = absurd (false≢true (sym r))

      go : (f : Option ℕ) → newest_of (versions_of (closed ++ (tail ∷ []))) key
          (length (versions_of (closed ++ (tail ∷ [])))) ≡ f → held_at f c s.places n ≡ false → n ≡ num_at s.places j
      go None p r =
          absurd (newest_none (versions_of (closed ++ (tail ∷ []))) key
          (length (versions_of (closed ++ (tail ∷ [])))) p x a w)
      go (Some y) p r =
          let v = newest_at (versions_of (closed ++ (tail ∷ []))) key
          (length (versions_of (closed ++ (tail ∷ [])))) y p in
          let o : (at (versions_of (closed ++ (tail ∷ []))) y).num ≡ num_at s.places j =
          own y v.below v.keyed (split x y) (λ g. v.last x g a w) in
          let waits : cell_at c y ≡ waiting_cell (at (versions_of (closed ++ (tail ∷ []))) y) =
          cell_cached u.medium u.cache y v.below ∙ all_wait u (num_at s.places j) j active y v.below o in
          same (eqb (num_at s.places j) n) refl
          (sym (ap (λ (i : Cell). held_as i.state s.places n) waits ∙ rw (o, active)) ∙ r)
