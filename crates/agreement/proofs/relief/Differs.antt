-- What a store that does not differ says. A log block that equals the tail holds all of it, and then every page's end
-- place is stored. A page that equals its stamped copy has all its versions on the medium, so it has no first change,
-- and what still waits in it has no commit; and a page of which both hold does not differ. With no first change left
-- the new oldest block is the tail.
use Rattle.layout.specs.declared.CommitTime.{CommitTime}
use Rattle.std.specs.Prelude.{Option, Some, None}
use Prim.Native.Nat.{ℕ, zero, suc, ◌+◌, ◌*◌, ◌/◌, ◌%◌, ◌^◌, ◌≤◌, ◌<◌}
use Prim.Native.Nat.{suc-le-suc}
use native.Mathlib.Omega.{arith}
use native.Mathlib.Nat.{mod-lt}
use mathlib.Core.Path.{◌≡◌, refl, sym, ap, ◌∙◌}
use mathlib.Core.Logic.{◌⊎◌, inl, inr, ◌≢◌}
use mathlib.Core.List.{List, [], ◌∷◌, ◌++◌}
use lib.ListN.{length, take, get_or, length-take, get_or-eq_default}
use lib.Seq.{get_or-append_seam, get_or-take}
use borrow.Author.Tests.{eq-eqb, le-leb}
use Rattle.fields.specs.Block.{blk, log_block_at, page_block_at, end_place}
use Rattle.fields.proofs.CellLaws.{Each, each_at}
use Rattle.layout.specs.Journal.{Record, log_bytes, sequence_of, used_of}
use Rattle.layout.specs.Page.{page_end, page_used, page_slot}
use Rattle.layout.specs.Slot.{Cell, slot_state}
use Rattle.layout.specs.declared.TxNumber.{TxNumber}
use Rattle.layout.specs.declared.slot.Slot.{Slot}
use Rattle.layout.specs.declared.slot.Slot.TheVariants.{Empty, Waiting, Stamped}
use Rattle.layout.proofs.PageLaws.{no_cell}
use Rattle.store.specs.declared.Life.{Life}
use Rattle.store.specs.declared.Life.TheVariants.{Free, Active, Committed}
use Rattle.store.specs.declared.State.{State}
use Rattle.store.specs.Places.{place_at, find_committed, stored_under, time_up_to, at_found}
use Rattle.store.specs.OpenPairs.{waits_under}
use Rattle.store.specs.OpenLog.{Placed, place_from}
use Rattle.store.specs.Tail.{tail_end}
use Rattle.store.specs.StorePage.{stamp_time, stamp_from, stored_pair, stamped_page, settled}
use Rattle.store.specs.Checkpoint.{least_or, new_oldest}
use Rattle.runs.specs.Book.{Book}
use Rattle.agreement.proofs.history.Ghost.{size_of, BlockSound, records, LoggedVersion, versions_of, no_version, at}
use Rattle.agreement.proofs.history.Ghost.{LoggedCommit, commits_of, find, cell, end_of_page, page_with, full, Disk}
use Rattle.agreement.proofs.history.ListLaws.{split, same?, each_left}
use Rattle.agreement.proofs.history.PlacingLaws.{records_tail, between_weak, between_append, between_block, between_all}
use Rattle.agreement.proofs.history.CommitLaws.{find_num, find_each}
use Rattle.agreement.proofs.history.SlotLaws.{count_at, used_page, end_page}
use Rattle.agreement.proofs.history.VersionLaws.{place_versions, place_commits, near}
use Rattle.agreement.proofs.invariant.Invariant.{Stored, nothing, up_to, life_num, life_time, life_end, num_at, time_at}
use Rattle.agreement.proofs.invariant.Invariant.{Lively, Up}
use Rattle.agreement.proofs.invariant.MediumFacts.{CommitSound, commits_sound, match_sized, fewer_stored}
use Rattle.agreement.proofs.invariant.PlaceFacts.{committed_found, committed_finds}
use Rattle.agreement.proofs.logging.GrowthLaws.{block_used, tail_seq, tail_used}
use Rattle.agreement.proofs.opening.ReadingLaws.{between_high}
use Rattle.agreement.proofs.stores.SettleLaws.{kept_num}
use Rattle.agreement.proofs.stores.StampLaws.{state_page, old_state, page_turned}
use Rattle.agreement.proofs.stores.StoreLog.{end_is}

-- all are 0
least_none : (q : ℕ) (xs : List ℕ) → ((p : ℕ) → p < length xs → get_or xs p 0 ≡ 0) → least_or q xs ≡ q
unfolding least_or
least_none q [] f = refl
least_none q (x ∷ xs) f = rw (eq-eqb x 0 (f 0 (omega arith))) (least_none q xs (λ p h. f (suc p) (suc-le-suc h)))

-- no slot is stamped
stamps_none : (pair : ℕ → Option CommitTime) (page : List ℕ) (i k : ℕ)
    → ((j : ℕ) → i ≤ j → j < i + k → stamp_time pair (slot_state (page_slot page j)) ≡ None)
    → stamp_from pair page i k ≡ page
unfolding stamp_from
stamps_none pair page i zero f = refl
stamps_none pair page i (suc k) f =
    rw (f i (omega arith) (omega arith)) (stamps_none pair page (i + 1) k (λ j a b. f j (omega arith) (omega arith)))

module _ {l d : ℕ} {m c : List ℕ} {s : State} {b : Book} {disk : Disk} {closed : List (List Record)}
    {tail : List Record} (u : Up l d m c s b disk closed tail) where
  abbrev history : List (List Record)
  history = closed ++ (tail ∷ [])

  -- ---- the log

  -- the block of the tail holds all of it
  pub log_same : blk m (log_block_at l (length closed)) ≡ s.tail → s.end.0 ≡ (tail_end s.tail).0
  unfolding log_block_at
  log_same e =
      go disk.stored s.end.0 u.state.mark fresh
      (each_at (BlockSound d) disk.stored (length closed) [] u.medium.log.shape.stored_sound fresh) stored
      ∙ sym (end_is u)
    where
      on_medium : blk m (log_block_at l (length closed)) ≡ log_bytes (length closed) tail
      on_medium = e ∙ u.state.tail_block

      fresh : length closed < length disk.stored
      fresh =
          omega (
            arith,
            u.medium.log.fresh (length closed % l)
                (mod-lt (length closed) (omega (arith, u.medium.sizes.range.blocks_low))),
            ap sequence_of on_medium,
            tail_seq closed tail u.medium,
          )

      stored : log_bytes (length closed) tail ≡ log_bytes (length closed) (get_or disk.stored (length closed) [])
      stored = sym on_medium ∙ u.medium.log.blocks (length closed) u.state.ring_low fresh

      go : (bs : List (List Record)) (end : ℕ) → Stored closed tail bs end → length closed < length bs
          → BlockSound d (get_or bs (length closed) [])
          → log_bytes (length closed) tail ≡ log_bytes (length closed) (get_or bs (length closed) [])
          → end ≡ end_place (length closed) (10 + size_of tail)
      go bs end (nothing x h) f z q = absurd (omega arith)
      go bs end (up_to n h) f z q =
          let w : 10 + size_of tail ≡ 10 + size_of (take n tail) =
          sym (tail_used closed tail u.medium) ∙ ap used_of q
          ∙ block_used d (length closed) (get_or (closed ++ (take n tail ∷ [])) (length closed) []) z
          ∙ ap (λ (rs : List Record). 10 + size_of rs) (get_or-append_seam closed (take n tail) [] []) in
          ap (end_place (length closed)) (sym w)

  -- ---- all of the tail is stored

  module _ (stored : s.end.0 ≡ (tail_end s.tail).0) where
    -- every record ends at or before the stored end
    ends : Each (λ (x : Placed). x.end ≤ s.end.0) (records history)
    unfolding end_place
    ends =
        rw (stored, end_is u, records_tail closed tail)
        (between_high (512 * 0 + 10) (512 * length closed + (10 + size_of tail))
        (records closed ++ place_from (length closed) 10 tail)
        (between_append (512 * 0 + 10) (512 * length closed + 10) (512 * length closed + (10 + size_of tail))
        (records closed) (place_from (length closed) 10 tail)
        (between_weak (512 * 0 + 10) (512 * 0 + 10) (records closed) (512 * (0 + length closed) + 10)
        (512 * length closed + 10) (omega arith) (omega arith)
        (between_all d 0 closed (each_left (BlockSound d) closed (tail ∷ []) u.medium.log.shape.sound)))
        (between_block (length closed) 10 tail))).1

    -- so every page's end place is stored
    pub page_ended : (p : ℕ) → p < d → page_end (blk c p) ≤ s.end.0
    page_ended p h = go (full (length (versions_of history)) p) refl
      where
        version_end : (n : ℕ) → n < length (versions_of history) → (at (versions_of history) n).end ≤ s.end.0
        version_end n a =
            each_at (λ (v : LoggedVersion). v.end ≤ s.end.0) (versions_of history) n no_version
            (place_versions (λ x q. x ≤ s.end.0) (records history) ends) a

        page_end_law : (x : ℕ) → full (length (versions_of history)) p ≡ x
            → end_of_page (versions_of history) p x < 2 ^ 64
            → page_end (blk c p) ≡ end_of_page (versions_of history) p x
        page_end_law x z w =
            ap page_end (u.cache.pages p h ∙ ap (page_with (versions_of history) disk.cells p) z)
            ∙ end_page (versions_of history) disk.cells p x w

        go : (x : ℕ) → full (length (versions_of history)) p ≡ x → page_end (blk c p) ≤ s.end.0
        go zero z = omega (arith, page_end_law zero z (omega arith))
        go (suc x) z =
            let lt : 15 * p + x < length (versions_of history) = omega (arith, z) in
            omega (
              arith,
              page_end_law (suc x) z
                  (omega (arith, near d history u.medium.log.shape.sound (15 * p + x) lt, u.medium.log.shape.top)),
              version_end (15 * p + x) lt,
            )

    -- a live number without a stored commit has none
    unpaired : (n i : ℕ) → i < 64 → num_at s.places i ≡ n → 0 < n → stored_pair s n ≡ None
        → (find (commits_of history) n).time ≡ 0
    unfolding stored_pair stored_under
    unpaired n i h e z w = go (same? (time_at s.places i) 0)
      where
        lively : Lively (commits_of history) disk.cells disk.oldest s.next.0 (place_at s.places i)
        lively = u.living.each i h

        timed : (x : Life) → 0 < life_time x → life_end x ≤ s.end.0 → time_up_to x s.end.0 ≡ None → ⊥
        timed Free a q r = omega arith
        timed (Active y v) a q r = omega arith
        timed (Committed y v o) a q r =
            let b = rw (le-leb o.0 s.end.0 q) at r in let x : ◌≡◌ {A = ℕ} 0 1 = cc in omega arith

        below : 0 < time_at s.places i
            → (life_end (place_at s.places i).life ≡ (find (commits_of history) (num_at s.places i)).end)
            ⊎ ((life_end (place_at s.places i).life ≡ 0)
            × ((find (commits_of history) (num_at s.places i)).seq < disk.oldest))
            → life_end (place_at s.places i).life ≤ s.end.0
        below q (inl a) =
            omega (
              arith,
              a,
              find_each (num_at s.places i) (λ (y : LoggedCommit). y.end ≤ s.end.0) (commits_of history)
                  (place_commits (λ x y. x ≤ s.end.0) (records history) ends) (omega (arith, lively.over q)),
            )
        below q (inr a) = omega (arith, a.0)

        go : (time_at s.places i ≡ 0) ⊎ (time_at s.places i ≢ 0) → (find (commits_of history) n).time ≡ 0
        go (inl q) = rw e at (lively.unended (omega arith) q)
        go (inr q) =
            absurd (timed (place_at s.places i).life (omega arith) (below (omega arith) (lively.place (omega arith)))
            (rw (committed_finds u.living n i h z e (omega arith)) at w))

    -- what still waits in a page once it is stamped has no commit
    pub turned_quiet : (p : ℕ) (h : p < d) (j : ℕ) → j < 15 → (n : TxNumber)
        → (cell (page_turned u p h).cells (15 * p + j)).state ≡ Waiting n → (find (commits_of history) n.0).time ≡ 0
    turned_quiet p h j g n w = go (same? (find (commits_of history) n.0).time 0)
      where
        lt : 15 * p + j < length (page_turned u p h).cells
        lt = by (split (15 * p + j) (length (page_turned u p h).cells))
          where
            by : (15 * p + j < length (page_turned u p h).cells) ⊎ (length (page_turned u p h).cells ≤ 15 * p + j)
                → 15 * p + j < length (page_turned u p h).cells
            by (inl a) = a
            by (inr a) =
                let y : Empty ≡ Waiting n =
                ap (λ (y : Cell). y.state)
                (sym (get_or-eq_default (page_turned u p h).cells no_cell {n = 15 * p + j} a)) ∙ w in
                let z : ◌≡◌ {A = ℕ} 0 1 = cc in absurd (omega arith)

        go : ((find (commits_of history) n.0).time ≡ 0) ⊎ ((find (commits_of history) n.0).time ≢ 0)
            → (find (commits_of history) n.0).time ≡ 0
        go (inl z) = z
        go (inr z) =
            let t = page_turned u p h in
            let pos : 0 < (find (commits_of history) n.0).time = omega arith in
            let low : 0 < n.0 = omega (
              arith,
              find_num n.0 (commits_of history) pos,
              (find_each n.0 CommitSound (commits_of history) (commits_sound d history u.medium.log.shape.sound)
                  pos).low,
            ) in
            let (i, a, q) = t.living.all n.0
            (count_at n.0 (15 * p + j) t.cells lt (ap (λ (y : Slot). waits_under y n.0) w ∙ eq-eqb n.0 n.0 refl))
            pos in
            let r : (place_at (settled s (blk c p)) i).life ≡ (place_at s.places i).life =
            kept_num (place_at s.places i).life (place_at (settled s (blk c p)) i).life (t.kept i a)
            (omega (arith, q)) in
            unpaired n.0 i a (ap life_num (sym r) ∙ q) low (t.done j g n w)

  -- ---- a page that equals its stamped copy

  module _ (p : ℕ) (h : p < d) (e : blk m (page_block_at l p) ≡ stamped_page s (blk c p)) where
    same_bytes : page_with (versions_of history) disk.cells p (disk.on p) ≡ stamped_page s (blk c p)
    same_bytes = sym (u.medium.pages.page p h) ∙ e

    -- it has all its versions on the medium
    whole_page : disk.on p ≡ full (length (versions_of history)) p
    whole_page =
        let t = page_turned u p h in
        sym (used_page (versions_of history) disk.cells p (disk.on p)
        (omega (arith, u.medium.pages.few p, fewer_stored u.medium, u.medium.pages.slots.count)))
        ∙ ap page_used (same_bytes ∙ t.bytes)
        ∙ used_page (versions_of history) t.cells p (full (length (versions_of history)) p) (omega (arith, t.size))

    -- so it has no first change
    pub page_same : get_or s.first p 0 ≡ 0
    page_same = go (same? (get_or s.first p 0) 0)
      where
        go : (get_or s.first p 0 ≡ 0) ⊎ (get_or s.first p 0 ≢ 0) → get_or s.first p 0 ≡ 0
        go (inl z) = z
        go (inr z) = absurd (omega (arith, whole_page, u.firsts.lacks p h (omega arith)))

    -- and its slots are as stamping leaves them
    pub same_state : (j : ℕ) → j < 15 → (cell disk.cells (15 * p + j)).state
        ≡ (cell (page_turned u p h).cells (15 * p + j)).state
    same_state j g =
        let t = page_turned u p h in
        sym (state_page (versions_of history) disk.cells p j
        (match_sized u.medium disk.cells u.medium.pages.slots.count u.medium.pages.slots.match)
        u.medium.pages.slots.count g)
        ∙ ap (λ (x : List ℕ). slot_state (page_slot x j))
        (ap (page_with (versions_of history) disk.cells p) (sym whole_page) ∙ same_bytes ∙ t.bytes)
        ∙ state_page (versions_of history) t.cells p j (match_sized u.medium t.cells t.size t.match) t.size g

  -- ---- a page without a first change in which no commit waits

  module _ (p : ℕ) (h : p < d) (clear : get_or s.first p 0 ≡ 0)
      (quiet : (j : ℕ) → j < 15 → (n : TxNumber) → (cell disk.cells (15 * p + j)).state ≡ Waiting n
      → (find (commits_of history) n.0).time ≡ 0) where
    all_on : disk.on p ≡ full (length (versions_of history)) p
    all_on = go (split (disk.on p) (full (length (versions_of history)) p))
      where
        go : (disk.on p < full (length (versions_of history)) p) ⊎ (full (length (versions_of history)) p ≤ disk.on p)
            → disk.on p ≡ full (length (versions_of history)) p
        go (inr z) = omega (arith, u.medium.pages.few p, fewer_stored u.medium)
        go (inl z) =
            let n = 15 * p + disk.on p in
            let q : n / 15 ≡ p = omega arith in
            let r : n % 15 ≡ disk.on p = omega arith in
            absurd (omega (
              arith,
              clear,
              ap (λ (i : ℕ). get_or s.first i 0) q,
              (u.firsts.noted n (omega arith) (omega (arith, ap disk.on q, r))).0,
            ))

    unstamped : (x : Slot) → ((n : TxNumber) → x ≡ Waiting n → (find (commits_of history) n.0).time ≡ 0)
        → stamp_time (stored_pair s) x ≡ None
    unfolding stamp_time stored_pair stored_under
    unstamped Empty f = refl
    unstamped (Stamped t) f = refl
    unstamped (Waiting n) f = go (find_committed s.places n.0) refl
      where
        go : (x : Option ℕ) → find_committed s.places n.0 ≡ x
            → at_found x (λ i. time_up_to (place_at s.places i).life s.end.0) ≡ None
        go None e = refl
        go (Some i) e =
            let r = committed_found u.living n.0 i e in
            absurd (omega (
              arith,
              f n refl,
              ap (λ (a : ℕ). (find (commits_of history) a).time) r.1,
              (u.living.each i r.0).over r.2,
              r.2,
            ))

    pub page_still : blk m (page_block_at l p) ≡ stamped_page s (blk c p)
    unfolding stamped_page
    page_still =
        u.medium.pages.page p h ∙ ap (page_with (versions_of history) disk.cells p) all_on ∙ sym (u.cache.pages p h)
        ∙ sym (stamps_none (stored_pair s) (blk c p) 0 15
        (λ j a g. unstamped (slot_state (page_slot (blk c p) j))
        (λ n w. quiet j g n (sym (old_state u p h j g) ∙ w))))

  -- no page has a first change: the new oldest block is the tail
  pub oldest_tail : ((p : ℕ) → p < d → get_or s.first p 0 ≡ 0) → new_oldest s ≡ sequence_of s.tail
  unfolding new_oldest
  oldest_tail f = least_none (sequence_of s.tail) (take s.pages s.first) (λ p h.
      let i : p < d = omega (arith, length-take s.pages s.first, u.state.pages) in
      get_or-take s.pages s.first p 0 (omega (arith, u.state.pages)) ∙ f p i)
