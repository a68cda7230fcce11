-- The three stores of a checkpoint: two table blocks, then the master with the oldest block that the first call fixed.
-- Until the master is stored, the pairs that the old oldest block needs are in the table too.
use Prim.Native.Nat.{ℕ, zero, suc, ◌+◌, ◌*◌, ◌/◌, ◌≤◌, ◌<◌, min, suc-le-suc}
use native.Mathlib.Omega.{arith}
use mathlib.Core.Bool.{Bool, true, false, cond}
use mathlib.Core.List.{List, [], ◌∷◌, ◌++◌}
use mathlib.Core.Logic.{◌⊎◌, inl, inr}
use mathlib.Core.Path.{◌≡◌, refl, ◌∙◌, subst}
use lib.Dec.{eqb}
use lib.ListN.{length, take, get_or, length-take, length-append}
use lib.Seq.{get_or-take}
use borrow.Author.Tests.{eqb-false, ne_eqb}
use Rattle.fields.specs.Block.{log_block_at, page_block_at, put}
use Rattle.layout.specs.Journal.{sequence_of, Record}
use Rattle.fields.proofs.BlockLaws.{length_put, blk_same, blk_other}
use Rattle.layout.proofs.MasterLaws.{length_master_bytes}
use Rattle.fields.proofs.CellLaws.{each_append, each_map}
use Rattle.layout.specs.Master.{master_bytes}
use Rattle.layout.proofs.PlaceLaws.{log_not_first, page_not_first, first_in_medium}
use Rattle.layout.specs.Table.{table_pair}
use Rattle.layout.proofs.TableLaws.{table_pair_other}
use Rattle.layout.specs.declared.CommitTime.{CommitTime}
use Rattle.store.specs.OpenLog.{Placed, number_in}
use Rattle.store.specs.State.{with_phase}
use Rattle.store.specs.Places.{place_at}
use Rattle.store.specs.declared.Phase.{Phase}
use Rattle.store.specs.declared.Phase.TheVariants.{Idle, FirstStored, SecondStored}
use Rattle.store.specs.declared.State.{State}
use Rattle.store.specs.Checkpoint.{new_oldest, least_or, table_block, checkpoint_step}
use Rattle.runs.specs.Book.{Book}
use Rattle.runs.specs.Machine.{after}
use Rattle.agreement.proofs.logging.GrowthLaws.{stored_length, tail_sequence}
use Rattle.agreement.proofs.history.Ghost.{commits_of, Disk, records, LoggedCommit, commits_in, find, last_of}
use Rattle.agreement.proofs.history.ListLaws.{split}
use Rattle.agreement.proofs.history.CommitLaws.{last_each}
use Rattle.agreement.proofs.history.VersionLaws.{place_commits}
use Rattle.agreement.proofs.invariant.PlaceSet.{table_same, covered_same, living_same}
use Rattle.agreement.proofs.invariant.MediumFacts.{commits_split, commits_sound, last_below}
use Rattle.agreement.proofs.invariant.StoredFacts.{rest_above}
use Rattle.agreement.proofs.invariant.Invariant.{life_end, num_at, time_at, table_num, table_time, Lively, PhaseIs, Up}
use Rattle.agreement.proofs.invariant.Invariant.{Inv, running, Pending}
use Rattle.agreement.proofs.stores.TableStore.{covered_now, covered_still, tabled_up}

-- ---- the new oldest block

least_low : (n q : ℕ) (xs : List ℕ) → n ≤ q → ((p : ℕ) → p < length xs → 0 < get_or xs p 0 → n ≤ get_or xs p 0)
    → n ≤ least_or q xs
unfolding least_or
least_low n q [] h f = h
least_low n q (x ∷ xs) h f =
    go (eqb x 0) refl (least_low n q xs h (λ p l. f (suc p) (suc-le-suc l)))
    (λ w. least_low n x xs w (λ p l. f (suc p) (suc-le-suc l)))
  where
    go : (y : Bool) → eqb x 0 ≡ y → n ≤ least_or q xs → (n ≤ x → n ≤ least_or x xs)
        → n ≤ cond y (least_or q xs) (min x (least_or x xs))
    go true e a k = a
    go false e a k = let z : n ≤ x = f 0 (omega arith) (omega (arith, eqb-false x 0 e)) in omega (arith, k z)

least_high : (q : ℕ) (xs : List ℕ) (n : ℕ) → q ≤ n → ((p : ℕ) → p < length xs → get_or xs p 0 ≤ n) → least_or q xs ≤ n
unfolding least_or
least_high q [] n h f = h
least_high q (x ∷ xs) n h f = go (eqb x 0) (least_high q xs n h (λ p l. f (suc p) (suc-le-suc l)))
  where
    go : (y : Bool) → least_or q xs ≤ n → cond y (least_or q xs) (min x (least_or x xs)) ≤ n
    go true a = a
    go false a = omega (arith, f 0 (omega arith))

least_each : (q : ℕ) (xs : List ℕ) (p : ℕ) → 0 < get_or xs p 0 → least_or q xs ≤ get_or xs p 0
unfolding least_or
least_each q [] p z = absurd (omega arith)
least_each q (x ∷ xs) zero z = rw (ne_eqb x 0 (λ e. omega arith)) (omega arith)
least_each q (x ∷ xs) (suc p) z = go (eqb x 0) (least_each q xs p z) (least_each x xs p z)
  where
    go : (y : Bool) → least_or q xs ≤ get_or xs p 0 → least_or x xs ≤ get_or xs p 0
        → cond y (least_or q xs) (min x (least_or x xs)) ≤ get_or xs p 0
    go true a e = a
    go false a e = omega arith

module _ {l d : ℕ} {m c : List ℕ} {s : State} {b : Book} {disk : Disk} {closed : List (List Record)}
    {tail : List Record} (u : Up l d m c s b disk closed tail) where
  first_at : (p : ℕ) → p < d → get_or (take s.pages s.first) p 0 ≡ get_or s.first p 0
  first_at p h = get_or-take s.pages s.first p 0 (omega (arith, u.state.pages))

  -- the new oldest block is from the oldest to the tail, and not above any first change
  pub oldest_low : disk.oldest ≤ new_oldest s
  unfolding new_oldest
  oldest_low =
      least_low disk.oldest (sequence_of s.tail) (take s.pages s.first)
      (omega (arith, tail_sequence u, u.state.ring_low)) (λ p a z.
      let h : p < d = omega (arith, length-take s.pages s.first, u.state.pages) in
      rw (first_at p h) (u.firsts.low p h (rw (first_at p h) at z)))

  pub oldest_high : new_oldest s ≤ length closed
  unfolding new_oldest
  oldest_high =
      least_high (sequence_of s.tail) (take s.pages s.first) (length closed) (omega (arith, tail_sequence u)) (λ p a.
      let h : p < d = omega (arith, length-take s.pages s.first, u.state.pages) in
      rw (first_at p h) (u.firsts.high p h))

  pub oldest_pages : (p : ℕ) → p < d → 0 < get_or s.first p 0 → new_oldest s ≤ get_or s.first p 0
  unfolding new_oldest
  oldest_pages p h z =
      rw (first_at p h) at (least_each (sequence_of s.tail) (take s.pages s.first) p (rw (first_at p h) z))

  -- table block 1: its pairs lie below the tail, so their commits are stored; the places below 32 are covered for the
  -- new oldest block, those above it for the master's as before
  pub first_up : Up l d (put m 1 (table_block s.places (new_oldest s) 0)) c
      (with_phase s (FirstStored (new_oldest s) s.saved)) b disk closed tail
  first_up =
      tabled_up u 0 (omega arith) (new_oldest s) oldest_low oldest_high (FirstStored (new_oldest s) s.saved) (record {
        above = oldest_low;
        below = oldest_high;
        pages = oldest_pages;
        early = rw (commits_split u.medium)
            (each_append (λ (x : LoggedCommit). x.seq < new_oldest s → x.time ≤ s.saved.0) (commits_of disk.stored)
            (commits_in u.medium.log.shape.rest)
            (each_map (λ (x : LoggedCommit). x.time ≤ last_of (commits_of disk.stored))
            (λ (x : LoggedCommit). x.seq < new_oldest s → x.time ≤ s.saved.0) (commits_of disk.stored)
            (λ x a z. omega (arith, a, u.state.saved)) (last_each (commits_of disk.stored)))
            (each_map (λ (x : LoggedCommit). (s.end.0 < x.end) × (length closed ≤ x.seq))
            (λ (x : LoggedCommit). x.seq < new_oldest s → x.time ≤ s.saved.0) (commits_in u.medium.log.shape.rest)
            (λ x a z. absurd (omega (arith, a.1, oldest_high)))
            (place_commits (λ a q. (s.end.0 < a) × (length closed ≤ q)) u.medium.log.shape.rest
            (rest_above u.medium u.state.mark))));
        late = omega (arith, u.state.saved);
        covered =
            λ i h. covered_now u 0 (omega arith) (new_oldest s) oldest_low oldest_high i (omega arith) (omega arith);
      })

  pub first_stored : s.phase ≡ Idle → Inv l d (after (checkpoint_step Idle s m c)) b
  unfolding checkpoint_step
  first_stored e = running first_up

  pub second_up : (o : ℕ) (t : CommitTime) → s.phase ≡ FirstStored o t
      → Up l d (put m 2 (table_block s.places o 32)) c (with_phase s (SecondStored o t)) b disk closed tail
  second_up o t e =
      let p : Pending d m disk (commits_of (closed ++ (tail ∷ []))) s.places s.first (length closed) o t.0 32 =
      subst (λ (ph : Phase). PhaseIs ph d m disk (commits_of (closed ++ (tail ∷ []))) s.places s.first
      (length closed)) e u.phase in
      tabled_up u 1 (omega arith) o p.above p.below (SecondStored o t) (record {
        above = p.above;
        below = p.below;
        pages = p.pages;
        early = p.early;
        late = p.late;
        covered = λ i h. both p i h (split i 32);
      })
    where
      both : (p : Pending d m disk (commits_of (closed ++ (tail ∷ []))) s.places s.first (length closed) o t.0 32)
          → (i : ℕ) → i < 64 → (i < 32) ⊎ (32 ≤ i) → 0 < time_at s.places i
          → (find (commits_of (closed ++ (tail ∷ []))) (num_at s.places i)).seq < o
          → (table_num (put m 2 (table_block s.places o 32)) i ≡ num_at s.places i)
          × (table_time (put m 2 (table_block s.places o 32)) i ≡ time_at s.places i)
      both p i h (inl a) =
          covered_still u 1 (omega arith) o p.above p.below o 32 (omega arith) (omega arith) p.covered i a
      both p i h (inr a) = covered_now u 1 (omega arith) o p.above p.below i h (omega arith)

  pub second_stored : (o : ℕ) (t : CommitTime) → s.phase ≡ FirstStored o t
      → Inv l d (after (checkpoint_step (FirstStored o t) s m c)) b
  unfolding checkpoint_step
  second_stored o t e = running (second_up o t e)

  -- the master: old = o, next = the state's, time = t; `kept` by Pending.pages with Firsts.noted, `below` by
  -- StateIs.numbers
  pub third_up : (o : ℕ) (t : CommitTime) → s.phase ≡ SecondStored o t
      → Up l d (put m 0
      (master_bytes (record { blocks = s.blocks; pages = s.pages; oldest = o; next = s.next; last = t }))) c
      (with_phase s Idle) b
      (record { oldest = o; next = s.next.0; time = t.0; stored = disk.stored; cells = disk.cells; on = disk.on })
      closed tail
  unfolding with_phase
  third_up o t e =
      record {
        medium = record {
          sizes = record { range = u.medium.sizes.range; size = length_put m 0 master ∙ u.medium.sizes.size };
          master = record {
            fits = record {
              oldest_low = omega (arith, p.above, u.medium.master.fits.oldest_low);
              oldest_high = omega (arith, p.below, u.medium.log.shape.top, length-append closed (tail ∷ []));
              next_low = u.state.next_low;
              next_high = u.state.next_high;
              time_high =
                  omega (
                    arith,
                    p.late,
                    last_below (commits_of disk.stored)
                        (commits_sound d disk.stored u.medium.log.shape.stored_sound),
                  );
            };
            block = blk_same m 0 master (length_master_bytes _) inside ∙ rw (u.state.blocks, u.state.pages);
          };
          log = record {
            shape = record {
              low = omega (arith, p.below, stored_length u.state.mark);
              high = omega (arith, p.above, u.medium.log.shape.high);
              front = u.medium.log.shape.front;
              top = u.medium.log.shape.top;
              sound = u.medium.log.shape.sound;
              stored_sound = u.medium.log.shape.stored_sound;
              rest = u.medium.log.shape.rest;
              split = u.medium.log.shape.split;
            };
            blocks =
                λ q a w. blk_other m 0 master (log_block_at l q) (length_master_bytes _)
                (log_not_first l q 0 (omega arith)) ∙ u.medium.log.blocks q (omega (arith, p.above)) w;
            fresh =
                λ j a. rw (blk_other m 0 master (3 + j) (length_master_bytes _) (omega arith)) (u.medium.log.fresh j a);
          };
          pages = record {
            slots = u.medium.pages.slots;
            few = u.medium.pages.few;
            page =
                λ j a. blk_other m 0 master (page_block_at l j) (length_master_bytes _)
                (page_not_first l j 0 (omega arith)) ∙ u.medium.pages.page j a;
            kept = λ n h w. let f = u.firsts.noted n h w in
                omega (arith, f, p.pages (n / 15) (omega (arith, u.medium.pages.slots.room)) f.0);
            plain = u.medium.pages.plain;
          };
          table = table_same m (put m 0 master) same_pair u.medium.table;
          numbers = record {
            below =
                each_map (λ (x : Placed). number_in x.rec < s.next.0)
                (λ (x : Placed). x.seq < o → number_in x.rec < s.next.0) (records (closed ++ (tail ∷ []))) (λ x h z. h)
                u.state.numbers;
            early = p.early;
            late = p.late;
            rising = u.medium.numbers.rising;
            once = u.medium.numbers.once;
            steady = u.medium.numbers.steady;
          };
        };
        state = record {
          blocks = u.state.blocks;
          pages = u.state.pages;
          slots = u.state.slots;
          tail_block = u.state.tail_block;
          ring_low = p.below;
          ring_high = omega (arith, p.above, u.state.ring_high);
          mark = u.state.mark;
          last = u.state.last;
          saved = u.state.saved;
          next_low = u.state.next_low;
          next_high = u.state.next_high;
          numbers = u.state.numbers;
        };
        cache = u.cache;
        firsts =
            record {
              size = u.firsts.size;
              noted = u.firsts.noted;
              low = p.pages;
              high = u.firsts.high;
              lacks =
                  u.firsts.lacks;
            };
        living = record {
          size = u.living.size;
          each = λ i h. older i h (u.living.each i h);
          distinct = u.living.distinct;
          all = u.living.all;
          covered = covered_same m (put m 0 master) same_pair _ s.places o 64 (omega arith) p.covered;
          home = (living_same m (put m 0 master) same_pair u.living).home;
        };
        opens = u.opens;
        phase = tt;
        rows = u.rows;
        stored = u.stored;
      }
    where
      p : Pending d m disk (commits_of (closed ++ (tail ∷ []))) s.places s.first (length closed) o t.0 64
      p =
          subst (λ (ph : Phase). PhaseIs ph d m disk (commits_of (closed ++ (tail ∷ []))) s.places s.first
          (length closed)) e u.phase

      master : List ℕ
      master = master_bytes (record { blocks = s.blocks; pages = s.pages; oldest = o; next = s.next; last = t })

      inside : 512 * 0 + 512 ≤ length m
      inside = rw u.medium.sizes.size (first_in_medium l d 0 (omega arith))

      same_pair : (i : ℕ) → i < 64 → table_pair (put m 0 master) i ≡ table_pair m i
      same_pair i h = table_pair_other m i 0 master (length_master_bytes _) (omega arith)

      older : (i : ℕ) → i < 64 → Lively (commits_of (closed ++ (tail ∷ []))) disk.cells disk.oldest s.next.0
          (place_at s.places i) → Lively (commits_of (closed ++ (tail ∷ []))) disk.cells o s.next.0
          (place_at s.places i)
      older i h v = record {
        formed = v.formed;
        small = v.small;
        over = v.over;
        place = λ z. by (v.place z);
        unended = v.unended;
        waits = v.waits;
        busy = v.busy;
      }
        where
          by : (life_end (place_at s.places i).life
              ≡ (find (commits_of (closed ++ (tail ∷ []))) (num_at s.places i)).end)
              ⊎ ((life_end (place_at s.places i).life ≡ 0)
              × ((find (commits_of (closed ++ (tail ∷ []))) (num_at s.places i)).seq < disk.oldest))
              → (life_end (place_at s.places i).life
              ≡ (find (commits_of (closed ++ (tail ∷ []))) (num_at s.places i)).end)
              ⊎ ((life_end (place_at s.places i).life ≡ 0)
              × ((find (commits_of (closed ++ (tail ∷ []))) (num_at s.places i)).seq < o))
          by (inl a) = inl a
          by (inr a) = inr (a.0, omega (arith, a.1, p.above))

  pub third_stored : (o : ℕ) (t : CommitTime) → s.phase ≡ SecondStored o t
      → Inv l d (after (checkpoint_step (SecondStored o t) s m c)) b
  unfolding checkpoint_step
  third_stored o t e = running (third_up o t e)
