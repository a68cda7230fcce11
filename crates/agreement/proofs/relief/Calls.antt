-- One call of the way out of a full log, in a running store. What it leaves is read off from its definition: a store is
-- refused 13 or done, and a checkpoint call is done. None adds a record, so the log's history stays; each that is done
-- is the one that asking names, since those before it do not differ any more.
use Rattle.std.specs.Prelude.{None}
use Prim.Native.Nat.{ℕ, ◌+◌, ◌-◌, ◌*◌, ◌≤◌, ◌<◌}
use native.Mathlib.Omega.{arith}
use mathlib.Core.Path.{◌≡◌, refl, sym, ap, ◌∙◌, subst}
use mathlib.Core.Logic.{◌⊎◌, inl, inr, ◌≢◌}
use mathlib.Core.Bool.{Bool, true, false, not, ◌&&◌, ◌||◌}
use mathlib.Core.List.{List, [], ◌∷◌, ◌++◌}
use lib.ListN.{length, get_or, set}
use lib.Seq.{get_or-set_same, get_or-set_other}
use lib.Dec.{eqb}
use borrow.Author.Tests.{lt-ltb, le-leb, eq-eqb, ne_eqb}
use Rattle.fields.specs.Block.{blk, put, log_block_at, page_block_at}
use Rattle.fields.specs.Equal.{eq_list}
use Rattle.fields.proofs.BlockLaws.{blk_same, blk_other}
use Rattle.fields.proofs.EqualLaws.{eq_true, eq_refl}
use Rattle.layout.specs.Journal.{Record, log_bytes, sequence_of}
use Rattle.layout.specs.Master.{oldest_on, master_bytes}
use Rattle.layout.specs.Page.{page_end}
use Rattle.layout.specs.Slot.{Cell}
use Rattle.layout.specs.declared.CommitTime.{CommitTime}
use Rattle.layout.specs.declared.TxNumber.{TxNumber}
use Rattle.layout.specs.declared.slot.Slot.TheVariants.{Waiting}
use Rattle.layout.proofs.MasterLaws.{length_master_bytes}
use Rattle.layout.proofs.PlaceLaws.{log_page_apart, log_not_first}
use Rattle.store.specs.declared.Phase.{Phase}
use Rattle.store.specs.declared.Phase.TheVariants.{Idle, FirstStored, SecondStored}
use Rattle.store.specs.declared.Refusal.TheVariants.{Unchanged}
use Rattle.store.specs.declared.State.{State}
use Rattle.store.specs.Answer.{Outcome, refuses, answer_number, refusal_number}
use Rattle.store.specs.State.{with_phase}
use Rattle.store.specs.StoreLog.{log_stored, store_log_if, store_log_of}
use Rattle.store.specs.Tail.{tail_end}
use Rattle.store.specs.StorePage.{stamped_page, store_page_asks, page_stored, store_page_if, store_page_of}
use Rattle.store.specs.Checkpoint.{new_oldest, table_block, checkpoint_step, checkpoint_if, checkpoint_of}
use Rattle.store.specs.Relief.{all_yes, page_left, under_way, checkpoint_left, after_log, relief_of}
use Rattle.store.proofs.SearchLaws.{first_least, first_none}
use Rattle.runs.specs.Event.{Call, Event, call, store_log, store_page, checkpoint}
use Rattle.runs.specs.Book.{Book}
use Rattle.runs.specs.Machine.{World, up, called, seen_of, after, step}
use Rattle.runs.specs.Relief.{named, next_in}
use Rattle.runs.proofs.OneBlock.{length_table_block}
use Rattle.agreement.proofs.history.Ghost.{commits_of, find, cell, Disk}
use Rattle.agreement.proofs.history.ListLaws.{split, same?}
use Rattle.agreement.proofs.invariant.Invariant.{Up}
use Rattle.agreement.proofs.invariant.MediumFacts.{oldest_is}
use Rattle.agreement.proofs.logging.GrowthLaws.{tail_length, tail_inside, tail_sequence, fits_up}
use Rattle.agreement.proofs.stores.StampLaws.{page_turned}
use Rattle.agreement.proofs.stores.StoreLog.{medium_is, log_up}
use Rattle.agreement.proofs.stores.StorePage.{turned, page_length, page_up}
use Rattle.agreement.proofs.stores.Checkpoint.{first_up, second_up, third_up}
use Rattle.agreement.proofs.relief.Active.{Alike, alike_same, alike_then, alike_settled}
use Rattle.agreement.proofs.relief.Differs.{log_same, page_ended, turned_quiet, page_same, same_state, page_still}
use Rattle.agreement.proofs.relief.Differs.{oldest_tail}

-- ---- a running store, and what holds of its medium and state

pub data Running (l d : ℕ) (closed : List (List Record)) (tail : List Record)
    (P : Disk → List ℕ → State → Type 0) : World → Type 0 where
  runs : (m c : List ℕ) (s : State) (b : Book) (disk : Disk) → Up l d m c s b disk closed tail → P disk m s
      → Running l d closed tail P (up m c s)

-- r is the state at the start

-- a checkpoint is in a phase of which Ph holds
pub record Begun (r : State) (Ph : Phase → Type 0) (disk : Disk) (m : List ℕ) (s : State) : Type 0 where
  pub alike : Alike r s
  pub phase : Ph s.phase

-- the medium holds the tail, and no page below p has a first change or a waiting version that is committed
pub record Clear (l : ℕ) (closed : List (List Record)) (tail : List Record) (r : State) (Ph : Phase → Type 0) (p : ℕ)
    (disk : Disk) (m : List ℕ) (s : State) : Type 0 where
  pub alike : Alike r s
  pub phase : Ph s.phase
  pub logged : blk m (log_block_at l (length closed)) ≡ s.tail
  pub clear : (i : ℕ) → i < p → get_or s.first i 0 ≡ 0
  pub quiet : (j : ℕ) → j < 15 * p → (n : TxNumber) → (cell disk.cells j).state ≡ Waiting n
      → (find (commits_of (closed ++ (tail ∷ []))) n.0).time ≡ 0

-- and the tail is the oldest block
pub record Freed (l d : ℕ) (closed : List (List Record)) (tail : List Record) (r : State) (disk : Disk) (m : List ℕ)
    (s : State) : Type 0 where
  pub clear : Clear l closed tail r (λ ph. ph ≡ Idle) d disk m s
  pub oldest : oldest_on m ≡ sequence_of s.tail

-- the checkpoint under way makes the tail the oldest block: q is its sequence
abbrev pub First : ℕ → Phase → Type 0
First q ph = (t : CommitTime) × (ph ≡ FirstStored q t)

abbrev pub Second : ℕ → Phase → Type 0
Second q ph = (t : CommitTime) × (ph ≡ SecondStored q t)

-- a store that does not differ, or is done and named; P holds then
pub data Turn (l d : ℕ) (closed : List (List Record)) (tail : List Record) (w : World) (x : Call)
    (P : Disk → List ℕ → State → Type 0) : Type 0 where
  left_out : (step l d w (call x)).seen.refusal ≡ 13 → Running l d closed tail P w → Turn l d closed tail w x P
  stored : (step l d w (call x)).seen.refusal ≡ 0 → next_in w ≡ call x ∷ []
      → Running l d closed tail P (step l d w (call x)).world → Turn l d closed tail w x P

-- a call that is done; P holds then
pub record Made (l d : ℕ) (closed : List (List Record)) (tail : List Record) (w : World) (x : Call)
    (P : Disk → List ℕ → State → Type 0) : Type 0 where
  pub accepted : (step l d w (call x)).seen.refusal ≡ 0
  pub after : Running l d closed tail P (step l d w (call x)).world

module _ {l d : ℕ} {m c : List ℕ} {s : State} {b : Book} {disk : Disk} {closed : List (List Record)}
    {tail : List Record} (u : Up l d m c s b disk closed tail) where
  landed : (P : Disk → List ℕ → State → Type 0) (x : Call) (o : Outcome) → called m c s x ≡ o
      → Running l d closed tail P (after o)
      → Running l d closed tail P (step l d (up m c s) (call x)).world
  unfolding step
  landed P x o e r = subst (λ (y : Outcome). Running l d closed tail P (after y)) (sym e) r

  refusal_is : (x : Call) (o : Outcome) → called m c s x ≡ o
      → (step l d (up m c s) (call x)).seen.refusal ≡ answer_number o.answer
  unfolding step seen_of
  refusal_is x o e = rw e

  -- ---- store log

  abbrev log_equal : Bool
  log_equal = eq_list (blk m (log_block_at s.blocks (sequence_of s.tail))) s.tail

  log_block : log_block_at s.blocks (sequence_of s.tail) ≡ log_block_at l (length closed)
  log_block = rw (u.state.blocks, tail_sequence u)

  log_refused : log_equal ≡ true → called m c s store_log ≡ refuses Unchanged s m c
  unfolding called store_log_of store_log_if
  log_refused e = rw (fits_up u, e)

  log_done : log_equal ≡ false → called m c s store_log ≡ store_log_if None s m c
  unfolding called store_log_of
  log_done e = rw (fits_up u, e)

  log_named : log_equal ≡ false → next_in (up m c s) ≡ call store_log ∷ []
  unfolding next_in relief_of
  log_named e = rw (fits_up u, e)

  -- the log does not differ: a page is named, or a checkpoint
  log_passed : log_equal ≡ true → next_in (up m c s) ≡ named (after_log (page_left s m c) (checkpoint_left s m))
  unfolding next_in relief_of
  log_passed e = rw (fits_up u, e)

  pub log_turn : (r : State) (Ph : Phase → Type 0) → Begun r Ph disk m s
      → Turn l d closed tail (up m c s) store_log (Clear l closed tail r Ph 0)
  unfolding store_log_if log_stored answer_number refusal_number
  log_turn r Ph a = go log_equal refl
    where
      go : (t : Bool) → log_equal ≡ t → Turn l d closed tail (up m c s) store_log (Clear l closed tail r Ph 0)
      go true e =
          left_out (refusal_is store_log (refuses Unchanged s m c) (log_refused e))
          (runs m c s b disk u (record {
            alike = a.alike;
            phase = a.phase;
            logged = ap (blk m) (sym log_block) ∙ eq_true (blk m (log_block_at s.blocks (sequence_of s.tail))) s.tail e;
            clear = λ i h. absurd (omega arith);
            quiet = λ j h. absurd (omega arith);
          }))
      go false e =
          stored (refusal_is store_log (store_log_if None s m c) (log_done e)) (log_named e)
          (landed (Clear l closed tail r Ph 0) store_log (store_log_if None s m c) (log_done e)
          (subst (λ (x : List ℕ). Running l d closed tail (Clear l closed tail r Ph 0) (up x c (log_stored s)))
          (sym (medium_is u))
          (runs _ c (log_stored s) _ _ (log_up u) (record {
            alike = alike_then r s (log_stored s) a.alike (alike_same s (log_stored s) refl refl);
            phase = a.phase;
            logged =
                blk_same m (log_block_at l (length closed)) (log_bytes (length closed) tail)
                (tail_length closed tail u.medium) (tail_inside closed tail u.medium) ∙ sym u.state.tail_block;
            clear = λ i h. absurd (omega arith);
            quiet = λ j h. absurd (omega arith);
          }))))

  -- ---- store page

  abbrev page_equal : ℕ → Bool
  page_equal p = eq_list (blk m (page_block_at s.blocks p)) (stamped_page s (blk c p))

  module _ {r : State} {Ph : Phase → Type 0} {p : ℕ} (a : Clear l closed tail r Ph p disk m s) where
    logged_equal : log_equal ≡ true
    logged_equal = rw (log_block, a.logged) (eq_refl s.tail)

    all_stored : s.end.0 ≡ (tail_end s.tail).0
    all_stored = log_same u a.logged

    -- its questions but for the last are answered "yes"
    page_left_law : (i : ℕ) → i < d → all_yes (store_page_asks s m c i) ≡ not (page_equal i) && true
    page_left_law i h =
        rw (
          fits_up u,
          lt-ltb i s.pages (omega (arith, u.state.pages)),
          le-leb (page_end (blk c i)) s.end.0 (page_ended u all_stored i h),
        )

    -- a page that is clear does not differ
    clear_equal : (i : ℕ) → i < p → i < d → page_equal i ≡ true
    clear_equal i h g =
        ap (λ (x : ℕ). eq_list (blk m (page_block_at x i)) (stamped_page s (blk c i))) u.state.blocks
        ∙ ap (λ (x : List ℕ). eq_list x (stamped_page s (blk c i)))
        (page_still u i g (a.clear i h) (λ j w. a.quiet (15 * i + j) (omega arith)))
        ∙ eq_refl (stamped_page s (blk c i))

    clear_passed : (i : ℕ) → i < p → i < d → all_yes (store_page_asks s m c i) ≡ false
    clear_passed i h g = rw (page_left_law i g, clear_equal i h g)

    module _ (inside : p < d) where
      page_refused : page_equal p ≡ true → called m c s (store_page p) ≡ refuses Unchanged s m c
      unfolding called store_page_of store_page_if
      page_refused e =
          rw (
            fits_up u,
            lt-ltb p s.pages (omega (arith, u.state.pages)),
            le-leb (page_end (blk c p)) s.end.0 (page_ended u all_stored p inside),
            e,
          )

      page_done : page_equal p ≡ false → called m c s (store_page p) ≡ store_page_if None s m c p
      unfolding called store_page_of
      page_done e =
          rw (
            fits_up u,
            lt-ltb p s.pages (omega (arith, u.state.pages)),
            le-leb (page_end (blk c p)) s.end.0 (page_ended u all_stored p inside),
            e,
          )

      page_named : page_equal p ≡ false → next_in (up m c s) ≡ call (store_page p) ∷ []
      unfolding page_left
      page_named e =
          log_passed logged_equal
          ∙ rw (first_least (λ i. all_yes (store_page_asks s m c i)) s.pages 0 p (omega arith)
          (omega (arith, u.state.pages)) (λ i g h. clear_passed i h (omega arith)) (rw (page_left_law p inside, e)))

      abbrev stamped_cells : List Cell
      stamped_cells = (page_turned u p inside).cells

      ended : page_end (blk c p) ≤ s.end.0
      ended = page_ended u all_stored p inside

      page_block : blk m (page_block_at s.blocks p) ≡ blk m (page_block_at l p)
      page_block = ap (λ (x : ℕ). blk m (page_block_at x p)) u.state.blocks

      same_page : page_equal p ≡ true → blk m (page_block_at l p) ≡ stamped_page s (blk c p)
      same_page e = sym page_block ∙ eq_true (blk m (page_block_at s.blocks p)) (stamped_page s (blk c p)) e

      shifted : (j : ℕ) → 15 * p ≤ j → j ≡ 15 * p + (j - 15 * p)
      shifted j h = omega arith

      kept_clear : (i : ℕ) → i < p + 1 → page_equal p ≡ true → (i ≡ p) ⊎ (i ≢ p) → get_or s.first i 0 ≡ 0
      kept_clear i h e (inl z) = rw z (page_same u p inside (same_page e))
      kept_clear i h e (inr z) = a.clear i (omega arith)

      kept_quiet : (j : ℕ) → j < 15 * (p + 1) → page_equal p ≡ true → (j < 15 * p) ⊎ (15 * p ≤ j) → (n : TxNumber)
          → (cell disk.cells j).state ≡ Waiting n → (find (commits_of (closed ++ (tail ∷ []))) n.0).time ≡ 0
      kept_quiet j h e (inl z) n w = a.quiet j z n w
      kept_quiet j h e (inr z) n w =
          turned_quiet u all_stored p inside (j - 15 * p) (omega arith) n
          (sym (same_state u p inside (same_page e) (j - 15 * p) (omega arith))
          ∙ ap (λ (i : ℕ). (cell disk.cells i).state) (sym (shifted j z)) ∙ w)

      new_quiet : (j : ℕ) → j < 15 * (p + 1) → (j < 15 * p) ⊎ (15 * p ≤ j) → (n : TxNumber)
          → (cell stamped_cells j).state ≡ Waiting n → (find (commits_of (closed ++ (tail ∷ []))) n.0).time ≡ 0
      new_quiet j h (inl z) n w =
          a.quiet j z n (ap (λ (x : Cell). x.state) (sym ((page_turned u p inside).off j (omega arith))) ∙ w)
      new_quiet j h (inr z) n w =
          turned_quiet u all_stored p inside (j - 15 * p) (omega arith) n
          (ap (λ (i : ℕ). (cell stamped_cells i).state) (sym (shifted j z)) ∙ w)

      new_clear : (i : ℕ) → i < p + 1 → (i ≡ p) ⊎ (i ≢ p) → get_or (set s.first p 0) i 0 ≡ 0
      new_clear i h (inl z) =
          rw z (get_or-set_same s.first p 0 0 (omega (arith, u.firsts.size, u.medium.sizes.range.pages_high)))
      new_clear i h (inr z) = get_or-set_other s.first p i 0 0 z ∙ a.clear i (omega arith)

      pub page_turn : Turn l d closed tail (up m c s) (store_page p) (Clear l closed tail r Ph (p + 1))
      unfolding store_page_if page_stored answer_number refusal_number
      page_turn = go (page_equal p) refl
        where
          go : (t : Bool) → page_equal p ≡ t
              → Turn l d closed tail (up m c s) (store_page p) (Clear l closed tail r Ph (p + 1))
          go true e =
              left_out (refusal_is (store_page p) (refuses Unchanged s m c) (page_refused e))
              (runs m c s b disk u (record {
                alike = a.alike;
                phase = a.phase;
                logged = a.logged;
                clear =
                    λ i h. kept_clear i h e (same? i p);
                quiet = λ j h. kept_quiet j h e (split j (15 * p));
              }))
          go false e =
              stored (refusal_is (store_page p) (store_page_if None s m c p) (page_done e)) (page_named e)
              (landed (Clear l closed tail r Ph (p + 1)) (store_page p) (store_page_if None s m c p) (page_done e)
              (subst (λ (x : ℕ). Running l d closed tail (Clear l closed tail r Ph (p + 1))
              (up (put m (page_block_at x p) (stamped_page s (blk c p))) (put c p (stamped_page s (blk c p)))
              (page_stored s p (blk c p)))) (sym u.state.blocks)
              (runs _ _ (page_stored s p (blk c p)) _ _ (page_up u p inside ended) (record {
                alike =
                    alike_then r s (page_stored s p (blk c p)) a.alike
                    (alike_settled s (page_stored s p (blk c p)) (blk c p) refl refl (turned u p inside ended).kept);
                phase = a.phase;
                logged =
                    blk_other m (page_block_at l p) (stamped_page s (blk c p)) (log_block_at l (length closed))
                    (page_length u p inside ended)
                    (log_page_apart l (length closed) p (omega (arith, u.medium.sizes.range.blocks_low))) ∙ a.logged;
                clear = λ i h. new_clear i h (same? i p);
                quiet = λ j h. new_quiet j h (split j (15 * p));
              }))))

    -- ---- a checkpoint call

    check_done : (ph : Phase) → s.phase ≡ ph → called m c s checkpoint ≡ checkpoint_step ph s m c
    unfolding called checkpoint_of checkpoint_if
    check_done ph e = rw (fits_up u, e)

    -- the store of one of the first blocks leaves the log's
    logged_still : (k : ℕ) (bytes : List ℕ) → k < 3 → length bytes ≡ 512
        → blk (put m k bytes) (log_block_at l (length closed)) ≡ s.tail
    logged_still k bytes h e =
        blk_other m k bytes (log_block_at l (length closed)) e (log_not_first l (length closed) k h) ∙ a.logged

    in_phase : (disk' : Disk) → disk'.cells ≡ disk.cells → (n : List ℕ)
        → blk n (log_block_at l (length closed)) ≡ s.tail → (ph : Phase) (Qh : Phase → Type 0) → Qh ph
        → Clear l closed tail r Qh p disk' n (with_phase s ph)
    unfolding with_phase
    in_phase disk' e n g ph Qh q = record {
      alike = alike_then r s (with_phase s ph) a.alike (alike_same s (with_phase s ph) refl refl);
      phase = q;
      logged = g;
      clear = a.clear;
      quiet = λ i h y. rw e (a.quiet i h y);
    }

    checked : (P : Disk → List ℕ → State → Type 0) (ph : Phase) → s.phase ≡ ph
        → answer_number (checkpoint_step ph s m c).answer ≡ 0
        → Running l d closed tail P (after (checkpoint_step ph s m c))
        → Made l d closed tail (up m c s) checkpoint P
    checked P ph e z q =
        record {
          accepted = refusal_is checkpoint (checkpoint_step ph s m c) (check_done ph e) ∙ z;
          after =
              landed P checkpoint (checkpoint_step ph s m c) (check_done ph e) q;
        }

    pub check_second : (Qh : Phase → Type 0) (o : ℕ) (t : CommitTime) → s.phase ≡ FirstStored o t
        → Qh (SecondStored o t)
        → Made l d closed tail (up m c s) checkpoint (Clear l closed tail r Qh p)
    unfolding checkpoint_step answer_number
    check_second Qh o t e q =
        checked (Clear l closed tail r Qh p) (FirstStored o t) e refl
        (runs _ c _ b disk (second_up u o t e)
        (in_phase disk refl _ (logged_still 2 (table_block s.places o 32) (omega arith)
        (length_table_block s.places o 32)) (SecondStored o t) Qh q))

    abbrev master_of : ℕ → CommitTime → List ℕ
    master_of o t = master_bytes (record { blocks = s.blocks; pages = s.pages; oldest = o; next = s.next; last = t })

    pub check_third : (o : ℕ) (t : CommitTime) → s.phase ≡ SecondStored o t
        → Made l d closed tail (up m c s) checkpoint (Clear l closed tail r (λ ph. ph ≡ Idle) p)
    unfolding checkpoint_step answer_number
    check_third o t e =
        checked (Clear l closed tail r (λ ph. ph ≡ Idle) p) (SecondStored o t) e refl
        (runs _ c _ b _ (third_up u o t e)
        (in_phase _ refl _ (logged_still 0 (master_of o t) (omega arith) (length_master_bytes _)) Idle
        (λ ph. ph ≡ Idle) refl))

  -- ---- all pages are clear

  module _ {r : State} {Ph : Phase → Type 0} (a : Clear l closed tail r Ph d disk m s) where
    new_oldest_tail : new_oldest s ≡ sequence_of s.tail
    new_oldest_tail = oldest_tail u a.clear

    pages_passed : next_in (up m c s) ≡ named (after_log None (checkpoint_left s m))
    unfolding page_left
    pages_passed =
        log_passed (logged_equal a)
        ∙ rw (first_none (λ i. all_yes (store_page_asks s m c i)) s.pages 0
        (λ i g h. let k : i < d = omega (arith, u.state.pages) in clear_passed a i k k))

    -- what is named then, by the phase, and whether one more would leave the oldest block where it is
    abbrev by_phase : Phase → Bool → List Event
    by_phase ph same = named (after_log None (under_way ph || not same))

    -- a checkpoint while one is under way, or would make the tail the oldest block, and nothing once the tail is
    pub under_named : under_way s.phase ≡ true → next_in (up m c s) ≡ call checkpoint ∷ []
    unfolding checkpoint_left
    under_named e = pages_passed ∙ rw e

    pub idle_named : s.phase ≡ Idle → oldest_on m ≢ sequence_of s.tail → next_in (up m c s) ≡ call checkpoint ∷ []
    unfolding checkpoint_left
    idle_named e h =
        pages_passed ∙ ap (λ (ph : Phase). by_phase ph (eqb (new_oldest s) (oldest_on m))) e
        ∙ ap (by_phase Idle) (ne_eqb (new_oldest s) (oldest_on m) (λ z. h (sym z ∙ new_oldest_tail)))

    pub none_named : s.phase ≡ Idle → oldest_on m ≡ sequence_of s.tail → next_in (up m c s) ≡ []
    unfolding checkpoint_left
    none_named e h =
        pages_passed ∙ ap (λ (ph : Phase). by_phase ph (eqb (new_oldest s) (oldest_on m))) e
        ∙ ap (by_phase Idle) (eq-eqb (new_oldest s) (oldest_on m) (new_oldest_tail ∙ sym h))

    -- the first call makes the tail the new oldest block
    pub check_first : s.phase ≡ Idle → Made l d closed tail (up m c s) checkpoint
        (Clear l closed tail r (First (length closed)) d)
    unfolding checkpoint_step answer_number
    check_first i =
        let e : new_oldest s ≡ length closed = new_oldest_tail ∙ tail_sequence u in
        checked a (Clear l closed tail r (First (length closed)) d) Idle i refl
        (runs _ c _ b disk (first_up u)
        (in_phase a disk refl _ (logged_still a 1 (table_block s.places (new_oldest s) 0) (omega arith)
        (length_table_block s.places (new_oldest s) 0)) (FirstStored (new_oldest s) s.saved)
        (First (length closed))
        (s.saved, ap (λ (o : ℕ). FirstStored o s.saved) e)))

  -- the third call of one that makes the tail the oldest block
  pub check_last : (r : State) → Clear l closed tail r (Second (length closed)) d disk m s
      → Made l d closed tail (up m c s) checkpoint (Freed l d closed tail r)
  unfolding checkpoint_step answer_number with_phase
  check_last r a =
      let (t, e) = a.phase in
      checked a (Freed l d closed tail r) (SecondStored (length closed) t) e refl
      (runs _ c _ b _ (third_up u (length closed) t e) (record {
        clear =
            in_phase a _ refl _ (logged_still a 0 (master_of a (length closed) t) (omega arith) (length_master_bytes _))
            Idle (λ ph. ph ≡ Idle) refl;
        oldest = oldest_is (third_up u (length closed) t e).medium ∙ sym (tail_sequence u);
      }))
