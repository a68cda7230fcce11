-- Each call stores at most one block. A call that is not refused passed the question whether state and buffers fit, so
-- that the block it stores, a tail, a page, a table block or a master, has 512 bytes; and a block of 512 bytes is put
-- over no other.
use Rattle.layout.specs.declared.CommitTime.{CommitTime}
use Rattle.std.specs.Prelude.{Option}
use Prim.Native.Nat.{ℕ, zero, suc, ◌+◌, ◌*◌}
use native.Mathlib.Omega.{arith}
use mathlib.Core.Path.{◌≡◌, refl, ap, ◌∙◌}
use mathlib.Core.Logic.{◌≢◌}
use mathlib.Core.Bool.{Bool, true, false}
use mathlib.Core.List.{List}
use lib.ListN.{length}
use lib.Dec.{ltb}
use borrow.Author.Tests.{ltb-true}
use Rattle.fields.specs.Block.{blk, put, log_block_at, page_block_at, cache_length}
use Rattle.layout.specs.Journal.{Record, sequence_of, record_size}
use Rattle.layout.specs.Page.{page_slot}
use Rattle.layout.specs.Slot.{slot_state}
use Rattle.fields.proofs.BlockLaws.{length_put, length_blk, blk_other}
use Rattle.layout.proofs.TableLaws.{length_pairs}
use Rattle.layout.proofs.MasterLaws.{length_master_bytes}
use Rattle.store.specs.declared.Phase.{Phase}
use Rattle.store.specs.declared.Phase.TheVariants.{Idle, FirstStored, SecondStored}
use Rattle.store.specs.declared.Place.{Place}
use Rattle.store.specs.declared.State.{State}
use Rattle.store.specs.Answer.{Outcome}
use Rattle.store.specs.State.{fits}
use Rattle.store.specs.Tail.{tail_fits, stored_tail, logged, logged_if}
use Rattle.store.specs.Write.{write_step}
use Rattle.store.specs.Commit.{commit_step}
use Rattle.store.specs.StoreLog.{store_log_if}
use Rattle.store.specs.StorePage.{stamp_time, stamp_with, stamp_from, stored_pair, stamped_page, store_page_if}
use Rattle.store.specs.Checkpoint.{pairs_from, table_block, checkpoint_step}
use Rattle.store.specs.Open.{open_of}
use Rattle.runs.specs.Event.{Call, begin, write, erase, current_read, commit, abort, as_of, changes, store_log}
use Rattle.runs.specs.Event.{store_page, checkpoint}
use Rattle.runs.specs.Machine.{called}
use Rattle.runs.proofs.Asks.{Way, refused, begins, writes, erases, looks, commits, ends, aborts, logs, pages, checks}
use Rattle.runs.proofs.Asks.{way}
use Rattle.store.proofs.FitLaws.{fit_of}
use Rattle.store.proofs.LengthLaws.{length_stamp_with, length_pairs_from}
use Rattle.runs.proofs.Refusals.{open_medium}

-- ---- the medium is left alone, or block k of it is replaced

pub data Stores (m : List ℕ) (k : ℕ) : List ℕ → Type 0 where
  nothing : Stores m k m
  block : (b : List ℕ) → length b ≡ 512 → Stores m k (put m k b)

pub stores_other : {m : List ℕ} {k : ℕ} {n : List ℕ} → Stores m k n → (j : ℕ) → j ≢ k → blk n j ≡ blk m j
stores_other nothing j h = refl
stores_other {m} {k} (block b e) j h = blk_other m k b j e h

pub stores_length : {m : List ℕ} {k : ℕ} {n : List ℕ} → Stores m k n → length n ≡ length m
stores_length nothing = refl
stores_length {m} {k} (block b e) = length_put m k b

-- ---- the blocks stored have 512 bytes

length_stamp_from : (pair : ℕ → Option CommitTime) (page : List ℕ) (i k : ℕ) → length (stamp_from pair page i k) ≡ length page
unfolding stamp_from
length_stamp_from pair page i zero = refl
length_stamp_from pair page i (suc k) =
    let t = stamp_time pair (slot_state (page_slot page i)) in
    length_stamp_from pair (stamp_with t page i) (i + 1) k ∙ length_stamp_with t page i

pub length_stamped_page : (s : State) (page : List ℕ) → length (stamped_page s page) ≡ length page
unfolding stamped_page
length_stamped_page s page = length_stamp_from (stored_pair s) page 0 15

pub length_table_block : (ps : List Place) (o i : ℕ) → length (table_block ps o i) ≡ 512
unfolding table_block
length_table_block ps o i = length_pairs (pairs_from ps o i 32) ∙ ap (λ (n : ℕ). 16 * n) (length_pairs_from ps o i 32)

-- a record taken by the log: the tail is stored where the record begins the next block
pub log_stores : (s : State) (m : List ℕ) (r : Record) → length s.tail ≡ 512
    → Stores m (log_block_at s.blocks (sequence_of s.tail)) (logged s m r).medium
unfolding logged logged_if stored_tail
log_stores s m r e = go (tail_fits s.tail (record_size r))
  where
    go : (t : Bool) → Stores m (log_block_at s.blocks (sequence_of s.tail)) (logged_if t s m r).medium
    go true = nothing
    go false = block s.tail e

-- a page of a cache that fits
pub page_length : (s : State) (m : ℕ) (c : List ℕ) (p : ℕ) → fits s m (length c) ≡ true → ltb p s.pages ≡ true
    → length (blk c p) ≡ 512
unfolding cache_length
page_length s m c p f h =
    let g = fit_of s m (length c) f in
    let l = ltb-true p s.pages h in
    length_blk c p (omega arith)

-- ---- the block that a call stores, where it stores one

abbrev pub phase_block : Phase → ℕ
phase_block Idle = 1
phase_block (FirstStored o t) = 2
phase_block (SecondStored o t) = 0

abbrev pub tail_block : State → ℕ
tail_block s = log_block_at s.blocks (sequence_of s.tail)

-- 0 for a call that stores none
abbrev pub store_block : State → Call → ℕ
store_block s (begin k) = 0
store_block s (write n key v) = tail_block s
store_block s (erase n key) = tail_block s
store_block s (current_read n key) = 0
store_block s (commit n k) = tail_block s
store_block s (abort n) = 0
store_block s (as_of key t) = 0
store_block s (changes key t1 t2 b) = 0
store_block s store_log = tail_block s
store_block s (store_page p) = page_block_at s.blocks p
store_block s checkpoint = phase_block s.phase

stores_way : {m c : List ℕ} {s : State} {k : Call} {o : Outcome} → Way m c s k o → Stores m (store_block s k) o.medium
unfolding write_step commit_step store_log_if store_page_if checkpoint_step stored_tail
stores_way (refused k r w) = nothing
stores_way (begins clock i p w) = nothing
stores_way {m} {c} {s} (writes n key i v p w) = log_stores s m _ (fit_of _ _ _ p.0).tail.size
stores_way {m} {c} {s} (erases n key i p w) = log_stores s m _ (fit_of _ _ _ p.0).tail.size
stores_way (looks k a v b h p n w) = nothing
stores_way {m} {c} {s} (commits n clock i p w z) = log_stores s m _ (fit_of _ _ _ p.0).tail.size
stores_way (ends n clock i p w z) = nothing
stores_way (aborts n i p w) = nothing
stores_way {m} {c} {s} (logs p) = block s.tail (fit_of _ _ _ p.0).tail.size
stores_way {m} {c} {s} (pages n p) = block _ (length_stamped_page s (blk c n) ∙ page_length s _ c n p.0 p.1.0)
stores_way {s = s} (checks Idle p w) = rw w (block _ (length_table_block _ _ _))
stores_way {s = s} (checks (FirstStored o t) p w) = rw w (block _ (length_table_block _ _ _))
stores_way {s = s} (checks (SecondStored o t) p w) = rw w (block _ (length_master_bytes _))

-- ---- each call

pub stores : (m c : List ℕ) (s : State) (k : Call) → Stores m (store_block s k) (called m c s k).medium
stores m c s k = stores_way (way m c s k)

pub one_block : (m c : List ℕ) (s : State) (k : Call) → (b : ℕ)
    × ((j : ℕ) → j ≢ b → blk (called m c s k).medium j ≡ blk m j)
one_block m c s k = (store_block s k, stores_other (stores m c s k))

-- opening stores none
pub open_one_block : (m c : List ℕ) (l d : ℕ) → (b : ℕ) × ((j : ℕ) → j ≢ b → blk (open_of m c l d).medium j ≡ blk m j)
open_one_block m c l d = (0, λ j h. ap (λ (n : List ℕ). blk n j) (open_medium m c l d))
