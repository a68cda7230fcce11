-- 01's "well formed?" as the code goes through the medium: master, log blocks, pages, redo, table, log records, slots.
-- Every item is judged once for all the conditions that concern it.
use Rattle.std.specs.Prelude.{ℕ, zero, suc, ◌+◌, ◌-◌, ◌*◌, ◌^◌, Bool, true, cond, not, ◌&&◌, List, [], ◌∷◌, ◌++◌, length, eqb, leb, ltb, Option}
use Rattle.fields.specs.Block.{blk, page_block_at}
use Rattle.layout.specs.Page.{page_form, page_end}
use Rattle.layout.specs.Journal.{Record, used_form, record_form, parsed}
use Rattle.layout.specs.Table.{table_pair}
use Rattle.layout.specs.Master.{master_of, oldest_on}
use Rattle.layout.specs.declared.item.Pair.{Pair}
use Rattle.store.specs.Places.{first, is_at}
use Rattle.store.specs.Chain.{cell_at}
use Rattle.store.specs.OpenLog.{Placed, Commitment, number_in, commit_under, next_on, block_of, read_count, read_log, log_end, next_number, last_time}
use Rattle.store.specs.OpenRedo.{Redone, redo_one, next_in_page}
use Rattle.store.specs.OpenPairs.{table_find, end_of_commitment, waiting_numbers, is_paired}
use Rattle.store.specs.OpenConditions.{sizes_are, record_fits, low_after, low_after_all, at_least_one, slot_at_least_one, once_in, same_time, full_before, slot_true, redone, copied}

-- does a test hold of the k numbers from i on?
unfoldable pub all_of : (ℕ → Bool) → ℕ → ℕ → Bool
all_of f i zero = true
all_of f i (suc k) = f i && all_of f (i + 1) k

-- a block's records, one after the other: form, slot, rising commit times
unfoldable pub records_ok : ℕ → ℕ → List Record → Bool
records_ok d low [] = true
records_ok d low (r ∷ rs) = (record_form r && record_fits d low r) && records_ok d (low_after low r) rs

-- redo with every applied version in the next slot of its page
unfoldable pub redo_ok : Redone → List Placed → Bool
redo_ok d [] = true
redo_ok d (x ∷ xs) = next_in_page x.rec d.cache x.end && redo_ok (redo_one d x) xs

-- a record of the log: its number and time, and that it is the only commit under its number
unfoldable pub record_ok : List ℕ → List Placed → Record → Bool
record_ok m seen r =
    at_least_one r && (ltb (number_in r) (2 ^ 64 - 1) && once_in r m (commit_under seen (number_in r)))

-- the same of a commit record, by the first one of the whole log under its number: it is that one
unfoldable pub commit_ok : List ℕ → Option Commitment → Pair → ℕ → Bool
commit_ok m found p e =
    (leb 1 p.number.0 && ltb p.number.0 (2 ^ 64 - 1))
    && (not (eqb p.time.0 0)
    && (same_time (table_find m p.number.0) m p.time.0 && eqb (end_of_commitment found) e))

unfoldable pub log_ok : List ℕ → List Placed → List Placed → Bool
log_ok m seen [] = true
log_ok m seen (x ∷ xs) = record_ok m seen x.rec && log_ok m (seen ++ (x ∷ [])) xs

-- a table place, with the next number and the last time; 01: "Number 0 is an empty place, with time 0"
unfoldable pub place_ok : List ℕ → ℕ → ℕ → ℕ → Bool
place_ok m next last i =
    cond (eqb (table_pair m i).number.0 0) (eqb (table_pair m i).time.0 0)
    (ltb (table_pair m i).number.0 next
    && (leb (table_pair m i).time.0 last
    && (not (eqb (table_pair m i).time.0 0)
    && not (is_at (first (λ j. eqb (table_pair m j).number.0 (table_pair m i).number.0) i 0)))))

module _ (m : List ℕ) (l d : ℕ) where
  unfoldable pub master_ok : Bool
  master_ok =
      sizes_are (master_of (blk m 0)) l d
      && (leb 1 (oldest_on m) && (ltb (oldest_on m) (2 ^ 48) && leb 1 (next_on m)))

  -- the k blocks from sequence s on
  unfoldable pub blocks_ok : ℕ → ℕ → ℕ → Bool
  blocks_ok low s zero = true
  blocks_ok low s (suc k) =
      (ltb s (2 ^ 48)
      && (used_form (block_of m l s)
      && (records_ok d low (parsed (block_of m l s)).records && (parsed (block_of m l s)).whole)))
      && blocks_ok (low_after_all low (parsed (block_of m l s)).records) (s + 1) k

  unfoldable pub page_ok : ℕ → Bool
  page_ok p = page_form (blk m (page_block_at l p)) && leb (page_end (blk m (page_block_at l p))) (log_end m l)

  -- a slot of the cache that redo leaves
  unfoldable pub slot_ok : List ℕ → ℕ → Bool
  slot_ok c n = slot_true m l d c n && slot_at_least_one (cell_at c n).state

  -- the table, the pages and the slots
  unfoldable pub table_and_slots : List ℕ → Bool
  table_and_slots c =
      all_of (place_ok m (next_number m l) (last_time m l)) 0 64
      && (all_of (full_before m l d c) 0 d && all_of (slot_ok c) 0 (15 * d))

  unfoldable pub cache_ok : List ℕ → Bool
  cache_ok c =
      log_ok m [] (read_log m l)
      && (table_and_slots c && leb (length (waiting_numbers c (is_paired m (read_log m l)) (15 * d))) 64)

  -- the master, the log blocks and the pages as they lie on the medium
  unfoldable pub medium_ok : Bool
  medium_ok = master_ok && (blocks_ok 0 (oldest_on m) (read_count m l) && all_of page_ok 0 d)

  -- the whole of it
  unfoldable pub passes : Bool
  passes = medium_ok && (redo_ok (copied m l d) (read_log m l) && cache_ok (redone m l d).cache)
