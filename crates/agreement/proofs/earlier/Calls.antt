-- Every event but a write or an erase keeps the blocks before the pages, and the tail, free of tag 3. A call stores
-- nothing, or the tail, a page, a block of pairs or a master; the tail of an opening is a block of the log, or empty.
use Rattle.std.specs.Prelude.{Option}
use Prim.Native.Nat.{ℕ, zero, suc, ◌+◌, ◌-◌, ◌^◌, ◌<◌}
use native.Mathlib.Omega.{arith}
use mathlib.Core.Bool.{true, false, false≢true}
use mathlib.Core.List.{List}
use mathlib.Core.Path.{◌≡◌, refl, sym, ◌∙◌}
use lib.Dec.{ltb}
use borrow.Author.Tests.{ltb-true}
use Rattle.fields.specs.Block.{blk, page_block_at}
use Rattle.fields.proofs.Choose.{and_1}
use Rattle.fields.proofs.CellLaws.{bytes_zeros}
use Rattle.layout.specs.Journal.{Record}
use Rattle.layout.specs.Master.{oldest_on}
use Rattle.layout.proofs.MasterLaws.{length_master_bytes, bytes_master_bytes}
use Rattle.layout.proofs.PlaceLaws.{page_block_low}
use Rattle.layout.proofs.TableLaws.{bytes_pairs}
use Rattle.store.specs.declared.Phase.{Phase}
use Rattle.store.specs.declared.Phase.TheVariants.{Idle, FirstStored, SecondStored}
use Rattle.store.specs.declared.Refusal.{Refusal}
use Rattle.store.specs.declared.State.{State}
use Rattle.store.specs.Answer.{Outcome}
use Rattle.store.specs.State.{in_range, with_place, with_phase}
use Rattle.store.specs.Begin.{begun}
use Rattle.store.specs.Commit.{commit_step, committed}
use Rattle.store.specs.StoreLog.{store_log_if, log_stored}
use Rattle.store.specs.StorePage.{store_page_if, page_stored}
use Rattle.store.specs.Checkpoint.{pairs_from, table_block, checkpoint_step}
use Rattle.store.specs.Open.{open_asks, open_if, open_of, opened_state}
use Rattle.store.specs.OpenLog.{read_count, tail_after, read_tail}
use Rattle.store.specs.Format.{fresh_medium}
use Rattle.runs.specs.Event.{Call, call_typed}
use Rattle.runs.specs.Book.{Book}
use Rattle.runs.specs.Machine.{World, up, down, medium_of, opens}
use Rattle.runs.proofs.Asks.{Way, refused, begins, writes, erases, looks, commits, ends, aborts, logs, pages, checks}
use Rattle.runs.proofs.Asks.{asked}
use Rattle.runs.proofs.EarlierCalls.{is_adding}
use Rattle.runs.proofs.OneBlock.{length_stamped_page, length_table_block, page_length}
use Rattle.agreement.proofs.history.Ghost.{Disk}
use Rattle.agreement.proofs.invariant.Invariant.{Up}
use Rattle.agreement.proofs.transactions.Commit.{taken}
use Rattle.agreement.proofs.Start.{master_block, rest_zeros}
use Rattle.agreement.proofs.earlier.Blocks.{ShortBlock, KeptBlock, Kept, kept_put, short_empty, short_zeros, kept_tail}
use Rattle.agreement.proofs.earlier.Blocks.{kept_logged}
use Rattle.agreement.proofs.earlier.Old.{short_block}

-- ---- a world

-- the tail of a running store
abbrev pub ShortTail : World → Type 0
ShortTail (down m) = Unit {0}
ShortTail (up m c s) = ShortBlock s.tail

abbrev pub KeptWorld : ℕ → World → Type 0
KeptWorld l w = Kept l (medium_of w) × ShortTail w

-- ---- a call

module _ {l d : ℕ} {m c : List ℕ} {s : State} {b : Book} {disk : Disk} {closed : List (List Record)}
    {tail : List Record} (u : Up l d m c s b disk closed tail)
    (kept : Kept l m) (old : ShortBlock s.tail) where
  abbrev Leaves : Outcome → Type 0
  Leaves o = Kept l o.medium × ShortBlock o.state.tail

  table_kept : (k o i : ℕ) → k < 3 → KeptBlock k (table_block s.places o i)
  unfolding table_block
  table_kept k o i h = record { bytes = bytes_pairs (pairs_from s.places o i 32); short = λ z. absurd (omega arith) }

  checked : (ph : Phase) → Leaves (checkpoint_step ph s m c)
  unfolding checkpoint_step with_phase
  checked Idle = (
    kept_put l d m 1 _ u.medium.sizes.size (length_table_block _ _ _)
        (λ h. table_kept 1 _ 0 (omega arith)) kept,
    old,
  )
  checked (FirstStored o t) = (
    kept_put l d m 2 _ u.medium.sizes.size (length_table_block _ _ _)
        (λ h. table_kept 2 o 32 (omega arith)) kept,
    old,
  )
  checked (SecondStored o t) = (
    kept_put l d m 0 _ u.medium.sizes.size (length_master_bytes _)
        (λ h. record { bytes = bytes_master_bytes _; short = λ z. absurd (omega arith) }) kept,
    old,
  )

  pub by_way : {x : Call} {o : Outcome} → is_adding x ≡ false → call_typed x ≡ true → Way m c s x o → Leaves o
  unfolding call_typed begun commit_step committed with_place store_log_if log_stored store_page_if page_stored
  by_way q t (refused x r w) = (kept, old)
  by_way q t (begins clock i p w) = (kept, old)
  by_way q t (writes n key i v p w) = absurd (false≢true (sym q))
  by_way q t (erases n key i p w) = absurd (false≢true (sym q))
  by_way q t (looks x a v y r p n w) = (kept, old)
  by_way q t (commits n clock i p w z) =
      let a : ltb s.last.0 (2 ^ 64 - 1) ≡ true = rw (w, z) at p.1.1.0 in
      let r = taken u n clock i (ltb-true clock (2 ^ 64) (and_1 (ltb n (2 ^ 64)) (ltb clock (2 ^ 64)) t)) w
      (ltb-true s.last.0 (2 ^ 64 - 1) a) in
      kept_logged u _ r.sized refl old kept
  by_way q t (ends n clock i p w z) = (kept, old)
  by_way q t (aborts n i p w) = (kept, old)
  by_way q t (logs p) = (kept_tail u old kept, old)
  by_way q t (pages n p) = (
    kept_put l d m (page_block_at s.blocks n) _ u.medium.sizes.size
        (length_stamped_page s (blk c n) ∙ page_length s _ c n p.0 p.1.0)
        (λ h. absurd (omega (arith, page_block_low s.blocks n, u.state.blocks))) kept,
    old,
  )
  by_way q t (checks ph p w) = checked ph

-- ---- an opening

tail_short : (m : List ℕ) (l : ℕ) → 0 < l → Kept l m → ShortBlock (read_tail m l)
unfolding read_tail
tail_short m l h kept = go (read_count m l)
  where
    go : (k : ℕ) → ShortBlock (tail_after m l k)
    go zero = short_empty (oldest_on m)
    go (suc k) = short_block m l h kept (oldest_on m + k)

pub kept_opening : (l d : ℕ) (w : World) (y : List ℕ) → 0 < l → KeptWorld l w
    → KeptWorld l (opens l d w (open_of (medium_of w) y l d)).world
unfolding opens open_of
kept_opening l d w y h k =
    asked (λ (a : Option Refusal). KeptWorld l (opens l d w (open_if a (medium_of w) y l d)).world)
    (open_asks (medium_of w) y l d)
    (λ r e. unfold open_if opens in k)
    (λ p. unfold open_if opens opened_state in (k.0, tail_short (medium_of w) l h k.0))

-- ---- the formatted medium

pub kept_start : (l d : ℕ) → in_range l d ≡ true → Kept l (fresh_medium l d)
kept_start l d r zero h =
    rw (master_block l d r) (record { bytes = bytes_master_bytes _; short = λ z. absurd (omega arith) })
kept_start l d r (suc k) h =
    rw (rest_zeros l d r (suc k) (omega arith) (omega arith))
    (record { bytes = bytes_zeros 512; short = λ z. short_zeros })
