-- The blocks of a state that fits lie within its medium and its cache, and what is lent of them and laid back is the block. What a
-- store of the log or of a page leaves, where the questions before are answered.
use Rattle.std.specs.Prelude.{Ok, Err}
use mathlib.Core.Path.{◌≡◌, sym, ap, ◌∙◌}
use mathlib.Core.Bool.{Bool, true, false, not}
use mathlib.Core.List.{List, ◌++◌}
use Prim.Native.Nat.{ℕ, ◌+◌, ◌-◌, ◌*◌, ◌≤◌, ◌<◌}
use native.Mathlib.Omega.{arith}
use lib.ListN.{length, take, drop}
use borrow.Author.Tests.{lt-ltb, le-leb}
use Rattle.fields.specs.Block.{blk, put, log_block_at, page_block_at, medium_length, cache_length}
use Rattle.fields.specs.Equal.{eq_list}
use Rattle.layout.specs.Journal.{sequence_of}
use Rattle.layout.specs.Page.{page_end}
use Rattle.fields.proofs.PartLaws.{lent_part, lent_back}
use Rattle.store.specs.declared.State.{State}
use Rattle.store.specs.declared.Answer.TheVariants.{Done}
use Rattle.store.specs.declared.Refusal.TheVariants.{Unchanged}
use Rattle.store.specs.Answer.{leaves}
use Rattle.store.specs.State.{fits}
use Rattle.store.specs.StoreLog.{log_stored, store_log_if, store_log_of}
use Rattle.store.specs.Tail.{stored_tail}
use Rattle.store.specs.StorePage.{stored_pair, stamped_page, settled, page_stored, store_page_if, store_page_of}
use Rattle.store.proofs.FitLaws.{fit_of}
use Rattle.pages.specs.Stamped.{stamped_under, settled_under}
use Rattle.stores.specs.Sized.{Sized}

pub sized : (s : State) (m c : ℕ) → fits s m c ≡ true → Sized s m c
unfolding medium_length cache_length
sized s m c e =
    let f = fit_of s m c e in
    record { blocks = f.range.blocks_high; pages = f.range.pages_high; medium = f.medium; cache = f.cache }

-- page p and its block k lie within them
module _ (s : State) (m c : ℕ) (f : Sized s m c) where
  pub page_within : (p : ℕ) → p < s.pages → (p < 64) × (512 * p + 512 ≤ c)
  page_within p h = (omega (arith, f.pages), omega (arith, f.cache))

  pub block_within : (p k : ℕ) → p < s.pages → k ≡ page_block_at s.blocks p → (k < 128) × (512 * k + 512 ≤ m)
  unfolding page_block_at
  block_within p k h e = (omega (arith, f.blocks, f.pages), omega (arith, f.medium))

-- ---- storing the log; u is the state that it leaves, n the medium

pub log_done : (s u : State) (m n c : List ℕ) → fits s (length m) (length c) ≡ true
    → eq_list (blk m (log_block_at s.blocks (sequence_of s.tail))) s.tail ≡ false → u ≡ log_stored s → n ≡ stored_tail s.blocks m s.tail
    → leaves (Ok Done) u n c ≡ store_log_of s m c
unfolding store_log_of store_log_if
log_done s u m n c e q eu en = simp (e, q, eu, en)

-- ---- block k of l as it is lent

abbrev pub lent : List ℕ → ℕ → List ℕ
lent l k = take (512 * k + 512 - 512 * k) (drop (512 * k) l)

pub lent_blk : (l : List ℕ) (k : ℕ) → lent l k ≡ blk l k
unfolding blk
lent_blk l k = lent_part l (512 * k) 512

-- v left in it; e says of which length that is
pub laid_blk : (l v : List ℕ) (k : ℕ) → 512 * k + 512 ≤ length l → length v ≡ length (lent l k)
    → take (512 * k) l ++ (v ++ drop (512 * k + 512 - 512 * k) (drop (512 * k) l)) ≡ put l k v
unfolding put
laid_blk l v k h n = lent_back l v (512 * k) 512 h n

pub end_asked : (c : List ℕ) (p e : ℕ) → e ≡ page_end (lent c p) → page_end (blk c p) ≡ e
end_asked c p e w = sym (w ∙ ap page_end (lent_blk c p))

-- ---- the outcome of storing page p, where all questions but the last are answered; e is its end place, r the last answer

module _ (s : State) (m c : List ℕ) (p e : ℕ) (r : Bool) (f : fits s (length m) (length c) ≡ true) (h : p < s.pages)
    (ee : page_end (blk c p) ≡ e) (he : e ≤ s.end.0)
    (er : not (eq_list (blk m (page_block_at s.blocks p)) (stamped_page s (blk c p))) ≡ r) where
  pub page_unchanged : r ≡ false → store_page_of s m c p ≡ leaves (Err Unchanged) s m c
  unfolding store_page_of store_page_if
  page_unchanged w = simp (f, lt-ltb _ _ h, ee, le-leb _ _ he, er, w)

  pub page_done : r ≡ true
      → store_page_of s m c p
      ≡ leaves (Ok Done) (page_stored s p (blk c p)) (put m (page_block_at s.blocks p) (stamped_page s (blk c p))) (put c p (stamped_page s (blk c p)))
  unfolding store_page_of store_page_if
  page_done w = simp (f, lt-ltb _ _ h, ee, le-leb _ _ he, er, w)

-- ---- page p of the cache c, and its block k of the medium m

module _ (s : State) (m c : List ℕ) (p : ℕ) where
  pub stamped_lent : stamped_under s.places s.end.0 (lent c p) ≡ stamped_page s (blk c p)
  unfolding stamped_under stamped_page stored_pair
  stamped_lent = ap (stamped_under s.places s.end.0) (lent_blk c p)

  pub settled_lent : settled_under s.places s.end.0 (lent c p) ≡ settled s (blk c p)
  unfolding settled_under settled stored_pair
  settled_lent = ap (settled_under s.places s.end.0) (lent_blk c p)

  pub page_asked : (k : ℕ) → k ≡ page_block_at s.blocks p → (r : Bool)
      → r ≡ not (eq_list (lent m k) (stamped_under s.places s.end.0 (lent c p)))
      → r ≡ not (eq_list (blk m (page_block_at s.blocks p)) (stamped_page s (blk c p)))
  page_asked k ek r e = e ∙ rw (stamped_lent, lent_blk m k, ek)
