-- The next call out of a full log, where state and buffers fit: to store the log if the medium does not hold the tail, else what
-- the search for a page says.
use Rattle.std.specs.Prelude.{Option, Some}
use mathlib.Core.Path.{◌≡◌, refl, sym, ◌∙◌}
use mathlib.Core.Bool.{true, false}
use mathlib.Core.List.{List}
use Prim.Native.Nat.{ℕ}
use lib.ListN.{length}
use Rattle.fields.specs.Block.{blk, log_block_at}
use Rattle.fields.specs.Equal.{eq_list}
use Rattle.layout.specs.Journal.{sequence_of}
use Rattle.store.specs.declared.Relief.TheVariants.{StoreLog}
use Rattle.store.specs.declared.State.{State}
use Rattle.store.specs.Places.{first}
use Rattle.store.specs.State.{fits}
use Rattle.store.specs.StorePage.{store_page_asks}
use Rattle.store.specs.Relief.{all_yes, page_left, checkpoint_left, after_log, relief_of}

module _ (s : State) (m c : List ℕ) (f : fits s (length m) (length c) ≡ true) where
  pub log_left : eq_list (blk m (log_block_at s.blocks (sequence_of s.tail))) s.tail ≡ false → relief_of s m c ≡ Some StoreLog
  unfolding relief_of
  log_left e = simp (f, e)

  left_is : page_left s m c ≡ first (λ p. all_yes (store_page_asks s m c p)) s.pages 0
  unfolding page_left
  left_is = refl

  -- g is what the search for a page answered
  pub log_same : eq_list (blk m (log_block_at s.blocks (sequence_of s.tail))) s.tail ≡ true
      → (g : Option ℕ) → g ≡ first (λ p. all_yes (store_page_asks s m c p)) s.pages 0
      → relief_of s m c ≡ after_log g (checkpoint_left s m)
  unfolding relief_of
  log_same e g h = let k : page_left s m c ≡ g = left_is ∙ sym h in simp (f, e, k)
