-- The lines for which the match on those that change the medium has no arm of their own change none.
use mathlib.Core.Path.{◌≡◌, refl}
use Prim.Native.Nat.{ℕ}
use Rattle.store.specs.declared.State.{State}
use Rattle.script.specs.declared.call.Call.{Call}
use Rattle.script.specs.declared.call.Call.TheVariants.{Format, Open, OpenSized, Cut, Begin, Write, Erase, Read, Commit}
use Rattle.script.specs.declared.call.Call.TheVariants.{Abort, Hand, AsOf, Changes, StoreLog, StorePage, Checkpoint}
use Rattle.script.specs.declared.call.Call.TheVariants.{Block, Page, Poke, Other}
use Rattle.disk.specs.Block.{block_of}

pub block_rest : (s : State) (k : Call) → ((a b : ℕ) → k ≡ Write a b → ⊥) → ((a b : ℕ) → k ≡ Erase a b → ⊥)
    → ((a b : ℕ) → k ≡ Commit a b → ⊥) → ((a b c d e : ℕ) → k ≡ Hand a b c d e → ⊥) → (k ≡ StoreLog → ⊥)
    → ((a : ℕ) → k ≡ StorePage a → ⊥) → (k ≡ Checkpoint → ⊥) → ((a b : ℕ) → k ≡ Poke a b → ⊥) → 0 ≡ block_of s k
unfolding block_of
block_rest s (Format l d) x y z u w f g h = refl
block_rest s (Open byte) x y z u w f g h = refl
block_rest s (OpenSized bytes) x y z u w f g h = refl
block_rest s Cut x y z u w f g h = refl
block_rest s (Begin clock) x y z u w f g h = refl
block_rest s (Write number key) x y z u w f g h = absurd (x number key refl)
block_rest s (Erase number key) x y z u w f g h = absurd (y number key refl)
block_rest s (Read number key) x y z u w f g h = refl
block_rest s (Commit number clock) x y z u w f g h = absurd (z number clock refl)
block_rest s (Abort number) x y z u w f g h = refl
block_rest s (Hand flight from to began ended) x y z u w f g h = absurd (u flight from to began ended refl)
block_rest s (AsOf key time) x y z u w f g h = refl
block_rest s (Changes key t1 t2 bytes) x y z u w f g h = refl
block_rest s StoreLog x y z u w f g h = absurd (w refl)
block_rest s (StorePage page) x y z u w f g h = absurd (f page refl)
block_rest s Checkpoint x y z u w f g h = absurd (g refl)
block_rest s (Block block) x y z u w f g h = refl
block_rest s (Page page) x y z u w f g h = refl
block_rest s (Poke offset byte) x y z u w f g h = absurd (h offset byte refl)
block_rest s Other x y z u w f g h = refl
