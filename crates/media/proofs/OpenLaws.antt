-- What open leaves, by the question that refuses it or by what the survey found. By the definition of the call; assumes nothing.
use Rattle.std.specs.Prelude.{Err, Ok}
use mathlib.Core.Path.{◌≡◌, sym, ◌∙◌}
use mathlib.Core.Bool.{Bool, true, false, ◌&&◌}
use Prim.Native.Nat.{ℕ, ◌*◌}
use mathlib.Core.List.{List}
use lib.ListN.{length}
use lib.Dec.{eqb}
use borrow.Author.Tests.{eqb-true, eq-eqb, ne_eqb}
use Rattle.fields.specs.Block.{zeros, medium_length, cache_length}
use Rattle.fields.proofs.Choose.{and_0, and_1}
use Rattle.store.specs.declared.Answer.TheVariants.{Opened}
use Rattle.store.specs.declared.Refusal.{Refusal}
use Rattle.store.specs.declared.Refusal.TheVariants.{BadSizes, BadCache, Malformed}
use Rattle.store.specs.declared.State.{State}
use Rattle.store.specs.Answer.{refusal_number, leaves, refuses}
use Rattle.store.specs.State.{in_range, no_state}
use Rattle.store.specs.OpenLog.{last_time}
use Rattle.store.specs.OpenConditions.{well_formed, redone}
use Rattle.store.specs.Open.{opened_state, refused_cache, open_if, open_of}
use Rattle.store.proofs.FitLaws.{InRange, range_of}
use Rattle.conditions.specs.Cursor.{Ready}

-- a refusal leaves no state
pub refused_is : (m c : List ℕ) (s : State) (why : Refusal) → s ≡ no_state → leaves (Err why) s m c ≡ refuses why no_state m c
refused_is m c s why e = rw e

-- t is what was found of the sizes
module _ (m c : List ℕ) (l d : ℕ) (t : Bool) (sizes : t ≡ in_range l d && eqb (length m) (medium_length l d)) where
  pub bad_sizes : t ≡ false → refuses BadSizes no_state m c ≡ open_of m c l d
  unfolding open_of open_if refused_cache refusal_number
  bad_sizes e = sym (rw (← sizes, e))

  module _ (right : t ≡ true) where
    sized : in_range l d && eqb (length m) (medium_length l d) ≡ true
    sized = sym sizes ∙ right

    pub range : InRange l d
    range = range_of l d (and_0 (in_range l d) (eqb (length m) (medium_length l d)) sized)

    pub medium_is : length m ≡ medium_length l d
    medium_is = eqb-true (length m) (medium_length l d) (and_1 (in_range l d) (eqb (length m) (medium_length l d)) sized)

    pub ready : Ready l (length m)
    ready = record { low = range.blocks_low; high = range.blocks_high; pages = d; few = range.pages_high; medium = medium_is }

    pub bad_cache : (length c ≡ cache_length d → ⊥) → refuses BadCache no_state m c ≡ open_of m c l d
    unfolding open_of open_if refused_cache refusal_number
    bad_cache n = sym (rw (sized, ne_eqb (length c) (cache_length d) n))

    module _ (fits : length c ≡ cache_length d) where
      pub cache_is : length c ≡ 512 * d
      unfolding cache_length
      cache_is = fits

      pub bad_medium : well_formed m l d ≡ false → (z : List ℕ) → z ≡ zeros (length c) → refuses Malformed no_state m z ≡ open_of m c l d
      unfolding open_of open_if refused_cache refusal_number
      bad_medium w z e = sym (rw (sized, eq-eqb (length c) (cache_length d) fits, w, e))

      pub opens : well_formed m l d ≡ true → (s : State) (last : ℕ) (k : List ℕ) → s ≡ opened_state m l d → last ≡ last_time m l → k ≡ (redone m l d).cache
          → leaves (Ok (Opened (record { 0 = last }))) s m k ≡ open_of m c l d
      unfolding open_of open_if
      opens w s last k e f g = sym (rw (sized, eq-eqb (length c) (cache_length d) fits, w, e, f, g))
