-- Open.
use Rattle.std.specs.Prelude.{ℕ, ◌*◌, Bool, cond, ◌&&◌, List, [], ◌∷◌, length, eqb, Option, None, Some, Ok}
use Rattle.fields.specs.Block.{zeros, medium_length, cache_length}
use Rattle.store.specs.declared.Phase.TheVariants.{Idle}
use Rattle.store.specs.declared.Refusal.{Refusal}
use Rattle.store.specs.declared.Refusal.TheVariants.{BadSizes, BadCache, Malformed}
use Rattle.store.specs.declared.Answer.TheVariants.{Opened}
use Rattle.store.specs.declared.State.{State}
use Rattle.store.specs.Answer.{Outcome, refusal_number, leaves, refuses, ask}
use Rattle.store.specs.State.{in_range, no_state}
use Rattle.store.specs.OpenLog.{read_log, read_tail, log_end, next_number, last_time}
use Rattle.store.specs.OpenRedo.{used_in}
use Rattle.store.specs.OpenPairs.{open_places}
use Rattle.store.specs.OpenConditions.{well_formed, redone}

-- 01: "L, D (the caller's) in range, medium length right? 1", "cache length right? 2", "well formed? 3"
abbrev pub open_asks : List ℕ → List ℕ → ℕ → ℕ → List (Bool × Refusal)
open_asks m c l d =
    (in_range l d && eqb (length m) (medium_length l d), BadSizes)
    ∷ (eqb (length c) (cache_length d), BadCache)
    ∷ (well_formed m l d, Malformed)
    ∷ []

-- 01: "It copies the pages, reads the log", "after opening, the search begins at 0": the state of an opened medium
unfoldable pub opened_state : List ℕ → ℕ → ℕ → State
opened_state m l d = record {
  blocks = l;
  pages = d;
  slots = used_in (redone m l d).cache d;
  next = record { 0 = next_number m l };
  last = record { 0 = last_time m l };
  saved = record { 0 = last_time m l };
  end = record { 0 = log_end m l };
  tail = read_tail m l;
  places = open_places m (read_log m l) (redone m l d).cache (15 * d);
  ring = 0;
  first = (redone m l d).first;
  phase = Idle;
}

-- 01: "3 (the cache is then all zeros)"; any other refusal leaves it
unfoldable pub refused_cache : Refusal → List ℕ → List ℕ
refused_cache r c = cond (eqb (refusal_number r) 3) (zeros (length c)) c

-- 01: "Opening stores nothing", "opening answers the last time"
unfoldable pub open_if : Option Refusal → List ℕ → List ℕ → ℕ → ℕ → Outcome
open_if (Some r) m c l d = refuses r no_state m (refused_cache r c)
open_if None m c l d =
    leaves (Ok (Opened (record { 0 = last_time m l }))) (opened_state m l d) m (redone m l d).cache

-- 01: "In this order, those that fit the call": opening's outcome, its first "no" or the opened store
unfoldable pub open_of : List ℕ → List ℕ → ℕ → ℕ → Outcome
open_of m c l d = open_if (ask (open_asks m c l d)) m c l d
