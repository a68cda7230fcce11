-- What calls leave alone, for every state, medium and cache. Each claim is read off from the ways in which a call ends:
-- a refusal leaves all as it was, and the steps of begin, abort, reads and lists write neither medium nor cache.
use Rattle.std.specs.Prelude.{Option, Some, Err, Ok}
use Prim.Native.Nat.{ℕ}
use native.Mathlib.Omega.{arith}
use mathlib.Core.Path.{◌≡◌, refl, ◌∙◌}
use mathlib.Core.Logic.{◌≢◌}
use mathlib.Core.Bool.{Bool, true, false, ◌&&◌, false≢true}
use mathlib.Core.List.{List, [], ◌∷◌}
use lib.ListN.{length}
use lib.Dec.{eqb}
use Rattle.fields.specs.Block.{zeros, medium_length, cache_length}
use Rattle.store.specs.declared.Answer.TheVariants.{Opened}
use Rattle.store.specs.declared.Phase.TheVariants.{Idle, FirstStored, SecondStored}
use Rattle.store.specs.declared.Refusal.{Refusal}
use Rattle.store.specs.declared.Refusal.TheVariants.{BadSizes, BadCache, Malformed}
use Rattle.store.specs.declared.State.{State}
use Rattle.store.specs.Answer.{Outcome, leaves, refuses, ask, refusal_number}
use Rattle.store.specs.State.{in_range, no_state}
use Rattle.store.specs.Write.{write_step}
use Rattle.store.specs.Commit.{commit_step}
use Rattle.store.specs.StoreLog.{store_log_if}
use Rattle.store.specs.StorePage.{store_page_if}
use Rattle.store.specs.Checkpoint.{checkpoint_step}
use Rattle.store.specs.Open.{open_asks, opened_state, refused_cache, open_if, open_of}
use Rattle.store.specs.OpenLog.{last_time}
use Rattle.store.specs.OpenConditions.{well_formed, redone}
use Rattle.store.specs.Format.{format_asks, format_if, format_of}
use Rattle.runs.specs.Event.{Call, begin, write, erase, current_read, commit, abort, as_of, changes, store_log}
use Rattle.runs.specs.Event.{store_page, checkpoint}
use Rattle.runs.specs.Machine.{called}
use Rattle.store.proofs.AskLaws.{Passed, passes}
use Rattle.runs.proofs.Asks.{asked, is_refused, not_refused, asks, given, is_reading, Way, refused, begins, writes}
use Rattle.runs.proofs.Asks.{erases, looks, commits, ends, aborts, logs, pages, checks, way}

-- ---- a refused call

-- state, medium, cache and answer buffer as they were given, and zeros beside the refusal
pub record Untouched (m c b : List ℕ) (s : State) (o : Outcome) : Type 0 where
  pub state : o.state ≡ s
  pub medium : o.medium ≡ m
  pub cache : o.cache ≡ c
  pub buffer : o.buffer ≡ b
  pub value : o.value ≡ zeros 16

-- refused by the first "no", or all questions passed
data Ended (m c : List ℕ) (s : State) (k : Call) (o : Outcome) : Type 0 where
  by_no : (r : Refusal) → ask (asks m c s k) ≡ Some r → o.answer ≡ Err r → Untouched m c (given k) s o
      → Ended m c s k o
  by_step : Passed (asks m c s k) → is_refused o.answer ≡ false → Ended m c s k o

ended : {m c : List ℕ} {s : State} {k : Call} {o : Outcome} → Way m c s k o → Ended m c s k o
unfolding write_step commit_step store_log_if store_page_if checkpoint_step
ended (refused k r w) =
    by_no r w refl (record { state = refl; medium = refl; cache = refl; buffer = refl; value = refl })
ended (begins clock i p w) = by_step p refl
ended (writes n key i v p w) = by_step p refl
ended (erases n key i p w) = by_step p refl
ended (looks k a v b h p n w) = by_step p n
ended (commits n clock i p w z) = by_step p refl
ended (ends n clock i p w z) = by_step p refl
ended (aborts n i p w) = by_step p refl
ended (logs p) = by_step p refl
ended (pages n p) = by_step p refl
ended (checks Idle p w) = by_step p refl
ended (checks (FirstStored n t) p w) = by_step p refl
ended (checks (SecondStored n t) p w) = by_step p refl

module _ (m c : List ℕ) (s : State) (k : Call) (r : Refusal) where
  -- 01: "on "no", this number with zeros, all buffers unchanged"
  pub refusal_leaves : (called m c s k).answer ≡ Err r → Untouched m c (given k) s (called m c s k)
  refusal_leaves e = go (ended (way m c s k))
    where
      go : Ended m c s k (called m c s k) → Untouched m c (given k) s (called m c s k)
      go (by_no q w a u) = u
      go (by_step p n) = not_refused n e

  -- a call is refused by the first "no" of its questions
  pub refusal_asked : (called m c s k).answer ≡ Err r → ask (asks m c s k) ≡ Some r
  refusal_asked e = go (ended (way m c s k))
    where
      go : Ended m c s k (called m c s k) → ask (asks m c s k) ≡ Some r
      go (by_no q w a u) = let h : q ≡ r = cc in rw h at w
      go (by_step p n) = not_refused n e

  -- and whenever there is one
  pub asked_refused : ask (asks m c s k) ≡ Some r → (called m c s k).answer ≡ Err r
  asked_refused e = go (ended (way m c s k))
    where
      go : Ended m c s k (called m c s k) → (called m c s k).answer ≡ Err r
      go (by_no q w a u) = let h : q ≡ r = cc in rw h at a
      go (by_step p n) = let h = passes (asks m c s k) p in let z : ◌≡◌ {A = ℕ} 0 1 = cc in absurd (omega arith)

-- ---- calls that leave medium and cache alone, whatever they answer

-- the call stores nothing and leaves the cache alone
abbrev pub is_quiet : Call → Bool
is_quiet (begin k) = true
is_quiet (write n key v) = false
is_quiet (erase n key) = false
is_quiet (current_read n key) = true
is_quiet (commit n k) = false
is_quiet (abort n) = true
is_quiet (as_of key t) = true
is_quiet (changes key t1 t2 b) = true
is_quiet store_log = false
is_quiet (store_page p) = false
is_quiet checkpoint = false

pub record Spared (m c : List ℕ) (o : Outcome) : Type 0 where
  pub medium : o.medium ≡ m
  pub cache : o.cache ≡ c

spared : {m c : List ℕ} {s : State} {k : Call} {o : Outcome} → Way m c s k o → is_quiet k ≡ true → Spared m c o
spared (refused k r w) q = record { medium = refl; cache = refl }
spared (begins clock i p w) q = record { medium = refl; cache = refl }
spared (writes n key i v p w) q = absurd (false≢true q)
spared (erases n key i p w) q = absurd (false≢true q)
spared (looks k a v b h p n w) q = record { medium = refl; cache = refl }
spared (commits n clock i p w z) q = absurd (false≢true q)
spared (ends n clock i p w z) q = absurd (false≢true q)
spared (aborts n i p w) q = record { medium = refl; cache = refl }
spared (logs p) q = absurd (false≢true q)
spared (pages n p) q = absurd (false≢true q)
spared (checks ph p w) q = absurd (false≢true q)

-- begin, abort, reads and lists
pub quiet_leaves : (m c : List ℕ) (s : State) (k : Call) → is_quiet k ≡ true → Spared m c (called m c s k)
quiet_leaves m c s k q = spared (way m c s k) q

reading : {m c : List ℕ} {s : State} {k : Call} {o : Outcome} → Way m c s k o → is_reading k ≡ true → o.state ≡ s
reading (refused k r w) q = refl
reading (begins clock i p w) q = absurd (false≢true q)
reading (writes n key i v p w) q = absurd (false≢true q)
reading (erases n key i p w) q = absurd (false≢true q)
reading (looks k a v b h p n w) q = refl
reading (commits n clock i p w z) q = absurd (false≢true q)
reading (ends n clock i p w z) q = absurd (false≢true q)
reading (aborts n i p w) q = absurd (false≢true q)
reading (logs p) q = absurd (false≢true q)
reading (pages n p) q = absurd (false≢true q)
reading (checks ph p w) q = absurd (false≢true q)

-- reads and lists leave the state alone as well
pub reading_leaves : (m c : List ℕ) (s : State) (k : Call) → is_reading k ≡ true → (called m c s k).state ≡ s
reading_leaves m c s k q = reading (way m c s k) q

-- ---- opening

-- it ends in one of four ways
pub data Opening (m c : List ℕ) (l d : ℕ) : Outcome → Type 0 where
  bad_sizes : Opening m c l d (refuses BadSizes no_state m c)
  bad_cache : Opening m c l d (refuses BadCache no_state m c)
  malformed : Opening m c l d (refuses Malformed no_state m (zeros (length c)))
  opened : Passed (open_asks m c l d)
      → Opening m c l d (leaves (Ok (Opened (record { 0 = last_time m l }))) (opened_state m l d) m (redone m l d).cache)

pub opening_way : (m c : List ℕ) (l d : ℕ) → Opening m c l d (open_of m c l d)
unfolding open_of open_if refused_cache refusal_number
opening_way m c l d =
    go (in_range l d && eqb (length m) (medium_length l d)) (eqb (length c) (cache_length d)) (well_formed m l d)
    (λ x y z. (x, (y, (z, tt))))
  where
    go : (x y z : Bool) → (x ≡ true → y ≡ true → z ≡ true → Passed (open_asks m c l d))
        → Opening m c l d (open_if (ask ((x, BadSizes) ∷ (y, BadCache) ∷ (z, Malformed) ∷ [])) m c l d)
    go false y z p = bad_sizes
    go true false z p = bad_cache
    go true true false p = malformed
    go true true true p = opened (p refl refl refl)

-- what a refused opening leaves: 01: "3 (the cache is then all zeros)"
pub record Unopened (m c : List ℕ) (r : Refusal) (o : Outcome) : Type 0 where
  pub state : o.state ≡ no_state
  pub medium : o.medium ≡ m
  pub cache : r ≢ Malformed → o.cache ≡ c
  pub cleared : r ≡ Malformed → o.cache ≡ zeros (length c)
  pub buffer : o.buffer ≡ []
  pub value : o.value ≡ zeros 16

pub open_refusal_leaves : (m c : List ℕ) (l d : ℕ) (r : Refusal) → (open_of m c l d).answer ≡ Err r
    → Unopened m c r (open_of m c l d)
open_refusal_leaves m c l d r e = go (opening_way m c l d) e
  where
    early : (q : Refusal) → q ≢ Malformed → q ≡ r → Unopened m c r (refuses q no_state m c)
    early q n h = record {
      state = refl;
      medium = refl;
      cache = λ k. refl;
      cleared = λ k. absurd (n (h ∙ k));
      buffer = refl;
      value = refl;
    }

    go : {o : Outcome} → Opening m c l d o → o.answer ≡ Err r → Unopened m c r o
    go bad_sizes e = early BadSizes (λ k. let z : ◌≡◌ {A = ℕ} 0 1 = cc in omega arith) (cc)
    go bad_cache e = early BadCache (λ k. let z : ◌≡◌ {A = ℕ} 0 1 = cc in omega arith) (cc)
    go malformed e = record {
      state = refl;
      medium = refl;
      cache = λ n. let h : r ≡ Malformed = cc in absurd (n h);
      cleared = λ h. refl;
      buffer = refl;
      value = refl;
    }
    go (opened p) e = not_refused refl e

-- 01: "Opening stores nothing", whatever it answers
pub open_medium : (m c : List ℕ) (l d : ℕ) → (open_of m c l d).medium ≡ m
open_medium m c l d = go (opening_way m c l d)
  where
    go : {o : Outcome} → Opening m c l d o → o.medium ≡ m
    go bad_sizes = refl
    go bad_cache = refl
    go malformed = refl
    go (opened p) = refl

-- ---- formatting

pub format_refusal_leaves : (m : List ℕ) (l d : ℕ) (r : Refusal) → (format_of m l d).answer ≡ Err r
    → (format_of m l d).medium ≡ m
unfolding format_of format_if
format_refusal_leaves m l d r =
    asked (λ (a : Option Refusal). (format_if a m l d).answer ≡ Err r → (format_if a m l d).medium ≡ m)
    (format_asks m l d) (λ q w e. refl) (λ p e. not_refused refl e)
