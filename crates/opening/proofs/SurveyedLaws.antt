-- What a survey finds: each finding is one part of "well formed", and where all of them are in order, they give the opened
-- state. By the definitions; assumes nothing.
use mathlib.Core.Path.{◌≡◌, sym, ap, ◌∙◌}
use mathlib.Core.Bool.{Bool, true, false, ◌&&◌}
use Prim.Native.Nat.{ℕ, ◌*◌, ◌≤◌, ◌<◌, ◌^◌, max}
use native.Mathlib.Omega.{arith}
use mathlib.Core.List.{List, []}
use lib.ListN.{length}
use lib.Dec.{leb}
use Rattle.fields.specs.Field.{dec}
use Rattle.fields.specs.Part.{part}
use Rattle.fields.specs.Block.{medium_length}
use Rattle.layout.specs.Master.{oldest_on}
use Rattle.fields.proofs.Choose.{and_0, and_1}
use Rattle.fields.proofs.FieldLaws.{Bytes}
use Rattle.store.specs.declared.Phase.TheVariants.{Idle}
use Rattle.store.specs.declared.Place.{Place}
use Rattle.store.specs.OpenLog.{next_on, time_on, above_all, latest, read_count, read_log, read_tail, next_number, last_time}
use Rattle.store.specs.OpenRedo.{Redone, pages_on, untouched, redo, used_in}
use Rattle.store.specs.OpenPairs.{waiting_numbers, is_paired, open_places}
use Rattle.store.specs.Open.{opened_state}
use Rattle.store.specs.OpenConditions.{copied, redone, well_formed}
use Rattle.conditions.specs.declared.cursor.Cursor.{Cursor}
use Rattle.conditions.specs.declared.log.Commit.{Commit}
use Rattle.conditions.specs.Cursor.{Valid, rest_of}
use Rattle.conditions.specs.Lookup.{commits_of, Extent, Known, KeysBelow, slots_below}
use Rattle.conditions.specs.Passes.{all_of, page_ok, redo_ok, log_ok, master_ok, blocks_ok, table_and_slots, cache_ok, medium_ok, passes}
use Rattle.conditions.proofs.BlockPasses.{blocks_slots}
use Rattle.conditions.proofs.KeyLaws.{keys_redone}
use Rattle.conditions.proofs.CursorLaws.{rest_block, matching_low}
use Rattle.conditions.proofs.FormedLaws.{formed}
use Rattle.opening.specs.Surveyed.{ReadGood, Applied}
use Rattle.opening.proofs.SurveyLaws.{oldest_low}

-- a medium that is not in form
pub not_read : (m : List ℕ) (l d : ℕ) → medium_ok m l d ≡ false → false ≡ well_formed m l d
unfolding passes
not_read m l d e = sym (formed m l d ∙ rw e)

-- ---- the log that was read

module _ (m : List ℕ) (l d : ℕ) (log : Cursor) (end : ℕ) (good : ReadGood m l d log end) where
  master_good : master_ok m l d ≡ true
  unfolding medium_ok
  master_good = and_0 (master_ok m l d) (blocks_ok m l d 0 (oldest_on m) (read_count m l) && all_of (page_ok m l d) 0 d) good.ok

  blocks_good : blocks_ok m l d 0 (oldest_on m) (read_count m l) ≡ true
  unfolding medium_ok
  blocks_good =
      let a = blocks_ok m l d 0 (oldest_on m) (read_count m l) in
      let b = all_of (page_ok m l d) 0 d in
      and_0 a b (and_1 (master_ok m l d) (a && b) good.ok)

  pub read_rest : rest_of m l log ≡ read_log m l
  unfolding rest_of read_log
  read_rest = rw (good.sequence, good.at, good.left) (rest_block m l (oldest_on m) (read_count m l))

  pub read_valid : l ≤ 32 → Valid log
  unfolding read_count
  read_valid h =
      let s : log.sequence < 2 ^ 48 = rw good.sequence (oldest_low m l d master_good) in
      let k : log.left ≤ l = rw good.left (matching_low m l (oldest_on m) l) in
      let a : log.at ≡ 10 = good.at in
      record { from = omega arith; up_to = omega arith; blocks = omega arith; below = omega arith }

  pub read_slots : slots_below d (rest_of m l log) ≡ true
  unfolding read_log
  read_slots = rw read_rest (blocks_slots m l d 0 (oldest_on m) (read_count m l) blocks_good)

  -- redo, from the cache `before` to the cache c, and from no first changes to those of `first`
  module _ (before c fresh first : List ℕ) (pages : before ≡ pages_on m l d) (none : fresh ≡ untouched) (ok : Bool)
      (run : (ok ≡ redo_ok (record { cache = before; first = fresh }) (rest_of m l log))
      × (ok ≡ true → record { cache = c; first = first } ≡ redo (record { cache = before; first = fresh }) (rest_of m l log))) where
    redo_is : redo_ok (copied m l d) (read_log m l) ≡ ok
    unfolding copied
    redo_is = sym (rw (pages, none, read_rest) at run.0)

    pub not_redone : ok ≡ false → false ≡ well_formed m l d
    unfolding passes
    not_redone e = sym (formed m l d ∙ rw (good.ok, redo_is, e))

    redone_is : ok ≡ true → record { cache = c; first = first } ≡ redone m l d
    unfolding redone copied
    redone_is e = rw (pages, none, read_rest) at (run.1 e)

    pub applied : ok ≡ true → Applied m l d log end c first
    applied e = record {
      read = good;
      redo = redo_is ∙ e;
      cache = ap (λ (r : Redone). r.cache) (redone_is e);
      first = ap (λ (r : Redone). r.first) (redone_is e);
    }

-- ---- the numbers, by the log's records

pub next_found : (m : List ℕ) (l a above n : ℕ) → above ≡ above_all (read_log m l) → a ≡ dec (part m 24 8) → n ≡ max a above → n ≡ next_number m l
unfolding next_number next_on
next_found m l a above n t e g = g ∙ rw (e, t)

pub last_found : (m : List ℕ) (l a late n : ℕ) → late ≡ latest (read_log m l) → a ≡ dec (part m 35 8) → n ≡ max a late → n ≡ last_time m l
unfolding last_time time_on
last_found m l a late n t e g = g ∙ rw (e, t)

-- ---- the log that was applied: c is the cache that redo leaves

module _ (m : List ℕ) (l d : ℕ) (log : Cursor) (end : ℕ) (c first : List ℕ) (done : Applied m l d log end c first) where
  passes_is : well_formed m l d ≡ cache_ok m l d c
  unfolding passes
  passes_is = formed m l d ∙ rw (done.read.ok, done.redo, ← done.cache)

  pub applied_known : (used : ℕ) (commits : List Commit) → Extent m used → commits ≡ commits_of (rest_of m l log) → Known m l used commits
  applied_known used commits e f = record { table = e; log = f ∙ ap commits_of (read_rest m l d log end done.read) }

  -- no slot has a record number of 1,024 or more
  pub applied_keys : length m ≡ medium_length l d → Bytes m → KeysBelow c d
  applied_keys long bytes = rw done.cache (keys_redone m l d long bytes done.read.ok)

  pub not_logged : false ≡ log_ok m [] (read_log m l) → false ≡ well_formed m l d
  unfolding cache_ok
  not_logged e = sym (passes_is ∙ rw (← e))

  pub not_kept : true ≡ log_ok m [] (read_log m l) → false ≡ table_and_slots m l d c → false ≡ well_formed m l d
  unfolding cache_ok
  not_kept e f = sym (passes_is ∙ rw (← e, ← f))

  -- the numbers that wait are all that is left to judge
  pub few_is : true ≡ log_ok m [] (read_log m l) → true ≡ table_and_slots m l d c → (few : Bool) → few ≡ leb (length (waiting_numbers c (is_paired m (read_log m l)) (15 * d))) 64
      → few ≡ well_formed m l d
  unfolding cache_ok
  few_is e f few waits = sym (passes_is ∙ rw (← e, ← f, ← waits))

  pub opened_is : (slots next last : ℕ) (tail : List ℕ) (places : List Place) → slots ≡ used_in c d → next ≡ next_number m l → last ≡ last_time m l → tail ≡ read_tail m l
      → places ≡ open_places m (read_log m l) c (15 * d)
      → record { blocks = l; pages = d; slots = slots; next = record { 0 = next }; last = record { 0 = last }; saved = record { 0 = last }; end = record { 0 = end }; tail = tail; places = places; ring = 0; first = first; phase = Idle }
      ≡ opened_state m l d
  unfolding opened_state
  opened_is slots next last tail places a e f t p = rw (a, e, f, t, p, done.read.end, done.first, done.cache)
