-- No call changes a length. Medium, cache and answer buffer are written by laying bytes over them, which keeps the
-- length; an opening's cache is as many pages of the medium as the cache given has, by its first two questions; and
-- formatting writes a medium of the length that its question asks for.
use Rattle.std.specs.Prelude.{Option}
use Prim.Native.Nat.{ℕ, ◌+◌, ◌*◌}
use native.Mathlib.Omega.{arith}
use mathlib.Core.Path.{◌≡◌, refl, sym, ◌∙◌}
use mathlib.Core.Bool.{Bool, true, false}
use mathlib.Core.List.{List, [], ◌∷◌}
use lib.ListN.{length, length-append, length-replicate}
use lib.Dec.{eqb}
use borrow.Author.Tests.{eqb-true}
use Rattle.fields.specs.Block.{medium_length, cache_length}
use Rattle.layout.specs.Journal.{Record, version, commit}
use Rattle.layout.specs.declared.item.VersionHead.{VersionHead}
use Rattle.fields.proofs.Choose.{and_1}
use Rattle.fields.proofs.PartLaws.{length_part}
use Rattle.fields.proofs.BlockLaws.{length_put}
use Rattle.layout.proofs.CacheLaws.{length_put_version}
use Rattle.layout.proofs.MasterLaws.{length_master_bytes}
use Rattle.store.specs.declared.Phase.TheVariants.{Idle, FirstStored, SecondStored}
use Rattle.store.specs.declared.Refusal.{Refusal}
use Rattle.store.specs.declared.State.{State}
use Rattle.store.specs.Answer.{Outcome}
use Rattle.store.specs.State.{in_range}
use Rattle.store.specs.Write.{write_step}
use Rattle.store.specs.Commit.{commit_step}
use Rattle.store.specs.StoreLog.{store_log_if}
use Rattle.store.specs.StorePage.{store_page_if}
use Rattle.store.specs.Checkpoint.{checkpoint_step}
use Rattle.store.specs.OpenLog.{Placed, read_log}
use Rattle.store.specs.OpenRedo.{pages_on, Redone, applies, redo_if, redo_record, redo_one, redo}
use Rattle.store.specs.OpenConditions.{copied, redone}
use Rattle.store.specs.Open.{open_of}
use Rattle.store.specs.Format.{format_asks, fresh_medium, format_if, format_of}
use Rattle.runs.specs.Event.{Call}
use Rattle.runs.specs.Machine.{called}
use Rattle.runs.proofs.Asks.{asked, given, Way, refused, begins, writes, erases, looks, commits, ends, aborts, logs}
use Rattle.runs.proofs.Asks.{pages, checks, way}
use Rattle.runs.proofs.Refusals.{Opening, bad_sizes, bad_cache, malformed, opened, opening_way}
use Rattle.runs.proofs.OneBlock.{stores, stores_length}

-- medium, cache and answer buffer are as long as those given
pub record SameLengths (m c b : List ℕ) (o : Outcome) : Type 0 where
  pub medium : length o.medium ≡ length m
  pub cache : length o.cache ≡ length c
  pub buffer : length o.buffer ≡ length b

-- ---- each call

sizes_way : {m c : List ℕ} {s : State} {k : Call} {o : Outcome} → Way m c s k o
    → (length o.cache ≡ length c) × (length o.buffer ≡ length (given k))
unfolding write_step commit_step store_log_if store_page_if checkpoint_step
sizes_way (refused k r w) = (refl, refl)
sizes_way (begins clock i p w) = (refl, refl)
sizes_way {c = c} (writes n key i v p w) = (length_put_version c _ _ _, refl)
sizes_way {c = c} (erases n key i p w) = (length_put_version c _ _ _, refl)
sizes_way (looks k a v b h p n w) = (refl, w)
sizes_way (commits n clock i p w z) = (refl, refl)
sizes_way (ends n clock i p w z) = (refl, refl)
sizes_way (aborts n i p w) = (refl, refl)
sizes_way (logs p) = (refl, refl)
sizes_way {c = c} (pages n p) = (length_put c n _, refl)
sizes_way (checks Idle p w) = (refl, refl)
sizes_way (checks (FirstStored o t) p w) = (refl, refl)
sizes_way (checks (SecondStored o t) p w) = (refl, refl)

pub lengths : (m c : List ℕ) (s : State) (k : Call) → SameLengths m c (given k) (called m c s k)
lengths m c s k = record {
  medium = stores_length (stores m c s k);
  cache = (sizes_way (way m c s k)).0;
  buffer = (sizes_way (way m c s k)).1;
}

-- ---- opening

length_redo_if : (t : Bool) (d : Redone) (h : VersionHead) (v : List ℕ) (x : Placed)
    → length (redo_if t d h v x).cache ≡ length d.cache
length_redo_if true d h v x = length_put_version d.cache _ _ _
length_redo_if false d h v x = refl

length_redo_record : (r : Record) (d : Redone) (x : Placed) → length (redo_record r d x).cache ≡ length d.cache
length_redo_record (version h v) d x = length_redo_if (applies d.cache h x.end) d h v x
length_redo_record (commit p) d x = refl

pub length_redo : (d : Redone) (xs : List Placed) → length (redo d xs).cache ≡ length d.cache
unfolding redo redo_one
length_redo d [] = refl
length_redo d (x ∷ xs) = length_redo (redo_one d x) xs ∙ length_redo_record x.rec d x

-- the pages copied, and the cache after redo, of a medium of the right length
pub length_pages_on : (m : List ℕ) (l d : ℕ) → length m ≡ medium_length l d → length (pages_on m l d) ≡ cache_length d
unfolding pages_on medium_length cache_length
length_pages_on m l d e = length_part m (512 * (3 + l)) (512 * d) (omega arith)

pub length_redone : (m : List ℕ) (l d : ℕ) → length m ≡ medium_length l d → length (redone m l d).cache ≡ cache_length d
unfolding redone copied
length_redone m l d e = length_redo (copied m l d) (read_log m l) ∙ length_pages_on m l d e

pub open_lengths : (m c : List ℕ) (l d : ℕ) → SameLengths m c [] (open_of m c l d)
open_lengths m c l d = go (opening_way m c l d)
  where
    go : {o : Outcome} → Opening m c l d o → SameLengths m c [] o
    go bad_sizes = record { medium = refl; cache = refl; buffer = refl }
    go bad_cache = record { medium = refl; cache = refl; buffer = refl }
    go malformed = record { medium = refl; cache = length-replicate (length c) 0; buffer = refl }
    go (opened p) = record {
      medium = refl;
      cache =
          length_redone m l d (eqb-true _ _ (and_1 (in_range l d) (eqb (length m) (medium_length l d)) p.0))
          ∙ sym (eqb-true _ _ p.1.0);
      buffer = refl;
    }

-- ---- formatting

pub length_fresh_medium : (l d : ℕ) → length (fresh_medium l d) ≡ medium_length l d
unfolding fresh_medium medium_length
length_fresh_medium l d = simp (length-append, length_master_bytes, length-replicate) (omega arith)

pub format_length : (m : List ℕ) (l d : ℕ) → length (format_of m l d).medium ≡ length m
unfolding format_of format_if
format_length m l d =
    asked (λ (a : Option Refusal). length (format_if a m l d).medium ≡ length m) (format_asks m l d) (λ r e. refl) (λ p.
    length_fresh_medium l d ∙ sym (eqb-true _ _ (and_1 (in_range l d) (eqb (length m) (medium_length l d)) p.0)))
