-- A read as of a time and a list of changes in a running store, of a record number below 1,024, are refused by their
-- time just if it is above that of the last stored commit: the state's stored time is that of the rows which a cut
-- would leave, and a running store fits its buffers.
use Rattle.layout.specs.declared.CommitTime.{CommitTime}
use Rattle.std.specs.Prelude.{Option, Some, None, Ok}
use Prim.Native.Nat.{ℕ, ◌*◌}
use mathlib.Core.Bool.{Bool, true, false, cond}
use mathlib.Core.List.{List, [], ◌∷◌}
use mathlib.Core.Path.{◌≡◌, refl, sym, ap, ◌∙◌}
use lib.Dec.{eqb, leb}
use lib.ListN.{length}
use Rattle.fields.specs.Block.{zeros}
use Rattle.layout.specs.Journal.{Record}
use Rattle.layout.specs.Slot.{key_form}
use Rattle.store.specs.declared.Answer.TheVariants.{Erased, Present}
use Rattle.store.specs.declared.Refusal.TheVariants.{Unfit, NoRecord, NotYet, ShortBuffer}
use Rattle.store.specs.declared.State.{State}
use Rattle.store.specs.Answer.{refusal_number, answer_number, ask}
use Rattle.store.specs.Places.{time_under}
use Rattle.store.specs.Chain.{newest, cell_at, best_of}
use Rattle.store.specs.CurrentRead.{reads, read_cell}
use Rattle.store.specs.AsOf.{as_of_at, as_of_if, as_of_of}
use Rattle.store.specs.Changes.{change_lines, changes_if, changes_of}
use Rattle.runs.specs.Book.{Book, last_time, fall, lines_of, listing}
use Rattle.agreement.proofs.history.Ghost.{records, Disk}
use Rattle.agreement.proofs.history.RowLaws.{last_row}
use Rattle.agreement.proofs.invariant.Invariant.{Up}
use Rattle.agreement.proofs.logging.GrowthLaws.{fits_up}
use Rattle.agreement.proofs.reads.Changes.{alike_length, alike_bytes, alike_size, lines_are}
use Rattle.agreement.proofs.Cut.{cut_down}

module _ {l d : ℕ} {m c : List ℕ} {s : State} {b : Book} {disk : Disk} {closed : List (List Record)}
    {tail : List Record} (u : Up l d m c s b disk closed tail) where
  pub saved_is : s.saved.0 ≡ last_time (fall b).rows
  saved_is =
      u.state.saved ∙ sym (ap last_time (cut_down u).rows
      ∙ last_row (records disk.stored) (cut_down u).medium.numbers.rising)

  -- ---- a read

  -- what is found is no refusal
  read_answered : (x : Option (ℕ × CommitTime)) → answer_number (as_of_at x s m c).answer ≡ 0
  unfolding read_cell answer_number
  read_answered None = refl
  read_answered (Some (n, t)) = go (eqb (cell_at c n).kind 1)
    where
      go : (y : Bool)
          → answer_number (cond y (reads (Ok Erased) (zeros 16) s m c) (reads (Ok Present) (cell_at c n).value s m c)).answer ≡ 0
      go true = refl
      go false = refl

  pub read_refusal : (key t : ℕ) → answer_number (as_of_of s m c key t).answer
      ≡ cond (key_form key) (cond (leb t (last_time (fall b).rows)) 0 10) 18
  unfolding as_of_of as_of_if answer_number refusal_number
  read_refusal key t = by_time ∙ ap (λ (n : ℕ). cond (key_form key) (cond (leb t n) 0 10) 18) saved_is
    where
      go : (k x : Bool)
          → answer_number (as_of_if (ask ((true, Unfit) ∷ (k, NoRecord) ∷ (x, NotYet) ∷ [])) s m c key t).answer
          ≡ cond k (cond x 0 10) 18
      go true true = read_answered (best_of (newest c key s.slots) c (time_under s.places) t)
      go true false = refl
      go false x = refl

      by_time : answer_number (as_of_of s m c key t).answer ≡ cond (key_form key) (cond (leb t s.saved.0) 0 10) 18
      by_time = rw (fits_up u) (go (key_form key) (leb t s.saved.0))

  -- ---- a list

  pub list_refusal : (key t1 t2 : ℕ) (buffer : List ℕ) → answer_number (changes_of s m c buffer key t1 t2).answer
      ≡ cond (key_form key) (cond (leb t2 (last_time (fall b).rows))
      (cond (leb (32 * length (lines_of b.rows key t1 t2)) (length buffer)) 0 14) 10) 18
  unfolding changes_of changes_if answer_number refusal_number
  list_refusal key t1 t2 buffer =
      by_time
      ∙ ap (λ (n : ℕ). cond (key_form key)
      (cond (leb t2 n) (cond (leb (32 * length (change_lines s c key t1 t2)) (length buffer)) 0 14) 10) 18) saved_is
      ∙ ap (λ (n : ℕ). cond (key_form key)
      (cond (leb t2 (last_time (fall b).rows)) (cond (leb (32 * n) (length buffer)) 0 14) 10) 18)
      (alike_length (lines_are u key t1 t2))
    where
      go : (k x y : Bool)
          → answer_number (changes_if (ask ((true, Unfit) ∷ (k, NoRecord) ∷ (x, NotYet) ∷ (y, ShortBuffer) ∷ [])) s m c
          buffer (change_lines s c key t1 t2)).answer
          ≡ cond k (cond x (cond y 0 14) 10) 18
      go true true true = refl
      go true true false = refl
      go true false y = refl
      go false x y = refl

      by_time : answer_number (changes_of s m c buffer key t1 t2).answer
          ≡ cond (key_form key) (cond (leb t2 s.saved.0)
          (cond (leb (32 * length (change_lines s c key t1 t2)) (length buffer)) 0 14) 10) 18
      by_time =
          rw (fits_up u) (go (key_form key) (leb t2 s.saved.0)
          (leb (32 * length (change_lines s c key t1 t2)) (length buffer)))

  -- its lines take 32 bytes each
  pub list_size : (key t1 t2 : ℕ) → length (listing (lines_of b.rows key t1 t2))
      ≡ 32 * length (lines_of b.rows key t1 t2)
  list_size key t1 t2 =
      let a = lines_are u key t1 t2 in
      ap length (sym (alike_bytes a)) ∙ alike_size a ∙ ap (λ (n : ℕ). 32 * n) (alike_length a)
