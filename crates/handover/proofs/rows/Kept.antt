-- From how a handover ends to what it promises of the book: the rows are as before, or have the version, or its commit row too, and
-- the laws of Adding say what each of these answers.
use Rattle.layout.specs.declared.CommitTime.{CommitTime}
use Rattle.std.specs.Prelude.{Result}
use Prim.Native.Nat.{ℕ, ◌≤◌, ◌<◌}
use native.Mathlib.Omega.{arith}
use mathlib.Core.Path.{◌≡◌, sym, ap, ◌∙◌, subst}
use mathlib.Core.Logic.{◌⊎◌, inl, inr, ◌≢◌}
use mathlib.Core.Bool.{true, false, false≢true}
use mathlib.Core.List.{List, [], ◌∷◌, ◌++◌}
use lib.ListN.{length}
use lib.Seq.{get_or-set_same, drop-set-lt}
use Rattle.store.specs.declared.State.{State}
use Rattle.runs.specs.Event.{Strip, missing}
use Rattle.runs.specs.Book.{Book, Row, committed, versions, last_time, has_row, is_open, strip_of, current_of, strip_as_of}
use Rattle.agreement.proofs.history.ListLaws.{same?}
use Rattle.agreement.proofs.plain.Laws.{rowless_left}
use Rattle.handover.specs.declared.Transfer.{Transfer}
use Rattle.handover.specs.declared.HandRefusal.{HandRefusal}
use Rattle.handover.specs.Hand.{hand_number, hand_value, owner_of, with_owner}
use Rattle.handover.specs.Promise.{read_by, Owned, RefusedBook, HandedBook}
use Rattle.handover.proofs.rows.Rows.{last_version, last_commit, row_last, foreign, current_fresh}
use Rattle.handover.proofs.rows.Adding.{other_number, other_key, own, written_past, written_lists, handed_key, handed_others, handed_past_others, handed_earlier, handed_past}
use Rattle.handover.proofs.rows.Ended.{New, Checked, new_version, new_row, RowsEnd, unwritten, aborted, handed}

-- ---- owners

new_owner : (v : List ℕ) (b : ℕ) → length v ≡ 16 → owner_of (with_owner v b) ≡ b
new_owner v b size = get_or-set_same v 0 b 0 (omega arith)

owned_as : {x y : Strip} → x ≡ y → Owned x → Owned y
owned_as e p = subst Owned e p

-- ---- the rows

-- a number without rows had none before
pub rowless_before : {b : Book} {s : State} {h : Transfer} {rs : List Row} {a : Result CommitTime HandRefusal} → RowsEnd b s h rs a → (n : ℕ) → has_row rs n ≡ false → has_row b.rows n ≡ false
rowless_before (unwritten a q e) n f = rw e at f
rowless_before {b} {s} {h} (aborted a x v q new checked e) n f = rowless_left b.rows (new_row h x v ∷ []) n (rw e at f)
rowless_before {b} {s} {h} (handed x v t new checked time e) n f =
    rowless_left b.rows (new_row h x v ∷ []) n (rowless_left (b.rows ++ (new_row h x v ∷ [])) (committed x t ∷ []) n (rw e at f))

module _ (b : Book) (s : State) (h : Transfer) where
  pub past_same : {rs : List Row} {a : Result CommitTime HandRefusal} → RowsEnd b s h rs a → (key t : ℕ) → t ≤ last_time b.rows → strip_as_of rs key t ≡ strip_as_of b.rows key t
  past_same (unwritten a q e) key t low = rw e
  past_same (aborted a x v q new checked e) key t low = rw e (written_past b.rows (new_version h x v) new.rowless key t)
  past_same (handed x v t new checked time e) key u low = rw e (handed_earlier b.rows (new_version h x v) new.rowless t key u (omega arith))

  -- the strip written has an owner
  owned : (x : ℕ) (v : List ℕ) → Checked b s h x v → Owned (strip_of 0 (with_owner v h.to))
  unfolding strip_of
  owned x v checked z = checked.taker (sym (new_owner v h.to checked.size) ∙ z)

  -- what has an owner keeps one
  pub owner_same : {rs : List Row} {a : Result CommitTime HandRefusal} → RowsEnd b s h rs a → (n key : ℕ)
      → Owned (current_of b.rows n key missing (versions b.rows)) → Owned (current_of rs n key missing (versions rs))
  owner_same (unwritten a q e) n key p = rw e p
  owner_same (aborted a x v q new checked e) n key p = rw e (go (same? key h.flight) (same? n x))
    where
      go : (key ≡ h.flight) ⊎ (key ≢ h.flight) → (n ≡ x) ⊎ (n ≢ x)
          → Owned (current_of (b.rows ++ (new_row h x v ∷ [])) n key missing (versions (b.rows ++ (new_row h x v ∷ []))))
      go (inl f) (inl g) = rw (f, g) (owned_as (sym (own b.rows (new_version h x v) new.rowless)) (owned x v checked))
      go (inr f) g = owned_as (sym (other_key b.rows (new_version h x v) new.rowless n key f)) p
      go (inl f) (inr g) = owned_as (sym (other_number b.rows (new_version h x v) new.rowless n key g)) p
  owner_same (handed x v t new checked time e) n key p = rw e (go (same? key h.flight))
    where
      go : (key ≡ h.flight) ⊎ (key ≢ h.flight)
          → Owned (current_of ((b.rows ++ (new_row h x v ∷ [])) ++ (committed x t ∷ [])) n key missing (versions ((b.rows ++ (new_row h x v ∷ [])) ++ (committed x t ∷ []))))
      go (inl f) = rw f (owned_as (sym (handed_key b.rows (new_version h x v) new.rowless t n)) (owned x v checked))
      go (inr f) = owned_as (sym (handed_others b.rows (new_version h x v) new.rowless t n key f)) p

  -- ---- refused

  -- a number that is not new reads as before
  pub reads_same : {rs : List Row} {a : Result CommitTime HandRefusal} → RowsEnd b s h rs a → 0 < hand_number a → (n key : ℕ)
      → ((x : ℕ) → New b s x → has_row rs x ≡ true → n ≢ x) → current_of rs n key missing (versions rs) ≡ current_of b.rows n key missing (versions b.rows)
  unfolding hand_number
  reads_same (unwritten a q e) p n key f = rw e
  reads_same (aborted a x v q new checked e) p n key f =
      let has : has_row (b.rows ++ (new_row h x v ∷ [])) x ≡ true = row_last b.rows (new_version h x v) in
      rw e (other_number b.rows (new_version h x v) new.rowless n key (f x new (rw e has)))
  reads_same (handed x v t new checked time e) p n key f = absurd (omega arith)

  -- an open number is not new, nor is one without rows the number of the row added
  apart : (rs : List Row) (n x : ℕ) → New b s x → has_row rs x ≡ true → (is_open b.opened n ≡ true) ⊎ (has_row rs n ≡ false) → n ≢ x
  apart rs n x new has (inl was-open) e = false≢true (sym new.shut ∙ ap (is_open b.opened) (sym e) ∙ was-open)
  apart rs n x new has (inr rowless) e = false≢true (sym rowless ∙ ap (has_row rs) e ∙ has)

  pub refused_book : (after : Book) (a : Result CommitTime HandRefusal) → RowsEnd b s h after.rows a → 0 < hand_number a → RefusedBook b after
  unfolding read_by hand_number
  refused_book after a (unwritten _ q e) p = record { current = λ n key f. rw e; past = λ key t. rw e; lists = λ key t1 t2. rw e; last = rw e }
  refused_book after a (aborted _ x v q new checked e) p = record {
    current = λ n key f. reads_same (aborted a x v q new checked e) p n key (λ y fresh has. apart after.rows n y fresh has f);
    past = λ key t. rw e (written_past b.rows (new_version h x v) new.rowless key t);
    lists = λ key t1 t2. rw e (written_lists b.rows (new_version h x v) new.rowless key t1 t2);
    last = rw e (last_version b.rows (new_version h x v));
  }
  refused_book after a (handed x v t new checked time e) p = absurd (omega arith)

  -- ---- handed

  pub handed_book : (after : Book) (a : Result CommitTime HandRefusal) → RowsEnd b s h after.rows a → hand_number a ≡ 0 → HandedBook h (hand_value a) b after
  unfolding read_by hand_number hand_value strip_of
  handed_book after a (unwritten _ q e) z = absurd (omega arith)
  handed_book after a (aborted _ x v q new checked e) z = absurd (omega arith)
  handed_book after a (handed x v t new checked time e) z = record {
    strip = v;
    size = checked.size;
    owner = checked.owner;
    before = λ n f.
        current_fresh b.rows n x h.flight missing (versions b.rows)
        (foreign b.rows n (rowless_before (handed x v t new checked time e) n f)) (foreign b.rows x new.rowless)
        ∙ checked.strip;
    new_owner = new_owner v h.to checked.size;
    fifteen = drop-set-lt 1 v 0 h.to (omega arith);
    number = x;
    unused = new.rowless;
    rows = e;
    time = time;
    last = rw e (last_commit (b.rows ++ (new_row h x v ∷ [])) x t);
    current = λ n. rw e (handed_key b.rows (new_version h x v) new.rowless t n);
    past = rw e (handed_past b.rows (new_version h x v) new.rowless t);
    earlier = λ u f. rw e (handed_earlier b.rows (new_version h x v) new.rowless t h.flight u f);
    others = λ n key f. rw e (handed_others b.rows (new_version h x v) new.rowless t n key f);
    others_past = λ key u f. rw e (handed_past_others b.rows (new_version h x v) new.rowless t key u f);
  }
