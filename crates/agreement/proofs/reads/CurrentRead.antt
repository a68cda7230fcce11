-- A current read finds, along earlier slots, the strip that the book's fold over all version rows gives: both are a
-- fold over the record's versions by rising slot (WalkLaws), and they agree at each slot.
use Rattle.layout.specs.declared.CommitTime.{CommitTime}
use Rattle.std.specs.Prelude.{Option, Some, None, Ok}
use Prim.Native.Nat.{ℕ, zero, suc, ◌≤◌, ◌<◌}
use native.Mathlib.Omega.{arith}
use mathlib.Core.Bool.{or-true, Bool, true, false, cond, ◌&&◌, ◌||◌}
use mathlib.Core.List.{List, [], ◌∷◌, ◌++◌}
use mathlib.Core.Path.{◌≡◌, refl, sym, ap, ◌∙◌}
use lib.Dec.{eqb}
use lib.ListN.{length, take}
use Rattle.layout.specs.Journal.{Record}
use Rattle.layout.specs.Slot.{Cell}
use Rattle.fields.specs.Block.{zeros}
use Rattle.store.proofs.ChainLaws.{unless_some}
use Rattle.store.specs.declared.State.{State}
use Rattle.store.specs.Places.{time_under}
use Rattle.store.specs.Chain.{newest, cell_at, is_version, version_time, is_timed, visible, unless_empty, visible_from}
use Rattle.store.specs.Chain.{visible_of}
use Rattle.store.specs.declared.Answer.TheVariants.{Erased, Present}
use Rattle.store.specs.CurrentRead.{reads, read_cell, current_at}
use Rattle.runs.specs.Event.{Strip, missing, erased, present}
use Rattle.runs.specs.Book.{Book, Row, Version, time_of, is_some, versions, strip_of as row_strip}
use Rattle.runs.specs.Book.{current_of as rows_current}
use Rattle.runs.specs.Machine.{strip_of, time_in}
use Rattle.agreement.proofs.transactions.WriteLaws.{newest_is}
use Rattle.agreement.proofs.history.Ghost.{versions_of, commits_of, LoggedVersion, at, LoggedCommit, find, timing, cell}
use Rattle.agreement.proofs.history.Ghost.{Match, still, marked, Disk}
use Rattle.agreement.proofs.invariant.Invariant.{Up}
use Rattle.agreement.proofs.invariant.MediumFacts.{cell_fields, cell_cached}
use Rattle.agreement.proofs.history.RowLaws.{row_for, rows_for}
use Rattle.agreement.proofs.reads.Sights.{version_time_law}
use Rattle.agreement.proofs.reads.WalkLaws.{over_all, Reaches, walked}
use Rattle.agreement.proofs.reads.ReadFacts.{rows_for_step, all_rows, row_time_law, chain_cached, kind_cached}
use Rattle.agreement.proofs.reads.ReadFacts.{value_cached, few_slots}

pub current_snoc : (rs : List Row) (n key : ℕ) (before : Strip) (vs : List Version) (v : Version)
    → rows_current rs n key before (vs ++ (v ∷ []))
    ≡ cond (eqb v.key key && (eqb v.number n || is_some (time_of rs v.number))) (row_strip v.kind v.value)
    (rows_current rs n key before vs)
unfolding rows_current
current_snoc rs n key before [] v = refl
current_snoc rs n key before (x ∷ vs) v =
    current_snoc rs n key (cond (eqb x.key key && (eqb x.number n || is_some (time_of rs x.number)))
    (row_strip x.kind x.value) before) vs v

-- ---- what a slot shows

is_timed_law : (t : ℕ) → is_timed (timing t) ≡ is_some (time_in (timing t))
is_timed_law zero = refl
is_timed_law (suc t) = refl

-- a version is visible if it is the number's own or has a time
seen_by : (cs : List LoggedCommit) (v : LoggedVersion) (x : Cell) (pair : ℕ → Option CommitTime) (n t : ℕ) → Match cs v x
    → version_time pair x.state ≡ timing t
    → visible x.state pair n ≡ (eqb v.num n || is_some (time_in (timing t)))
unfolding version_time
seen_by cs v x pair n t still e =
    ap (λ (y : Option CommitTime). eqb v.num n || is_timed y) e ∙ ap (λ (y : Bool). eqb v.num n || y) (is_timed_law t)
seen_by cs v x pair n t (marked a z q) e =
    sym (ap (λ (y : Option CommitTime). eqb v.num n || is_some (time_in y)) (sym e) ∙ or-true (eqb v.num n))

-- a slot of the walk: it is found if it is visible
abbrev showing : List ℕ → (ℕ → Option CommitTime) → ℕ → ℕ → Option ℕ → Option ℕ
showing c pair n j rest =
    unless_empty (cell_at c j).state None (cond (visible (cell_at c j).state pair n) (Some j) rest)

-- what is found reads as
abbrev pub strip_found : List ℕ → Option ℕ → Strip
strip_found c (Some j) = row_strip (cell_at c j).kind (cell_at c j).value
strip_found c None = missing

visible_reached : (c : List ℕ) (pair : ℕ → Option CommitTime) (n : ℕ) (f a : Option ℕ) → Reaches (visible_from c pair n) None f a
    → visible_of f c pair n ≡ a
unfolding visible_of
visible_reached c pair n (Some j) a r = r (suc j) (omega arith)
visible_reached c pair n None a r = r

module _ {l d : ℕ} {m c : List ℕ} {s : State} {b : Book} {disk : Disk} {closed : List (List Record)}
    {tail : List Record} (u : Up l d m c s b disk closed tail) where
  visible_is : (n j : ℕ) → j < length (versions_of (closed ++ (tail ∷ [])))
      → visible (cell_at c j).state (time_under s.places) n
      ≡ (eqb (at (versions_of (closed ++ (tail ∷ []))) j).num n
      || is_some (time_of b.rows (at (versions_of (closed ++ (tail ∷ []))) j).num))
  visible_is n j h =
      let q = cell_cached u.medium u.cache j h in
      let e = ap (λ (x : Cell). version_time (time_under s.places) x.state) (sym q) ∙ version_time_law u j h in
      ap (λ (x : Cell). visible x.state (time_under s.places) n) q
      ∙ seen_by (commits_of disk.stored) (at (versions_of (closed ++ (tail ∷ []))) j) (cell disk.cells j)
      (time_under s.places) n (find (commits_of (closed ++ (tail ∷ [])))
      (at (versions_of (closed ++ (tail ∷ []))) j).num).time (u.medium.pages.slots.match j h) e
      ∙ ap (λ (x : Option ℕ). eqb (at (versions_of (closed ++ (tail ∷ []))) j).num n || is_some x)
      (sym (row_time_law u (at (versions_of (closed ++ (tail ∷ []))) j).num))

  showing_is : (n j : ℕ) (rest : Option ℕ) → j < length (versions_of (closed ++ (tail ∷ [])))
      → showing c (time_under s.places) n j rest
      ≡ cond (eqb (at (versions_of (closed ++ (tail ∷ []))) j).num n
      || is_some (time_of b.rows (at (versions_of (closed ++ (tail ∷ []))) j).num)) (Some j) rest
  showing_is n j rest h =
      unless_some (cell_at c j).state None _
      (ap (λ (x : Cell). is_version x.state) (cell_cached u.medium u.cache j h) ∙ (cell_fields u.medium j h).0)
      ∙ ap (λ (t : Bool). cond t (Some j) rest) (visible_is n j h)

  folds : (n key j : ℕ) → j ≤ length (versions_of (closed ++ (tail ∷ [])))
      → strip_found c (over_all None (showing c (time_under s.places) n) (versions_of (closed ++ (tail ∷ []))) key j)
      ≡ rows_current b.rows n key missing (rows_for (take j (versions_of (closed ++ (tail ∷ [])))))
  unfolding over_all rows_for rows_current
  folds n key zero h = refl
  folds n key (suc j) h =
      rw (showing_is n j (over_all None (showing c (time_under s.places) n)
      (versions_of (closed ++ (tail ∷ []))) key j) h)
      (go (eqb (at (versions_of (closed ++ (tail ∷ []))) j).key key)
      (eqb (at (versions_of (closed ++ (tail ∷ []))) j).num n
      || is_some (time_of b.rows (at (versions_of (closed ++ (tail ∷ []))) j).num))
      (over_all None (showing c (time_under s.places) n) (versions_of (closed ++ (tail ∷ []))) key j) _
      (folds n key j (omega arith))
      ∙ sym (ap (rows_current b.rows n key missing) (rows_for_step (versions_of (closed ++ (tail ∷ []))) j h)
      ∙ current_snoc b.rows n key missing (rows_for (take j (versions_of (closed ++ (tail ∷ [])))))
      (row_for (at (versions_of (closed ++ (tail ∷ []))) j))))
    where
      go : (t w : Bool) (rest : Option ℕ) (strip : Strip) → strip_found c rest ≡ strip
          → strip_found c (cond t (cond w (Some j) rest) rest)
          ≡ cond (t && w) (row_strip (at (versions_of (closed ++ (tail ∷ []))) j).kind
          (at (versions_of (closed ++ (tail ∷ []))) j).value) strip
      go true true rest strip e = rw (kind_cached u j h, value_cached u j h)
      go true false rest strip e = e
      go false w rest strip e = e

  pub current_found : (n key : ℕ)
      → strip_found c (visible_of (newest c key s.slots) c (time_under s.places) n)
      ≡ rows_current b.rows n key missing (versions b.rows)
  unfolding visible_from
  current_found n key =
      ap (strip_found c) (ap (λ (f : Option ℕ). visible_of f c (time_under s.places) n) (newest_is u key)
      ∙ visible_reached c (time_under s.places) n _ _
      (walked None (showing c (time_under s.places) n) (λ j. (cell_at c j).earlier)
      (visible_from c (time_under s.places) n) (λ i j. refl)
      (versions_of (closed ++ (tail ∷ []))) key (few_slots u) (chain_cached u)
      (length (versions_of (closed ++ (tail ∷ [])))) (omega arith)))
      ∙ folds n key (length (versions_of (closed ++ (tail ∷ [])))) (omega arith)
      ∙ ap (rows_current b.rows n key missing) (sym (all_rows u))

-- a version that is read
pub cell_strip : (x : Cell) (s : State) (m c : List ℕ) → strip_of (read_cell x s m c).answer (read_cell x s m c).value
    ≡ row_strip x.kind x.value
unfolding read_cell row_strip
cell_strip x s m c = go (eqb x.kind 1)
  where
    go : (t : Bool) → strip_of (cond t (reads (Ok Erased) (zeros 16) s m c) (reads (Ok Present) x.value s m c)).answer
        (cond t (reads (Ok Erased) (zeros 16) s m c) (reads (Ok Present) x.value s m c)).value
        ≡ cond t erased (present x.value)
    go true = refl
    go false = refl

pub current_strip : (f : Option ℕ) (s : State) (m c : List ℕ)
    → strip_of (current_at f s m c).answer (current_at f s m c).value ≡ strip_found c f
current_strip None s m c = refl
current_strip (Some j) s m c = cell_strip (cell_at c j) s m c
