-- The rows with a version under a new number, and then with its commit row at t. Without the commit row no other number sees the
-- version and no time has it; with it, its key alone reads anew, from t on: for the rows before are of other numbers.
use Rattle.std.specs.Prelude.{Option, None, Some}
use Prim.Native.Nat.{ℕ, suc, ◌<◌}
use native.Mathlib.Omega.{arith}
use mathlib.Core.Path.{◌≡◌, refl, sym, ap, ◌∙◌}
use mathlib.Core.Logic.{◌≢◌}
use mathlib.Core.Bool.{Bool, true, false, cond, ◌&&◌, ◌||◌, and-true, and-false, or-true, or-false}
use mathlib.Core.List.{List, [], ◌∷◌, ◌++◌}
use lib.Dec.{eqb}
use borrow.Author.Tests.{eq-eqb, ne_eqb, lt-ltb, le-leb}
use Rattle.runs.specs.Event.{missing}
use Rattle.runs.specs.Book.{Row, version, committed, Version, Dated, versions, time_of, has_row, strip_of, is_some, current_of, later_of, dated_of, best_below, last_below, strip_at, strip_as_of, lines_of}
use Rattle.runs.specs.Moments.{Among}
use Rattle.agreement.proofs.plain.Laws.{time_none, time_other, time_version, rowless_none}
use Rattle.agreement.proofs.plain.Reads.{last_from}
use Rattle.agreement.proofs.reads.AsOf.{best_snoc}
use Rattle.agreement.proofs.reads.CurrentRead.{current_snoc}
use Rattle.agreement.proofs.stable.Rows.{too_late, lines_same}
use Rattle.handover.proofs.rows.Rows.{versions_version, versions_commit, foreign, current_same, best_same}

-- ---- any rows with v as the last version, where the others have the times that they had

module _ (rs more : List Row) (v : Version) (last : versions more ≡ versions rs ++ (v ∷ []))
    (times : (w : Version) → Among w (versions rs) → time_of more w.number ≡ time_of rs w.number) where
  current_more : (n key : ℕ) → current_of more n key missing (versions more)
      ≡ cond (eqb v.key key && (eqb v.number n || is_some (time_of more v.number))) (strip_of v.kind v.value) (current_of rs n key missing (versions rs))
  current_more n key =
      ap (current_of more n key missing) last
      ∙ current_snoc more n key missing (versions rs) v
      ∙ rw (current_same rs more n n key missing (versions rs) (λ w a. rw (times w a)))

  below_more : (key limit : ℕ) → last_below more key limit
      ≡ cond (eqb v.key key) (dated_of (time_of more v.number) (last_below rs key limit) limit v) (last_below rs key limit)
  unfolding last_below
  below_more key limit =
      ap (best_below more key limit None) last
      ∙ best_snoc more key limit None (versions rs) v
      ∙ rw (best_same rs more key limit None (versions rs) times)

cond_same : {A : Type 0} (a : Bool) (x y : A) → y ≡ x → cond a y x ≡ x
cond_same true x y e = e
cond_same false x y e = refl

module _ (rs : List Row) (v : Version) (new : has_row rs v.number ≡ false) where
  -- ---- the version

  abbrev pub written_rows : List Row
  written_rows = rs ++ (version v ∷ [])

  untimed : time_of written_rows v.number ≡ None
  untimed = time_version rs v v.number ∙ rowless_none rs v.number new

  written_current : (n key : ℕ) → current_of written_rows n key missing (versions written_rows)
      ≡ cond (eqb v.key key && eqb v.number n) (strip_of v.kind v.value) (current_of rs n key missing (versions rs))
  written_current n key =
      current_more rs written_rows v (versions_version rs v) (λ w a. time_version rs v w.number) n key ∙ rw (untimed, or-false (eqb v.number n))

  -- another number, and another key, read as before; the number itself reads its version
  pub other_number : (n key : ℕ) → n ≢ v.number → current_of written_rows n key missing (versions written_rows) ≡ current_of rs n key missing (versions rs)
  other_number n key e = written_current n key ∙ rw (ne_eqb v.number n (λ q. e (sym q)), and-false (eqb v.key key))

  pub other_key : (n key : ℕ) → key ≢ v.key → current_of written_rows n key missing (versions written_rows) ≡ current_of rs n key missing (versions rs)
  other_key n key e = written_current n key ∙ rw (ne_eqb v.key key (λ q. e (sym q)))

  pub own : current_of written_rows v.number v.key missing (versions written_rows) ≡ strip_of v.kind v.value
  own = written_current v.number v.key ∙ rw (eq-eqb v.key v.key refl, eq-eqb v.number v.number refl)

  -- no time has it
  written_below : (key limit : ℕ) → last_below written_rows key limit ≡ last_below rs key limit
  written_below key limit =
      below_more rs written_rows v (versions_version rs v) (λ w a. time_version rs v w.number) key limit
      ∙ rw untimed (cond_same (eqb v.key key) (last_below rs key limit) (last_below rs key limit) refl)

  pub written_past : (key t : ℕ) → strip_as_of written_rows key t ≡ strip_as_of rs key t
  unfolding strip_as_of
  written_past key t = ap strip_at (written_below key (suc t))

  pub written_lists : (key t1 t2 : ℕ) → lines_of written_rows key t1 t2 ≡ lines_of rs key t1 t2
  unfolding lines_of
  written_lists key t1 t2 = lines_same rs written_rows key t1 (suc t2) (λ limit h. written_below key limit) (suc (suc t2)) (suc t2) (omega arith)

  -- ---- committed at t

  module _ (t : ℕ) where
    abbrev pub handed_rows : List Row
    handed_rows = written_rows ++ (committed v.number t ∷ [])

    last_is : versions handed_rows ≡ versions rs ++ (v ∷ [])
    last_is = versions_commit written_rows v.number t ∙ versions_version rs v

    times : (w : Version) → Among w (versions rs) → time_of handed_rows w.number ≡ time_of rs w.number
    times w a = time_other written_rows v.number t w.number (foreign rs v.number new w a) ∙ time_version rs v w.number

    timed : time_of handed_rows v.number ≡ Some t
    unfolding time_of
    timed = time_none written_rows (committed v.number t ∷ []) v.number untimed ∙ rw (eq-eqb v.number v.number refl)

    handed_current : (n key : ℕ) → current_of handed_rows n key missing (versions handed_rows)
        ≡ cond (eqb v.key key) (strip_of v.kind v.value) (current_of rs n key missing (versions rs))
    handed_current n key = current_more rs handed_rows v last_is times n key ∙ rw (timed, or-true (eqb v.number n), and-true (eqb v.key key))

    pub handed_key : (n : ℕ) → current_of handed_rows n v.key missing (versions handed_rows) ≡ strip_of v.kind v.value
    handed_key n = handed_current n v.key ∙ rw (eq-eqb v.key v.key refl)

    pub handed_others : (n key : ℕ) → key ≢ v.key → current_of handed_rows n key missing (versions handed_rows) ≡ current_of rs n key missing (versions rs)
    handed_others n key e = handed_current n key ∙ rw (ne_eqb v.key key (λ q. e (sym q)))

    abbrev dated : Dated
    dated = record { time = t; kind = v.kind; value = v.value }

    handed_below : (key limit : ℕ) → last_below handed_rows key limit ≡ cond (eqb v.key key) (later_of (last_below rs key limit) limit dated) (last_below rs key limit)
    handed_below key limit = below_more rs handed_rows v last_is times key limit ∙ rw timed

    pub handed_past_others : (key u : ℕ) → key ≢ v.key → strip_as_of handed_rows key u ≡ strip_as_of rs key u
    unfolding strip_as_of
    handed_past_others key u e = ap strip_at (handed_below key (suc u)) ∙ rw (ne_eqb v.key key (λ q. e (sym q)))

    -- an earlier time does not have it
    pub handed_earlier : (key u : ℕ) → u < t → strip_as_of handed_rows key u ≡ strip_as_of rs key u
    unfolding strip_as_of
    handed_earlier key u h =
        ap strip_at (handed_below key (suc u)
        ∙ cond_same (eqb v.key key) (last_below rs key (suc u)) (later_of (last_below rs key (suc u)) (suc u) dated)
        (too_late (last_below rs key (suc u)) (suc u) dated (omega arith)))

    -- its own time has it, as what is found up to then is no later
    pub handed_past : strip_as_of handed_rows v.key t ≡ strip_of v.kind v.value
    unfolding strip_as_of
    handed_past = ap strip_at (handed_below v.key (suc t)) ∙ rw (eq-eqb v.key v.key refl) (ap strip_at (go (last_below rs v.key (suc t)) refl))
      where
        go : (best : Option Dated) → last_below rs v.key (suc t) ≡ best → later_of best (suc t) dated ≡ Some dated
        go None e = rw (lt-ltb t (suc t) (omega arith))
        go (Some x) e = rw (lt-ltb t (suc t) (omega arith), le-leb x.time t (omega (arith, (last_from rs v.key (suc t) x e).below)))
