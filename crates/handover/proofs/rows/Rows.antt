-- What rows and the folds over them give where one row is added: a version row adds its version and no time, a commit row no
-- version, and what a number reads follows from which versions it sees. By induction over the rows or the versions.
use Rattle.std.specs.Prelude.{Option}
use Prim.Native.Nat.{ℕ}
use mathlib.Core.Path.{◌≡◌, refl, sym, ap, ◌∙◌}
use mathlib.Core.Logic.{inl, inr, ◌≢◌}
use mathlib.Core.Bool.{Bool, false, true, cond, ◌&&◌, ◌||◌, false≢true}
use mathlib.Core.List.{List, [], ◌∷◌, ◌++◌, append-nil}
use lib.Dec.{eqb}
use borrow.Author.Tests.{ne_eqb}
use Rattle.runs.specs.Event.{Strip}
use Rattle.runs.specs.Book.{Row, version, committed, Version, Dated, versions, time_of, last_time, has_row, strip_of, is_some, current_of, dated_of, best_below}
use Rattle.runs.specs.Moments.{Among}
use Rattle.agreement.proofs.plain.Laws.{among_right, versions_append, among_version, version_has}

-- ---- one row more

pub versions_version : (rs : List Row) (v : Version) → versions (rs ++ (version v ∷ [])) ≡ versions rs ++ (v ∷ [])
unfolding versions
versions_version rs v = versions_append rs (version v ∷ [])

pub versions_commit : (rs : List Row) (n t : ℕ) → versions (rs ++ (committed n t ∷ [])) ≡ versions rs
unfolding versions
versions_commit rs n t = versions_append rs (committed n t ∷ []) ∙ append-nil (versions rs)

-- behind rows, others begin with the last time of these; u is the time of a commit row before both
last_append : (m u : ℕ) (rs ss : List Row) → last_time (committed m u ∷ (rs ++ ss)) ≡ last_time (committed m (last_time (committed m u ∷ rs)) ∷ ss)
unfolding last_time
last_append m u [] ss = refl
last_append m u (version v ∷ rs) ss = last_append m u rs ss
last_append m u (committed k t ∷ rs) ss = last_append m t rs ss

pub last_version : (rs : List Row) (v : Version) → last_time (rs ++ (version v ∷ [])) ≡ last_time rs
unfolding last_time
last_version rs v = last_append 0 0 rs (version v ∷ [])

pub last_commit : (rs : List Row) (n t : ℕ) → last_time (rs ++ (committed n t ∷ [])) ≡ t
unfolding last_time
last_commit rs n t = last_append 0 0 rs (committed n t ∷ [])

-- the number of the last row has one
pub row_last : (rs : List Row) (v : Version) → has_row (rs ++ (version v ∷ [])) v.number ≡ true
row_last rs v =
    version_has v (rs ++ (version v ∷ [])) (among_version v (rs ++ (version v ∷ [])) (among_right (version v) rs (version v ∷ []) (inl refl)))

-- every version of the rows is of another number than one without rows
pub foreign : (rs : List Row) (n : ℕ) → has_row rs n ≡ false → (v : Version) → Among v (versions rs) → v.number ≢ n
foreign rs n h v a e = false≢true (sym h ∙ ap (has_row rs) (sym e) ∙ version_has v rs a)

-- ---- the folds over versions

-- a version that the number n sees: its own, or a committed one
abbrev pub sees : List Row → ℕ → Version → Bool
sees rs n v = eqb v.number n || is_some (time_of rs v.number)

-- who sees the same versions reads the same
pub current_same : (rs qs : List Row) (n k key : ℕ) (before : Strip) (vs : List Version) → ((v : Version) → Among v vs → sees qs k v ≡ sees rs n v)
    → current_of qs k key before vs ≡ current_of rs n key before vs
unfolding current_of
current_same rs qs n k key before [] h = refl
current_same rs qs n k key before (v ∷ vs) h =
    ap (λ (seen : Bool). current_of qs k key (cond (eqb v.key key && seen) (strip_of v.kind v.value) before) vs) (h v (inl refl))
    ∙ current_same rs qs n k key (cond (eqb v.key key && sees rs n v) (strip_of v.kind v.value) before) vs (λ w a. h w (inr a))

-- two numbers without versions do
pub current_fresh : (rs : List Row) (n k key : ℕ) (before : Strip) (vs : List Version)
    → ((v : Version) → Among v vs → v.number ≢ n) → ((v : Version) → Among v vs → v.number ≢ k)
    → current_of rs n key before vs ≡ current_of rs k key before vs
current_fresh rs n k key before vs f g =
    current_same rs rs k n key before vs (λ v a. rw (ne_eqb v.number n (f v a), ne_eqb v.number k (g v a)))

-- rows under which these versions have the same times
pub best_same : (rs qs : List Row) (key limit : ℕ) (best : Option Dated) (vs : List Version)
    → ((v : Version) → Among v vs → time_of qs v.number ≡ time_of rs v.number)
    → best_below qs key limit best vs ≡ best_below rs key limit best vs
unfolding best_below
best_same rs qs key limit best [] h = refl
best_same rs qs key limit best (v ∷ vs) h =
    rw (h v (inl refl))
    (best_same rs qs key limit (cond (eqb v.key key) (dated_of (time_of rs v.number) best limit v) best) vs (λ w a. h w (inr a)))
