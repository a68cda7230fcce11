-- The log's records: each is judged by those before it, and a commit record is the first under its number just where the
-- first one of the whole log ends at the same place, since end places rise. Assumes nothing.
use Rattle.std.specs.Prelude.{Option, None, Some}
use mathlib.Core.Path.{◌≡◌, refl, sym, ap, subst, ◌∙◌}
use mathlib.Core.Bool.{Bool, true, false, not, ◌&&◌, and-true, and-false}
use mathlib.Core.List.{List, [], ◌∷◌, ◌++◌, append_assoc}
use Prim.Native.Nat.{ℕ, zero, suc, ◌+◌, ◌-◌, ◌<◌, ◌^◌, max}
use native.Mathlib.Omega.{arith}
use lib.Dec.{eqb, leb, ltb}
use borrow.Author.Tests.{eq-eqb, ne_eqb, ltb-true}
use Rattle.layout.specs.Journal.{version, commit}
use Rattle.layout.specs.declared.item.Pair.{Pair}
use Rattle.layout.specs.declared.item.VersionHead.{VersionHead}
use Rattle.fields.proofs.Choose.{and_0, and_1}
use Rattle.store.specs.OpenLog.{Placed, Commitment, commit_under, number_in, time_in, above_all, latest}
use Rattle.store.specs.OpenPairs.{table_find, end_of_commitment}
use Rattle.store.specs.OpenConditions.{same_time, once_in}
use Rattle.conditions.specs.declared.log.Commit.{Commit}
use Rattle.conditions.specs.Lookup.{commits_of, commit_among}
use Rattle.conditions.specs.Passes.{record_ok, commit_ok, log_ok}
use Rattle.conditions.proofs.ChecksLaws.{one_up, and_cross}
use Rattle.conditions.proofs.CursorLaws.{Rising, commit_below, commit_append}
use Rattle.conditions.proofs.GatherLaws.{among_commits}

pub eqb_zero : (a : ℕ) → eqb a 0 ≡ eqb 0 a
eqb_zero zero = refl
eqb_zero (suc a) = ne_eqb (suc a) 0 (λ e. omega arith) ∙ sym (ne_eqb 0 (suc a) (λ e. omega arith))

-- ---- the first under its number

module _ (m : List ℕ) (low s e : ℕ) (p : Pair) (seen xs log : List Placed) (whole : log ≡ seen ++ (record { seq = s; end = e; rec = commit p } ∷ xs))
    (rises : Rising low log) where
  once_from : (o : Option Commitment) → o ≡ commit_under seen p.number.0
      → once_in (commit p) m o ≡ same_time (table_find m p.number.0) m p.time.0 && eqb (end_of_commitment (commit_under log p.number.0)) e
  unfolding commit_under
  once_from None h =
      let found : commit_under log p.number.0 ≡ Some (record { time = p.time.0; end = e }) =
      ap (λ (l : List Placed). commit_under l p.number.0) whole
      ∙ commit_append seen (record { seq = s; end = e; rec = commit p } ∷ xs) p.number.0
      ∙ simp (← h, eq-eqb p.number.0 p.number.0 refl) in
      sym (simp (found, eq-eqb e e refl, and-true))
  once_from (Some y) h =
      let found : commit_under log p.number.0 ≡ Some y =
      ap (λ (l : List Placed). commit_under l p.number.0) whole
      ∙ commit_append seen (record { seq = s; end = e; rec = commit p } ∷ xs) p.number.0
      ∙ simp (← h) in
      let below : y.end < e = commit_below low p.number.0 seen (record { seq = s; end = e; rec = commit p }) xs y (rw whole at rises) (sym h) in
      let other : eqb y.end e ≡ false = ne_eqb y.end e (λ q. omega arith) in
      sym (simp (found, other, and-false))

  pub once_by_end : once_in (commit p) m (commit_under seen p.number.0)
      ≡ same_time (table_find m p.number.0) m p.time.0 && eqb (end_of_commitment (commit_under log p.number.0)) e
  once_by_end = once_from (commit_under seen p.number.0) refl

  pub commit_judged : (ok : Bool) → ok ≡ commit_ok m (commit_under log p.number.0) p e → record_ok m seen (commit p) ≡ ok
  unfolding record_ok commit_ok
  commit_judged ok h =
      rw h (simp (once_by_end, one_up p.time.0)
      (and_cross (leb 1 p.number.0) (not (eqb p.time.0 0)) (ltb p.number.0 (2 ^ 64 - 1))
      (same_time (table_find m p.number.0) m p.time.0 && eqb (end_of_commitment (commit_under log p.number.0)) e)))

pub version_judged : (m : List ℕ) (seen : List Placed) (h : VersionHead) (v : List ℕ) (ok : Bool)
    → ok ≡ leb 1 h.number.0 && ltb h.number.0 (2 ^ 64 - 1) → record_ok m seen (version h v) ≡ ok
unfolding record_ok
version_judged m seen h v ok e = rw e (simp and-true)

-- ---- the loop over the log: what was seen, and what is left decides; a and t are the tallies so far

pub record Judged (m : List ℕ) (log : List Placed) (a t : ℕ) (xs : List Placed) : Type 0 where
  pub seen : List Placed
  pub whole : log ≡ seen ++ xs
  pub same : log_ok m seen xs ≡ log_ok m [] log
  pub above : max a (above_all xs) ≡ above_all log
  pub late : max t (latest xs) ≡ latest log

pub judged_begin : (m : List ℕ) (log xs : List Placed) → xs ≡ log → Judged m log 0 0 xs
judged_begin m log xs e = rw e (record { seen = []; whole = refl; same = refl; above = omega arith; late = omega arith })

pub judged_on : {m : List ℕ} {log : List Placed} {a t : ℕ} {xs ys : List Placed} → Judged m log a t xs → xs ≡ ys → Judged m log a t ys
judged_on {m} {log} {a} {t} j e = subst (λ (l : List Placed). Judged m log a t l) e j

pub judged_end : {m : List ℕ} {log : List Placed} {a t : ℕ} → Judged m log a t [] → (true ≡ log_ok m [] log) × (a ≡ above_all log) × (t ≡ latest log)
unfolding log_ok above_all latest
judged_end j = (j.same, omega (arith, j.above), omega (arith, j.late))

-- a commit record, judged by the first under its number among the log's commits
pub commit_turn : {m : List ℕ} {log xs : List Placed} {a t s e : ℕ} {p : Pair} (j : Judged m log a t (record { seq = s; end = e; rec = commit p } ∷ xs)) (low : ℕ)
    → (all : List Placed) → Rising low all → all ≡ log → (cs : List Commit) → cs ≡ commits_of log → (ok : Bool) → ok ≡ commit_ok m (commit_among cs p.number.0) p e → record_ok m j.seen (commit p) ≡ ok
commit_turn {m} {log} {xs} {a} {t} {s} {e} {p} j low all r f cs g ok h =
    commit_judged m low s e p j.seen xs log j.whole (rw f at r) ok (rw (g, among_commits log p.number.0) at h)

-- a record x that is judged: `ok` is what the code found of it
module _ {m : List ℕ} {log : List Placed} {a t : ℕ} {x : Placed} {xs : List Placed} (j : Judged m log a t (x ∷ xs)) (ok : Bool) (is : record_ok m j.seen x.rec ≡ ok) where
  pub judged_stop : ok ≡ false → false ≡ log_ok m [] log
  unfolding log_ok
  judged_stop f = simp (is, f) at j.same

  pub judged_turn : (b u : ℕ) → ok ≡ true → b ≡ max a (number_in x.rec + 1) → u ≡ max t (time_in x.rec) → Judged m log b u xs
  unfolding log_ok above_all latest
  judged_turn b u f g h = record {
    seen = j.seen ++ (x ∷ []);
    whole = j.whole ∙ simp append_assoc;
    same = simp (is, f) at j.same;
    above = omega (arith, j.above);
    late = omega (arith, j.late);
  }

-- a number that passed is below the highest
pub number_low : (n : ℕ) (ok : Bool) → ok ≡ leb 1 n && ltb n (2 ^ 64 - 1) → ok ≡ true → n + 1 < 2 ^ 64
number_low n ok e t = let h : n < 2 ^ 64 - 1 = ltb-true n (2 ^ 64 - 1) (and_1 (leb 1 n) _ (sym e ∙ t)) in omega arith

pub commit_low : (m : List ℕ) (o : Option Commitment) (p : Pair) (e : ℕ) (ok : Bool) → ok ≡ commit_ok m o p e → ok ≡ true → p.number.0 + 1 < 2 ^ 64
unfolding commit_ok
commit_low m o p e ok h t =
    number_low p.number.0 (leb 1 p.number.0 && ltb p.number.0 (2 ^ 64 - 1)) refl (and_0 (leb 1 p.number.0 && ltb p.number.0 (2 ^ 64 - 1)) _ (sym h ∙ t))
