-- The commits of a log: each commit record adds one behind those before it, and the first of them under a number is that of
-- the log's first commit record. By the records, one after the other; assumes nothing.
use Rattle.std.specs.Prelude.{Option, None, Some}
use Rattle.std.specs.List.{find}
use Rattle.std.specs.Option.{option_map, MatchOption}
use mathlib.Core.Path.{◌≡◌, refl, sym, ap, ◌∙◌}
use mathlib.Core.Bool.{Bool, true, false, cond}
use mathlib.Core.List.{List, [], ◌∷◌, ◌++◌, append-nil}
use Prim.Native.Nat.{ℕ, ◌+◌, ◌*◌, ◌≤◌, ◌<◌}
use native.Mathlib.Omega.{arith}
use lib.ListN.{length, length-append}
use lib.Seq.{append_snoc}
use lib.Dec.{eqb}
use Rattle.layout.specs.Journal.{Record, version, commit}
use Rattle.layout.specs.declared.CommitTime.{CommitTime}
use Rattle.layout.specs.declared.EndPlace.{EndPlace}
use Rattle.layout.specs.declared.item.Pair.{Pair}
use Rattle.layout.specs.declared.item.VersionHead.{VersionHead}
use Rattle.store.specs.OpenLog.{Placed, Commitment, commit_in, or_else, commit_under, read_log}
use Rattle.store.specs.OpenPairs.{end_of_commitment}
use Rattle.conditions.specs.declared.cursor.Cursor.{Cursor}
use Rattle.conditions.specs.declared.log.Commit.{Commit}
use Rattle.conditions.specs.Cursor.{rest_of, Valid}
use Rattle.conditions.specs.Lookup.{with_commit, commits_of, commit_among, match_of, Known}
use Rattle.conditions.proofs.CursorLaws.{measure, Next}

-- the first under a number, as a search finds it
pub among_listed : (cs : List Commit) (n : ℕ) → option_map (λ c. (c.time, c.end)) (find (λ c. eqb c.number.0 n) cs) ≡ match_of (commit_among cs n)
unfolding commit_among
among_listed [] n = refl
among_listed (x ∷ xs) n = go (eqb x.number.0 n) _ _ (among_listed xs n)
  where
    go : (b : Bool) (o : Option Commit) (p : Option Commitment) → option_map (λ c. (c.time, c.end)) o ≡ match_of p
        → option_map (λ c. (c.time, c.end)) (cond b (Some x) o) ≡ match_of (cond b (Some (record { time = x.time.0; end = x.end.0 })) p)
    go true o p e = refl
    go false o p e = e

-- its end place, 0 if it was not found: r is what `map_or` gives
pub end_found : (o : Option Commitment) (r : EndPlace) (P : CommitTime × EndPlace → Type 0) → MatchOption (match_of o) (r ≡ record { 0 = 0 }) P
    → ((x : CommitTime × EndPlace) → P x → r ≡ x.1) → r ≡ record { 0 = end_of_commitment o }
end_found None r P e f = e
end_found (Some x) r P e f = f _ e

-- ---- the commits of a log

pub among_commits : (log : List Placed) (n : ℕ) → commit_among (commits_of log) n ≡ commit_under log n
unfolding commits_of commit_among commit_under
among_commits [] n = refl
among_commits (x ∷ xs) n = go x.rec (among_commits xs n)
  where
    either : (b : Bool) (y : Commitment) (z w : Option Commitment) → z ≡ w → cond b (Some y) z ≡ or_else (cond b (Some y) None) w
    either true y z w e = refl
    either false y z w e = e

    go : (r : Record) → commit_among (commits_of xs) n ≡ commit_under xs n
        → commit_among (with_commit r x.end (commits_of xs)) n ≡ or_else (commit_in r x.end n) (commit_under xs n)
    go (version h v) e = e
    go (commit p) e = either (eqb p.number.0 n) _ _ _ e

pub known_commit : (m : List ℕ) (l used : ℕ) (cs : List Commit) → Known m l used cs → (n : ℕ) → commit_among cs n ≡ commit_under (read_log m l) n
known_commit m l used cs k n = rw k.log (among_commits (read_log m l) n)

-- ---- the loop that gathers: `commits` are those before the cursor c, and the records from there on are left

pub record Gathering (m : List ℕ) (l : ℕ) (from c : Cursor) (commits : List Commit) : Type 0 where
  pub valid : Valid c
  pub room : 19 * length commits + measure c ≤ 16416
  pub same : commits ++ commits_of (rest_of m l c) ≡ commits_of (rest_of m l from)

module _ (m : List ℕ) (l : ℕ) (from : Cursor) where
  pub gather_start : (commits : List Commit) → commits ≡ [] → Valid from → Gathering m l from from commits
  gather_start commits e v =
      let k : from.left ≤ 32 = v.blocks in
      rw e (record { valid = v; room = omega arith; same = refl })

  module _ (c : Cursor) (commits : List Commit) (g : Gathering m l from c commits) where
    pub gather_end : rest_of m l c ≡ [] → commits ≡ commits_of (rest_of m l from)
    unfolding commits_of
    gather_end e = sym (append-nil commits) ∙ (rw e at g.same)

    pub gather_skip : (d : Cursor) → Next m l c d [] → Gathering m l from d commits
    gather_skip d w =
        let r : 19 * length commits + measure c ≤ 16416 = g.room in
        let k : measure d < measure c = w.less in
        record { valid = w.valid; room = omega arith; same = rw w.rest at g.same }

    pub gather_written : (d : Cursor) (s e : ℕ) (h : VersionHead) (v : List ℕ) → Next m l c d (record { seq = s; end = e; rec = version h v } ∷ []) → Gathering m l from d commits
    unfolding commits_of
    gather_written d s e h v w =
        let r : 19 * length commits + measure c ≤ 16416 = g.room in
        let k : measure d < measure c = w.less in
        record { valid = w.valid; room = omega arith; same = rw w.rest at g.same }

    module _ (d : Cursor) (far : measure d + 19 ≤ measure c) where
      pub gather_room : length commits < 864
      gather_room = let r : 19 * length commits + measure c ≤ 16416 = g.room in omega arith

      pub gather_committed : (s : ℕ) (e : EndPlace) (p : Pair) (new : List Commit) → Next m l c d (record { seq = s; end = e.0; rec = commit p } ∷ [])
          → new ≡ commits ++ record { number = p.number; time = p.time; end = e } ∷ [] → Gathering m l from d new
      unfolding commits_of
      gather_committed s e p new w q =
          let r : 19 * length commits + measure c ≤ 16416 = g.room in
          let x : Commit = record { number = p.number; time = p.time; end = e } in
          let n : length new ≡ length commits + 1 = ap length q ∙ length-append commits (x ∷ []) in record {
            valid = w.valid;
            room = omega arith;
            same = rw q (append_snoc commits x (commits_of (rest_of m l d)) ∙ (rw w.rest at g.same));
          }
