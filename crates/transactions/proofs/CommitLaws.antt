-- How a commit ends: where its questions refuse, where it has no versions, and where its step is the definition's. Assumes
-- nothing.
use Rattle.std.specs.Prelude.{None, Some, Ok}
use mathlib.Core.Path.{◌≡◌, ◌∙◌}
use mathlib.Core.Bool.{true}
use mathlib.Core.List.{List}
use Prim.Native.Nat.{ℕ, ◌-◌, ◌^◌, ◌<◌}
use lib.ListN.{length}
use borrow.Author.Tests.{ltb-true, eq-eqb, ne_eqb}
use Rattle.layout.specs.Journal.{commit}
use Rattle.layout.specs.declared.CommitTime.{CommitTime}
use Rattle.store.specs.declared.Answer.TheVariants.{Done, Committed}
use Rattle.store.specs.declared.State.{State}
use Rattle.store.specs.Answer.{Outcome, leaves, ask}
use Rattle.store.specs.Places.{find_active, place_at, free_place}
use Rattle.store.specs.State.{fits, with_place}
use Rattle.store.specs.Tail.{may_log, logged}
use Rattle.store.specs.Commit.{commit_asks, commit_time, committed, commit_step, commit_if, commit_of}
use Rattle.tail.specs.Taken.{taken}
use Rattle.store.proofs.AskLaws.{passed}

-- ---- all questions passed

pub record CommitAsked (s : State) (m c : List ℕ) : Type 0 where
  pub fit : fits s (length m) (length c) ≡ true
  pub last : s.last.0 < 2 ^ 64 - 1
  pub log : may_log s m 19 ≡ true

module _ (s : State) (m c : List ℕ) (n i : ℕ) (e : ask (commit_asks s m c n) ≡ None) (f : find_active s.places n ≡ Some i) where
  pub commit_empty : (clock : ℕ) (t : State) → (place_at s.places i).waiting ≡ 0 → t ≡ with_place s i free_place
      → leaves (Ok Done) t m c ≡ commit_of s m c n clock
  unfolding commit_of commit_if
  commit_empty clock t w et = rw (e, f, eq-eqb _ _ w, et)

  module _ (w : (place_at s.places i).waiting ≡ 0 → ⊥) where
    pub commit_asked : CommitAsked s m c
    commit_asked =
        let p = passed (commit_asks s m c n) e in
        record {
          fit = p.0;
          last = ltb-true s.last.0 (2 ^ 64 - 1) (rw (f, ne_eqb _ _ w) at p.1.1.0);
          log = rw (f, ne_eqb _ _ w) at p.1.1.1.0;
        }

    pub commit_passed : (clock : ℕ) (t : CommitTime) (x : Outcome) → t ≡ commit_time s i clock → x ≡ commit_step s m c i n t
        → x ≡ commit_of s m c n clock
    unfolding commit_of commit_if
    commit_passed clock t x et ex = ex ∙ rw (e, f, ne_eqb _ _ w, et)

-- u is the state whose tail took the record, v the state with the place settled
pub commit_done : (s u v : State) (m k c : List ℕ) (i n : ℕ) (t : CommitTime)
    → u ≡ taken s (logged s m (commit (record { number = record { 0 = n }; time = t })))
    → k ≡ (logged s m (commit (record { number = record { 0 = n }; time = t }))).medium
    → v ≡ committed u i n t (record { medium = u.tail; tail = u.tail; end = u.end; saved = u.saved })
    → leaves (Ok (Committed t)) v k c ≡ commit_step s m c i n t
unfolding commit_step committed taken
commit_done s u v m k c i n t eu ek ev = simp (ev, ek, eu)
