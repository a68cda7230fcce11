-- Commit.
use Rattle.std.specs.Prelude.{ℕ, ◌+◌, ◌-◌, ◌^◌, max, Bool, true, cond, ◌||◌, List, [], ◌∷◌, length, set, eqb, ltb, Option, None, Some, Ok}
use Rattle.layout.specs.Journal.{commit}
use Rattle.layout.specs.declared.CommitTime.{CommitTime}
use Rattle.store.specs.declared.Life.TheVariants.{Committed as CommittedLife}
use Rattle.store.specs.declared.Refusal.{Refusal}
use Rattle.store.specs.declared.Refusal.TheVariants.{Unfit, NotActive, NoTime, LogFull}
use Rattle.store.specs.declared.Answer.TheVariants.{Done, Committed}
use Rattle.store.specs.declared.State.{State}
use Rattle.store.specs.Answer.{Outcome, leaves, refuses, ask}
use Rattle.store.specs.Places.{is_at, find_active, place_at, free_place, clock_of}
use Rattle.store.specs.State.{fits, with_place}
use Rattle.store.specs.Tail.{may_log, logged, Logged, tail_end}

-- 01: "A transaction without versions": an active one's versions all wait, so it has none just if its count is 0
abbrev pub no_versions : Option ℕ → State → Bool
no_versions (Some i) s = eqb (place_at s.places i).waiting 0
no_versions None s = true

-- 01: "state and buffers fit .. ? 16", "number active? 5"; with versions "last time below 2^64 - 1? 9", "may the log
-- take it? 8" (a commit record takes 19 bytes)
abbrev pub commit_asks : State → List ℕ → List ℕ → ℕ → List (Bool × Refusal)
commit_asks s m c n =
    let f = find_active s.places n in
    (fits s (length m) (length c), Unfit)
    ∷ (is_at f, NotActive)
    ∷ (no_versions f s || ltb s.last.0 (2 ^ 64 - 1), NoTime)
    ∷ (no_versions f s || may_log s m 19, LogFull)
    ∷ []

-- 01: "the largest of the clock at begin, the clock at commit, and the last commit time plus 1"
unfoldable pub commit_time : State → ℕ → ℕ → CommitTime
commit_time s i clock = record { 0 = max (clock_of (place_at s.places i).life) (max clock (s.last.0 + 1)) }

-- 01: "committed with waiting versions": the state with the record taken and place i committed at t
unfoldable pub committed : State → ℕ → ℕ → CommitTime → Logged → State
committed s i n t g = record {
  blocks = s.blocks;
  pages = s.pages;
  slots = s.slots;
  next = s.next;
  last = t;
  saved = g.saved;
  end = g.end;
  tail = g.tail;
  places = set s.places i (record {
    life = CommittedLife (record { 0 = n }) t (tail_end g.tail);
    waiting = (place_at s.places i).waiting;
  });
  ring = s.ring;
  first = s.first;
  phase = s.phase;
}

-- 01: "Tag 2, commit, body 16: number, time": the outcome with this record taken by the log
unfoldable pub commit_step : State → List ℕ → List ℕ → ℕ → ℕ → CommitTime → Outcome
commit_step s m c i n t =
    let g = logged s m (commit (record { number = record { 0 = n }; time = t })) in
    leaves (Ok (Committed t)) (committed s i n t g) g.medium c

-- 01: "A transaction without versions ends with answer 0, no record, no time"
abbrev pub commit_at : Option ℕ → State → List ℕ → List ℕ → ℕ → ℕ → Outcome
commit_at None s m c n clock = refuses NotActive s m c
commit_at (Some i) s m c n clock =
    cond (eqb (place_at s.places i).waiting 0) (leaves (Ok Done) (with_place s i free_place) m c)
    (commit_step s m c i n (commit_time s i clock))

-- 01: "on "no", this number with zeros": commit refused, or done at the number's place
unfoldable pub commit_if : Option Refusal → State → List ℕ → List ℕ → ℕ → ℕ → Outcome
commit_if (Some r) s m c n clock = refuses r s m c
commit_if None s m c n clock = commit_at (find_active s.places n) s m c n clock

-- 01: "In this order, those that fit the call": commit's outcome, its first "no" or its step
unfoldable pub commit_of : State → List ℕ → List ℕ → ℕ → ℕ → Outcome
commit_of s m c n clock = commit_if (ask (commit_asks s m c n)) s m c n clock
