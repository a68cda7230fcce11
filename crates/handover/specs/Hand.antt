-- A handover: the whole outcome for every input, from the outcomes of the store's calls.
use Rattle.layout.specs.declared.CommitTime.{CommitTime}
use Rattle.std.specs.Prelude.{ℕ, Bool, true, false, not, ◌&&◌, List, get_or, set, eqb, Option, None, Some, Err, Ok, Result}
use Rattle.store.specs.declared.Answer.{Answer}
use Rattle.store.specs.declared.Answer.TheVariants.{Done, Begun, Written, Committed, Opened, Missing, Erased, Present, Listed}
use Rattle.store.specs.declared.Refusal.{Refusal}
use Rattle.store.specs.declared.State.{State}
use Rattle.store.specs.Answer.{Outcome, refusal_number, answer_value}
use Rattle.store.specs.Begin.{begin_of}
use Rattle.store.specs.CurrentRead.{current_of}
use Rattle.store.specs.Write.{write_of}
use Rattle.store.specs.Commit.{commit_of}
use Rattle.store.specs.Abort.{abort_of}
use Rattle.handover.specs.declared.Transfer.{Transfer}
use Rattle.handover.specs.declared.HandRefusal.{HandRefusal}
use Rattle.handover.specs.declared.HandRefusal.TheVariants.{Denied, NotOwner}

-- 02, #101: "any refusal .. is answered", "17": 0, or the refusal's number
unfoldable pub hand_number : Result CommitTime HandRefusal → ℕ
hand_number (Err (Denied r)) = refusal_number r
hand_number (Err NotOwner) = 17
hand_number (Ok t) = 0

-- 02, #101: "answering the commit time": the time, 0 where there is none
unfoldable pub hand_value : Result CommitTime HandRefusal → ℕ
hand_value (Err r) = 0
hand_value (Ok t) = t.0

-- 01: "the statement about a call fixes result, state, medium and cache": all that a handover leaves
pub record HandOutcome : Type 0 where
  pub answer : Result CommitTime HandRefusal
  pub state : State
  pub medium : List ℕ
  pub cache : List ℕ

-- 02, #101: "any refusal": the one in an answer of the store, if there is one
abbrev pub refusal_in : Result Answer Refusal → Option Refusal
refusal_in (Err r) = Some r
refusal_in (Ok a) = None

-- 02, #101: "is the strip present": by the read's answer
abbrev pub is_present : Result Answer Refusal → Bool
is_present (Err r) = false
is_present (Ok Done) = false
is_present (Ok (Begun n)) = false
is_present (Ok (Written k)) = false
is_present (Ok (Committed t)) = false
is_present (Ok (Opened t)) = false
is_present (Ok Missing) = false
is_present (Ok Erased) = false
is_present (Ok Present) = true
is_present (Ok (Listed k)) = false

-- 02, #101: "Byte 0 of a strip is the owner, 0 for nobody"
abbrev pub owner_of : List ℕ → ℕ
owner_of strip = get_or strip 0 0

-- 02, #101: "the strip read with b in byte 0"
abbrev pub with_owner : List ℕ → ℕ → List ℕ
with_owner strip b = set strip 0 b

-- 02, #101: "17, is the strip present, a its owner, and neither a nor b 0?"
unfoldable pub may_hand : Result Answer Refusal → List ℕ → Transfer → Bool
may_hand a strip h =
    is_present a && (eqb (owner_of strip) h.from && (not (eqb h.from 0) && not (eqb h.to 0)))

-- ---- the calls: o is what the call before left, n the number that begin gave

-- 02, #101: "It begins": the call
abbrev pub begins : State → List ℕ → List ℕ → Transfer → Outcome
begins s m c h = begin_of s m c h.began

-- 02, #101: "reads": the call
abbrev pub reads : Outcome → ℕ → Transfer → Outcome
reads o n h = current_of o.state o.medium o.cache n h.flight

-- 02, #101: "writes the strip read with b in byte 0": the call, after the read o
abbrev pub writes : Outcome → ℕ → Transfer → Outcome
writes o n h = write_of o.state o.medium o.cache n h.flight (with_owner o.value h.to)

-- 02, #101: "and commits": the call
abbrev pub commits : Outcome → ℕ → Transfer → Outcome
commits o n h = commit_of o.state o.medium o.cache n h.ended

-- 02, #101: "any refusal aborts": the call
abbrev pub aborts : Outcome → ℕ → Outcome
aborts o n = abort_of o.state o.medium o.cache n

-- ---- what follows each call, by whether it is refused

-- 01: "fixes result, state, medium and cache": an answer with these three
abbrev pub hand_ends : Result CommitTime HandRefusal → State → List ℕ → List ℕ → HandOutcome
hand_ends a s m c = record { answer = a; state = s; medium = m; cache = c }

-- 01: "fixes result, state, medium and cache": an answer with what a call left
abbrev pub hand_leaves : Result CommitTime HandRefusal → Outcome → HandOutcome
hand_leaves a o = hand_ends a o.state o.medium o.cache

-- 02, #101: "any refusal aborts and is answered": the refusal, whatever the abort says
abbrev pub gives_up : Result CommitTime HandRefusal → Outcome → ℕ → HandOutcome
gives_up a o n = hand_leaves a (aborts o n)

-- 02, #101: "any refusal aborts and is answered": o is what the calls under the number n left that answered this
abbrev pub or_aborted : Result CommitTime HandRefusal → Outcome → ℕ → HandOutcome
or_aborted (Ok t) o n = hand_leaves (Ok t) o
or_aborted (Err r) o n = gives_up (Err r) o n

-- 02, #101: "and commits, answering the commit time": after the commit o
unfoldable pub after_commit : Option Refusal → Outcome → ℕ → HandOutcome
after_commit (Some r) o n = gives_up (Err (Denied r)) o n
after_commit None o n = hand_leaves (Ok (record { 0 = answer_value o.answer })) o

-- 02, #101: "writes .. and commits": after the write o
unfoldable pub after_write : Option Refusal → Outcome → ℕ → Transfer → HandOutcome
after_write (Some r) o n h = gives_up (Err (Denied r)) o n
after_write None o n h = after_commit (refusal_in (commits o n h).answer) (commits o n h) n

-- 02, #101: "checks, writes": after the check of what the read o gave
unfoldable pub after_check : Bool → Outcome → ℕ → Transfer → HandOutcome
after_check false o n h = gives_up (Err NotOwner) o n
after_check true o n h = after_write (refusal_in (writes o n h).answer) (writes o n h) n h

-- 02, #101: "It follows the store's own numbers for the read": after the read o
unfoldable pub after_read : Option Refusal → Outcome → ℕ → Transfer → HandOutcome
after_read (Some r) o n h = gives_up (Err (Denied r)) o n
after_read None o n h = after_check (may_hand o.answer o.value h) o n h

-- 02, #101: "It begins, reads": after the begin o; where it is refused there is nothing to abort
unfoldable pub after_begin : Option Refusal → Outcome → Transfer → HandOutcome
after_begin (Some r) o h = hand_leaves (Err (Denied r)) o
after_begin None o h =
    let n = answer_value o.answer in after_read (refusal_in (reads o n h).answer) (reads o n h) n h

-- 02, #101: "It begins, reads, checks, writes .. and commits .. any refusal aborts and is answered"
unfoldable pub hand_of : State → List ℕ → List ℕ → Transfer → HandOutcome
hand_of s m c h = after_begin (refusal_in (begins s m c h).answer) (begins s m c h) h
