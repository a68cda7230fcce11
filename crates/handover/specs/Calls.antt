-- A handover in a run: the calls that it makes, one after the other, so that demand 3 speaks of each.
use Rattle.std.specs.Prelude.{ℕ, Bool, true, false, ◌&&◌, List, [], ◌∷◌, ltb, Option, None, Some}
use Rattle.store.specs.declared.Refusal.{Refusal}
use Rattle.store.specs.declared.State.{State}
use Rattle.store.specs.Answer.{Outcome, answer_value}
use Rattle.runs.specs.Event.{Call, Event, begin, current_read, write, commit, abort, is_word, is_record}
use Rattle.runs.specs.Unstuck.{events_of}
use Rattle.handover.specs.declared.Transfer.{Transfer}
use Rattle.handover.specs.Hand.{refusal_in, with_owner, may_hand, begins, reads, writes, commits}

-- 01: "a record or byte at most 255", "others below 2^64"; 02, #104: "Record numbers become two bytes": can a handover be given
-- these?
unfoldable pub hand_typed : Transfer → Bool
hand_typed h =
    is_record h.flight && (ltb h.from 256 && (ltb h.to 256 && (is_word h.began && is_word h.ended)))

-- ---- the calls, by what those before them answer (as in `Hand`: o is what the call before left, n the number)

-- 02, #101: "any refusal aborts": after the commit
abbrev pub commit_calls : Option Refusal → ℕ → List Call
commit_calls (Some r) n = abort n ∷ []
commit_calls None n = []

-- 02, #101: "and commits": after the write o
abbrev pub write_calls : Option Refusal → Outcome → ℕ → Transfer → List Call
write_calls (Some r) o n h = abort n ∷ []
write_calls None o n h = commit n h.ended ∷ commit_calls (refusal_in (commits o n h).answer) n

-- 02, #101: "checks, writes the strip read with b in byte 0": after the check of what the read o gave
abbrev pub check_calls : Bool → Outcome → ℕ → Transfer → List Call
check_calls false o n h = abort n ∷ []
check_calls true o n h =
    write n h.flight (with_owner o.value h.to) ∷ write_calls (refusal_in (writes o n h).answer) (writes o n h) n h

-- 02, #101: "checks": after the read o
abbrev pub read_calls : Option Refusal → Outcome → ℕ → Transfer → List Call
read_calls (Some r) o n h = abort n ∷ []
read_calls None o n h = check_calls (may_hand o.answer o.value h) o n h

-- 02, #101: "reads": after the begin o
abbrev pub begin_calls : Option Refusal → Outcome → Transfer → List Call
begin_calls (Some r) o h = []
begin_calls None o h =
    let n = answer_value o.answer in current_read n h.flight ∷ read_calls (refusal_in (reads o n h).answer) (reads o n h) n h

-- 02, #101: "It begins, reads, checks, writes .. and commits .. any refusal aborts"
unfoldable pub hand_calls : State → List ℕ → List ℕ → Transfer → List Call
hand_calls s m c h = begin h.began ∷ begin_calls (refusal_in (begins s m c h).answer) (begins s m c h) h

-- 02, #101: "a handover refused in a run": its calls as events of the run
unfoldable pub hand_events : State → List ℕ → List ℕ → Transfer → List Event
hand_events s m c h = events_of (hand_calls s m c h)
