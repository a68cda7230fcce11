-- A handover's calls, made one after the other, leave what it leaves: both follow the same answers, call by call.
use Rattle.std.specs.Prelude.{Option, None, Some}
use Prim.Native.Nat.{ℕ}
use mathlib.Core.Path.{◌≡◌, refl}
use mathlib.Core.Bool.{Bool, true, false}
use mathlib.Core.List.{List}
use Rattle.store.specs.declared.Refusal.{Refusal}
use Rattle.store.specs.declared.State.{State}
use Rattle.store.specs.Answer.{Outcome, answer_value}
use Rattle.runs.specs.Event.{Call}
use Rattle.runs.specs.Machine.{up, step, called, after}
use Rattle.runs.specs.Moments.{world_after}
use Rattle.runs.specs.Unstuck.{events_of}
use Rattle.handover.specs.declared.Transfer.{Transfer}
use Rattle.handover.specs.Hand.{HandOutcome, refusal_in, may_hand, begins, reads, writes, commits, after_commit, after_write, after_check, after_read, after_begin, hand_of}
use Rattle.handover.specs.Calls.{commit_calls, write_calls, check_calls, read_calls, begin_calls, hand_calls, hand_events}
use Rattle.handover.specs.EveryInput.{Plays}

module _ (l d : ℕ) where
  -- the calls ks on what o left lead to what is left in the end
  abbrev Lead : Outcome → List Call → HandOutcome → Type 0
  Lead o ks end = world_after l d (after o) (events_of ks) ≡ up end.medium end.cache end.state

  commit_plays : (a : Option Refusal) (o : Outcome) (n : ℕ) → Lead o (commit_calls a n) (after_commit a o n)
  unfolding world_after events_of step called after_commit
  commit_plays (Some r) o n = refl
  commit_plays None o n = refl

  write_plays : (a : Option Refusal) (o : Outcome) (n : ℕ) (h : Transfer) → Lead o (write_calls a o n h) (after_write a o n h)
  unfolding world_after events_of step called after_write
  write_plays (Some r) o n h = refl
  write_plays None o n h = commit_plays (refusal_in (commits o n h).answer) (commits o n h) n

  check_plays : (a : Bool) (o : Outcome) (n : ℕ) (h : Transfer) → Lead o (check_calls a o n h) (after_check a o n h)
  unfolding world_after events_of step called after_check
  check_plays false o n h = refl
  check_plays true o n h = write_plays (refusal_in (writes o n h).answer) (writes o n h) n h

  read_plays : (a : Option Refusal) (o : Outcome) (n : ℕ) (h : Transfer) → Lead o (read_calls a o n h) (after_read a o n h)
  unfolding world_after events_of step called after_read
  read_plays (Some r) o n h = refl
  read_plays None o n h = check_plays (may_hand o.answer o.value h) o n h

  begin_plays : (a : Option Refusal) (o : Outcome) (h : Transfer) → Lead o (begin_calls a o h) (after_begin a o h)
  unfolding world_after events_of step called after_begin
  begin_plays (Some r) o h = refl
  begin_plays None o h =
      let n = answer_value o.answer in read_plays (refusal_in (reads o n h).answer) (reads o n h) n h

  pub plays : (s : State) (m c : List ℕ) (h : Transfer) → Plays l d s m c h
  unfolding Plays hand_events hand_calls hand_of world_after events_of step called
  plays s m c h = begin_plays (refusal_in (begins s m c h).answer) (begins s m c h) h
