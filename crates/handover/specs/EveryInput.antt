-- What holds of a handover for every state, medium and cache: its abort is done, its calls are the handover, they make at most one
-- store, and what a refused one leaves.
use Rattle.std.specs.Prelude.{ℕ, ◌<◌, ◌≡◌, List, [], ◌∷◌, ◌++◌, replicate, None, Some, Ok}
use Rattle.store.specs.declared.Answer.TheVariants.{Done}
use Rattle.store.specs.declared.Refusal.{Refusal}
use Rattle.store.specs.declared.State.{State}
use Rattle.store.specs.Answer.{Outcome, answer_value}
use Rattle.store.specs.Places.{free_place}
use Rattle.store.specs.State.{with_place}
use Rattle.store.specs.Begin.{begun}
use Rattle.store.specs.Write.{new_head, write_step}
use Rattle.runs.specs.Event.{Event}
use Rattle.runs.specs.Machine.{World, up, medium_of, step}
use Rattle.runs.specs.Moments.{world_after}
use Rattle.runs.specs.Relief.{OneStore}
use Rattle.handover.specs.declared.Transfer.{Transfer}
use Rattle.handover.specs.Hand.{hand_number, refusal_in, with_owner, begins, reads, writes, commits, aborts, hand_of}
use Rattle.handover.specs.Calls.{hand_events}

-- ---- its calls

-- 02, #101: "any refusal aborts": once begin has given a number, an abort after the read, after the write, or after a refused
-- commit is not refused itself
pub record AbortsDone (s : State) (m c : List ℕ) (h : Transfer) : Type 0 where
  pub read : refusal_in (begins s m c h).answer ≡ None
      → let n = answer_value (begins s m c h).answer in (aborts (reads (begins s m c h) n h) n).answer ≡ Ok Done
  pub written : refusal_in (begins s m c h).answer ≡ None
      → let n = answer_value (begins s m c h).answer in (aborts (writes (reads (begins s m c h) n h) n h) n).answer ≡ Ok Done
  pub committed : refusal_in (begins s m c h).answer ≡ None
      → let n = answer_value (begins s m c h).answer in
      let o = commits (writes (reads (begins s m c h) n h) n h) n h in
      (r : Refusal) → refusal_in o.answer ≡ Some r → (aborts o n).answer ≡ Ok Done

-- 02, #101: "It begins, reads, checks, writes .. and commits": its calls, made one after the other on an open store, leave what
-- the handover leaves
unfoldable pub Plays : ℕ → ℕ → State → List ℕ → List ℕ → Transfer → Type 0
Plays l d s m c h =
    let o = hand_of s m c h in world_after l d (up m c s) (hand_events s m c h) ≡ up o.medium o.cache o.state

-- ---- its stores

-- 01: "A store replaces one block": the media that some events leave, one after the other
unfoldable pub media_after : ℕ → ℕ → World → List Event → List (List ℕ)
media_after l d w [] = []
media_after l d w (e ∷ es) = medium_of (step l d w e).world ∷ media_after l d (step l d w e).world es

-- 01: "Each call but formatting makes at most one store": so does a handover. Its calls leave the medium m as it is up to one of
-- them, and from then on it is m with one block replaced, or still m.
pub record StoresOnce (m : List ℕ) (media : List (List ℕ)) : Type 0 where
  pub before : ℕ
  pub since : ℕ
  pub medium : List ℕ
  pub store : OneStore m medium
  pub split : media ≡ replicate before m ++ replicate since medium

-- ---- what a refused one leaves

-- 02, #101: "a number, slot or log bytes it took stay used, and a log block it stored stays stored": the state, the medium and the
-- cache that are left of s, m and c. Nothing is used if begin is refused; else the number that begin gave; and where the version was
-- written and the commit refused, its slot, its record in the log, and, where the record began the next block, the block stored before
-- it. Place i, which begin took, is free again: it is place j unless the number was active before, as in no run.
pub data Leftover (s : State) (m c : List ℕ) (h : Transfer) : State → List ℕ → List ℕ → Type 0 where
  nothing : Leftover s m c h s m c
  number : (i j : ℕ) → Leftover s m c h (with_place (begun s i h.began) j free_place) m c
  version : (i j : ℕ) (strip : List ℕ) (w : Outcome)
      → w ≡ write_step (begun s i h.began) m c j (new_head (begun s i h.began) c s.next.0 h.flight 0) (with_owner strip h.to)
      → Leftover s m c h (with_place w.state j free_place) w.medium w.cache

-- ---- the whole

-- 02, #101: for every state, medium, cache and handover
pub record EveryInput (s : State) (m c : List ℕ) (h : Transfer) : Type 0 where
  pub aborts_done : AbortsDone s m c h
  pub plays : (l d : ℕ) → Plays l d s m c h
  pub one_store : (l d : ℕ) → StoresOnce m (media_after l d (up m c s) (hand_events s m c h))
  pub leftover : let o = hand_of s m c h in 0 < hand_number o.answer → Leftover s m c h o.state o.medium o.cache
