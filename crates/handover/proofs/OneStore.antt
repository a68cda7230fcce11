-- A handover makes at most one store. Begin, read and abort store nothing. Where the write stores the tail, the next tail holds its
-- record alone, and the commit record fits behind it; where the write stores nothing, the tail stays in its block, and the commit
-- stores that block or none.
use Rattle.std.specs.Prelude.{Option, None, Some}
use Prim.Native.Nat.{ℕ, zero, suc, ◌+◌}
use native.Mathlib.Omega.{arith}
use mathlib.Core.Logic.{◌⊎◌, inl, inr}
use mathlib.Core.Path.{◌≡◌, refl, sym, ap, ◌∙◌}
use mathlib.Core.Bool.{Bool, true, false, false≢true}
use mathlib.Core.List.{List, [], ◌∷◌, ◌++◌}
use lib.ListN.{length, replicate}
use borrow.Author.Tests.{le-leb}
use Rattle.fields.specs.Block.{log_block_at}
use Rattle.layout.specs.Item.{bytes_of}
use Rattle.layout.specs.Journal.{Record, record_size, sequence_of, used_of, empty_block, add_record}
use Rattle.layout.proofs.JournalLaws.{length_empty_block, used_empty_block, sequence_add_record, used_add_record}
use Rattle.store.specs.declared.Refusal.{Refusal}
use Rattle.store.specs.declared.State.{State}
use Rattle.store.specs.Answer.{Outcome, answer_value}
use Rattle.store.specs.State.{fits}
use Rattle.store.specs.Tail.{tail_fits, logged_if, logged}
use Rattle.store.specs.Begin.{begun, begin_if, begin_of}
use Rattle.store.specs.Write.{new_head, written, write_step}
use Rattle.store.specs.Commit.{commit_step}
use Rattle.store.proofs.FitLaws.{TailFit, fit_of}
use Rattle.runs.specs.Event.{Event, begin, write, current_read, commit, abort}
use Rattle.runs.specs.Machine.{World, up, medium_of, step, called, after}
use Rattle.runs.specs.Moments.{world_after}
use Rattle.runs.specs.Unstuck.{events_of}
use Rattle.runs.proofs.Asks.{Way, refused, begins, writes, looks, commits, ends, way}
use Rattle.runs.proofs.OneBlock.{Stores, nothing, tail_block, stores}
use Rattle.runs.proofs.OneEach.{one_of}
use Rattle.runs.proofs.Refusals.{quiet_leaves, reading_leaves}
use Rattle.handover.specs.declared.Transfer.{Transfer}
use Rattle.handover.specs.Hand.{refusal_in, with_owner, may_hand, after_begin, hand_of}
use Rattle.handover.specs.Hand.{begins as hand_begins, reads as hand_reads, writes as hand_writes, commits as hand_commits}
use Rattle.handover.specs.Calls.{commit_calls, write_calls, check_calls, read_calls, begin_calls, hand_calls, hand_events}
use Rattle.handover.specs.EveryInput.{Plays, media_after, StoresOnce}
use Rattle.handover.proofs.calls.Playing.{plays}

-- ---- what a call does to the medium and the tail

-- a record of 34 bytes is taken: the medium stays and the tail's sequence too, or the tail is another, with room for 19 bytes
data Logs (s : State) (m : List ℕ) : List ℕ → List ℕ → Type 0 where
  stayed : {x y : List ℕ} → x ≡ m → sequence_of y ≡ sequence_of s.tail → Logs s m x y
  moved : {x y : List ℕ} → tail_fits y 19 ≡ true → Logs s m x y

logs : (s : State) (m : List ℕ) (r : Record) → record_size r ≡ 34 → TailFit s.tail → Logs s m (logged s m r).medium (logged s m r).tail
unfolding logged logged_if tail_fits
logs s m r e f = go (tail_fits s.tail (record_size r))
  where
    go : (t : Bool) → Logs s m (logged_if t s m r).medium (logged_if t s m r).tail
    go true = stayed refl (sequence_add_record s.tail r (omega (arith, f.used_low)))
    go false =
        let q = sequence_of s.tail + 1 in
        let u = used_add_record (empty_block q) r (length_empty_block q) (omega (arith, used_empty_block q, e)) in
        moved (le-leb (used_of (add_record (empty_block q) r) + 19) 512 (omega (arith, u, used_empty_block q, e)))

write_logs : {m c : List ℕ} {s : State} {n key : ℕ} {v : List ℕ} {o : Outcome} → Way m c s (write n key v) o
    → (o.state.blocks ≡ s.blocks) × Logs s m o.medium o.state.tail
unfolding write_step written record_size new_head bytes_of
write_logs (refused k r w) = (refl, stayed refl refl)
write_logs {m = m} {s = s} (writes n key i v p w) = (refl, logs s m _ refl (fit_of _ _ _ p.0).tail)
write_logs (looks k a v b h p n w) = absurd (false≢true h)

-- a commit record that fits the tail stores nothing
commit_fits : {m c : List ℕ} {s : State} {n clock : ℕ} {o : Outcome} → Way m c s (commit n clock) o → tail_fits s.tail 19 ≡ true → o.medium ≡ m
unfolding commit_step logged logged_if record_size
commit_fits (refused k r w) e = refl
commit_fits (commits n clock i p w z) e = rw e
commit_fits (ends n clock i p w z) e = refl
commit_fits (looks k a v b h p n w) e = refl

-- begin leaves the tail and its block
begin_block : {m c : List ℕ} {s : State} {clock : ℕ} {o : Outcome} → Way m c s (begin clock) o → tail_block o.state ≡ tail_block s
unfolding begun
begin_block (refused k r w) = refl
begin_block (begins clock i p w) = refl
begin_block (looks k a v b h p n w) = refl

-- ---- lists of media

-- m some times, and then n, of which block k may be another
record Once (m : List ℕ) (k : ℕ) (ms : List (List ℕ)) : Type 0 where
  before : ℕ
  since : ℕ
  medium : List ℕ
  store : Stores m k medium
  split : ms ≡ replicate before m ++ replicate since medium

once_all : {m n : List ℕ} {k : ℕ} {ms : List (List ℕ)} (j : ℕ) → Stores m k n → ms ≡ replicate j n → Once m k ms
once_all {n = n} j s e = record { before = 0; since = j; medium = n; store = s; split = e }

once_behind : {m x : List ℕ} {k : ℕ} {ms : List (List ℕ)} → x ≡ m → Once m k ms → Once m k (x ∷ ms)
once_behind {m} {x} {k} {ms} e o = record {
  before = suc o.before;
  since = o.since;
  medium = o.medium;
  store = o.store;
  split = rw (e, o.split);
}

once_to : {m n : List ℕ} {k j : ℕ} {ms : List (List ℕ)} → m ≡ n → k ≡ j → Once m k ms → Once n j ms
once_to e f o = rw (← e, ← f) o

stores_to : {m n x : List ℕ} {k j : ℕ} → m ≡ n → k ≡ j → Stores m k x → Stores n j x
stores_to e f s = rw (← e, ← f) s

block_to : (s t : State) → t.blocks ≡ s.blocks → sequence_of t.tail ≡ sequence_of s.tail → tail_block t ≡ tail_block s
block_to s t e f = ap (λ (l : ℕ). log_block_at l (sequence_of t.tail)) e ∙ ap (log_block_at s.blocks) f

-- the last of them, or m if there is none
abbrev last_of : List ℕ → List (List ℕ) → List ℕ
last_of m [] = m
last_of m (x ∷ ms) = last_of x ms

last_replicate : (m n : List ℕ) (j : ℕ) → (last_of m (replicate j n) ≡ m) ⊎ (last_of m (replicate j n) ≡ n)
last_replicate m n zero = inl refl
last_replicate m n (suc j) = inr (last_same j)
  where
    last_same : (i : ℕ) → last_of n (replicate i n) ≡ n
    last_same zero = refl
    last_same (suc i) = last_same i

last_stores : {m n : List ℕ} {k : ℕ} (i j : ℕ) → Stores m k n → Stores m k (last_of m (replicate i m ++ replicate j n))
last_stores {m} {n} {k} zero j s = go (last_replicate m n j)
  where
    go : (last_of m (replicate j n) ≡ m) ⊎ (last_of m (replicate j n) ≡ n) → Stores m k (last_of m (replicate j n))
    go (inl e) = rw e nothing
    go (inr e) = rw e s
last_stores (suc i) j s = last_stores i j s

module _ (l d : ℕ) where
  -- the last medium is the one that the events leave
  last_medium : (w : World) (es : List Event) → medium_of (world_after l d w es) ≡ last_of (medium_of w) (media_after l d w es)
  unfolding world_after media_after
  last_medium w [] = refl
  last_medium w (e ∷ es) = last_medium (step l d w e).world es

  -- ---- the calls

  -- an abort behind a call
  aborted : (x : Outcome) (n : ℕ) → x.medium ∷ media_after l d (after x) (events_of (abort n ∷ [])) ≡ replicate 2 x.medium
  unfolding media_after events_of step
  aborted x n = ap (λ (y : List ℕ). x.medium ∷ (y ∷ [])) (quiet_leaves x.medium x.cache x.state (abort n) refl).medium

  -- what follows the commit x
  committed : (a : Option Refusal) (x : Outcome) (n : ℕ)
      → (j : ℕ) × (x.medium ∷ media_after l d (after x) (events_of (commit_calls a n)) ≡ replicate j x.medium)
  unfolding media_after events_of
  committed (Some r) x n = (2, aborted x n)
  committed None x n = (1, refl)

  abort_once : (o : Outcome) (n : ℕ) → Once o.medium (tail_block o.state) (media_after l d (after o) (events_of (abort n ∷ [])))
  unfolding media_after events_of step
  abort_once o n = once_all 1 nothing (ap (λ (y : List ℕ). y ∷ []) (quiet_leaves o.medium o.cache o.state (abort n) refl).medium)

  -- from the write on, and from what the read gave on
  module _ (n : ℕ) (h : Transfer) where
    check_once : (a : Bool) (o : Outcome) → Once o.medium (tail_block o.state) (media_after l d (after o) (events_of (check_calls a o n h)))
    unfolding media_after events_of step called
    check_once false o = abort_once o n
    check_once true o = go (refusal_in (hand_writes o n h).answer)
      where
        w : Outcome
        w = hand_writes o n h

        x : Outcome
        x = hand_commits w n h

        stored : Stores o.medium (tail_block o.state) w.medium
        stored = stores o.medium o.cache o.state (write n h.flight (with_owner o.value h.to))

        by : (w.state.blocks ≡ o.state.blocks) × Logs o.state o.medium w.medium w.state.tail
            → Once o.medium (tail_block o.state) (w.medium ∷ (x.medium ∷ media_after l d (after x) (events_of (commit_calls (refusal_in x.answer) n))))
        by (b, stayed e q) =
            let j = committed (refusal_in x.answer) x n in
            once_behind e (once_all j.0 (stores_to e (block_to o.state w.state b q) (stores w.medium w.cache w.state (commit n h.ended))) j.1)
        by (b, moved f) =
            let j = committed (refusal_in x.answer) x n in
            once_all (suc j.0) stored
            (ap (λ (ms : List (List ℕ)). w.medium ∷ ms) (j.1 ∙ ap (replicate j.0) (commit_fits (way w.medium w.cache w.state (commit n h.ended)) f)))

        go : (a : Option Refusal) → Once o.medium (tail_block o.state) (w.medium ∷ media_after l d (after w) (events_of (write_calls a w n h)))
        go (Some r) = once_all 2 stored (aborted w n)
        go None = by (write_logs (way o.medium o.cache o.state (write n h.flight (with_owner o.value h.to))))

    read_once : (a : Option Refusal) (o : Outcome) → Once o.medium (tail_block o.state) (media_after l d (after o) (events_of (read_calls a o n h)))
    read_once (Some r) o = abort_once o n
    read_once None o = check_once (may_hand o.answer o.value h) o

  begin_once : (a : Option Refusal) (o : Outcome) (h : Transfer) → Once o.medium (tail_block o.state) (media_after l d (after o) (events_of (begin_calls a o h)))
  unfolding media_after events_of step called
  begin_once (Some r) o h = once_all 0 nothing refl
  begin_once None o h =
      let n = answer_value o.answer in
      let x = hand_reads o n h in
      let e = (quiet_leaves o.medium o.cache o.state (current_read n h.flight) refl).medium in
      let q = reading_leaves o.medium o.cache o.state (current_read n h.flight) refl in
      once_behind e (once_to e (ap tail_block q) (read_once n h (refusal_in x.answer) x))

  hand_once : (s : State) (m c : List ℕ) (h : Transfer) → Once m (tail_block s) (media_after l d (up m c s) (hand_events s m c h))
  unfolding media_after events_of step called hand_events hand_calls
  hand_once s m c h =
      let x = hand_begins s m c h in
      let e = (quiet_leaves m c s (begin h.began) refl).medium in
      once_behind e (once_to e (begin_block (way m c s (begin h.began))) (begin_once (refusal_in x.answer) x h))

  pub one_store : (s : State) (m c : List ℕ) (h : Transfer) → StoresOnce m (media_after l d (up m c s) (hand_events s m c h))
  one_store s m c h =
      let o = hand_once s m c h in
      record { before = o.before; since = o.since; medium = o.medium; store = one_of o.store; split = o.split }

-- ---- the medium that a handover leaves

pub hand_stores : (s : State) (m c : List ℕ) (h : Transfer) → Stores m (tail_block s) (hand_of s m c h).medium
unfolding Plays
hand_stores s m c h =
    let o = hand_once 0 0 s m c h in
    let e : (hand_of s m c h).medium ≡ last_of m (replicate o.before m ++ replicate o.since o.medium) =
    sym (ap medium_of (plays 0 0 s m c h)) ∙ last_medium 0 0 (up m c s) (hand_events s m c h) ∙ ap (last_of m) o.split in
    rw e (last_stores o.before o.since o.store)

-- state and buffers that do not fit: begin is refused
pub hand_unfit : (s : State) (m c : List ℕ) (h : Transfer) → fits s (length m) (length c) ≡ false → (hand_of s m c h).medium ≡ m
unfolding hand_of after_begin begin_of begin_if
hand_unfit s m c h e = simp e
