-- What a refused handover leaves, stage by stage: a refused call leaves all as it was, an abort frees the place of its number and
-- nothing else, and so what stays is what begin, and where it was accepted the write, have put in.
use Rattle.layout.specs.declared.CommitTime.{CommitTime}
use Rattle.std.specs.Prelude.{Option, None, Some, Err, Ok, Result}
use Prim.Native.Nat.{ℕ, ◌<◌}
use native.Mathlib.Omega.{arith}
use mathlib.Core.Path.{◌≡◌, refl, sym, ap, ◌∙◌}
use mathlib.Core.Bool.{Bool, true, false, false≢true}
use mathlib.Core.List.{List}
use Rattle.store.specs.declared.Answer.TheVariants.{Done}
use Rattle.store.specs.declared.Refusal.{Refusal}
use Rattle.store.specs.declared.State.{State}
use Rattle.store.specs.Answer.{Outcome, leaves, answer_value}
use Rattle.store.specs.Places.{is_at, find_active, free_place}
use Rattle.store.specs.State.{with_place}
use Rattle.store.specs.Begin.{begun}
use Rattle.store.specs.Write.{new_head, write_step}
use Rattle.store.specs.Abort.{abort_if, abort_of}
use Rattle.runs.specs.Event.{begin, write, current_read, commit}
use Rattle.runs.specs.Machine.{called}
use Rattle.runs.proofs.Asks.{Way, refused, looks, way}
use Rattle.runs.proofs.Asks.{begins as begins_way, writes as writes_way}
use Rattle.runs.proofs.Refusals.{quiet_leaves, reading_leaves, refusal_leaves}
use Rattle.handover.specs.declared.Transfer.{Transfer}
use Rattle.handover.specs.declared.HandRefusal.{HandRefusal}
use Rattle.handover.specs.declared.HandRefusal.TheVariants.{Denied, NotOwner}
use Rattle.handover.specs.Hand.{HandOutcome, hand_number, refusal_in, with_owner, may_hand, begins, reads, writes, commits, aborts, gives_up, after_commit, after_write, after_check, after_read, after_begin, hand_of}
use Rattle.handover.specs.EveryInput.{Leftover, nothing, number, version}
use Rattle.handover.proofs.calls.Answers.{none_some, in_refusal}
use Rattle.handover.proofs.calls.Ways.{written_active}
use Rattle.handover.proofs.calls.Aborting.{Abortable, begin_abortable, read_abortable, write_abortable, commit_abortable}

-- ---- what each call leaves

-- begin gave a number, and place i
record Begun (s : State) (m c : List ℕ) (clock : ℕ) (o : Outcome) : Type 0 where
  place : ℕ
  state : o.state ≡ begun s place clock
  medium : o.medium ≡ m
  cache : o.cache ≡ c
  number : answer_value o.answer ≡ s.next.0

begin_left : {m c : List ℕ} {s : State} {clock : ℕ} {o : Outcome} → Way m c s (begin clock) o → refusal_in o.answer ≡ None → Begun s m c clock o
unfolding answer_value
begin_left (refused k r w) e = none_some (sym e)
begin_left (begins_way clock i p w) e = record { place = _; state = refl; medium = refl; cache = refl; number = refl }
begin_left (looks k a v b h p n w) e = absurd (false≢true h)

write_left : {m c : List ℕ} {s : State} {n key : ℕ} {v : List ℕ} {o : Outcome} → Way m c s (write n key v) o → refusal_in o.answer ≡ None
    → (j : ℕ) × ((find_active s.places n ≡ Some j) × (o ≡ write_step s m c j (new_head s c n key 0) v))
write_left (refused k r w) e = none_some (sym e)
write_left (writes_way n key i v p w) e = (i, (w, refl))
write_left (looks k a v b h p n w) e = absurd (false≢true h)

-- an abort frees the place of its number
record Freed (o : Outcome) (n : ℕ) : Type 0 where
  place : ℕ
  found : find_active o.state.places n ≡ Some place
  left : aborts o n ≡ leaves (Ok Done) (with_place o.state place free_place) o.medium o.cache

abort_left : (o : Outcome) (n : ℕ) → Abortable o n → Freed o n
unfolding abort_of abort_if
abort_left o n a = go (find_active o.state.places n) refl a.active
  where
    go : (f : Option ℕ) → find_active o.state.places n ≡ f → is_at f ≡ true → Freed o n
    go (Some j) e z = record { place = j; found = e; left = simp (a.fit, e) }
    go None e z = absurd (false≢true z)

-- ---- the stages

module _ (s : State) (m c : List ℕ) (h : Transfer) where
  abbrev Left : HandOutcome → Type 0
  Left o = 0 < hand_number o.answer → Leftover s m c h o.state o.medium o.cache

  -- y is what an abort left of x
  number_freed : (i j : ℕ) (x y : Outcome) → x.state ≡ begun s i h.began → x.medium ≡ m → x.cache ≡ c
      → y ≡ leaves (Ok Done) (with_place x.state j free_place) x.medium x.cache
      → Leftover s m c h y.state y.medium y.cache
  number_freed i j x y e f g z = rw (z, e, f, g) (number i j)

  version_freed : (i j k : ℕ) (strip : List ℕ) (w x y : Outcome)
      → w ≡ write_step (begun s i h.began) m c j (new_head (begun s i h.began) c s.next.0 h.flight 0) (with_owner strip h.to)
      → x.state ≡ w.state → x.medium ≡ w.medium → x.cache ≡ w.cache → k ≡ j
      → y ≡ leaves (Ok Done) (with_place x.state k free_place) x.medium x.cache
      → Leftover s m c h y.state y.medium y.cache
  version_freed i j k strip w x y b e f g t z = rw (z, e, f, g, t) (version i j strip w b)

  -- an abort of what begin left
  number_left : (a : Result CommitTime HandRefusal) (o : Outcome) (n i : ℕ) → o.state ≡ begun s i h.began → o.medium ≡ m → o.cache ≡ c → Abortable o n → Left (gives_up a o n)
  number_left a o n i e f g q p = let x = abort_left o n q in number_freed i x.place o (aborts o n) e f g x.left

  module _ (o : Outcome) (n i : ℕ) (e : o.state ≡ begun s i h.began) (f : o.medium ≡ m) (g : o.cache ≡ c) (k : n ≡ s.next.0) (q : Abortable o n) where
    write_to : (j : ℕ) (v : List ℕ) → write_step o.state o.medium o.cache j (new_head o.state o.cache n h.flight 0) v
        ≡ write_step (begun s i h.began) m c j (new_head (begun s i h.began) c s.next.0 h.flight 0) v
    write_to j v = rw (e, f, g, k)

    write_stage : Left (after_write (refusal_in (writes o n h).answer) (writes o n h) n h)
    unfolding after_write after_commit hand_number called
    write_stage = go (refusal_in (writes o n h).answer) refl
      where
        w : Outcome
        w = writes o n h

        x : Outcome
        x = commits w n h

        -- the commit is refused: the abort frees the place in which the write counted its version
        ended : (r : Refusal) → refusal_in w.answer ≡ None → refusal_in x.answer ≡ Some r → Left (gives_up (Err (Denied r)) x n)
        ended r a y p =
            let k1 = way o.medium o.cache o.state (write n h.flight (with_owner o.value h.to)) in
            let v = write_left k1 a in
            let u = refusal_leaves w.medium w.cache w.state (commit n h.ended) r (in_refusal x.answer r y) in
            let z = abort_left x n (commit_abortable w n h (write_abortable o n h q) r y) in
            let t : Some z.place ≡ Some v.0 = sym z.found ∙ ap (λ (st : State). find_active st.places n) u.state ∙ written_active k1 n ∙ v.1.0 in
            let j : z.place ≡ v.0 = cc in
            version_freed i v.0 z.place o.value w x (aborts x n) (v.1.1 ∙ write_to v.0 (with_owner o.value h.to)) u.state u.medium u.cache j z.left

        after : refusal_in w.answer ≡ None → (a : Option Refusal) → refusal_in x.answer ≡ a → Left (after_commit a x n)
        after a (Some r) y p = ended r a y p
        after a None y p = absurd (omega (arith, p))

        go : (a : Option Refusal) → refusal_in w.answer ≡ a → Left (after_write a w n h)
        go (Some r) y =
            let u = refusal_leaves o.medium o.cache o.state (write n h.flight (with_owner o.value h.to)) r (in_refusal w.answer r y) in
            number_left (Err (Denied r)) w n i (u.state ∙ e) (u.medium ∙ f) (u.cache ∙ g) (write_abortable o n h q)
        go None y = after y (refusal_in x.answer) refl

    check_stage : (a : Bool) → Left (after_check a o n h)
    unfolding after_check
    check_stage false = number_left (Err NotOwner) o n i e f g q
    check_stage true = write_stage

    read_stage : (a : Option Refusal) → Left (after_read a o n h)
    unfolding after_read
    read_stage (Some r) = number_left (Err (Denied r)) o n i e f g q
    read_stage None = check_stage (may_hand o.answer o.value h)

  begin_stage : (a : Option Refusal) → refusal_in (begins s m c h).answer ≡ a → Left (after_begin a (begins s m c h) h)
  unfolding after_begin called
  begin_stage (Some r) e p = let u = refusal_leaves m c s (begin h.began) r (in_refusal _ r e) in rw (u.state, u.medium, u.cache) nothing
  begin_stage None e p =
      let o = begins s m c h in
      let n = answer_value o.answer in
      let b = begin_left (way m c s (begin h.began)) e in
      let u = quiet_leaves o.medium o.cache o.state (current_read n h.flight) refl in
      read_stage (reads o n h) n b.place
      (reading_leaves o.medium o.cache o.state (current_read n h.flight) refl ∙ b.state) (u.medium ∙ b.medium) (u.cache ∙ b.cache) b.number
      (read_abortable o n h (begin_abortable m c s h e)) (refusal_in (reads o n h).answer) p

  pub leftover : let o = hand_of s m c h in 0 < hand_number o.answer → Leftover s m c h o.state o.medium o.cache
  unfolding hand_of
  leftover = begin_stage (refusal_in (begins s m c h).answer) refl
