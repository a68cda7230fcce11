-- Request #114: out of a full log. After the log's store no page's store is refused 12, and each page is stored or does
-- not differ, so no page has a first change; the last checkpoint then makes the tail the oldest block, and the next
-- sequence is below the oldest plus L, since L is at least 2. Whoever asks is told the same calls, up to where the tail
-- is the oldest block.
use Prim.Native.Nat.{ℕ, zero, suc, ◌+◌, ◌-◌, ◌^◌, ◌≤◌, ◌<◌}
use native.Mathlib.Omega.{arith}
use mathlib.Core.Path.{◌≡◌, refl, sym, ap, ◌∙◌, subst}
use mathlib.Core.Logic.{◌⊎◌, inl, inr, ◌≢◌}
use mathlib.Core.Bool.{Bool, true, false, cond, or-true, false≢true}
use mathlib.Core.List.{List, [], ◌∷◌, ◌++◌, append_assoc, append-nil}
use lib.ListN.{length, length-append}
use borrow.Author.Tests.{lt-ltb}
use Rattle.layout.specs.Journal.{Record, sequence_of}
use Rattle.layout.specs.Master.{oldest_on}
use Rattle.layout.specs.declared.CommitTime.{CommitTime}
use Rattle.store.specs.declared.Phase.{Phase}
use Rattle.store.specs.declared.Phase.TheVariants.{Idle, FirstStored, SecondStored}
use Rattle.store.specs.declared.State.{State}
use Rattle.store.specs.Answer.{answer_number}
use Rattle.store.specs.Relief.{under_way}
use Rattle.store.specs.Tail.{may_log, tail_fits}
use Rattle.runs.specs.Event.{Call, Event, call, store_log, store_page, checkpoint, call_typed, typed}
use Rattle.runs.specs.Book.{Book}
use Rattle.runs.specs.Machine.{World, up, down, called, seen_of, after, step, is_run, formatted}
use Rattle.runs.specs.Moments.{world_after, book_at}
use Rattle.runs.specs.Relief.{left_of, left, one_more, pages_from, differs, differing, relief, next_in, asking, Frees}
use Rattle.runs.specs.Relief.{tail_in, Full, OutOfFull, Told, ByAsking}
use Rattle.runs.proofs.Asks.{way}
use Rattle.runs.proofs.OneEach.{one_each}
use Rattle.agreement.proofs.history.Ghost.{Disk}
use Rattle.agreement.proofs.history.ListLaws.{same?}
use Rattle.agreement.proofs.invariant.Invariant.{Up, Inv, running, fallen}
use Rattle.agreement.proofs.logging.GrowthLaws.{tail_sequence}
use Rattle.agreement.proofs.plain.Runs.{world_append, first_typed, held, comes}
use Rattle.agreement.proofs.relief.Active.{alike_same}
use Rattle.agreement.proofs.relief.Again.{full_way, done_again}
use Rattle.agreement.proofs.relief.Calls.{Running, runs, Begun, Clear, Freed, First, Second, Turn, left_out, stored}
use Rattle.agreement.proofs.relief.Calls.{Made, log_turn, page_turn, check_first, check_second, check_third, check_last}
use Rattle.agreement.proofs.relief.Calls.{under_named, idle_named, none_named}
use Rattle.agreement.proofs.relief.Leads.{Leads, leads_none, leads_call, leads_then, asked_then, asked_last, Follows}
use Rattle.agreement.proofs.relief.Leads.{follows_none, follows_call, follows_then}

module _ (l d : ℕ) (closed : List (List Record)) (tail : List Record) where
  -- ---- the stores

  -- one that does not differ is left out
  turn : (m c : List ℕ) (s : State) (x : Call) (ks : List Call) (P : Disk → List ℕ → State → Type 0)
      (Q : World → Type 0) → call_typed x ≡ true → Turn l d closed tail (up m c s) x P
      → ((w : World) → Running l d closed tail P w → Follows l d w (differing l d w ks) Q)
      → Follows l d (up m c s) (differing l d (up m c s) (x ∷ ks)) Q
  unfolding differing differs
  turn m c s x ks P Q t (left_out z q) f = rw z (f (up m c s) q)
  turn m c s x ks P Q t (stored z e q) f =
      rw z (follows_call l d m c s x _ Q t z e (f (step l d (up m c s) (call x)).world q))

  page_typed : (p : ℕ) → p < 64 → call_typed (store_page p) ≡ true
  unfolding call_typed
  page_typed p h = lt-ltb p (2 ^ 64) (omega arith)

  module _ (r : State) (Ph : Phase → Type 0) where
    pages_follow : (k p : ℕ) → p + k ≡ d → (w : World) → Running l d closed tail (Clear l closed tail r Ph p) w
        → Follows l d w (differing l d w (pages_from p k)) (Running l d closed tail (Clear l closed tail r Ph d))
    unfolding differing pages_from
    pages_follow zero p e w q =
        let z : p ≡ d = omega arith in
        follows_none l d w (Running l d closed tail (Clear l closed tail r Ph d))
        (subst (λ (i : ℕ). Running l d closed tail (Clear l closed tail r Ph i) w) z q)
    pages_follow (suc k) p e w (runs m c s b disk u a) =
        turn m c s (store_page p) (pages_from (p + 1) k) (Clear l closed tail r Ph (p + 1))
        (Running l d closed tail (Clear l closed tail r Ph d))
        (page_typed p (omega (arith, u.medium.sizes.range.pages_high))) (page_turn u a (omega arith))
        (λ v q. pages_follow k (p + 1) (omega arith) v q)

    stores_follow : (w : World) → Running l d closed tail (Begun r Ph) w
        → Follows l d w (differing l d w (store_log ∷ pages_from 0 d))
        (Running l d closed tail (Clear l closed tail r Ph d))
    unfolding call_typed
    stores_follow w (runs m c s b disk u a) =
        turn m c s store_log (pages_from 0 d) (Clear l closed tail r Ph 0)
        (Running l d closed tail (Clear l closed tail r Ph d)) refl (log_turn u r Ph a)
        (λ v q. pages_follow d 0 (omega arith) v q)

  -- ---- the checkpoints

  module _ (r : State) where
    abbrev Finished : World → Type 0
    Finished w = Running l d closed tail (Clear l closed tail r (λ x. x ≡ Idle) d) w

    abbrev pub Free : World → Type 0
    Free w = Running l d closed tail (Freed l d closed tail r) w

    checked : (m c : List ℕ) (s : State) (es : List Event) (P : Disk → List ℕ → State → Type 0) (Q : World → Type 0)
        → next_in (up m c s) ≡ call checkpoint ∷ [] → Made l d closed tail (up m c s) checkpoint P
        → ((w : World) → Running l d closed tail P w → Follows l d w es Q)
        → Follows l d (up m c s) (call checkpoint ∷ es) Q
    unfolding call_typed
    checked m c s es P Q e q f =
        follows_call l d m c s checkpoint es Q refl q.accepted e
        (f (step l d (up m c s) (call checkpoint)).world q.after)

    third_follows : (o : ℕ) (t : CommitTime) (w : World)
        → Running l d closed tail (Clear l closed tail r (λ x. x ≡ SecondStored o t) d) w
        → Follows l d w (call checkpoint ∷ []) Finished
    third_follows o t w (runs m c s b disk u a) =
        checked m c s [] (Clear l closed tail r (λ x. x ≡ Idle) d) Finished (under_named u a (ap under_way a.phase))
        (check_third u a o t a.phase) (λ v q. follows_none l d v Finished q)

    left_follow : (ph : Phase) (w : World) → Running l d closed tail (Clear l closed tail r (λ x. x ≡ ph) d) w
        → Follows l d w (left_of ph) Finished
    left_follow Idle w q = follows_none l d w Finished q
    left_follow (SecondStored o t) w q = third_follows o t w q
    left_follow (FirstStored o t) w (runs m c s b disk u a) =
        checked m c s (call checkpoint ∷ []) (Clear l closed tail r (λ x. x ≡ SecondStored o t) d) Finished
        (under_named u a (ap under_way a.phase))
        (check_second u a (λ x. x ≡ SecondStored o t) o t a.phase refl) (third_follows o t)

    -- the second and the third call of one more
    last_follows : (w : World) → Running l d closed tail (Clear l closed tail r (Second (length closed)) d) w
        → Follows l d w (call checkpoint ∷ []) Free
    last_follows w (runs m c s b disk u a) =
        checked m c s [] (Freed l d closed tail r) Free (under_named u a (ap under_way a.phase.1)) (check_last u r a)
        (λ v q. follows_none l d v Free q)

    more_follow : (w : World) → Running l d closed tail (Clear l closed tail r (First (length closed)) d) w
        → Follows l d w (call checkpoint ∷ call checkpoint ∷ []) Free
    more_follow w (runs m c s b disk u a) =
        checked m c s (call checkpoint ∷ []) (Clear l closed tail r (Second (length closed)) d) Free
        (under_named u a (ap under_way a.phase.1))
        (check_second u a (Second (length closed)) (length closed) a.phase.0 a.phase.1 (a.phase.0, refl)) last_follows

    -- one more, asked for or not
    more_leads : (w : World) → Finished w → Leads l d w one_more Free
    unfolding call_typed
    more_leads w (runs m c s b disk u a) =
        let q = check_first u a a.phase in
        leads_call l d m c s checkpoint (call checkpoint ∷ call checkpoint ∷ []) Free refl q.accepted
        (more_follow (step l d (up m c s) (call checkpoint)).world q.after).leads

    -- where the tail is the oldest block nobody is told to make it
    data Ending (w : World) : Type 0 where
      made : Follows l d w one_more Free → Ending w
      spared : Free w → Ending w

    ending : (w : World) → Finished w → Ending w
    ending w (runs m c s b disk u a) = go (same? (oldest_on m) (sequence_of s.tail))
      where
        go : (oldest_on m ≡ sequence_of s.tail) ⊎ (oldest_on m ≢ sequence_of s.tail) → Ending (up m c s)
        go (inl e) = spared (runs m c s b disk u (record { clear = a; oldest = e }))
        go (inr h) =
            made (checked m c s (call checkpoint ∷ call checkpoint ∷ [])
            (Clear l closed tail r (First (length closed)) d) Free (idle_named u a a.phase h)
            (check_first u a a.phase) more_follow)

    -- once the tail is the oldest block, nothing is left
    free_named : (w : World) → Free w → next_in w ≡ []
    free_named w (runs m c s b disk u a) = none_named u a.clear a.clear.phase a.oldest

-- ---- all of them

module _ {l d : ℕ} {m c : List ℕ} {s : State} {b : Book} {disk : Disk} {closed : List (List Record)}
    {tail : List Record} (u : Up l d m c s b disk closed tail) where
  abbrev here : World
  here = up m c s

  -- the stores, and the checkpoint under way
  abbrev front : List Event
  front = differing l d here (store_log ∷ pages_from 0 d) ++ left_of s.phase

  relief_is : relief l d here ≡ front ++ one_more
  unfolding relief
  relief_is = sym (append_assoc (differing l d here (store_log ∷ pages_from 0 d)) (left_of s.phase) one_more)

  front_follows : Follows l d here front (Finished l d closed tail s)
  front_follows =
      follows_then l d here (differing l d here (store_log ∷ pages_from 0 d)) (left_of s.phase)
      (Running l d closed tail (Clear l closed tail s (λ x. x ≡ s.phase) d)) (Finished l d closed tail s)
      (stores_follow l d closed tail s (λ x. x ≡ s.phase) here
      (runs m c s b disk u (record { alike = alike_same s s refl refl; phase = refl })))
      (λ v q. left_follow l d closed tail s s.phase v q)

  pub relief_leads : Leads l d here (relief l d here) (Free l d closed tail s)
  relief_leads =
      rw relief_is (leads_then l d here front one_more (Finished l d closed tail s) (Free l d closed tail s)
      front_follows.leads (more_leads l d closed tail s))

-- ---- how many they are

differing_few : (l d : ℕ) (w : World) (ks : List Call) → length (differing l d w ks) ≤ length ks
unfolding differing
differing_few l d w [] = omega arith
differing_few l d w (k ∷ ks) =
    go (differs l d w k) (differing_few l d (step l d w (call k)).world ks) (differing_few l d w ks)
  where
    go : (t : Bool) → length (differing l d (step l d w (call k)).world ks) ≤ length ks
        → length (differing l d w ks) ≤ length ks
        → length (cond t (call k ∷ differing l d (step l d w (call k)).world ks) (differing l d w ks)) ≤ suc (length ks)
    go true a b = omega arith
    go false a b = omega arith

length_pages : (p k : ℕ) → length (pages_from p k) ≡ k
unfolding pages_from
length_pages p zero = refl
length_pages p (suc k) = ap suc (length_pages (p + 1) k)

left_few : (w : World) → length (left w) ≤ 2
left_few (down m) = omega arith
left_few (up m c s) = go s.phase
  where
    go : (ph : Phase) → length (left_of ph) ≤ 2
    go Idle = omega arith
    go (FirstStored o t) = omega arith
    go (SecondStored o t) = omega arith

relief_few : (l d : ℕ) (w : World) → length (relief l d w) ≤ 1 + d + 5
unfolding relief
relief_few l d w =
    let a : length (relief l d w) ≡ length (differing l d w (store_log ∷ pages_from 0 d)) + (length (left w) + 3) =
    length-append (differing l d w (store_log ∷ pages_from 0 d)) (left w ++ one_more)
    ∙ ap (λ (n : ℕ). length (differing l d w (store_log ∷ pages_from 0 d)) + n) (length-append (left w) one_more) in
    omega (arith, a, differing_few l d w (store_log ∷ pages_from 0 d), length_pages 0 d, left_few w)

-- ---- the same call

module _ {l d : ℕ} {m c : List ℕ} {s : State} {b : Book} {disk : Disk} {closed : List (List Record)}
    {tail : List Record} (u : Up l d m c s b disk closed tail) where
  -- the tail is the oldest block, so the next may begin
  room : sequence_of s.tail < 2 ^ 48 - 1 → oldest_on m ≡ sequence_of s.tail → (size : ℕ) → may_log s m size ≡ true
  unfolding may_log
  room h e size =
      rw (
        lt-ltb (sequence_of s.tail + 1) (oldest_on m + s.blocks)
            (omega (arith, e, u.state.blocks, u.medium.sizes.range.blocks_low)),
        lt-ltb (sequence_of s.tail + 1) (2 ^ 48) (omega arith),
      ) (or-true (tail_fits s.tail size))

module _ {l d : ℕ} {m c : List ℕ} {s : State} {b : Book} {disk : Disk} {closed : List (List Record)}
    {tail : List Record} (u : Up l d m c s b disk closed tail)
    (k : Call) (t : call_typed k ≡ true) (full : answer_number (called m c s k).answer ≡ 8)
    (below : sequence_of s.tail < 2 ^ 48 - 1) where
  done : (w : World) → Free l d closed tail s w → (step l d w (call k)).seen.refusal ≡ 0
  unfolding step seen_of
  done w (runs n a z b' disk' x y) =
      done_again u x y.clear.alike (room x (omega (arith, tail_sequence x, tail_sequence u)) y.oldest) k full

  -- calls that lead to where the tail is the oldest block
  freeing : (es : List Event) → length es ≤ 1 + d + 5 → Leads l d (up m c s) es (Free l d closed tail s)
      → Frees l d (up m c s) k es
  freeing es h q = record {
    goes_on = (leads_then l d (up m c s) es (call k ∷ []) (Free l d closed tail s) (λ v. Unit {0}) q once).run;
    accepted = q.accepted;
    few = h;
    one_each = one_each l d (up m c s) es;
    again = done (world_after l d (up m c s) es) q.there;
  }
    where
      once : (v : World) → Free l d closed tail s v → Leads l d v (call k ∷ []) (λ w. Unit {0})
      once v (runs n a z b' disk' x y) =
          leads_call l d n a z k [] (λ w. Unit {0}) t (done (up n a z) (runs n a z b' disk' x y))
          (leads_none l d _ (λ w. Unit {0}) tt)

  relieved : Frees l d (up m c s) k (relief l d (up m c s))
  relieved = freeing (relief l d (up m c s)) (relief_few l d (up m c s)) (relief_leads u)

  -- asked so often, a program is told all of the events that it is told in turn, and then nothing
  told_all : (es : List Event) → length es ≤ 1 + d + 5 → Follows l d (up m c s) es (Free l d closed tail s)
      → asking l d (1 + d + 5) (up m c s) ≡ es
  told_all es h q =
      let n : ℕ = 1 + d + 5 - length es in
      let z : 1 + d + 5 ≡ length es + n = omega arith in
      ap (λ (x : ℕ). asking l d x (up m c s)) z ∙ q.asked n
      ∙ ap (λ (fs : List Event). es ++ fs)
      (asked_last l d n (world_after l d (up m c s) es)
      (free_named l d closed tail s (world_after l d (up m c s) es) q.leads.there))
      ∙ append-nil es

  told : (es : List Event) → length es ≤ 1 + d + 5 → (es ≡ relief l d (up m c s))
      ⊎ (es ++ one_more ≡ relief l d (up m c s)) → Follows l d (up m c s) es (Free l d closed tail s)
      → Told l d (up m c s) k (asking l d (1 + d + 5) (up m c s))
  told es h e q =
      rw (told_all es h q) (record {
        list = e;
        ends = free_named l d closed tail s (world_after l d (up m c s) es) q.leads.there;
        frees = freeing es h q.leads;
      })

  asked : Told l d (up m c s) k (asking l d (1 + d + 5) (up m c s))
  asked = go (ending l d closed tail s (world_after l d (up m c s) (front u)) (front_follows u).leads.there)
    where
      few : length (front u) + 3 ≤ 1 + d + 5
      few = omega (arith, relief_few l d (up m c s), ap length (relief_is u), length-append (front u) one_more)

      go : Ending l d closed tail s (world_after l d (up m c s) (front u))
          → Told l d (up m c s) k (asking l d (1 + d + 5) (up m c s))
      go (made q) =
          told (front u ++ one_more) (omega (arith, few, length-append (front u) one_more))
          (inl (sym (relief_is u))) (record {
            leads =
                subst (λ (es : List Event). Leads l d (up m c s) es (Free l d closed tail s)) (relief_is u)
                (relief_leads u);
            asked = asked_then l d (up m c s) (front u) one_more (front_follows u).asked q.asked;
          })
      go (spared q) = told (front u) (omega (arith, few)) (inr (sym (relief_is u))) (record {
        leads = record { run = (front_follows u).leads.run; accepted = (front_follows u).leads.accepted; there = q };
        asked = (front_follows u).asked;
      })

-- ---- in a run

-- the call that was refused 8 leaves a running store
module _ (l d : ℕ) (es : List Event) (k : Call) (P : World → Type 0)
    (of : (m c : List ℕ) (s : State) (b : Book) (disk : Disk) (closed : List (List Record)) (tail : List Record)
    → Up l d m c s b disk closed tail
    → call_typed k ≡ true → answer_number (called m c s k).answer ≡ 8 → sequence_of s.tail < 2 ^ 48 - 1
    → P (up m c s)) where
  last : (v : World) (b : Book) → Inv l d v b → is_run l d v (call k ∷ []) ≡ true
      → (step l d v (call k)).seen.refusal ≡ 8 → tail_in (step l d v (call k)).world < 2 ^ 48 - 1
      → P (step l d v (call k)).world
  unfolding step seen_of typed
  last (up m c s) b (running {disk = disk} {closed = closed} {tail = tail} u) r e t =
      let z : after (called m c s k) ≡ up m c s = (full_way (way m c s k) e).stays in
      subst (λ (w : World). tail_in w < 2 ^ 48 - 1 → P w) (sym z)
      (of m c s b disk closed tail u (first_typed l d (call k) [] (up m c s) r).1 e) t
  last (down m) b (fallen x) r e t = absurd (false≢true (first_typed l d (call k) [] (down m) r).0)

  pub in_full : (w : World) → Full l d es k w → P w
  unfolding world_after
  in_full w f =
      let z : (step l d (world_after l d (formatted l d) es) (call k)).world ≡ w =
      sym (world_append l d es (call k ∷ []) (formatted l d)) ∙ f.leaves in
      subst P z
      (last (world_after l d (formatted l d) es) (book_at l d es) (held es (call k) f.run) (comes es (call k) f.run)
      f.full (rw z f.below))

pub out_of_full : OutOfFull
unfolding OutOfFull
out_of_full l d es k w f =
    in_full l d es k (λ v. Frees l d v k (relief l d v)) (λ m c s b disk closed tail u t e h. relieved u k t e h) w f

pub by_asking : ByAsking
unfolding ByAsking
by_asking l d es k w f =
    in_full l d es k (λ v. Told l d v k (asking l d (1 + d + 5) v))
    (λ m c s b disk closed tail u t e h. asked u k t e h) w f
