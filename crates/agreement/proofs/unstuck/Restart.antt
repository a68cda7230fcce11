-- No run is stuck. Once the log is freed and all active transactions are aborted, every place is free, no record is
-- held, and the tail is the oldest block; so begin finds a place, and the log takes the version and the commit, in the
-- tail or in the next block.
use Rattle.std.specs.Prelude.{Option, Some, None, Ok}
use Prim.Native.Nat.{ℕ, ◌+◌, ◌-◌, ◌*◌, ◌%◌, ◌^◌, ◌≤◌, ◌<◌}
use native.Mathlib.Omega.{arith}
use native.Mathlib.Nat.{mod-lt, zero-add}
use mathlib.Core.Path.{◌≡◌, refl, sym, ap, ◌∙◌, subst}
use mathlib.Core.Logic.{◌⊎◌, inl, inr, ◌≢◌}
use mathlib.Core.Bool.{true, false, not, ◌&&◌, ◌||◌, and-false, or-true}
use mathlib.Core.List.{List, [], ◌∷◌, ◌++◌}
use lib.ListN.{length}
use lib.Dec.{eqb, leb, ltb}
use borrow.Author.Tests.{eq-eqb, lt-ltb, le-leb}
use Rattle.layout.specs.Journal.{Record, sequence_of, used_of, record_size}
use Rattle.layout.specs.Journal.{version as version_record}
use Rattle.fields.specs.Block.{end_place}
use Rattle.layout.specs.Item.{bytes_of}
use Rattle.layout.specs.Master.{oldest_on}
use Rattle.layout.specs.Slot.{key_form}
use Rattle.layout.specs.declared.TxNumber.{TxNumber}
use Rattle.store.specs.declared.Answer.TheVariants.{Begun}
use Rattle.store.specs.declared.Life.TheVariants.{Active}
use Rattle.store.specs.declared.Place.{Place}
use Rattle.store.specs.declared.State.{State}
use Rattle.store.specs.Answer.{Outcome, leaves, answer_number, answer_value}
use Rattle.store.specs.Places.{is_at, place_at, first, find_free, find_active, ring_place}
use Rattle.store.specs.Tail.{may_log, tail_fits, tail_end, logged, Logged}
use Rattle.store.specs.Chain.{held}
use Rattle.store.specs.Begin.{begun, begin_if, begin_of}
use Rattle.store.specs.Write.{write_asks, new_head, write_step, written, write_if, add_of, write_of}
use Rattle.store.specs.Commit.{commit_asks, no_versions}
use Rattle.store.proofs.AskLaws.{Passed, passes}
use Rattle.store.proofs.FitLaws.{fit_of}
use Rattle.runs.specs.Event.{Call, call, begin, write, commit, call_typed}
use Rattle.runs.specs.Book.{Book, blank}
use Rattle.runs.specs.Machine.{World, up, called, seen_of, step, formatted}
use Rattle.runs.specs.Moments.{world_after, book_at}
use Rattle.runs.specs.Relief.{relief}
use Rattle.runs.specs.Unstuck.{aborts_of, fresh_start, transaction, Left, Restarts, Unstuck}
use Rattle.runs.proofs.Asks.{way}
use Rattle.agreement.proofs.history.Ghost.{at, newest_of, Disk}
use Rattle.agreement.proofs.history.ListLaws.{split, same?}
use Rattle.agreement.proofs.invariant.Invariant.{num_at, time_at, Up, Inv, running}
use Rattle.agreement.proofs.invariant.PlaceFacts.{active_found, active_finds}
use Rattle.agreement.proofs.invariant.PlaceSet.{place_at_same, place_at_other}
use Rattle.agreement.proofs.logging.GrowthLaws.{fits_up}
use Rattle.agreement.proofs.relief.Calls.{runs}
use Rattle.agreement.proofs.plain.Runs.{inv_after, started}
use Rattle.agreement.proofs.relief.Again.{done_way, holder, vs, held_is}
use Rattle.agreement.proofs.relief.Frees.{Free, relief_leads}
use Rattle.agreement.proofs.relief.Leads.{Leads, leads_none, leads_call, leads_then}
use Rattle.agreement.proofs.unstuck.Log.{Takes, behind, next, takes, still_active, has_version}
use Rattle.agreement.proofs.unstuck.Places.{Emptied, Standing, stands, called_on, remains, aborts_lead}

-- ---- begin

-- `place` is the number's, the others are free
pub record Alone (r : State) (m : List ℕ) (s : State) : Type 0 where
  pub oldest : oldest_on m ≡ sequence_of s.tail
  pub tail : s.tail ≡ r.tail
  pub slots : s.slots ≡ r.slots
  pub last : s.last.0 ≡ r.last.0
  pub place : ℕ
  pub inside : place < 64
  pub low : 0 < r.next.0
  pub mine : num_at s.places place ≡ r.next.0
  pub active : time_at s.places place ≡ 0
  pub others : (j : ℕ) → j < 64 → j ≢ place → num_at s.places j ≡ 0

module _ {l d : ℕ} {m c : List ℕ} {s : State} {b : Book} {disk : Disk} {closed : List (List Record)}
    {tail : List Record} (u : Up l d m c s b disk closed tail)
    (r : State) (e : Emptied r 64 m s) (left : Left d r) where
  free_found : find_free s.places s.ring ≡ Some 0
  unfolding find_free first ring_place
  free_found = rw (e.free ((s.ring + 0) % 64) (mod-lt (s.ring + 0) (omega arith)))

  next_is : s.next.0 ≡ r.next.0
  next_is = ap (λ (x : TxNumber). x.0) e.same.next

  begin_done : (clock : ℕ) → called m c s (begin clock) ≡ leaves (Ok (Begun s.next))
      (begun s (ring_place s.ring 0) clock) m c
  unfolding called begin_of begin_if
  begin_done clock =
      rw (fits_up u, lt-ltb s.next.0 (2 ^ 64 - 1) (omega (arith, next_is, left.numbers)), free_found) (rw free_found)

  begun_alone : (clock : ℕ) → Alone r m (begun s (ring_place s.ring 0) clock)
  unfolding begun ring_place
  begun_alone clock = record {
    oldest = e.same.oldest;
    tail = e.same.tail;
    slots = e.same.slots;
    last = e.same.last;
    place = (s.ring + 0) % 64;
    inside = inside;
    low = omega (arith, next_is, u.state.next_low);
    mine = rw (place_at_same s.places i (new clock) u.living.size inside) next_is;
    active = rw (place_at_same s.places i (new clock) u.living.size inside);
    others = λ j h q. rw (place_at_other s.places i j (new clock) q, e.free j h);
  }
    where
      i : ℕ
      i = (s.ring + 0) % 64

      new : ℕ → Place
      new clock = record { life = Active s.next clock; waiting = 0 }

      inside : (s.ring + 0) % 64 < 64
      inside = mod-lt (s.ring + 0) (omega arith)

-- the number has a version, and its commit may be logged
pub record Ready (n : ℕ) (m : List ℕ) (s : State) : Type 0 where
  pub active : is_at (find_active s.places n) ≡ true
  pub some : no_versions (find_active s.places n) s ≡ false
  pub times : s.last.0 < 2 ^ 64 - 1
  pub log : may_log s m 19 ≡ true

-- ---- write

module _ {l d : ℕ} {m c : List ℕ} {s : State} {b : Book} {disk : Disk} {closed : List (List Record)}
    {tail : List Record} (u : Up l d m c s b disk closed tail)
    (r : State) (a : Alone r m s) (left : Left d r) where
  -- an active number is this one
  only : (x j : ℕ) → find_active s.places x ≡ Some j → x ≡ r.next.0
  only x j e = go (same? j a.place)
    where
      f : (j < 64) × (0 < x) × (num_at s.places j ≡ x) × (time_at s.places j ≡ 0)
      f = active_found u.living x j e

      go : (j ≡ a.place) ⊎ (j ≢ a.place) → x ≡ r.next.0
      go (inl q) = sym f.2 ∙ ap (num_at s.places) q ∙ a.mine
      go (inr q) = absurd (omega (arith, f, a.others j f.0 q))

  mine_found : find_active s.places r.next.0 ≡ Some a.place
  mine_found = active_finds u.living r.next.0 a.place a.inside a.low a.mine a.active

  not_held : (key : ℕ) → held c s.places s.slots key r.next.0 ≡ false
  not_held key = held_is u key r.next.0 ∙ go (newest_of (vs u) key (length (vs u)))
    where
      by : (x : ℕ) (f : Option ℕ) → find_active s.places x ≡ f → not (eqb x r.next.0) && is_at f ≡ false
      by x None e = and-false (not (eqb x r.next.0))
      by x (Some j) e = rw (eq-eqb x r.next.0 (only x j e))

      go : (f : Option ℕ) → holder f (vs u) s.places r.next.0 ≡ false
      go None = refl
      go (Some y) = by (at (vs u) y).num (find_active s.places (at (vs u) y).num) refl

  -- the tail is the oldest block, so the next may begin where its sequence is below 2^48
  may_log_law : (size : ℕ) → (used_of s.tail + size ≤ 512) ⊎ (sequence_of s.tail + 1 < 2 ^ 48) → may_log s m size ≡ true
  unfolding may_log tail_fits
  may_log_law size (inl h) = rw (le-leb (used_of s.tail + size) 512 h)
  may_log_law size (inr h) =
      rw (
        lt-ltb (sequence_of s.tail + 1) (oldest_on m + s.blocks)
            (omega (arith, a.oldest, u.state.blocks, u.medium.sizes.range.blocks_low)),
        lt-ltb (sequence_of s.tail + 1) (2 ^ 48) h,
      ) (or-true (leb (used_of s.tail + size) 512))

  room : (used_of s.tail + 34 ≤ 512) ⊎ (sequence_of s.tail + 1 < 2 ^ 48)
  unfolding tail_end end_place
  room = go (split 512 (used_of s.tail + 34))
    where
      end_is : 512 * sequence_of s.tail + used_of s.tail + 53 ≤ 512 * 2 ^ 48
      end_is = rw a.tail left.log

      go : (512 < used_of s.tail + 34) ⊎ (used_of s.tail + 34 ≤ 512)
          → (used_of s.tail + 34 ≤ 512) ⊎ (sequence_of s.tail + 1 < 2 ^ 48)
      go (inr h) = inl h
      go (inl h) = inr (omega (arith, end_is))

  write_passed : (key : ℕ) → key_form key ≡ true → Passed (write_asks s m c r.next.0 key)
  write_passed key k = (
    fits_up u,
    (
      k,
      (
        rw mine_found,
        (
          rw (not_held key),
          (
            lt-ltb s.slots (15 * s.pages) (omega (arith, a.slots, left.slots, u.state.pages)),
            (may_log_law 34 room, tt),
          ),
        ),
      ),
    ),
  )

  -- the version's record, and what the log makes of it
  record_of : ℕ → List ℕ → Record
  record_of key value = version_record (new_head s c r.next.0 key 0) value

  write_done : (key : ℕ) → key_form key ≡ true → (value : List ℕ)
      → called m c s (write r.next.0 key value) ≡ write_step s m c a.place (new_head s c r.next.0 key 0) value
  unfolding called write_of add_of write_if
  write_done key k value = rw (passes (write_asks s m c r.next.0 key) (write_passed key k)) (rw mine_found)

  -- ---- commit

  log_then : (i : ℕ) (g : Logged) → Takes s m 34 g → may_log (written s i g) g.medium 19 ≡ true
  unfolding may_log tail_fits written tail_end end_place
  log_then i g (next x y z) = rw (le-leb (used_of g.tail + 19) 512 (omega arith))
  log_then i g (behind x y z w) = go (split 512 (used_of g.tail + 19))
    where
      end_is : 512 * sequence_of s.tail + used_of s.tail + 53 ≤ 512 * 2 ^ 48
      end_is = rw a.tail left.log

      go : (512 < used_of g.tail + 19) ⊎ (used_of g.tail + 19 ≤ 512)
          → leb (used_of g.tail + 19) 512 || (ltb (sequence_of g.tail + 1) (oldest_on g.medium + s.blocks)
          && ltb (sequence_of g.tail + 1) (2 ^ 48)) ≡ true
      go (inr h) = rw (le-leb (used_of g.tail + 19) 512 h)
      go (inl h) =
          rw (
            lt-ltb (sequence_of g.tail + 1) (oldest_on g.medium + s.blocks)
                (omega (arith, ap oldest_on y, a.oldest, u.state.blocks, u.medium.sizes.range.blocks_low)),
            lt-ltb (sequence_of g.tail + 1) (2 ^ 48) (omega (arith, end_is)),
          ) (or-true (leb (used_of g.tail + 19) 512))

  last_stays : (i : ℕ) (g : Logged) → (written s i g).last.0 ≡ s.last.0
  unfolding written
  last_stays i g = refl

  written_ready : (key : ℕ) (value : List ℕ)
      → Ready r.next.0 (logged s m (record_of key value)).medium (written s a.place (logged s m (record_of key value)))
  unfolding record_size record_of new_head bytes_of
  written_ready key value =
      let g = logged s m (record_of key value) in
      record {
        active = rw (still_active s u.living.size r.next.0 a.place mine_found a.inside g);
        some = has_version s u.living.size r.next.0 a.place mine_found a.inside g;
        times = omega (arith, last_stays a.place g, a.last, left.times);
        log =
            log_then a.place g (takes s m (record_of key value) (fit_of s (length m) (length c) (fits_up u)).tail
            (omega arith));
      }

-- ---- begin, write, commit

refusal_is : (l d : ℕ) (m c : List ℕ) (s : State) (x : Call) → answer_number (called m c s x).answer ≡ 0
    → (step l d (up m c s) (call x)).seen.refusal ≡ 0
unfolding step seen_of
refusal_is l d m c s x e = e

abbrev Anywhere : World → Type 0
Anywhere w = Unit {0}

module _ (l d : ℕ) (r : State) (left : Left d r) (clock key : ℕ) (form : key_form key ≡ true) (value : List ℕ)
    (end : ℕ) where
  commit_leads : call_typed (commit r.next.0 end) ≡ true → (w : World) → Standing l d (Ready r.next.0) w
      → Leads l d w (call (commit r.next.0 end) ∷ []) Anywhere
  commit_leads t w (stands m c s b disk closed tail u a) =
      leads_call l d m c s (commit r.next.0 end) [] Anywhere t
      (refusal_is l d m c s (commit r.next.0 end) (done_way (way m c s (commit r.next.0 end)) passed))
      (leads_none l d _ Anywhere tt)
    where
      passed : Passed (commit_asks s m c r.next.0)
      passed = (fits_up u, (a.active, (rw a.some (lt-ltb s.last.0 (2 ^ 64 - 1) a.times), (rw a.some a.log, tt))))

  write_leads : call_typed (write r.next.0 key value) ≡ true → call_typed (commit r.next.0 end) ≡ true → (w : World)
      → Standing l d (Alone r) w
      → Leads l d w (call (write r.next.0 key value) ∷ call (commit r.next.0 end) ∷ []) Anywhere
  unfolding write_step record_of
  write_leads t z w (stands m c s b disk closed tail u a) =
      leads_call l d m c s (write r.next.0 key value) (call (commit r.next.0 end) ∷ []) Anywhere t
      (refusal_is l d m c s (write r.next.0 key value)
      (done_way (way m c s (write r.next.0 key value)) (write_passed u r a left key form)))
      (commit_leads z _ (called_on l d (Ready r.next.0) m c s b (running u) (write r.next.0 key value) t _
      (write_done u r a left key form value) (written_ready u r a left key value)))

  begin_leads : call_typed (begin clock) ≡ true → call_typed (write r.next.0 key value) ≡ true
      → call_typed (commit r.next.0 end) ≡ true → (w : World) → Standing l d (Emptied r 64) w
      → Leads l d w (transaction r.next.0 clock key value end) Anywhere
  unfolding answer_number
  begin_leads x y z w (stands m c s b disk closed tail u e) =
      leads_call l d m c s (begin clock) (call (write r.next.0 key value) ∷ call (commit r.next.0 end) ∷ []) Anywhere x
      (refusal_is l d m c s (begin clock) (ap (λ (o : Outcome). answer_number o.answer) (begin_done u r e left clock)))
      (write_leads y z _ (called_on l d (Alone r) m c s b (running u) (begin clock) x _ (begin_done u r e left clock)
      (begun_alone u r e left clock)))

-- begin answers the next number
begin_number : (l d : ℕ) (r : State) → Left d r → (clock : ℕ) (w : World) → Standing l d (Emptied r 64) w
    → (step l d w (call (begin clock))).seen.result ≡ r.next.0
unfolding step seen_of answer_value
begin_number l d r left clock w (stands m c s b disk closed tail u e) =
    ap (λ (o : Outcome). answer_value o.answer) (begin_done u r e left clock) ∙ next_is u r e left

-- ---- all of them

emptying : {l d : ℕ} {m c : List ℕ} {s : State} {b : Book} {disk : Disk} {closed : List (List Record)}
    {tail : List Record} → Up l d m c s b disk closed tail → (w : World)
    → Free l d closed tail s w → Standing l d (Emptied s 0) w
emptying u w (runs n a t b' disk' x f) = stands n a t b' disk' _ _ x (record {
  same = record {
    oldest = f.oldest;
    tail = x.state.tail_block ∙ sym u.state.tail_block;
    slots = x.state.slots ∙ sym u.state.slots;
    last = x.state.last ∙ sym u.state.last;
    next = f.clear.alike.next;
  };
  free = λ i h. absurd (omega arith);
  rest = λ i h z. remains u x f i z;
})

pub unstuck : Unstuck
unfolding Unstuck fresh_start
unstuck l d es m c s r e left clock key value end k x y z =
    go (subst (λ (w : World). Inv l d w (book_at l d es)) e (inv_after l d es (formatted l d) blank (started r) r.run))
  where
    go : {b : Book} → Inv l d (up m c s) b → Restarts l d (up m c s) s.next.0 clock key value end
    go (running {closed = closed} {tail = tail} u) =
        let p : Leads l d (up m c s) (relief l d (up m c s) ++ aborts_of s.places) (Standing l d (Emptied s 64)) =
        leads_then l d (up m c s) (relief l d (up m c s)) (aborts_of s.places) (Free l d closed tail s)
        (Standing l d (Emptied s 64)) (relief_leads u)
        (λ v a. aborts_lead l d s s.places 0 (omega (arith, u.living.size)) (λ j. ap (place_at s.places) (zero-add j)) v
        (emptying u v a)) in
        let q : Leads l d (up m c s) ((relief l d (up m c s) ++ aborts_of s.places)
        ++ transaction s.next.0 clock key value end) Anywhere =
        leads_then l d (up m c s) (relief l d (up m c s) ++ aborts_of s.places)
        (transaction s.next.0 clock key value end) (Standing l d (Emptied s 64)) Anywhere p
        (begin_leads l d s left clock key k value end x y z) in
        record {
          goes_on = q.run;
          accepted = q.accepted;
          number =
              begin_number l d s left clock
              (world_after l d (up m c s) (relief l d (up m c s) ++ aborts_of s.places)) p.there;
        }
