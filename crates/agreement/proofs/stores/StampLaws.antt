-- The 15 turns of storing a page: each stamps a slot that waits under a number whose commit is stored, and counts that
-- number's place down. After each turn the page is the canonical page of the slots so far, and the places are true of
-- them.
use Rattle.std.specs.Prelude.{Option, Some, None}
use Prim.Native.Nat.{ℕ, zero, suc, ◌+◌, ◌-◌, ◌*◌, ◌/◌, ◌≤◌, ◌<◌}
use native.Mathlib.Nat.{add-zero}
use native.Mathlib.Omega.{arith}
use mathlib.Core.Bool.{Bool, true, false, cond}
use mathlib.Core.List.{List, [], ◌∷◌, ◌++◌}
use mathlib.Core.Logic.{◌⊎◌, inl, inr, ◌≢◌}
use mathlib.Core.Path.{◌≡◌, refl, sym, ap, ◌∙◌, subst}
use lib.Dec.{leb}
use lib.ListN.{length, take, drop, get_or, set, length-set, length-take, length-drop, get_or-eq_default}
use lib.Seq.{get_or-take, get_or-drop, ext_get_or, get_or-set_same, get_or-set_other}
use borrow.Author.Tests.{eq-eqb, leb-true}
use Rattle.fields.specs.Block.{blk}
use Rattle.fields.specs.Field.{dec}
use Rattle.fields.specs.Part.{part}
use Rattle.layout.specs.Journal.{Record}
use Rattle.layout.specs.Page.{page_bytes, page_slot, stamp_cell}
use Rattle.layout.specs.Slot.{Cell, slot_state, cell_of, state_of, code_of, shared_field}
use Rattle.layout.specs.declared.TxNumber.{TxNumber}
use Rattle.layout.specs.declared.CommitTime.{CommitTime}
use Rattle.layout.specs.declared.slot.Slot.{Slot}
use Rattle.layout.specs.declared.slot.Slot.TheVariants.{Empty, Waiting, Stamped}
use Rattle.fields.proofs.CellLaws.{Each, each_at}
use Rattle.layout.proofs.PageLaws.{no_cell, free_page_bytes, stamp_page_bytes}
use Rattle.layout.proofs.SlotLaws.{SlotSized, cell_stamped, cell_slot_bytes}
use Rattle.store.specs.declared.Life.{Life}
use Rattle.store.specs.declared.Life.TheVariants.{Free, Active, Committed}
use Rattle.store.specs.declared.Place.{Place}
use Rattle.store.specs.declared.State.{State}
use Rattle.store.specs.Places.{place_at, find_committed, stored_under, time_up_to, at_found}
use Rattle.store.specs.OpenPairs.{waits_under}
use Rattle.store.specs.StorePage.{stamp_time, stamp_with, stamp_from, stored_pair, stamped_page, lower_at, settle_with}
use Rattle.store.specs.StorePage.{settle_from, settled}
use Rattle.runs.specs.Book.{Book}
use Rattle.agreement.proofs.invariant.MediumFacts.{match_sized}
use Rattle.agreement.proofs.history.Ghost.{versions_of, commits_of, LoggedVersion, at, LoggedCommit, find, cell, Match}
use Rattle.agreement.proofs.history.Ghost.{still, marked, end_of_page, page_with, full, Disk}
use Rattle.agreement.proofs.history.ListLaws.{split, same?, each_take, each_drop}
use Rattle.agreement.proofs.history.SlotLaws.{count_at, slot_page}
use Rattle.agreement.proofs.invariant.Invariant.{life_num, life_time, life_end, num_at, time_at, Living, Up}
use Rattle.agreement.proofs.invariant.StoredFacts.{commit_marked, commit_closed}
use Rattle.agreement.proofs.invariant.PlaceFacts.{committed_found, life_low}
use Rattle.agreement.proofs.stores.SettleLaws.{same, kept_num, kept_twice, AllKept, lowered_kept, counted_down}
use Rattle.agreement.proofs.stores.SettleLaws.{living_lowered}

-- ---- slots of a page

-- what a full page shows in a slot
pub state_page : (vs : List LoggedVersion) (cells : List Cell) (p i : ℕ) → Each SlotSized cells
    → length cells ≡ length vs → i < 15
    → slot_state (page_slot (page_with vs cells p (full (length vs) p)) i) ≡ (cell cells (15 * p + i)).state
unfolding page_with slot_state cell_of
state_page vs cells p i z e h = go (split i (full (length vs) p))
  where
    go : (i < full (length vs) p) ⊎ (full (length vs) p ≤ i)
        → slot_state (page_slot (page_with vs cells p (full (length vs) p)) i) ≡ (cell cells (15 * p + i)).state
    go (inl a) =
        ap slot_state (slot_page vs cells p (full (length vs) p) i z (omega arith) a)
        ∙ ap (λ (x : Cell). x.state) (cell_slot_bytes (cell cells (15 * p + i))
        (each_at SlotSized cells (15 * p + i) no_cell z (omega arith)))
    go (inr a) =
        ap (λ (x : List ℕ). state_of (get_or x 0 0) (dec (part x 8 8)))
        (free_page_bytes (end_of_page vs p (full (length vs) p)) (take (full (length vs) p) (drop (15 * p) cells)) i
        (each_take SlotSized (full (length vs) p) (drop (15 * p) cells) (each_drop SlotSized (15 * p) cells z))
        (simp (length-take, length-drop) (omega arith)) h)
        ∙ ap (λ (x : Cell). x.state) (sym (get_or-eq_default cells no_cell {n = 15 * p + i} (omega arith)))

-- a slot of a page replaced
set_page : (cells : List Cell) (a c i : ℕ) (y : Cell) → i < c → a + i < length cells
    → set (take c (drop a cells)) i y ≡ take c (drop a (set cells (a + i) y))
set_page cells a c i y h k =
    ext_get_or no_cell (set (take c (drop a cells)) i y) (take c (drop a (set cells (a + i) y)))
    (simp (length-set, length-take, length-drop))
    (λ j g. go j (omega (
      arith,
      length-set (take c (drop a cells)) i y,
      length-take c (drop a cells),
      length-drop a cells,
    )) (same? j i))
  where
    go : (j : ℕ) → (j < c) × (j < length cells - a) → (j ≡ i) ⊎ (j ≢ i)
        → get_or (set (take c (drop a cells)) i y) j no_cell ≡ get_or (take c (drop a (set cells (a + i) y))) j no_cell
    go j g (inl e) =
        rw e (get_or-set_same (take c (drop a cells)) i y no_cell (simp (length-take, length-drop) (omega arith))
        ∙ sym (get_or-take c (drop a (set cells (a + i) y)) i no_cell h ∙ get_or-drop a (set cells (a + i) y) i no_cell
        ∙ get_or-set_same cells (a + i) y no_cell k))
    go j g (inr e) =
        get_or-set_other (take c (drop a cells)) i j y no_cell e
        ∙ get_or-take c (drop a cells) j no_cell g.0
        ∙ get_or-drop a cells j no_cell
        ∙ sym (get_or-take c (drop a (set cells (a + i) y)) j no_cell g.0
        ∙ get_or-drop a (set cells (a + i) y) j no_cell
        ∙ get_or-set_other cells (a + i) (a + j) y no_cell (omega arith))

stamp_page : (vs : List LoggedVersion) (cells : List Cell) (p c i t : ℕ) → Each SlotSized cells
    → c ≤ length cells - 15 * p → i < c
    → stamp_cell (page_with vs cells p c) i t ≡ page_with vs
    (set cells (15 * p + i) (cell_stamped (cell cells (15 * p + i)) t)) p c
unfolding page_with
stamp_page vs cells p c i t z h k =
    let xs = take c (drop (15 * p) cells) in
    let e : get_or xs i no_cell ≡ cell cells (15 * p + i) = get_or-take c (drop (15 * p) cells) i no_cell k
    ∙ get_or-drop (15 * p) cells i no_cell in
    stamp_page_bytes (end_of_page vs p c) xs i t
    (each_take SlotSized c (drop (15 * p) cells) (each_drop SlotSized (15 * p) cells z))
    (simp (length-take, length-drop) (omega arith))
    ∙ ap (λ (x : Cell). page_bytes (end_of_page vs p c) (set xs i (cell_stamped x t))) e
    ∙ ap (page_bytes (end_of_page vs p c))
    (set_page cells (15 * p) c i (cell_stamped (cell cells (15 * p + i)) t) k (omega arith))

-- a stamped slot still matches its version
match_stamp : (cs : List LoggedCommit) (v : LoggedVersion) (x : Cell) (n : TxNumber) (t : ℕ) → Match cs v x
    → x.state ≡ Waiting n → 0 < t → (find cs n.0).time ≡ t → Match cs v (cell_stamped x t)
unfolding shared_field code_of
match_stamp cs v x n t still e z f = marked t z (ap (λ (a : ℕ). (find cs a).time) (ap shared_field e) ∙ f)
match_stamp cs v x n t (marked u y g) e z f = absurd (omega (arith, ap code_of e))

-- ---- the times of stored commits

up_to : (x : Life) (limit : ℕ) (t : CommitTime) → time_up_to x limit ≡ Some t
    → (life_time x ≡ t.0) × (life_end x ≤ limit)
up_to Free limit t e = let z : ◌≡◌ {A = ℕ} 0 1 = cc in absurd (omega arith)
up_to (Active a k) limit t e = let z : ◌≡◌ {A = ℕ} 0 1 = cc in absurd (omega arith)
up_to (Committed a u k) limit t e = go (leb k.0 limit) refl e
  where
    go : (b : Bool) → leb k.0 limit ≡ b → cond b (Some u) None ≡ Some t → (u.0 ≡ t.0) × (k.0 ≤ limit)
    go true f e = (cc, leb-true k.0 limit f)
    go false f e = let z : ◌≡◌ {A = ℕ} 0 1 = cc in absurd (omega arith)

-- number n, with its committed place, has the time t of a stored commit
record Stamps (ps : List Place) (stored all : List LoggedCommit) (n t : ℕ) : Type 0 where
  place : ℕ
  inside : place < 64
  found : find_committed ps n ≡ Some place
  num : num_at ps place ≡ n
  time : time_at ps place ≡ t
  low : 0 < n
  positive : 0 < t
  true_time : (find stored n).time ≡ t
  ended : 0 < (find all n).time

-- ---- the turns

stamp_none : (pair : ℕ → Option CommitTime) (page : List ℕ) (i : ℕ) → stamp_from pair page i 0 ≡ page
unfolding stamp_from
stamp_none pair page i = refl

stamp_next : (pair : ℕ → Option CommitTime) (page : List ℕ) (i j : ℕ)
    → stamp_from pair page i (suc j) ≡ stamp_from pair
    (stamp_with (stamp_time pair (slot_state (page_slot page i))) page i) (i + 1) j
unfolding stamp_from
stamp_next pair page i j = refl

settle_none : (pair : ℕ → Option CommitTime) (old : List Place) (page : List ℕ) (ps : List Place) (i : ℕ)
    → settle_from pair old page ps i 0 ≡ ps
unfolding settle_from
settle_none pair old page ps i = refl

settle_next : (pair : ℕ → Option CommitTime) (old : List Place) (page : List ℕ) (ps : List Place) (i j : ℕ)
    → settle_from pair old page ps i (suc j) ≡ settle_from pair old page
    (settle_with (stamp_time pair (slot_state (page_slot page i))) (slot_state (page_slot page i)) old ps) (i + 1) j
unfolding settle_from
settle_next pair old page ps i j = refl

-- after the turns of the first i slots of page p: the slots so far, the page and the places
pub record Turned (m : List ℕ) (disk : Disk) (vs : List LoggedVersion) (cs : List LoggedCommit) (next : ℕ)
    (old : List Place) (pair : ℕ → Option CommitTime) (p i : ℕ) (page : List ℕ) (ps : List Place) : Type 0 where
  pub cells : List Cell
  pub size : length cells ≡ length vs
  pub bytes : page ≡ page_with vs cells p (full (length vs) p)
  pub off : (n : ℕ) → n / 15 ≢ p → cell cells n ≡ cell disk.cells n
  pub ahead : (n : ℕ) → 15 * p + i ≤ n → cell cells n ≡ cell disk.cells n
  pub match : (n : ℕ) → n < length vs → Match (commits_of disk.stored) (at vs n) (cell cells n)
  -- what still waits has no stored commit
  pub done : (j : ℕ) → j < i → (n : TxNumber) → (cell cells (15 * p + j)).state ≡ Waiting n → pair n.0 ≡ None
  pub living : Living m cs cells disk.oldest next ps
  pub kept : AllKept old ps

module _ {l d : ℕ} {m c : List ℕ} {s : State} {b : Book} {disk : Disk} {closed : List (List Record)}
    {tail : List Record} (u : Up l d m c s b disk closed tail) where
  abbrev history : List (List Record)
  history = closed ++ (tail ∷ [])

  -- a time that a slot is stamped with is that of a stored commit
  stamps : (n : ℕ) (t : CommitTime) → stored_pair s n ≡ Some t
      → Stamps s.places (commits_of disk.stored) (commits_of history) n t.0
  unfolding stored_pair stored_under
  stamps n t e = go (find_committed s.places n) refl e
    where
      go : (f : Option ℕ) → find_committed s.places n ≡ f
          → at_found f (λ i. time_up_to (place_at s.places i).life s.end.0) ≡ Some t
          → Stamps s.places (commits_of disk.stored) (commits_of history) n t.0
      go None f e = let z : ◌≡◌ {A = ℕ} 0 1 = cc in absurd (omega arith)
      go (Some i) f e =
          let r = committed_found u.living n i f in
          let w = u.living.each i r.0 in
          let q = up_to (place_at s.places i).life s.end.0 t e in
          let over : (find (commits_of history) n).time ≡ time_at s.places i =
          ap (λ (a : ℕ). (find (commits_of history) a).time) (sym r.1) ∙ w.over r.2 in
          let some : 0 < (find (commits_of history) n).time = omega (arith, over, r.2) in
          record {
            place = i;
            inside = r.0;
            found = f;
            num = r.1;
            time = q.0;
            low = omega (arith, r.1, life_low (place_at s.places i).life w.formed r.2);
            positive = omega (arith, q.0, r.2);
            true_time = ap (λ (x : LoggedCommit). x.time) (stored i r.1 some (w.place r.2) q.1) ∙ over ∙ q.0;
            ended = some;
          }
        where
          stored : (i : ℕ) → num_at s.places i ≡ n → 0 < (find (commits_of history) n).time
              → (life_end (place_at s.places i).life ≡ (find (commits_of history) (num_at s.places i)).end)
              ⊎ ((life_end (place_at s.places i).life ≡ 0)
              × ((find (commits_of history) (num_at s.places i)).seq < disk.oldest))
              → life_end (place_at s.places i).life ≤ s.end.0
              → find (commits_of disk.stored) n ≡ find (commits_of history) n
          stored i e z (inl a) g =
              commit_marked u.medium u.state.mark n z
              (omega (arith, a, ap (λ (x : ℕ). (find (commits_of history) x).end) e))
          stored i e z (inr a) g =
              commit_closed u.medium u.state.mark n z
              (omega (arith, a.1, u.state.ring_low, ap (λ (x : ℕ). (find (commits_of history) x).seq) e))

  module _ (p : ℕ) (inside : p < d) where
    abbrev Here : ℕ → List ℕ → List Place → Type 0
    Here i page ps =
        Turned m disk (versions_of history) (commits_of history) s.next.0 s.places (stored_pair s) p i page ps

    -- nothing is stamped
    unstamped : (i : ℕ) (page : List ℕ) (ps : List Place)
        → ((n : TxNumber) → (cell disk.cells (15 * p + i)).state ≡ Waiting n → stored_pair s n.0 ≡ None)
        → Here i page ps → Here (i + 1) page ps
    unstamped i page ps f t = record {
      cells = t.cells;
      size = t.size;
      bytes = t.bytes;
      off = t.off;
      ahead = λ n h. t.ahead n (omega arith);
      match = t.match;
      done = λ j h. done' j h (same? j i);
      living = t.living;
      kept = t.kept;
    }
      where
        done' : (j : ℕ) → j < i + 1 → (j ≡ i) ⊎ (j ≢ i) → (n : TxNumber) → (cell t.cells (15 * p + j)).state ≡ Waiting n
            → stored_pair s n.0 ≡ None
        done' j h (inl e) n w =
            f n (ap (λ (x : Cell). x.state) (sym (t.ahead (15 * p + i) (omega arith)))
            ∙ ap (λ (x : ℕ). (cell t.cells (15 * p + x)).state) (sym e) ∙ w)
        done' j h (inr e) n w = t.done j (omega arith) n w

    -- a slot is stamped
    stamped : (i : ℕ) (page : List ℕ) (ps : List Place) → i < 15 → Here i page ps → (n : TxNumber) (w : CommitTime)
        → (cell disk.cells (15 * p + i)).state ≡ Waiting n
        → stored_pair s n.0 ≡ Some w → Here (i + 1) (stamp_cell page i w.0) (lower_at (find_committed s.places n.0) ps)
    stamped i page ps h t n w e f =
        subst (λ (x : Option ℕ). Here (i + 1) (stamp_cell page i w.0) (lower_at x ps)) (sym st.found) (record {
          cells = set t.cells x new;
          size = length-set t.cells x new ∙ t.size;
          bytes = ap (λ (y : List ℕ). stamp_cell y i w.0) t.bytes
              ∙ stamp_page (versions_of history) t.cells p (full (length (versions_of history)) p) i w.0
              (match_sized u.medium t.cells t.size t.match) (omega (arith, t.size)) (omega (arith, lt));
          off = λ a g. get_or-set_other t.cells x a new no_cell (omega arith) ∙ t.off a g;
          ahead = λ a g. get_or-set_other t.cells x a new no_cell (omega arith) ∙ t.ahead a (omega arith);
          match = λ a g. match' a g (same? a x);
          done = λ a g. done' a g (same? a i);
          living = living_lowered t.living x lt n waits new w refl st.place st.inside num time;
          kept =
              λ a g. kept_twice _ _ _ (t.kept a g)
              (lowered_kept ps st.place t.living.size st.inside
              (counted_down t.living x lt n waits new w refl st.place st.inside num time) a g);
        })
      where
        st : Stamps s.places (commits_of disk.stored) (commits_of history) n.0 w.0
        st = stamps n.0 w f

        x : ℕ
        x = 15 * p + i

        new : Cell
        new = cell_stamped (cell t.cells (15 * p + i)) w.0

        waits : (cell t.cells x).state ≡ Waiting n
        waits = ap (λ (y : Cell). y.state) (t.ahead x (omega arith)) ∙ e

        lt : x < length t.cells
        lt = go (split x (length t.cells))
          where
            go : (x < length t.cells) ⊎ (length t.cells ≤ x) → x < length t.cells
            go (inl a) = a
            go (inr a) =
                let y : Empty ≡ Waiting n =
                ap (λ (y : Cell). y.state) (sym (get_or-eq_default t.cells no_cell {n = x} a)) ∙ waits in
                let z : ◌≡◌ {A = ℕ} 0 1 = cc in absurd (omega arith)

        match_here : Match (commits_of disk.stored) (at (versions_of history) x) (cell (set t.cells x new) x)
        match_here =
            rw (get_or-set_same t.cells x new no_cell lt)
            (match_stamp (commits_of disk.stored) (at (versions_of history) x) (cell t.cells x) n w.0
            (t.match x (omega (arith, lt, t.size))) waits st.positive st.true_time)

        match' : (a : ℕ) → a < length (versions_of history) → (a ≡ x) ⊎ (a ≢ x)
            → Match (commits_of disk.stored) (at (versions_of history) a) (cell (set t.cells x new) a)
        match' a g (inl q) =
            subst (λ (y : ℕ). Match (commits_of disk.stored) (at (versions_of history) y) (cell (set t.cells x new) y))
            (sym q) match_here
        match' a g (inr q) = rw (get_or-set_other t.cells x a new no_cell q) (t.match a g)

        done' : (a : ℕ) → a < i + 1 → (a ≡ i) ⊎ (a ≢ i) → (y : TxNumber)
            → (cell (set t.cells x new) (15 * p + a)).state ≡ Waiting y → stored_pair s y.0 ≡ None
        done' a g (inl q) y z =
            let v : new.state ≡ Waiting y = ap (λ (o : Cell). o.state) (sym (get_or-set_same t.cells x new no_cell lt))
            ∙ ap (λ (o : ℕ). (cell (set t.cells x new) (15 * p + o)).state) (sym q) ∙ z in
            let o : ◌≡◌ {A = ℕ} 0 1 = cc in absurd (omega arith)
        done' a g (inr q) y z =
            t.done a (omega arith) y (ap (λ (o : Cell). o.state)
            (sym (get_or-set_other t.cells x (15 * p + a) new no_cell (omega arith))) ∙ z)

        -- the number is still waited for, so its place keeps its life
        home : (j : ℕ) × (j < 64) × (num_at ps j ≡ n.0)
        home = t.living.all n.0
            (count_at n.0 x t.cells lt (ap (λ (y : Slot). waits_under y n.0) waits ∙ eq-eqb n.0 n.0 refl)) st.ended

        life : (place_at ps st.place).life ≡ (place_at s.places st.place).life
        life =
            let (j, a, q) = home in
            let r : (place_at ps j).life ≡ (place_at s.places j).life =
            kept_num _ _ (t.kept j a) (omega (arith, q, st.low)) in
            let o : j ≡ st.place = u.living.distinct j st.place a st.inside (omega (arith, q, st.low, ap life_num r))
            (sym (ap life_num r) ∙ q ∙ sym st.num) in
            subst (λ (y : ℕ). (place_at ps y).life ≡ (place_at s.places y).life) o r

        num : num_at ps st.place ≡ n.0
        num = ap life_num life ∙ st.num

        time : 0 < time_at ps st.place
        time = omega (arith, ap life_time life, st.time, st.positive)

    -- the turn of slot i, by what stands in it
    turn : (i : ℕ) (page : List ℕ) (ps : List Place) → i < 15 → Here i page ps → (x : Slot)
        → (cell disk.cells (15 * p + i)).state ≡ x
        → Here (i + 1) (stamp_with (stamp_time (stored_pair s) x) page i)
        (settle_with (stamp_time (stored_pair s) x) x s.places ps)
    unfolding stamp_time
    turn i page ps h t Empty e = unstamped i page ps (λ n w. let o : ◌≡◌ {A = ℕ} 0 1 = cc in absurd (omega arith)) t
    turn i page ps h t (Stamped w) e =
        unstamped i page ps (λ n w. let o : ◌≡◌ {A = ℕ} 0 1 = cc in absurd (omega arith)) t
    turn i page ps h t (Waiting n) e = go (stored_pair s n.0) refl
      where
        go : (x : Option CommitTime) → stored_pair s n.0 ≡ x
            → Here (i + 1) (stamp_with x page i) (settle_with x (Waiting n) s.places ps)
        go None f = unstamped i page ps (λ y w. let o : n.0 ≡ y.0 = cc in rw o at f) t
        go (Some w) f = stamped i page ps h t n w e f

    pub old_state : (i : ℕ) → i < 15 → slot_state (page_slot (blk c p) i) ≡ (cell disk.cells (15 * p + i)).state
    old_state i h =
        ap (λ (x : List ℕ). slot_state (page_slot x i)) (u.cache.pages p inside)
        ∙ state_page (versions_of history) disk.cells p i
        (match_sized u.medium disk.cells u.medium.pages.slots.count u.medium.pages.slots.match)
        u.medium.pages.slots.count h

    new_state : (i : ℕ) (page : List ℕ) (ps : List Place) → i < 15 → Here i page ps
        → slot_state (page_slot page i) ≡ (cell disk.cells (15 * p + i)).state
    new_state i page ps h t =
        ap (λ (x : List ℕ). slot_state (page_slot x i)) t.bytes
        ∙ state_page (versions_of history) t.cells p i (match_sized u.medium t.cells t.size t.match) t.size h
        ∙ ap (λ (x : Cell). x.state) (t.ahead (15 * p + i) (omega arith))

    slot_turn : (i : ℕ) (page : List ℕ) (ps : List Place) → i < 15 → Here i page ps
        → Here (i + 1) (stamp_with (stamp_time (stored_pair s) (slot_state (page_slot page i))) page i)
        (settle_with (stamp_time (stored_pair s) (slot_state (page_slot (blk c p) i)))
        (slot_state (page_slot (blk c p) i)) s.places ps)
    slot_turn i page ps h t =
        let x = (cell disk.cells (15 * p + i)).state in
        subst (λ (y : Slot). Here (i + 1) (stamp_with (stamp_time (stored_pair s) y) page i)
        (settle_with (stamp_time (stored_pair s) (slot_state (page_slot (blk c p) i)))
        (slot_state (page_slot (blk c p) i)) s.places ps)) (sym (new_state i page ps h t))
        (subst (λ (y : Slot). Here (i + 1) (stamp_with (stamp_time (stored_pair s) x) page i)
        (settle_with (stamp_time (stored_pair s) y) y s.places ps)) (sym (old_state i h))
        (turn i page ps h t x refl))

    turns : (j i : ℕ) (page : List ℕ) (ps : List Place) → i + j ≤ 15 → Here i page ps
        → Here (i + j) (stamp_from (stored_pair s) page i j) (settle_from (stored_pair s) s.places (blk c p) ps i j)
    turns zero i page ps h t =
        subst (λ (a : ℕ). Here a (stamp_from (stored_pair s) page i 0)
        (settle_from (stored_pair s) s.places (blk c p) ps i 0)) (sym (add-zero i))
        (subst (λ (y : List ℕ). Here i y (settle_from (stored_pair s) s.places (blk c p) ps i 0))
        (sym (stamp_none (stored_pair s) page i))
        (subst (λ (y : List Place). Here i page y) (sym (settle_none (stored_pair s) s.places (blk c p) ps i)) t))
    turns (suc j) i page ps h t =
        let e : i + 1 + j ≡ i + suc j = omega arith in
        let page' = stamp_with (stamp_time (stored_pair s) (slot_state (page_slot page i))) page i in
        let ps' = settle_with (stamp_time (stored_pair s) (slot_state (page_slot (blk c p) i)))
        (slot_state (page_slot (blk c p) i)) s.places ps in
        subst (λ (a : ℕ). Here a (stamp_from (stored_pair s) page i (suc j))
        (settle_from (stored_pair s) s.places (blk c p) ps i (suc j))) e
        (subst (λ (y : List ℕ). Here (i + 1 + j) y (settle_from (stored_pair s) s.places (blk c p) ps i (suc j)))
        (sym (stamp_next (stored_pair s) page i j))
        (subst (λ (y : List Place). Here (i + 1 + j) (stamp_from (stored_pair s) page' (i + 1) j) y)
        (sym (settle_next (stored_pair s) s.places (blk c p) ps i j))
        (turns j (i + 1) page' ps' (omega arith) (slot_turn i page ps (omega arith) t))))

    pub page_turned : Here 15 (stamped_page s (blk c p)) (settled s (blk c p))
    unfolding stamped_page settled
    page_turned = turns 15 0 (blk c p) s.places (omega arith) (record {
      cells = disk.cells;
      size = u.medium.pages.slots.count;
      bytes = u.cache.pages p inside;
      off = λ n h. refl;
      ahead = λ n h. refl;
      match = u.medium.pages.slots.match;
      done = λ j h. absurd (omega arith);
      living = u.living;
      kept = λ i h. same;
    })
