-- The places that table and log give: the table's places one after the other, and the log's: leaving a number out when its
-- turn comes is leaving it out of the list. Assumes nothing.
use Rattle.std.specs.Prelude.{Option, Some, None, map}
use Rattle.std.specs.Array.{IsFromFnResult, IsFromFnResultFrom}
use Rattle.std.specs.Fn.{Called}
use Rattle.std.specs.List.{range_with_len}
use Rattle.std.specs.Option.{is_some, unwrap_or}
use Rattle.std.proofs.lemmas.List.FromFn.{fill_by_all}
use denote.Param.Members.{Mut}
use mathlib.Core.Path.{◌≡◌, refl, sym, ap, subst, ◌∙◌}
use mathlib.Core.Bool.{Bool, true, false, cond, not, ◌&&◌, and-true, false≢true}
use mathlib.Core.List.{List, [], ◌∷◌}
use Prim.Native.Nat.{ℕ, zero, suc, ◌+◌, ◌%◌, ◌≤◌, ◌<◌}
use native.Mathlib.Omega.{arith}
use native.Mathlib.Numerals.{add-one}
use native.Mathlib.Decide.{ℕ_discrete, dec_lt}
use lib.ListN.{length, get_or, set, drop, drop_of_length-le}
use lib.Seq.{drop-cons}
use lib.Dec.{eqb, ltb}
use borrow.Author.Tests.{lt-ltb, le-ltb, eq-eqb, ne_eqb, eqb-false}
use Rattle.layout.specs.Table.{table_pair}
use Rattle.layout.specs.declared.CommitTime.{CommitTime}
use Rattle.layout.specs.declared.EndPlace.{EndPlace}
use Rattle.layout.specs.declared.item.Pair.{Pair}
use Rattle.layout.specs.declared.slot.Slot.{Slot}
use Rattle.layout.specs.declared.slot.Slot.TheVariants.{Empty, Waiting, Stamped}
use Rattle.fields.proofs.Choose.{cond_elim}
use Rattle.store.specs.declared.Place.{Place}
use Rattle.store.specs.declared.Life.TheVariants.{Committed}
use Rattle.store.specs.Places.{first, is_at, is_free, place_at, free_place, ring_place, find_free}
use Rattle.store.specs.Chain.{cell_at, is_timed}
use Rattle.store.specs.OpenLog.{Placed, Commitment, commit_under}
use Rattle.store.specs.OpenPairs.{table_find, table_or, time_of_commitment, end_of_commitment, pair_time, count_waiting, insert, insert_if, with_waiting, waiting_numbers, live_place, table_places, time_or_zero, take_at, take_free, is_paired, in_log_alone, open_places}
use Rattle.store.proofs.SearchLaws.{first_nothing, first_same}
use Rattle.conditions.specs.declared.log.Commit.{Commit}
use Rattle.conditions.specs.Lookup.{commits_of, commit_among, match_of}
use Rattle.conditions.proofs.GatherLaws.{among_commits}
use Rattle.opening.specs.declared.waiting.Waiting as listed
use Rattle.opening.specs.Waits.{Above, Rising, waiting_of, waiting_list, waiting_under}
use Rattle.opening.specs.Placing.{place_of, table_place, free_unless, take_one, take_all}
use Rattle.opening.proofs.WaitLaws.{under_count}
use Rattle.opening.proofs.InsertLaws.{above_lower, insert_front, rising_waiting}

-- ---- the place of table place i: p is what the code read there, k how many versions wait under its number

module _ (m : List ℕ) (log : List Placed) (f : ℕ → ℕ) (i : ℕ) (p : Pair) (read : p ≡ table_pair m i) where
  pub place_vacant : p.number.0 ≡ 0 → free_place ≡ table_place m log f i
  unfolding table_place
  place_vacant z = simp (← read, eq-eqb p.number.0 0 z)

  module _ (k : ℕ) (some : p.number.0 ≡ 0 → ⊥) (waits : k ≡ f p.number.0) where
    pub place_dead : k ≡ 0 → free_place ≡ table_place m log f i
    unfolding table_place
    place_dead h = simp (← read, ne_eqb p.number.0 0 some, ← waits, le-ltb 0 k (omega arith))

    pub place_live : (k ≡ 0 → ⊥) → (e : EndPlace) (cs : List Commit) → cs ≡ commits_of log → e ≡ record { 0 = end_of_commitment (commit_among cs p.number.0) }
        → record { life = Committed p.number p.time e; waiting = k } ≡ table_place m log f i
    unfolding table_place place_of
    place_live h e cs g q =
        let z : e ≡ record { 0 = end_of_commitment (commit_under log p.number.0) } = q ∙ rw (g, among_commits log p.number.0) in
        sym (simp (← read, ne_eqb p.number.0 0 some, ← waits, lt-ltb 0 k (omega arith), z))

-- ---- all places of the table

-- what `from_fn` gives, where the closure computes h and stays as it is
module _ {F B : Type 0} {g : Mut F (ℕ × Unit {0}) B} {f : F} (h : ℕ → B) (computes : (i : ℕ) (y : B) (q : F) → Called g f (i, tt) y q → (q ≡ f) × (y ≡ h i)) where
  made_from : (ys : List B) (i n : ℕ) → IsFromFnResultFrom g f ys i n → (k : ℕ) (d : B) → i ≤ k → k < i + n → get_or ys k d ≡ h k
  made_from ys i zero made k d a b = absurd (omega arith)
  made_from ys i (suc n) (q, y, at, called, rest) k d a b =
      let w = computes i y q called in
      go (ℕ_discrete i k) (λ l. made_from ys (i + 1) n (subst (λ (p : F). IsFromFnResultFrom g p ys (i + 1) n) w.0 rest) k d l (omega arith))
    where
      go : Dec (i ≡ k) → (i + 1 ≤ k → get_or ys k d ≡ h k) → get_or ys k d ≡ h k
      go (yes e) more = rw (← e) (at.1 d ∙ (computes i y q called).1)
      go (no e) more = more (omega (arith, e))

  from_fn_is : (d : B) (ys : List B) (n : ℕ) → IsFromFnResult g f ys n → ys ≡ map h (range_with_len 0 n)
  from_fn_is d ys n made = fill_by_all h ys n d made.long (λ k l. made_from ys 0 n made.each k d (omega arith) (omega arith))

-- by the list they are the places of the definition: a number of the table has a pair
tabled_paired : (m : List ℕ) (log : List Placed) (i n : ℕ) → i < 64 → (table_pair m i).number.0 ≡ n → (n ≡ 0 → ⊥) → is_paired m log n ≡ true
unfolding is_paired pair_time table_find
tabled_paired m log i n h e z = rw (ne_eqb n 0 z) (go (first (λ j. eqb (table_pair m j).number.0 n) 64 0) refl)
  where
    go : (x : Option ℕ) → first (λ j. eqb (table_pair m j).number.0 n) 64 0 ≡ x → is_timed (table_or x m (time_of_commitment (commit_under log n))) ≡ true
    go (Some j) q = refl
    go None q = absurd (false≢true (sym (first_nothing _ 64 0 q i (omega arith) (omega arith)) ∙ eq-eqb (table_pair m i).number.0 n e))

module _ (m : List ℕ) (log : List Placed) (c : List ℕ) (slots : ℕ) (f : ℕ → ℕ) (counted : (n : ℕ) → is_paired m log n ≡ true → f n ≡ count_waiting c n slots) where
  tabled_same : (i k : ℕ) → i + k ≤ 64 → map (table_place m log f) (range_with_len i k) ≡ table_places m log c slots i k
  unfolding table_places table_place place_of live_place
  tabled_same i zero h = refl
  tabled_same i (suc k) h = rw (tabled_same (i + 1) k (omega arith)) (go (eqb (table_pair m i).number.0 0) refl)
    where
      go : (b : Bool) → eqb (table_pair m i).number.0 0 ≡ b
          → let n = (table_pair m i).number.0 in let t = (table_pair m i).time.0 in let e = end_of_commitment (commit_under log n) in
          cond (not b && ltb 0 (f n)) (record { life = Committed (record { 0 = n }) (record { 0 = t }) (record { 0 = e }); waiting = f n }) free_place ∷ table_places m log c slots (i + 1) k
          ≡ cond (not b && ltb 0 (count_waiting c n slots)) (record { life = Committed (record { 0 = n }) (record { 0 = t }) (record { 0 = e }); waiting = count_waiting c n slots }) free_place ∷ table_places m log c slots (i + 1) k
      go true e = refl
      go false e = rw (counted (table_pair m i).number.0 (tabled_paired m log i (table_pair m i).number.0 (omega arith) refl (eqb-false (table_pair m i).number.0 0 e)))

-- ---- the first free place

pub free_first : (ps : List Place) → find_free ps 0 ≡ first (λ i. is_free (place_at ps i).life) 64 0
unfolding find_free ring_place
free_first ps =
    first_same (λ k. is_free (place_at ps ((0 + k) % 64)).life) (λ i. is_free (place_at ps i).life) 64 0
    (λ k h. let e : (0 + k) % 64 ≡ k = omega arith in ap (λ (j : ℕ). is_free (place_at ps j).life) e)

-- ---- a place for a number: f is where the code found it in the table, g where it found a free place

module _ (m : List ℕ) (log : List Placed) (ps : List Place) (w : listed.Waiting) (f : Option ℕ) (found : f ≡ table_find m w.number) where
  pub taken_tabled : is_some f ≡ true → ps ≡ take_one m log ps w
  unfolding take_one free_unless
  taken_tabled e = rw (← found) (go f e)
    where
      go : (f : Option ℕ) → is_some f ≡ true → ps ≡ take_at (free_unless f ps) ps (place_of (commit_under log w.number) (record { 0 = w.number }) (record { 0 = time_or_zero (commit_under log w.number) }) w.count)
      go (Some i) e = refl
      go None e = absurd (false≢true e)

  module _ (untabled : is_some f ≡ false) (g : Option ℕ) (free : g ≡ find_free ps 0) where
    at-free : free_unless (table_find m w.number) ps ≡ g
    unfolding free_unless
    at-free = rw (← found, free, free_first ps) (go f untabled)
      where
        go : (f : Option ℕ) → is_some f ≡ false → free_unless f ps ≡ first (λ i. is_free (place_at ps i).life) 64 0
        go None e = refl
        go (Some i) e = absurd (false≢true (sym e))

    pub taken_none : g ≡ None → ps ≡ take_one m log ps w
    unfolding take_one
    taken_none e = rw (at-free, e)

    -- t is what was found of the commit under the number, with 0 where there is none
    pub taken_at : (i : ℕ) → g ≡ Some i → (cs : List Commit) → cs ≡ commits_of log → (t : CommitTime × EndPlace)
        → t ≡ unwrap_or (match_of (commit_among cs w.number)) (record { 0 = 0 }, record { 0 = 0 })
        → set ps i (record { life = Committed (record { 0 = w.number }) t.0 t.1; waiting = w.count }) ≡ take_one m log ps w
    unfolding take_one place_of
    taken_at i e cs is t q = rw (at-free, e, q, is, among_commits log w.number) (go (commit_under log w.number))
      where
        go : (o : Option Commitment)
            → let t = unwrap_or (match_of o) (record { 0 = 0 }, record { 0 = 0 }) in
            set ps i (record { life = Committed (record { 0 = w.number }) t.0 t.1; waiting = w.count })
            ≡ set ps i (record { life = Committed (record { 0 = w.number }) (record { 0 = time_or_zero o }) (record { 0 = end_of_commitment o }); waiting = w.count })
        go None = refl
        go (Some x) = refl

-- ---- the numbers that pass a test, of a rising list

unfoldable keep : (ℕ → Bool) → List ℕ → List ℕ
keep q [] = []
keep q (x ∷ xs) = cond (q x) (x ∷ keep q xs) (keep q xs)

above_keep : (q : ℕ → Bool) (n : ℕ) (xs : List ℕ) → Above n xs → Rising xs → Above n (keep q xs)
unfolding keep
above_keep q n [] a r = tt
above_keep q n (x ∷ xs) a r = cond_elim (Above n) (q x) (λ t. a) (λ f. above_keep q n xs (above_lower n x xs a r.0) r.1)

-- the list goes on behind x, which is below n
keep_over : (q : ℕ → Bool) (n x : ℕ) (xs : List ℕ) → x < n → keep q (insert n xs) ≡ insert n (keep q xs) → keep q (insert n (x ∷ xs)) ≡ insert n (keep q (x ∷ xs))
unfolding keep insert
keep_over q n x xs h e = simp (le-ltb n x (omega arith), ne_eqb n x (λ z. omega arith)) (over (q x))
  where
    over : (b : Bool) → cond b (x ∷ keep q (insert n xs)) (keep q (insert n xs)) ≡ insert n (cond b (x ∷ keep q xs) (keep q xs))
    over true = simp (le-ltb n x (omega arith), ne_eqb n x (λ z. omega arith), e)
    over false = e

keep_in : (q : ℕ → Bool) (n : ℕ) (xs : List ℕ) → q n ≡ true → Rising xs → keep q (insert n xs) ≡ insert n (keep q xs)
unfolding keep insert
keep_in q n [] t r = simp t
keep_in q n (x ∷ xs) t r = go (dec_lt n x) (ℕ_discrete n x) (keep_in q n xs t r.1)
  where
    go : Dec (n < x) → Dec (n ≡ x) → keep q (insert n xs) ≡ insert n (keep q xs) → keep q (insert n (x ∷ xs)) ≡ insert n (keep q (x ∷ xs))
    go (yes h) d e = simp (lt-ltb n x h, t) (sym (insert_front n (keep q (x ∷ xs)) (above_keep q n (x ∷ xs) h r)))
    go (no h) (yes z) e = let u : q x ≡ true = rw z at t in simp (le-ltb n x (omega (arith, h)), eq-eqb n x z, u)
    go (no h) (no z) e = keep_over q n x xs (omega (arith, h, z)) e

keep_out : (q : ℕ → Bool) (n : ℕ) (xs : List ℕ) → q n ≡ false → keep q (insert n xs) ≡ keep q xs
unfolding keep insert
keep_out q n [] f = simp f
keep_out q n (x ∷ xs) f =
    cond_elim (λ (l : List ℕ). keep q l ≡ keep q (x ∷ xs)) (ltb n x) (λ t. simp f)
    (λ g. cond_elim (λ (l : List ℕ). keep q l ≡ keep q (x ∷ xs)) (eqb n x) (λ t. refl) (λ h. simp (keep_out q n xs f)))

-- ---- leaving numbers out of those that wait is asking for more

module _ (p q r : ℕ → Bool) (h : (n : ℕ) → p n && q n ≡ r n) where
  keep_if : (n : ℕ) (xs : List ℕ) (a b : Bool) → p n ≡ a → q n ≡ b → Rising xs → keep q (insert_if a n xs) ≡ insert_if (r n) n (keep q xs)
  keep_if n xs true true e f w = let z : r n ≡ true = sym (h n) ∙ simp (e, f) in rw z (keep_in q n xs f w)
  keep_if n xs true false e f w = let z : r n ≡ false = sym (h n) ∙ simp (e, f) in rw z (keep_out q n xs f)
  keep_if n xs false b e f w = let z : r n ≡ false = sym (h n) ∙ simp e in rw z

  keep_with : (s : Slot) (xs : List ℕ) → Rising xs → keep q (with_waiting s p xs) ≡ with_waiting s r (keep q xs)
  keep_with Empty xs w = refl
  keep_with (Waiting n) xs w = keep_if n.0 xs (p n.0) (q n.0) refl refl w
  keep_with (Stamped t) xs w = refl

  keep_waiting : (c : List ℕ) (k : ℕ) → keep q (waiting_numbers c p k) ≡ waiting_numbers c r k
  unfolding waiting_numbers keep
  keep_waiting c zero = refl
  keep_waiting c (suc k) =
      keep_with (cell_at c k).state (waiting_numbers c p k) (rising_waiting c p k) ∙ ap (with_waiting (cell_at c k).state r) (keep_waiting c k)

-- ---- the log's places

module _ (m : List ℕ) (log : List Placed) (c : List ℕ) (slots : ℕ) where
  untabled : ℕ → Bool
  untabled n = not (is_at (table_find m n))

  take_kept : (ps : List Place) (xs : List ℕ) → take_all m log ps (map (waiting_of c slots) xs) ≡ take_free m log c slots ps (keep untabled xs)
  unfolding take_all take_free take_one free_unless place_of live_place keep untabled
  take_kept ps [] = refl
  take_kept ps (n ∷ ns) = go (table_find m n) refl (λ qs. take_kept qs ns)
    where
      live : Place
      live = live_place m log c slots n (time_or_zero (commit_under log n))

      at : (f : Option ℕ) → table_find m n ≡ f → take_all m log ps (map (waiting_of c slots) (n ∷ ns)) ≡ take_all m log (take_at (free_unless f ps) ps live) (map (waiting_of c slots) ns)
      at f e = ap (λ (f : Option ℕ). take_all m log (take_at (free_unless f ps) ps live) (map (waiting_of c slots) ns)) e

      go : (f : Option ℕ) → table_find m n ≡ f → ((qs : List Place) → take_all m log qs (map (waiting_of c slots) ns) ≡ take_free m log c slots qs (keep untabled ns))
          → take_all m log ps (map (waiting_of c slots) (n ∷ ns)) ≡ take_free m log c slots ps (keep untabled (n ∷ ns))
      go (Some i) e ih = at (Some i) e ∙ ih ps ∙ sym (simp e)
      go None e ih = at None e ∙ ih (take_at (free_unless None ps) ps live) ∙ sym (simp e)

  alone : (n : ℕ) → is_paired m log n && untabled n ≡ in_log_alone m log n
  unfolding is_paired in_log_alone pair_time untabled
  alone n = go (table_find m n)
    where
      go : (f : Option ℕ) → is_timed (table_or f m (time_of_commitment (commit_under log n))) && not (is_at f) ≡ not (is_at f) && is_timed (time_of_commitment (commit_under log n))
      go (Some i) = refl
      go None = and-true (is_timed (time_of_commitment (commit_under log n)))

  pub take_all_waiting : (ps : List Place)
      → take_all m log ps (waiting_list c (is_paired m log) slots) ≡ take_free m log c slots ps (waiting_numbers c (in_log_alone m log) slots)
  unfolding waiting_list
  take_all_waiting ps = take_kept ps (waiting_numbers c (is_paired m log) slots) ∙ ap (take_free m log c slots ps) (keep_waiting (is_paired m log) untabled (in_log_alone m log) alone c slots)

  -- what is left of the list, taken: at the start, where ps are the table's places
  pub taken_start : {F : Type 0} {g : Mut F (ℕ × Unit {0}) Place} {f : F} (ps : List Place) (xs : List listed.Waiting) → xs ≡ waiting_list c (is_paired m log) slots
      → IsFromFnResult g f ps 64 → ((i : ℕ) (y : Place) (q : F) → Called g f (i, tt) y q → (q ≡ f) × (y ≡ table_place m log (waiting_under xs) i))
      → take_all m log ps xs ≡ open_places m log c slots
  unfolding open_places
  taken_start ps xs is made computes =
      rw (
        from_fn_is (table_place m log (waiting_under xs)) computes free_place ps 64 made,
        is,
        tabled_same m log c slots (waiting_under (waiting_list c (is_paired m log) slots)) (under_count c (is_paired m log) slots) 0 64 (omega arith),
      )
      (take_all_waiting (table_places m log c slots 0 64))

pub taken_turn : (m : List ℕ) (log : List Placed) (ps next : List Place) (xs : List listed.Waiting) (i : ℕ) (d : listed.Waiting) → i < length xs → next ≡ take_one m log ps (get_or xs i d)
    → take_all m log next (drop (i + 1) xs) ≡ take_all m log ps (drop i xs)
unfolding take_all
taken_turn m log ps next xs i d h e = rw (drop-cons xs i d h, e, add-one)

pub taken_end : (m : List ℕ) (log : List Placed) (ps : List Place) (xs : List listed.Waiting) (i : ℕ) → length xs ≤ i → ps ≡ take_all m log ps (drop i xs)
unfolding take_all
taken_end m log ps xs i h = let e : drop i xs ≡ [] = drop_of_length-le xs h in rw e
