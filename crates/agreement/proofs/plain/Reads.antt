-- What reads and lists give, in plain words: by the book's steps each is a version row with a commit row, or the
-- reader's own, and each row of the book was brought by an accepted call.
use Rattle.std.specs.Prelude.{Option, None, Some}
use Prim.Native.Nat.{ℕ, zero, suc, ◌≤◌, ◌<◌}
use native.Mathlib.Omega.{arith}
use mathlib.Core.Bool.{Bool, true, false, cond, ◌&&◌, ◌||◌, false≢true}
use mathlib.Core.List.{List, [], ◌∷◌, ◌++◌}
use mathlib.Core.Logic.{◌⊎◌, inl, inr}
use mathlib.Core.Path.{◌≡◌, refl, ◌∙◌, subst}
use lib.Dec.{eqb, leb, ltb}
use borrow.Author.Tests.{eqb-true, ltb-true, ltb-false}
use Rattle.fields.proofs.Choose.{and_0, and_1}
use Rattle.runs.specs.Event.{Event, call, current_read, as_of, changes, Strip, missing, Observation}
use Rattle.runs.specs.Book.{Version, Row, version, committed, Book, blank, versions, time_of, add, fall, strip_of}
use Rattle.runs.specs.Book.{is_some, current_of, Dated, later_of, dated_of, best_below, last_below, strip_at}
use Rattle.runs.specs.Book.{strip_as_of, differs, lines_at, lines_below, lines_of, Fits}
use Rattle.runs.specs.Machine.{formatted}
use Rattle.runs.specs.Moments.{Run, world_after, book_at, seen_at, trace_at, Among, rows_seen}
use Rattle.runs.specs.Plain.{Written, Committed, CleanAsOf, CleanLists, CleanCurrent}
use Rattle.agreement.proofs.plain.Laws.{either_true, among_left, among_right, among_either, among_take, version_among}
use Rattle.agreement.proofs.plain.Laws.{time_among}
use Rattle.agreement.proofs.plain.Runs.{Turn, stays, falls, opens, adds, ends, closes, stores, after_one, held, comes}
use Rattle.agreement.proofs.plain.Times.{always, front_run}

-- ---- each row of the book was brought by an accepted call

seen_turn : (b b' : Book) (hs rs : List Row) (e : Event) (o : Observation) → Turn b e o b' rs
    → ((r : Row) → Among r b.rows → Among r hs) → (r : Row) → Among r b'.rows → Among r (hs ++ rs)
unfolding fall add
seen_turn b b' hs rs e o stays p r a = among_left r hs [] (p r a)
seen_turn b b' hs rs e o (falls z) p r a = among_left r hs [] (p r (among_take r b.stored b.rows a))
seen_turn b b' hs rs e o (opens n k z h) p r a = among_left r hs [] (p r a)
seen_turn b b' hs rs e o (adds v ch w) p r a = go (among_either r b.rows (version v ∷ []) a)
  where
    go : Among r b.rows ⊎ Among r (version v ∷ []) → Among r (hs ++ (version v ∷ []))
    go (inl h) = among_left r hs (version v ∷ []) (p r h)
    go (inr h) = among_right r hs (version v ∷ []) h
seen_turn b b' hs rs e o (ends n t ch x y z) p r a = go (among_either r b.rows (committed n t ∷ []) a)
  where
    go : Among r b.rows ⊎ Among r (committed n t ∷ []) → Among r (hs ++ (committed n t ∷ []))
    go (inl h) = among_left r hs (committed n t ∷ []) (p r h)
    go (inr h) = among_right r hs (committed n t ∷ []) h
seen_turn b b' hs rs e o (closes n) p r a = among_left r hs [] (p r a)
seen_turn b b' hs rs e o stores p r a = among_left r hs [] (p r a)

module _ {l d : ℕ} {es : List Event} (r : Run l d es) where
  pub rows_seen_law : (x : Row) → Among x (book_at l d es).rows → Among x (rows_seen es (trace_at l d [] es))
  unfolding blank
  rows_seen_law = always r (λ b hs. (x : Row) → Among x b.rows → Among x hs) seen_turn (λ x a. a)

  written_by : (v : Version) (key kind : ℕ) (value : List ℕ) → v.key ≡ key → v.kind ≡ kind → v.value ≡ value
      → Among v (versions (book_at l d es).rows)
      → Written l d es (record { number = v.number; key = key; kind = kind; value = value })
  written_by v key kind value e f g a =
      let h : Among (version v) (book_at l d es).rows = version_among v (book_at l d es).rows a in
      let q : v ≡ record { number = v.number; key = key; kind = kind; value = value } = rw (← e, ← f, ← g) in
      subst (Written l d es) q (record { row = h; seen = rows_seen_law (version v) h })

  committed_by : (v : Version) (key kind : ℕ) (value : List ℕ) (t : ℕ) → v.key ≡ key → v.kind ≡ kind → v.value ≡ value
      → Among v (versions (book_at l d es).rows)
      → time_of (book_at l d es).rows v.number ≡ Some t → Committed l d es key kind value t
  committed_by v key kind value t e f g a z =
      let h : Among (committed v.number t) (book_at l d es).rows = time_among (book_at l d es).rows v.number t z in
      record {
        number = v.number;
        written = written_by v key kind value e f g a;
        row = h;
        seen =
            rows_seen_law (committed v.number t) h;
      }

-- ---- the book's steps

-- a committed version of the record, with time below the limit
pub record From (rs : List Row) (key limit : ℕ) (vs : List Version) (x : Dated) : Type 0 where
  which : Version
  among : Among which vs
  keyed : which.key ≡ key
  kinded : which.kind ≡ x.kind
  valued : which.value ≡ x.value
  timed : time_of rs which.number ≡ Some x.time
  pub below : x.time < limit

best_from : (rs : List Row) (key limit : ℕ) (vs : List Version) (best : Option Dated) (x : Dated)
    → best_below rs key limit best vs ≡ Some x → (best ≡ Some x) ⊎ From rs key limit vs x
unfolding best_below
best_from rs key limit [] best x e = inl e
best_from rs key limit (v ∷ vs) best x e = go (best_from rs key limit vs _ x e)
  where
    mine : (t : ℕ) → v.key ≡ key → time_of rs v.number ≡ Some t → t < limit
        → Some (record { time = t; kind = v.kind; value = v.value }) ≡ Some x → From rs key limit (v ∷ vs) x
    mine t a b c e = record {
      which = v;
      among = inl refl;
      keyed = a;
      kinded = cc;
      valued = cc;
      timed = cc;
      below = let z : t ≡ x.time = cc in omega arith;
    }

    later : (t : ℕ) → v.key ≡ key → time_of rs v.number ≡ Some t → (y : Option Dated)
        → later_of y limit (record { time = t; kind = v.kind; value = v.value }) ≡ Some x
        → (y ≡ Some x) ⊎ From rs key limit (v ∷ vs) x
    later t a b None e = by (ltb t limit) refl e
      where
        by : (c : Bool) → ltb t limit ≡ c → cond c (Some (record { time = t; kind = v.kind; value = v.value })) None
            ≡ Some x → (None ≡ Some x) ⊎ From rs key limit (v ∷ vs) x
        by true q e = inr (mine t a b (ltb-true t limit q) e)
        by false q e = inl e
    later t a b (Some y) e = by (ltb t limit && leb y.time t) refl e
      where
        by : (c : Bool) → (ltb t limit && leb y.time t) ≡ c
            → cond c (Some (record { time = t; kind = v.kind; value = v.value })) (Some y) ≡ Some x
            → (Some y ≡ Some x) ⊎ From rs key limit (v ∷ vs) x
        by true q e = inr (mine t a b (ltb-true t limit (and_0 (ltb t limit) (leb y.time t) q)) e)
        by false q e = inl e

    dated : v.key ≡ key → (z : Option ℕ) → time_of rs v.number ≡ z → dated_of z best limit v ≡ Some x
        → (best ≡ Some x) ⊎ From rs key limit (v ∷ vs) x
    dated a None b e = inl e
    dated a (Some t) b e = later t a b best e

    keyed? : (c : Bool) → eqb v.key key ≡ c → cond c (dated_of (time_of rs v.number) best limit v) best ≡ Some x
        → (best ≡ Some x) ⊎ From rs key limit (v ∷ vs) x
    keyed? true a e = dated (eqb-true v.key key a) (time_of rs v.number) refl e
    keyed? false a e = inl e

    go : (cond (eqb v.key key) (dated_of (time_of rs v.number) best limit v) best ≡ Some x) ⊎ From rs key limit vs x
        → (best ≡ Some x) ⊎ From rs key limit (v ∷ vs) x
    go (inl e) = keyed? (eqb v.key key) refl e
    go (inr f) =
        inr (record {
          which = f.which;
          among = inr f.among;
          keyed = f.keyed;
          kinded = f.kinded;
          valued = f.valued;
          timed = f.timed;
          below = f.below;
        })

pub last_from : (rs : List Row) (key limit : ℕ) (x : Dated) → last_below rs key limit ≡ Some x
    → From rs key limit (versions rs) x
unfolding last_below
last_from rs key limit x e = go (best_from rs key limit (versions rs) None x e)
  where
    go : (None ≡ Some x) ⊎ From rs key limit (versions rs) x → From rs key limit (versions rs) x
    go (inl e) = let z : ◌≡◌ {A = ℕ} 0 1 = cc in absurd (omega arith)
    go (inr f) = f

lines_from : (rs : List Row) (key t1 k limit : ℕ) (x : Dated) → Among x (lines_below rs key t1 k limit)
    → (t1 ≤ x.time) × From rs key limit (versions rs) x
unfolding lines_below
lines_from rs key t1 zero limit x a = absurd a
lines_from rs key t1 (suc k) limit x a = go (last_below rs key limit) refl a (λ y. lines_from rs key t1 k y x)
  where
    go : (z : Option Dated) → last_below rs key limit ≡ z → Among x (lines_at rs key t1 (lines_below rs key t1 k) z)
        → ((y : ℕ) → Among x (lines_below rs key t1 k y) → (t1 ≤ x.time) × From rs key y (versions rs) x)
        → (t1 ≤ x.time) × From rs key limit (versions rs) x
    go None e a ih = absurd a
    go (Some y) e a ih = by (ltb y.time t1) refl a
      where
        source : From rs key limit (versions rs) y
        source = last_from rs key limit y e

        last : (c : Bool) → t1 ≤ y.time → Among x (cond c (y ∷ []) [])
            → (t1 ≤ x.time) × From rs key limit (versions rs) x
        last true h (inl q) = rw q (h, source)
        last true h (inr q) = absurd q
        last false h q = absurd q

        either : t1 ≤ y.time → Among x (lines_below rs key t1 k y.time)
            ⊎ Among x (cond (differs y (last_below rs key y.time)) (y ∷ []) [])
            → (t1 ≤ x.time) × From rs key limit (versions rs) x
        either h (inl q) =
            let (g, f) = ih y.time q in (
              g,
              record {
                which = f.which;
                among = f.among;
                keyed = f.keyed;
                kinded = f.kinded;
                valued = f.valued;
                timed = f.timed;
                below = omega (arith, f.below, source.below);
              },
            )
        either h (inr q) = last (differs y (last_below rs key y.time)) h q

        by : (c : Bool) → ltb y.time t1 ≡ c
            → Among x
            (cond c [] (lines_below rs key t1 k y.time ++ cond (differs y (last_below rs key y.time)) (y ∷ []) []))
            → (t1 ≤ x.time) × From rs key limit (versions rs) x
        by true q a = absurd a
        by false q a =
            either (ltb-false y.time t1 q)
            (among_either x (lines_below rs key t1 k y.time)
            (cond (differs y (last_below rs key y.time)) (y ∷ []) []) a)

-- a version of the record that is the number's own or committed
record Mine (rs : List Row) (n key : ℕ) (vs : List Version) (s : Strip) : Type 0 where
  which : Version
  among : Among which vs
  keyed : which.key ≡ key
  strip : s ≡ strip_of which.kind which.value
  whose : (which.number ≡ n) ⊎ ((t : ℕ) × (time_of rs which.number ≡ Some t))

some_time : (z : Option ℕ) → is_some z ≡ true → (t : ℕ) × (z ≡ Some t)
some_time None e = absurd (false≢true e)
some_time (Some t) e = (t, refl)

current_from : (rs : List Row) (n key : ℕ) (vs : List Version) (before : Strip)
    → (current_of rs n key before vs ≡ before) ⊎ Mine rs n key vs (current_of rs n key before vs)
unfolding current_of
current_from rs n key [] before = inl refl
current_from rs n key (v ∷ vs) before =
    go (eqb v.key key && (eqb v.number n || is_some (time_of rs v.number))) refl (λ y. current_from rs n key vs y)
  where
    whose' : (eqb v.number n ≡ true) ⊎ (is_some (time_of rs v.number) ≡ true)
        → (v.number ≡ n) ⊎ ((t : ℕ) × (time_of rs v.number ≡ Some t))
    whose' (inl q) = inl (eqb-true v.number n q)
    whose' (inr q) = inr (some_time (time_of rs v.number) q)

    next : (y : Strip) → Mine rs n key vs (current_of rs n key y vs) → Mine rs n key (v ∷ vs) (current_of rs n key y vs)
    next y m = record { which = m.which; among = inr m.among; keyed = m.keyed; strip = m.strip; whose = m.whose }

    go : (c : Bool) → (eqb v.key key && (eqb v.number n || is_some (time_of rs v.number))) ≡ c
        → ((y : Strip) → (current_of rs n key y vs ≡ y) ⊎ Mine rs n key vs (current_of rs n key y vs))
        → (current_of rs n key (cond c (strip_of v.kind v.value) before) vs ≡ before)
        ⊎ Mine rs n key (v ∷ vs) (current_of rs n key (cond c (strip_of v.kind v.value) before) vs)
    go false q ih = by (ih before)
      where
        by : (current_of rs n key before vs ≡ before) ⊎ Mine rs n key vs (current_of rs n key before vs)
            → (current_of rs n key before vs ≡ before) ⊎ Mine rs n key (v ∷ vs) (current_of rs n key before vs)
        by (inl e) = inl e
        by (inr m) = inr (next before m)
    go true q ih = by (ih (strip_of v.kind v.value))
      where
        mine : Strip
        mine = strip_of v.kind v.value

        by : (current_of rs n key mine vs ≡ mine) ⊎ Mine rs n key vs (current_of rs n key mine vs)
            → (current_of rs n key mine vs ≡ before) ⊎ Mine rs n key (v ∷ vs) (current_of rs n key mine vs)
        by (inl e) = inr (record {
          which = v;
          among = inl refl;
          keyed = eqb-true v.key key (and_0 (eqb v.key key) _ q);
          strip = e;
          whose = whose' (either_true (eqb v.number n) (is_some (time_of rs v.number)) (and_1 (eqb v.key key) _ q));
        })
        by (inr m) = inr (next mine m)

-- ---- what reads and lists give

-- the event that comes next agrees with the book
pub next_fits : {l d : ℕ} (es : List Event) (e : Event) → Run l d (es ++ (e ∷ []))
    → Fits d (book_at l d es) e (seen_at l d es e)
next_fits {l} {d} es e r =
    (after_one l d e [] (world_after l d (formatted l d) es) (book_at l d es) (held es e r) (comes es e r)).0

pub clean_as_of : CleanAsOf
unfolding CleanAsOf strip_as_of
clean_as_of l d es key t r a =
    go (last_below (book_at l d es).rows key (suc t)) refl (next_fits es (call (as_of key t)) r a)
  where
    go : (z : Option Dated) → last_below (book_at l d es).rows key (suc t) ≡ z
        → (seen_at l d es (call (as_of key t))).strip ≡ strip_at z
        → ((seen_at l d es (call (as_of key t))).strip ≡ missing)
        ⊎ ((kind : ℕ) × (value : List ℕ) × (u : ℕ) × (u ≤ t)
        × ((seen_at l d es (call (as_of key t))).strip ≡ strip_of kind value) × Committed l d es key kind value u)
    go None e s = inl s
    go (Some x) e s =
        let f = last_from (book_at l d es).rows key (suc t) x e in
        inr (
          x.kind,
          x.value,
          x.time,
          omega (arith, f.below),
          s,
          committed_by (front_run es (call (as_of key t) ∷ []) r) f.which key x.kind x.value x.time f.keyed
              f.kinded f.valued f.among f.timed,
        )

pub clean_lists : CleanLists
unfolding CleanLists lines_of
clean_lists l d es key t1 t2 buffer r a =
    let rs : List Row = (book_at l d es).rows in (
      lines_below rs key t1 (suc (suc t2)) (suc t2),
      next_fits es (call (changes key t1 t2 buffer)) r a,
      λ x h.
          let (low, f) = lines_from rs key t1 (suc (suc t2)) (suc t2) x h in (
            low,
            omega (arith, f.below),
            committed_by (front_run es (call (changes key t1 t2 buffer) ∷ []) r) f.which key
                x.kind x.value x.time f.keyed f.kinded f.valued f.among f.timed,
          ),
    )

pub clean_current : CleanCurrent
unfolding CleanCurrent
clean_current l d es n key r a = go (current_from (book_at l d es).rows n key (versions (book_at l d es).rows) missing)
  where
    rs : List Row
    rs = (book_at l d es).rows

    s : Strip
    s = (seen_at l d es (call (current_read n key))).strip

    given : s ≡ current_of rs n key missing (versions rs)
    given = next_fits es (call (current_read n key)) r a

    run : Run l d es
    run = front_run es (call (current_read n key) ∷ []) r

    whose' : (v : Version) → Among v (versions rs) → v.key ≡ key
        → (v.number ≡ n) ⊎ ((t : ℕ) × (time_of rs v.number ≡ Some t))
        → Written l d es (record { number = n; key = key; kind = v.kind; value = v.value })
        ⊎ ((u : ℕ) × Committed l d es key v.kind v.value u)
    whose' v h e (inl q) = inl (rw q at (written_by run v key v.kind v.value e refl refl h))
    whose' v h e (inr (t, q)) = inr (t, committed_by run v key v.kind v.value t e refl refl h q)

    go : (current_of rs n key missing (versions rs) ≡ missing)
        ⊎ Mine rs n key (versions rs) (current_of rs n key missing (versions rs))
        → (s ≡ missing) ⊎ ((kind : ℕ) × (value : List ℕ) × (s ≡ strip_of kind value)
        × (Written l d es (record { number = n; key = key; kind = kind; value = value })
        ⊎ ((u : ℕ) × Committed l d es key kind value u)))
    go (inl e) = inl (given ∙ e)
    go (inr m) = inr (m.which.kind, m.which.value, given ∙ m.strip, whose' m.which m.among m.keyed m.whose)
