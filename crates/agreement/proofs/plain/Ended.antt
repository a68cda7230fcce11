-- Aborted and cut_off work, in plain words: its number is neither open nor committed, and no turn of the book commits
-- such a number before it is begun anew; then no row of it is left, by what begin answers.
use Rattle.std.specs.Prelude.{None}
use Prim.Native.Nat.{ℕ}
use mathlib.Core.Bool.{Bool, true, false, false≢true}
use mathlib.Core.List.{List, [], ◌∷◌, ◌++◌, append_assoc}
use mathlib.Core.Logic.{◌⊎◌, inl, inr}
use mathlib.Core.Path.{◌≡◌, refl, sym, ap, ◌∙◌, subst}
use lib.Dec.{eqb}
use borrow.Author.Tests.{eqb-true, ne_eqb}
use Rattle.fields.proofs.Choose.{and_0, and_1}
use Rattle.runs.specs.Moments.{begins, Run, world_after, book_at, seen_at, trace_at, Among, any_seen}
use Rattle.runs.specs.Event.{Call, Event, opening, cut, call, begin, write, erase, current_read, commit, abort, as_of}
use Rattle.runs.specs.Event.{changes, store_log, store_page, checkpoint, Observation}
use Rattle.runs.specs.Book.{Row, committed, Opened, Book, time_of, has_row, is_open, close, add, fall, entered, feed}
use Rattle.runs.specs.Machine.{World, step, trace, formatted}
use Rattle.runs.specs.Plain.{BegunAnew, Known, Aborted, CutOff}
use Rattle.agreement.proofs.plain.Laws.{either_true, time_other, time_version, none_take, none_among, close_shuts}
use Rattle.agreement.proofs.plain.Laws.{close_less}
use Rattle.agreement.proofs.plain.Runs.{Turn, stays, falls, opens, adds, ends, closes, stores, world_append}
use Rattle.agreement.proofs.plain.Times.{since, front_run, book_next, known, orderly}
use Rattle.agreement.proofs.plain.Reads.{next_fits}

-- ---- a number that is neither open nor committed stays so until it is begun

pub record Idle (n : ℕ) (b : Book) : Type 0 where
  pub shut : is_open b.opened n ≡ false
  pub uncommitted : time_of b.rows n ≡ None

shut_less : (os : List Opened) (m n : ℕ) → is_open os n ≡ false → is_open (close os m) n ≡ false
shut_less os m n e = go (is_open (close os m) n) refl
  where
    go : (t : Bool) → is_open (close os m) n ≡ t → t ≡ false
    go true q = absurd (false≢true (sym e ∙ close_less os m n q))
    go false q = refl

idle_turn : (n : ℕ) (b b' : Book) (hs rs : List Row) (e : Event) (o : Observation) → begins n e o ≡ false
    → Turn b e o b' rs → Idle n b → Idle n b'
unfolding fall add is_open
idle_turn n b b' hs rs e o q stays p = p
idle_turn n b b' hs rs e o q (falls z) p =
    record { shut = refl; uncommitted = none_take b.stored b.rows n p.uncommitted }
idle_turn n b b' hs rs e o q (opens m k z h) p = record {
  shut = rw (ne_eqb m n (λ y. false≢true (sym q ∙ ap (λ (x : ℕ). begins x e o) (sym y) ∙ z))) p.shut;
  uncommitted = p.uncommitted;
}
idle_turn n b b' hs rs e o q (adds v ch w) p =
    record { shut = p.shut; uncommitted = time_version b.rows v n ∙ p.uncommitted }
idle_turn n b b' hs rs e o q (ends m t ch a h z) p = record {
  shut = shut_less b.opened m n p.shut;
  uncommitted = time_other b.rows m t n (λ y. false≢true (sym p.shut ∙ ap (is_open b.opened) y ∙ a)) ∙ p.uncommitted;
}
idle_turn n b b' hs rs e o q (closes m) p = record { shut = shut_less b.opened m n p.shut; uncommitted = p.uncommitted }
idle_turn n b b' hs rs e o q stores p = record { shut = p.shut; uncommitted = p.uncommitted }

-- of a run that goes on with fs from the moment es
pub stays_idle : {l d : ℕ} (es fs : List Event) (n t : ℕ) → Run l d (es ++ fs) → Idle n (book_at l d es)
    → any_seen (begins n) fs (trace_at l d es fs) ≡ false
    → Among (committed n t) (book_at l d (es ++ fs)).rows → ⊥
stays_idle {l} {d} es fs n t r i q a =
    none_among (book_at l d (es ++ fs)).rows n t
    (since es fs r (begins n) (λ b hs. Idle n b) (idle_turn n) q i).uncommitted a

aborted_idle : (b : Book) (n : ℕ) (o : Observation) → o.refusal ≡ 0 → time_of b.rows n ≡ None
    → Idle n (feed b (call (abort n)) o)
unfolding feed entered
aborted_idle b n o z e = rw z (record { shut = close_shuts b.opened n; uncommitted = e })

cut_idle : (b : Book) (n : ℕ) (o : Observation) → time_of (fall b).rows n ≡ None → Idle n (feed b cut o)
unfolding feed fall is_open
cut_idle b n o e = record { shut = refl; uncommitted = e }

-- ---- a number begun anew

seen_split : (l d : ℕ) (p : Event → Observation → Bool) (fs : List Event) (w : World)
    → any_seen p fs (trace l d w fs) ≡ true
    → (before : List Event) × (e : Event) × (behind : List Event) × (fs ≡ before ++ (e ∷ behind))
    × (p e (step l d (world_after l d w before) e).seen ≡ true)
unfolding any_seen trace world_after
seen_split l d p [] w h = absurd (false≢true h)
seen_split l d p (e ∷ fs) w h =
    go (either_true (p e (step l d w e).seen) (any_seen p fs (trace l d (step l d w e).world fs)) h)
    (seen_split l d p fs (step l d w e).world)
  where
    go : (p e (step l d w e).seen ≡ true) ⊎ (any_seen p fs (trace l d (step l d w e).world fs) ≡ true)
        → (any_seen p fs (trace l d (step l d w e).world fs) ≡ true
        → (before : List Event) × (x : Event) × (behind : List Event) × (fs ≡ before ++ (x ∷ behind))
        × (p x (step l d (world_after l d (step l d w e).world before) x).seen ≡ true))
        → (before : List Event) × (x : Event) × (behind : List Event) × (e ∷ fs ≡ before ++ (x ∷ behind))
        × (p x (step l d (world_after l d w before) x).seen ≡ true)
    go (inl q) ih = ([], e, fs, refl, q)
    go (inr q) ih =
        let (before, x, behind, r, z) = ih q in (e ∷ before, x, behind, ap (λ (gs : List Event). e ∷ gs) r, z)

begun_by : (n : ℕ) (e : Event) (o : Observation) → begins n e o ≡ true
    → (k : ℕ) × (e ≡ call (begin k)) × (o.refusal ≡ 0) × (o.result ≡ n)
begun_by n (opening c) o h = absurd (false≢true h)
begun_by n cut o h = absurd (false≢true h)
begun_by n (call x) o h = go x h
  where
    go : (x : Call) → begins n (call x) o ≡ true → (k : ℕ) × (call x ≡ call (begin k)) × (o.refusal ≡ 0)
        × (o.result ≡ n)
    go (begin k) h = (
      k,
      refl,
      eqb-true o.refusal 0 (and_0 (eqb o.refusal 0) (eqb o.result n) h),
      eqb-true o.result n (and_1 (eqb o.refusal 0) (eqb o.result n) h),
    )
    go (write a key v) h = absurd (false≢true h)
    go (erase a key) h = absurd (false≢true h)
    go (current_read a key) h = absurd (false≢true h)
    go (commit a k) h = absurd (false≢true h)
    go (abort a) h = absurd (false≢true h)
    go (as_of key t) h = absurd (false≢true h)
    go (changes key t1 t2 buffer) h = absurd (false≢true h)
    go store_log h = absurd (false≢true h)
    go (store_page p) h = absurd (false≢true h)
    go checkpoint h = absurd (false≢true h)

anew : {l d : ℕ} (es fs : List Event) (n : ℕ) → Run l d (es ++ fs) → any_seen (begins n) fs (trace_at l d es fs) ≡ true
    → BegunAnew l d es fs n
anew {l} {d} es fs n r h =
    let (before, e, behind, q, t) = seen_split l d (begins n) fs (world_after l d (formatted l d) es) h in
    let s : begins n e (seen_at l d (es ++ before) e) ≡ true =
    subst (λ (w : World). begins n e (step l d w e).seen ≡ true)
    (sym (world_append l d es before (formatted l d))) t in
    let (k, z, a, x) = begun_by n e (seen_at l d (es ++ before) e) s in
    let b : Event = call (begin k) in
    let f : fs ≡ before ++ (b ∷ behind) = q ∙ ap (λ (y : Event). before ++ (y ∷ behind)) z in
    let whole : es ++ fs ≡ ((es ++ before) ++ (b ∷ [])) ++ behind =
    ap (λ (gs : List Event). es ++ gs) f ∙ sym (append_assoc es before (b ∷ behind))
    ∙ sym (append_assoc (es ++ before) (b ∷ []) behind) in
    let here : Run l d ((es ++ before) ++ (b ∷ [])) =
    front_run ((es ++ before) ++ (b ∷ [])) behind (subst (Run l d) whole r) in
    let a' : (seen_at l d (es ++ before) b).refusal ≡ 0 =
    ap (λ (y : Event). (seen_at l d (es ++ before) y).refusal) (sym z) ∙ a in
    let x' : (seen_at l d (es ++ before) b).result ≡ n =
    ap (λ (y : Event). (seen_at l d (es ++ before) y).result) (sym z) ∙ x in
    record {
      clock = k;
      before = before;
      behind = behind;
      among = f;
      accepted = a';
      answer = x';
      gone = ap (has_row (book_at l d (es ++ before)).rows) (sym x') ∙ (next_fits (es ++ before) b here a').1;
    }

-- an idle number that has a commit later was begun anew
idle_anew : {l d : ℕ} (es fs : List Event) (n t : ℕ) → Run l d (es ++ fs) → Idle n (book_at l d es)
    → Among (committed n t) (book_at l d (es ++ fs)).rows → BegunAnew l d es fs n
idle_anew {l} {d} es fs n t r i h = go (any_seen (begins n) fs (trace_at l d es fs)) refl
  where
    go : (b : Bool) → any_seen (begins n) fs (trace_at l d es fs) ≡ b → BegunAnew l d es fs n
    go true q = anew es fs n r q
    go false q = absurd (stays_idle es fs n t r i q h)

pub aborted : Aborted
unfolding Aborted Known
aborted l d es fs n t r a h =
    let x : Event = call (abort n) in
    let split : (es ++ (x ∷ [])) ++ fs ≡ es ++ (x ∷ fs) = append_assoc es (x ∷ []) fs in
    let run : Run l d ((es ++ (x ∷ [])) ++ fs) = subst (Run l d) (sym split) r in
    let here : Run l d (es ++ (x ∷ [])) = front_run (es ++ (x ∷ [])) fs run in
    let open' : is_open (book_at l d es).opened n ≡ true = known l d es (abort n) n here a refl in
    let i : Idle n (feed (book_at l d es) x (seen_at l d es x)) =
    aborted_idle (book_at l d es) n (seen_at l d es x) a ((orderly (front_run es (x ∷ []) here)).unended n open') in
    idle_anew (es ++ (x ∷ [])) fs n t run (subst (Idle n) (sym (book_next l d es x)) i)
    (subst (λ (gs : List Event). Among (committed n t) (book_at l d gs).rows) (sym split) h)

pub cut_off : CutOff
unfolding CutOff
cut_off l d es fs n t r e h =
    let split : (es ++ (cut ∷ [])) ++ fs ≡ es ++ (cut ∷ fs) = append_assoc es (cut ∷ []) fs in
    let i : Idle n (feed (book_at l d es) cut (seen_at l d es cut)) =
    cut_idle (book_at l d es) n (seen_at l d es cut) e in
    idle_anew (es ++ (cut ∷ [])) fs n t (subst (Run l d) (sym split) r) (subst (Idle n) (sym (book_next l d es cut)) i)
    (subst (λ (gs : List Event). Among (committed n t) (book_at l d gs).rows) (sym split) h)
