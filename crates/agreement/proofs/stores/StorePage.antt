-- Store page: the page stamped and stored, and the places counted down. The page's last version is stored (question
-- 12), so the page holds stored versions only; StampLaws says what the page and the places then are.
use Rattle.std.specs.Prelude.{None}
use Prim.Native.Nat.{ℕ, zero, suc, ◌+◌, ◌-◌, ◌*◌, ◌/◌, ◌%◌, ◌≤◌, ◌<◌}
use native.Mathlib.Omega.{arith}
use mathlib.Core.Bool.{Bool, cond}
use mathlib.Core.List.{List, [], ◌∷◌, ◌++◌}
use mathlib.Core.Logic.{◌⊎◌, inl, inr, ◌≢◌}
use mathlib.Core.Path.{◌≡◌, refl, sym, ap, ◌∙◌, subst}
use lib.Dec.{eqb}
use lib.ListN.{length, get_or, set, length-set}
use lib.Seq.{get_or-set_same, get_or-set_other}
use borrow.Author.Tests.{eq-eqb, ne_eqb, ltb-true, leb-true}
use Rattle.fields.specs.Block.{blk, put, log_block_at, page_block_at, medium_length, cache_length}
use Rattle.layout.specs.Journal.{Record}
use Rattle.layout.specs.Page.{page_end}
use Rattle.layout.specs.Table.{table_pair}
use Rattle.fields.proofs.BlockLaws.{length_put, blk_same, blk_other}
use Rattle.fields.proofs.CellLaws.{Each}
use Rattle.layout.proofs.PlaceLaws.{log_page_apart, page_blocks_apart, page_block_low}
use Rattle.layout.proofs.SlotLaws.{SlotSized}
use Rattle.layout.proofs.TableLaws.{table_pair_other}
use Rattle.store.specs.declared.State.{State}
use Rattle.store.specs.StorePage.{store_page_asks, store_page_if, stored_pair, stamped_page, settled, page_stored}
use Rattle.store.proofs.AskLaws.{Passed}
use Rattle.runs.specs.Book.{Book}
use Rattle.runs.specs.Machine.{after, up}
use Rattle.agreement.proofs.history.Ghost.{versions_of, commits_of, LoggedVersion, at, page_with, full, Disk}
use Rattle.agreement.proofs.history.ListLaws.{same?}
use Rattle.agreement.proofs.history.SlotLaws.{length_page, page_with_ext, end_page}
use Rattle.agreement.proofs.history.VersionLaws.{near}
use Rattle.agreement.proofs.invariant.MediumFacts.{match_sized}
use Rattle.agreement.proofs.invariant.Invariant.{Firsts, Pending, Up, Inv, running}
use Rattle.agreement.proofs.invariant.StoredFacts.{version_marked}
use Rattle.agreement.proofs.invariant.PlaceSet.{phase_map, table_same, covered_same, living_same}
use Rattle.agreement.proofs.stores.SettleLaws.{opens_kept, covered_kept}
use Rattle.agreement.proofs.stores.StampLaws.{Turned, page_turned}

-- how many slots of a page are on the medium, once page p has n
unfoldable pub on_with : (ℕ → ℕ) → ℕ → ℕ → ℕ → ℕ
on_with on p n q = cond (eqb q p) n (on q)

on_same : (on : ℕ → ℕ) (p n : ℕ) → on_with on p n p ≡ n
unfolding on_with
on_same on p n = ap (λ (t : Bool). cond t n (on p)) (eq-eqb p p refl)

on_other : (on : ℕ → ℕ) (p n q : ℕ) → q ≢ p → on_with on p n q ≡ on q
unfolding on_with
on_other on p n q h = ap (λ (t : Bool). cond t n (on q)) (ne_eqb q p h)

-- page p has no first change
pub firsts_cleared : {d : ℕ} {vs : List LoggedVersion} {on : ℕ → ℕ} {o q : ℕ} {first : List ℕ}
    → Firsts d vs on (length vs) o q first
    → (p : ℕ) → p < 64 → Firsts d vs (on_with on p (full (length vs) p)) (length vs) o q (set first p 0)
firsts_cleared {d} {vs} {on} {o} {q} {first} f p h = record {
  size = length-set first p 0 ∙ f.size;
  noted = λ n a. noted' n a (same? (n / 15) p);
  low = λ i a. low' i a (same? i p);
  high = λ i a. high' i a (same? i p);
  lacks = λ i a. lacks' i a (same? i p);
}
  where
    noted' : (n : ℕ) → n < length vs → (n / 15 ≡ p) ⊎ (n / 15 ≢ p) → on_with on p (full (length vs) p) (n / 15) ≤ n % 15
        → (0 < get_or (set first p 0) (n / 15) 0) × (get_or (set first p 0) (n / 15) 0 ≤ (at vs n).seq)
    noted' n a (inl e) z =
        absurd (omega (arith, ap (on_with on p (full (length vs) p)) e, on_same on p (full (length vs) p)))
    noted' n a (inr e) z =
        rw (get_or-set_other first p (n / 15) 0 0 e)
        (f.noted n a (rw (on_other on p (full (length vs) p) (n / 15) e) at z))

    low' : (i : ℕ) → i < d → (i ≡ p) ⊎ (i ≢ p) → 0 < get_or (set first p 0) i 0 → o ≤ get_or (set first p 0) i 0
    low' i a (inl e) z = absurd (omega (arith, rw e at z, get_or-set_same first p 0 0 (omega (arith, f.size))))
    low' i a (inr e) z = rw (get_or-set_other first p i 0 0 e) (f.low i a (rw (get_or-set_other first p i 0 0 e) at z))

    high' : (i : ℕ) → i < d → (i ≡ p) ⊎ (i ≢ p) → get_or (set first p 0) i 0 ≤ q
    high' i a (inl e) = rw (e, get_or-set_same first p 0 0 (omega (arith, f.size))) (omega arith)
    high' i a (inr e) = rw (get_or-set_other first p i 0 0 e) (f.high i a)

    lacks' : (i : ℕ) → i < d → (i ≡ p) ⊎ (i ≢ p) → 0 < get_or (set first p 0) i 0
        → on_with on p (full (length vs) p) i < full (length vs) i
    lacks' i a (inl e) z = absurd (omega (arith, rw e at z, get_or-set_same first p 0 0 (omega (arith, f.size))))
    lacks' i a (inr e) z =
        rw (on_other on p (full (length vs) p) i e) (f.lacks i a (rw (get_or-set_other first p i 0 0 e) at z))

module _ {l d : ℕ} {m c : List ℕ} {s : State} {b : Book} {disk : Disk} {closed : List (List Record)}
    {tail : List Record} (u : Up l d m c s b disk closed tail) where
  abbrev pub history : List (List Record)
  history = closed ++ (tail ∷ [])

  module _ (p : ℕ) (inside : p < d) (ended : page_end (blk c p) ≤ s.end.0) where
    -- the versions of the page are stored
    ahead : full (length (versions_of history)) p ≤ length (versions_of disk.stored) - 15 * p
    ahead = go (full (length (versions_of history)) p) refl
      where
        go : (x : ℕ) → full (length (versions_of history)) p ≡ x → x ≤ length (versions_of disk.stored) - 15 * p
        go zero e = omega arith
        go (suc x) e =
            let lt : 15 * p + x < length (versions_of history) = omega (arith, e) in
            let z : page_end (blk c p) ≡ (at (versions_of history) (15 * p + x)).end =
            ap page_end (u.cache.pages p inside ∙ ap (λ (y : ℕ). page_with (versions_of history) disk.cells p y) e)
            ∙ end_page (versions_of history) disk.cells p (suc x)
            (omega (arith, near d history u.medium.log.shape.sound (15 * p + x) lt, u.medium.log.shape.top)) in
            omega (arith, version_marked u.medium u.state.mark (15 * p + x) lt (omega (arith, z, ended)))

    abbrev pub page : List ℕ
    page = stamped_page s (blk c p)

    abbrev pub place : ℕ
    place = page_block_at l p

    abbrev pub new_medium : List ℕ
    new_medium = put m place page

    abbrev pub turned : Turned m disk (versions_of history) (commits_of history) s.next.0 s.places (stored_pair s) p 15
        (stamped_page s (blk c p)) (settled s (blk c p))
    turned = page_turned u p inside

    abbrev pub N : ℕ
    N = length (versions_of history)

    abbrev pub on : ℕ → ℕ
    on = on_with disk.on p (full N p)

    abbrev pub new_disk : Disk
    new_disk =
        record {
          oldest = disk.oldest;
          next = disk.next;
          time = disk.time;
          stored = disk.stored;
          cells =
              turned.cells;
          on = on;
        }

    sized : Each SlotSized turned.cells
    sized = match_sized u.medium turned.cells turned.size turned.match

    pub page_length : length page ≡ 512
    page_length = rw turned.bytes (length_page (versions_of history) turned.cells p (full N p) sized (omega arith))

    within : 512 * place + 512 ≤ length m
    unfolding page_block_at medium_length
    within = omega (arith, u.medium.sizes.size)

    within_cache : 512 * p + 512 ≤ length c
    unfolding cache_length
    within_cache = omega (arith, u.cache.size)

    pairs : (i : ℕ) → i < 64 → table_pair new_medium i ≡ table_pair m i
    pairs i h = table_pair_other m i place page page_length (λ e. omega (arith, page_block_low l p))

    other_page : (q x : ℕ) → q ≢ p → x ≤ 15 → page_with (versions_of history) disk.cells q x
        ≡ page_with (versions_of history) turned.cells q x
    other_page q x e h =
        page_with_ext (versions_of history) disk.cells turned.cells q x (u.medium.pages.slots.count ∙ sym turned.size)
        (λ i a. sym (turned.off (15 * q + i) (omega arith)))

    few' : (q : ℕ) → (q ≡ p) ⊎ (q ≢ p) → (on q ≤ 15) × (on q ≤ length (versions_of disk.stored) - 15 * q)
    few' q (inl e) = rw (e, on_same disk.on p (full N p)) (omega arith, ahead)
    few' q (inr e) = rw (on_other disk.on p (full N p) q e) (u.medium.pages.few q)

    page' : (q : ℕ) → q < d → (q ≡ p) ⊎ (q ≢ p) → blk new_medium (page_block_at l q)
        ≡ page_with (versions_of history) turned.cells q (on q)
    page' q h (inl e) = rw (e, on_same disk.on p (full N p)) (blk_same m place page page_length within ∙ turned.bytes)
    page' q h (inr e) =
        rw (on_other disk.on p (full N p) q e)
        (blk_other m place page (page_block_at l q) page_length (page_blocks_apart l q p e) ∙ u.medium.pages.page q h
        ∙ other_page q (disk.on q) e (u.medium.pages.few q).0)

    absent : (n : ℕ) → n < N → on (n / 15) ≤ n % 15 → (n / 15 ≢ p) × (disk.on (n / 15) ≤ n % 15)
    absent n h z = go (same? (n / 15) p)
      where
        go : (n / 15 ≡ p) ⊎ (n / 15 ≢ p) → (n / 15 ≢ p) × (disk.on (n / 15) ≤ n % 15)
        go (inl e) = absurd (omega (arith, ap on e, on_same disk.on p (full N p)))
        go (inr e) = (e, rw (on_other disk.on p (full N p) (n / 15) e) at z)

    cache' : (q : ℕ) → q < d → (q ≡ p) ⊎ (q ≢ p) → blk (put c p page) q
        ≡ page_with (versions_of history) turned.cells q (full N q)
    cache' q h (inl e) = rw e (blk_same c p page page_length within_cache ∙ turned.bytes)
    cache' q h (inr e) =
        blk_other c p page q page_length e ∙ u.cache.pages q h ∙ other_page q (full N q) e (omega arith)

    cleared : (q : ℕ) → 0 < get_or (set s.first p 0) q 0 → get_or (set s.first p 0) q 0 ≡ get_or s.first q 0
    cleared q z = go (same? q p) z
      where
        go : (q ≡ p) ⊎ (q ≢ p) → 0 < get_or (set s.first p 0) q 0 → get_or (set s.first p 0) q 0 ≡ get_or s.first q 0
        go (inl e) z =
            absurd (omega (
              arith,
              rw e at z,
              get_or-set_same s.first p 0 0 (omega (arith, u.firsts.size, u.medium.sizes.range.pages_high)),
            ))
        go (inr e) z = get_or-set_other s.first p q 0 0 e

    pub page_up : Up l d new_medium (put c p page) (page_stored s p (blk c p)) b new_disk closed tail
    unfolding page_stored
    page_up = record {
      medium = record {
        sizes = record { range = u.medium.sizes.range; size = length_put m place page ∙ u.medium.sizes.size };
        master = record {
          fits = u.medium.master.fits;
          block = blk_other m place page 0 page_length (λ e. omega (arith, page_block_low l p)) ∙ u.medium.master.block;
        };
        log = record {
          shape = u.medium.log.shape;
          blocks =
              λ q a h. blk_other m place page (log_block_at l q) page_length
              (log_page_apart l q p (omega (arith, u.medium.sizes.range.blocks_low))) ∙ u.medium.log.blocks q a h;
          fresh =
              λ j h. rw (blk_other m place page (3 + j) page_length (λ e. omega (arith, page_block_low l p)))
              (u.medium.log.fresh j h);
        };
        pages = record {
          slots = record {
            slot = u.medium.pages.slots.slot;
            room = u.medium.pages.slots.room;
            count = turned.size;
            match = turned.match;
            chain = u.medium.pages.slots.chain;
          };
          few = λ q. few' q (same? q p);
          page = λ q h. page' q h (same? q p);
          kept = λ n h z. u.medium.pages.kept n h (absent n h z).1;
          plain = λ n h z. turned.off n (absent n h z).0 ∙ u.medium.pages.plain n h (absent n h z).1;
        };
        table = table_same m new_medium pairs u.medium.table;
        numbers = u.medium.numbers;
      };
      state = u.state;
      cache = record { size = length_put c p page ∙ u.cache.size; pages = λ q h. cache' q h (same? q p) };
      firsts = firsts_cleared u.firsts p (omega (arith, inside, u.medium.sizes.range.pages_high));
      living = living_same m new_medium pairs turned.living;
      opens = opens_kept turned.kept u.opens;
      phase =
          phase_map s.phase d m new_medium disk new_disk (commits_of history) (commits_of history) s.places
          (settled s (blk c p)) s.first (set s.first p 0) (length closed) (length closed) goes_on u.phase;
      rows = u.rows;
      stored = u.stored;
    }
      where
        goes_on : (o t n : ℕ) → n ≤ 64 → Pending d m disk (commits_of history) s.places s.first (length closed) o t n
            → Pending d new_medium new_disk (commits_of history) (settled s (blk c p)) (set s.first p 0)
            (length closed) o t n
        goes_on o t n h q = record {
          above = q.above;
          below = q.below;
          pages = λ i a z. let e = cleared i z in omega (arith, e, q.pages i a (omega (arith, e)));
          early = q.early;
          late = q.late;
          covered = covered_same m new_medium pairs (commits_of history) (settled s (blk c p)) o n h
              (covered_kept m (commits_of history) s.places (settled s (blk c p)) o n h turned.kept q.covered);
        }

  pub page_stored_law : (p : ℕ) → Passed (store_page_asks s m c p) → Inv l d (after (store_page_if None s m c p)) b
  unfolding store_page_if
  page_stored_law p a =
      subst (λ (x : ℕ). Inv l d (up (put m (page_block_at x p) (stamped_page s (blk c p)))
      (put c p (stamped_page s (blk c p))) (page_stored s p (blk c p))) b) (sym u.state.blocks)
      (running (page_up p (omega (arith, ltb-true p s.pages a.1.0, u.state.pages))
      (leb-true (page_end (blk c p)) s.end.0 a.1.1.0)))
