-- Write and erase: a running store goes on to the book with one version row more. The log grows by the version, which
-- waits in the next slot of its page; its number's place waits for one more, and no other active number wrote the
-- record.
use Rattle.std.specs.Prelude.{Option, Some, None}
use Prim.Native.Nat.{ℕ, ◌+◌, ◌*◌, ◌/◌, ◌%◌, ◌^◌, ◌≤◌, ◌<◌}
use native.Mathlib.Omega.{arith}
use mathlib.Core.Bool.{Bool, true, false, not, false≢true}
use mathlib.Core.List.{List, [], ◌∷◌, ◌++◌}
use mathlib.Core.Logic.{◌⊎◌, inl, inr, ◌≢◌}
use mathlib.Core.Path.{◌≡◌, refl, sym, ap, ◌∙◌, subst}
use lib.Dec.{ltb}
use lib.ListN.{length, set, length-append, get_or-append}
use lib.Seq.{get_or-append_seam}
use borrow.Author.Tests.{ltb-true}
use Rattle.fields.specs.Block.{page_of}
use Rattle.layout.specs.Page.{put_version}
use Rattle.layout.specs.Item.{bytes_of}
use Rattle.layout.specs.Slot.{Cell, key_form, kind_form}
use Rattle.layout.specs.Journal.{Record, record_form, record_size, sequence_of, version as version_record}
use Rattle.layout.specs.declared.item.VersionHead.{VersionHead}
use Rattle.layout.specs.declared.item.Width.{Width}
use Rattle.layout.specs.declared.item.Width.TheVariants.{Two}
use Rattle.fields.proofs.FieldLaws.{Bytes}
use Rattle.fields.proofs.CellLaws.{each_append}
use Rattle.layout.proofs.JournalLaws.{sequence_log_bytes}
use Rattle.store.specs.declared.Place.{Place}
use Rattle.store.specs.Tail.{Logged, logged, may_log, tail_end}
use Rattle.store.specs.OpenLog.{Placed, number_in}
use Rattle.store.specs.Chain.{held, newest}
use Rattle.store.specs.declared.State.{State}
use Rattle.store.specs.Places.{find_active, place_at, raised}
use Rattle.store.specs.Write.{write_asks, new_head, write_step, written, cell_for, or_none, touched}
use Rattle.store.proofs.AskLaws.{Passed}
use Rattle.runs.specs.Book.{Book, Row, version, versions, add}
use Rattle.runs.specs.Machine.{after, log_changed}
use Rattle.agreement.proofs.logging.Growth.{num_stays, time_stays, recent, with_log, Grows, grows}
use Rattle.agreement.proofs.history.Ghost.{Sound, versions_of, commits_of, records, LoggedVersion, no_version, at}
use Rattle.agreement.proofs.history.Ghost.{newest_of, find, waiting_cell, count, rows_in, Disk}
use Rattle.agreement.proofs.history.ListLaws.{same?}
use Rattle.agreement.proofs.history.VersionLaws.{commits_append, newest_at}
use Rattle.agreement.proofs.history.CommitLaws.{last_append}
use Rattle.agreement.proofs.history.SlotLaws.{count_small}
use Rattle.agreement.proofs.history.RowLaws.{versions_are, length_rows_for, rows_append, length_rows}
use Rattle.agreement.proofs.invariant.MediumFacts.{key_below, cells_sized, fewer_stored}
use Rattle.agreement.proofs.transactions.ActiveLaws.{active_place, active_low, active_num, active_next, active_high}
use Rattle.agreement.proofs.transactions.ActiveLaws.{active_waits, uncommitted, elsewhere, unpaired}
use Rattle.agreement.proofs.transactions.WriteLaws.{count_other, count_same, touch_low, firsts_more, cache_more}
use Rattle.agreement.proofs.transactions.WriteLaws.{newest_is, not_held}
use Rattle.agreement.proofs.invariant.PlaceSet.{place_at_same, place_at_other, living_set, phase_map}
use Rattle.agreement.proofs.invariant.Invariant.{num_at, time_at, table_num, Covered, OnMedium, CacheIs, Firsts, Lively}
use Rattle.agreement.proofs.invariant.Invariant.{Living, Opens, Pending, Up, Inv, running}
use Rattle.agreement.proofs.logging.GrowthLaws.{new_ver, old_commits}
use Rattle.agreement.proofs.logging.Grown.{with_cell, grow_version}

-- the head of the record that a write logs, under either tag: only its width differs
abbrev pub head_as : Width → State → List ℕ → ℕ → ℕ → ℕ → VersionHead
head_as width s c n key kind =
    record {
      width = width;
      slot = s.slots;
      key = key;
      kind = kind;
      earlier = or_none (newest c key s.slots);
      number =
          record { 0 = n };
    }

-- ---- the version record is taken: g is how the log grows by it

module _ {l d : ℕ} {m c : List ℕ} {s : State} {b : Book} {disk : Disk} {closed : List (List Record)}
    {tail : List Record} (u : Up l d m c s b disk closed tail)
    (n i : ℕ) (f : find_active s.places n ≡ Some i) (width : Width) (key kind earlier : ℕ) (v : List ℕ)
    (room : s.slots < 15 * d)
    (chained : earlier ≡ or_none (newest c key s.slots)) (free : held c s.places s.slots key n ≡ false)
    (lg : Logged) (g : Grows l d m disk closed tail
    (version_record (record {
      width = width;
      slot = s.slots;
      key = key;
      kind = kind;
      earlier = earlier;
      number =
          record { 0 = n };
    }) v) lg) where
  head : VersionHead
  head = record { width = width; slot = s.slots; key = key; kind = kind; earlier = earlier; number = record { 0 = n } }

  -- the version, and its place
  me : LoggedVersion
  me =
      record {
        seq = length g.closed';
        end = (tail_end lg.tail).0;
        slot = s.slots;
        key = key;
        kind = kind;
        earlier =
            earlier;
        num = n;
        value = v;
      }

  mine : Place
  mine = raised (place_at s.places i)

  new_vs : versions_of (g.closed' ++ (g.tail' ∷ [])) ≡ versions_of (closed ++ (tail ∷ [])) ++ (me ∷ [])
  unfolding me head
  new_vs = new_ver (g.closed' ++ (g.tail' ∷ [])) (records (closed ++ (tail ∷ []))) _ g.grown head v refl

  old_cs : commits_of (g.closed' ++ (g.tail' ∷ [])) ≡ commits_of (closed ++ (tail ∷ []))
  unfolding head
  old_cs = old_commits (g.closed' ++ (g.tail' ∷ [])) (records (closed ++ (tail ∷ []))) _ g.grown head v refl

  -- each place keeps its life
  life_stays : (j : ℕ) → (place_at (set s.places i mine) j).life ≡ (place_at s.places j).life
  unfolding mine raised
  life_stays j = go (same? j i)
    where
      go : (j ≡ i) ⊎ (j ≢ i) → (place_at (set s.places i mine) j).life ≡ (place_at s.places j).life
      go (inl e) = rw (e, place_at_same s.places i mine u.living.size (active_place u n i f))
      go (inr e) = rw (place_at_other s.places i j mine e)

  covered' : (o x : ℕ) → x ≤ 64 → Covered m (commits_of (closed ++ (tail ∷ []))) s.places o x
      → Covered lg.medium (commits_of (closed ++ (tail ∷ []))) (set s.places i mine) o x
  covered' o x le p j a = rw (life_stays j, num_stays g j (omega arith), time_stays g j (omega arith)) (p j a)

  living' : Living lg.medium (commits_of (closed ++ (tail ∷ []))) (disk.cells ++ (waiting_cell me ∷ [])) disk.oldest
      s.next.0 (set s.places i mine)
  unfolding mine raised me
  living' =
      living_set u.living lg.medium (commits_of (closed ++ (tail ∷ []))) (disk.cells ++ (waiting_cell me ∷ []))
      disk.oldest s.next.0 i (active_place u n i f) mine
      (record {
        formed = own.formed;
        small = own.small;
        over = own.over;
        place = own.place;
        unended = own.unended;
        waits = λ z. rw (active_num u n i f, count_same me disk.cells, active_waits u n i f)
            (omega (
              arith,
              count_small n disk.cells,
              u.medium.pages.slots.count,
              u.medium.pages.slots.room,
              u.medium.sizes.range.pages_high,
            ));
        busy = λ z. omega arith;
      })
      (λ j h e. other j h (elsewhere u n i f j h e) (u.living.each j h))
      (λ j h e z q. elsewhere u n i f j h e (q ∙ active_num u n i f))
      (λ x a z. all' x a z (same? x n))
      (covered' disk.oldest 64 (omega arith) u.living.covered)
      (home' i (active_place u n i f))
      (λ j h e. home' j h)
    where
      own : Lively (commits_of (closed ++ (tail ∷ []))) disk.cells disk.oldest s.next.0 (place_at s.places i)
      own = u.living.each i (active_place u n i f)

      other : (j : ℕ) → j < 64 → num_at s.places j ≢ n
          → Lively (commits_of (closed ++ (tail ∷ []))) disk.cells disk.oldest s.next.0 (place_at s.places j)
          → Lively (commits_of (closed ++ (tail ∷ []))) (disk.cells ++ (waiting_cell me ∷ [])) disk.oldest s.next.0
          (place_at s.places j)
      other j h q y = record {
        formed = y.formed;
        small = y.small;
        over = y.over;
        place = y.place;
        unended = y.unended;
        waits = λ z. y.waits z ∙ sym (count_other (num_at s.places j) me disk.cells q);
        busy = y.busy;
      }

      all' : (x : ℕ) → 0 < count x (disk.cells ++ (waiting_cell me ∷ []))
          → 0 < (find (commits_of (closed ++ (tail ∷ []))) x).time → (x ≡ n) ⊎ (x ≢ n)
          → (num_at s.places i ≡ x) ⊎ ((j : ℕ) × (j < 64) × (j ≢ i) × (num_at s.places j ≡ x))
      all' x a z (inl e) = inl (active_num u n i f ∙ sym e)
      all' x a z (inr e) =
          let (j, h, q) = u.living.all x (rw (count_other x me disk.cells e) at a) z in
          inr (j, h, (λ w. e (sym q ∙ ap (λ (y : ℕ). num_at s.places y) w ∙ active_num u n i f)), q)

      home' : (j : ℕ) → j < 64 → 0 < table_num lg.medium j → 0
          < count (table_num lg.medium j) (disk.cells ++ (waiting_cell me ∷ []))
          → num_at s.places j ≡ table_num lg.medium j
      home' j h =
          rw (num_stays g j h) (λ z w. u.living.home j h z
          (rw (count_other (table_num m j) me disk.cells (unpaired u n i f j h)) at w))

  opens' : Opens (versions_of (closed ++ (tail ∷ [])) ++ (me ∷ [])) s.next.0 b.opened (set s.places i mine)
  unfolding me
  opens' = record {
    clocks = λ j h. rw (life_stays j) (u.opens.clocks j h);
    short = λ j h. rw (life_stays j) (u.opens.short j h);
    below = u.opens.below;
    held =
        λ j h. rw (life_stays j) (λ z t x y a w. held' j h z t x y a (rw length-append at w)
        (same? y (length (versions_of (closed ++ (tail ∷ []))))));
    known = λ j h. rw (life_stays j) (u.opens.known j h);
  }
    where
      -- the record is not held by another
      held' : (j : ℕ) → j < 64 → 0 < num_at s.places j → time_at s.places j ≡ 0 → (x y : ℕ) → x < y
          → y < length (versions_of (closed ++ (tail ∷ []))) + 1
          → (y ≡ length (versions_of (closed ++ (tail ∷ [])))) ⊎ (y ≢ length (versions_of (closed ++ (tail ∷ []))))
          → (at (versions_of (closed ++ (tail ∷ [])) ++ (me ∷ [])) x).num ≡ num_at s.places j
          → (at (versions_of (closed ++ (tail ∷ [])) ++ (me ∷ [])) x).key
          ≡ (at (versions_of (closed ++ (tail ∷ [])) ++ (me ∷ [])) y).key
          → (at (versions_of (closed ++ (tail ∷ [])) ++ (me ∷ [])) y).num ≡ num_at s.places j
      held' j h z t x y a w (inl e) =
          rw (
            e,
            get_or-append_seam (versions_of (closed ++ (tail ∷ []))) me [] no_version,
            get_or-append (versions_of (closed ++ (tail ∷ []))) (me ∷ []) no_version x (omega arith),
          )
          (λ p q. not_held u n key free j h z t x (omega arith) p q)
      held' j h z t x y a w (inr e) =
          rw (
            get_or-append (versions_of (closed ++ (tail ∷ []))) (me ∷ []) no_version x (omega arith),
            get_or-append (versions_of (closed ++ (tail ∷ []))) (me ∷ []) no_version y (omega arith),
          )
          (u.opens.held j h z t x y a (omega arith))

  tail_is : sequence_of lg.tail ≡ length g.closed'
  tail_is =
      ap sequence_of g.tail_block ∙ sequence_log_bytes (length g.closed') g.tail'
      (omega (arith, rw length-append at g.top))

  goes_on : (o y x : ℕ) → x ≤ 64 → Pending d m disk (commits_of (closed ++ (tail ∷ []))) s.places s.first
      (length closed) o y x
      → Pending d lg.medium (with_cell (with_log disk g.stored') (waiting_cell me)) (commits_of (closed ++ (tail ∷ [])))
      (set s.places i mine)
      (touched s.first (page_of s.slots) (sequence_of lg.tail)) (length g.closed') o y x
  unfolding page_of
  goes_on o y x le p = record {
    above = p.above;
    below = omega (arith, p.below, g.below);
    pages =
        touch_low d s.first (s.slots / 15) (sequence_of lg.tail)
        (omega (arith, u.firsts.size, u.medium.sizes.range.pages_high)) o p.pages
        (omega (arith, tail_is, p.below, g.below));
    early = p.early;
    late = rw (g.longer, commits_append, last_append) (omega (arith, p.late));
    covered = covered' o x le p.covered;
  }

  -- the medium lacks the new version
  next_missing : disk.on (length (versions_of (closed ++ (tail ∷ []))) / 15)
      ≤ length (versions_of (closed ++ (tail ∷ []))) % 15
  next_missing =
      omega (arith, (u.medium.pages.few (length (versions_of (closed ++ (tail ∷ []))) / 15)).1, fewer_stored u.medium)

  medium' : OnMedium l d lg.medium (with_cell (with_log disk g.stored') (waiting_cell me)) (g.closed' ++ (g.tail' ∷ []))
  unfolding head me
  medium' =
      subst (λ (y : Cell). OnMedium l d lg.medium (with_cell (with_log disk g.stored') y) (g.closed' ++ (g.tail' ∷ [])))
      (ap (λ (vs : List LoggedVersion). waiting_cell (at vs (length (versions_of (closed ++ (tail ∷ [])))))) new_vs
      ∙ ap waiting_cell (get_or-append_seam (versions_of (closed ++ (tail ∷ []))) me [] no_version))
      (grow_version g.medium _ g.grown g.sound g.top g.front (recent u g) head v refl u.state.slots
      (omega (arith, u.state.slots))
      (chained ∙ ap or_none (newest_is u key)) (uncommitted u n i f))

  write_up : Up l d lg.medium (put_version c s.slots (tail_end lg.tail).0 (waiting_cell me)) (written s i lg)
      (add b (version (record { number = n; key = key; kind = kind; value = v })) (log_changed l m lg.medium) b.opened)
      (with_cell (with_log disk g.stored') (waiting_cell me)) g.closed' g.tail'
  unfolding written add mine me rows_in
  write_up = record {
    medium = medium';
    state = record {
      blocks = u.state.blocks;
      pages = u.state.pages;
      slots = rw (new_vs, length-append) (omega (arith, u.state.slots));
      tail_block = g.tail_block;
      ring_low = (recent u g);
      ring_high = g.ring_high;
      mark = g.mark;
      last = rw old_cs u.state.last;
      saved = g.saved;
      next_low = u.state.next_low;
      next_high = u.state.next_high;
      numbers =
          rw g.grown (each_append (λ (y : Placed). number_in y.rec < s.next.0) (records (closed ++ (tail ∷ []))) _
          u.state.numbers (active_next u n i f, tt));
    };
    cache =
        rw new_vs
        (subst (λ (x : ℕ). CacheIs d (put_version c x (tail_end lg.tail).0 (waiting_cell me))
        (versions_of (closed ++ (tail ∷ [])) ++ (me ∷ [])) (disk.cells ++ (waiting_cell me ∷ [])))
        (sym u.state.slots)
        (cache_more d c (versions_of (closed ++ (tail ∷ []))) disk.cells me (waiting_cell me) u.cache
        u.medium.pages.slots.count (omega (arith, u.state.slots)) (cells_sized medium')));
    firsts =
        rw new_vs
        (subst (λ (x : ℕ). Firsts d (versions_of (closed ++ (tail ∷ [])) ++ (me ∷ [])) disk.on
        (length (versions_of (closed ++ (tail ∷ [])) ++ (me ∷ []))) disk.oldest (length g.closed')
        (touched s.first (page_of x) (sequence_of lg.tail)))
        (sym u.state.slots)
        (rw tail_is (firsts_more d (versions_of (closed ++ (tail ∷ []))) me disk.on disk.oldest (length closed)
        (length g.closed') s.first u.firsts refl g.below (recent u g)
        (omega (arith, (recent u g), u.medium.master.fits.oldest_low)) (omega (arith, u.state.slots))
        u.medium.sizes.range.pages_high next_missing)));
    living = rw old_cs living';
    opens = rw new_vs opens';
    phase =
        rw old_cs (phase_map s.phase d m lg.medium disk (with_cell (with_log disk g.stored') (waiting_cell me))
        (commits_of (closed ++ (tail ∷ []))) (commits_of (closed ++ (tail ∷ [])))
        s.places (set s.places i mine) s.first (touched s.first (page_of s.slots) (sequence_of lg.tail)) (length closed)
        (length g.closed') goes_on u.phase);
    rows = rw (g.grown, rows_append, u.rows);
    stored = rw (u.stored, u.rows, length_rows) g.rows;
  }

module _ {l d : ℕ} {m c : List ℕ} {s : State} {b : Book} {disk : Disk} {closed : List (List Record)}
    {tail : List Record} (u : Up l d m c s b disk closed tail) where
  -- the slot answered is the version's row
  pub slot_row : s.slots ≡ length (versions b.rows)
  slot_row = u.state.slots
      ∙ sym (ap (λ (rs : List Row). length (versions rs)) u.rows
      ∙ ap length (versions_are (records (closed ++ (tail ∷ []))))
      ∙ length_rows_for (versions_of (closed ++ (tail ∷ []))))

  -- earlier slots fit two bytes
  earlier_high : (key : ℕ) → or_none (newest c key s.slots) < 65536
  earlier_high key =
      rw (newest_is u key)
      (go (newest_of (versions_of (closed ++ (tail ∷ []))) key (length (versions_of (closed ++ (tail ∷ []))))) refl)
    where
      go : (x : Option ℕ) → newest_of (versions_of (closed ++ (tail ∷ []))) key
          (length (versions_of (closed ++ (tail ∷ [])))) ≡ x → or_none x < 65536
      go (Some j) e =
          omega (
            arith,
            (newest_at (versions_of (closed ++ (tail ∷ []))) key (length (versions_of (closed ++ (tail ∷ [])))) j
                e).below,
            u.medium.pages.slots.room,
            u.medium.sizes.range.pages_high,
          )
      go None e = omega arith

  not_true : (x : Bool) → not x ≡ true → x ≡ false
  not_true true e = absurd (false≢true e)
  not_true false e = refl

  -- the record that the call takes is sound by the questions and the types
  pub taken : (width : Width) (n key kind i : ℕ) (v : List ℕ) → key < 256 ^ bytes_of width → key_form key ≡ true
      → kind < 2 → length v ≡ 16 → Bytes v → kind_form kind v ≡ true
      → find_active s.places n ≡ Some i → s.slots < 15 * d → Sound d (version_record (head_as width s c n key kind) v)
  unfolding record_form
  taken width n key kind i v hk low hd size bytes form f room = record {
    sized = record {
      slot = omega (arith, u.medium.sizes.range.pages_high);
      key = hk;
      kind = omega arith;
      earlier = earlier_high key;
      number = omega (arith, active_high u n i f);
      size = size;
      bytes = bytes;
    };
    form = rw low form;
    low = active_low u n i f;
    high = active_high u n i f;
    placeable = room;
  }

  -- under either tag
  pub wrote_as : (width : Width) (n key kind i : ℕ) (v : List ℕ) → key < 256 ^ bytes_of width → key_form key ≡ true
      → kind < 2 → length v ≡ 16 → Bytes v → kind_form kind v ≡ true
      → find_active s.places n ≡ Some i → not (held c s.places s.slots key n) ≡ true → ltb s.slots (15 * s.pages) ≡ true
      → may_log s m (32 + bytes_of width) ≡ true
      → Inv l d (after (write_step s m c i (head_as width s c n key kind) v))
      (add b (version (record { number = n; key = key; kind = kind; value = v }))
      (log_changed l m (write_step s m c i (head_as width s c n key kind) v).medium) b.opened)
  unfolding write_step cell_for record_size me
  wrote_as width n key kind i v hk low hd size bytes form f free next may =
      let room : s.slots < 15 * d = omega (arith, ltb-true s.slots (15 * s.pages) next, u.state.pages) in
      let r : Record = version_record (head_as width s c n key kind) v in
      running (write_up u n i f width key kind (or_none (newest c key s.slots)) v room refl
      (not_true (held c s.places s.slots key n) free) (logged s m r)
      (grows u r (taken width n key kind i v hk low hd size bytes form f room) may))

  pub wrote : (n key kind i : ℕ) (v : List ℕ) → kind < 2 → length v ≡ 16 → Bytes v → kind_form kind v ≡ true
      → Passed (write_asks s m c n key) → find_active s.places n ≡ Some i
      → Inv l d (after (write_step s m c i (new_head s c n key kind) v))
      (add b (version (record { number = n; key = key; kind = kind; value = v }))
      (log_changed l m (write_step s m c i (new_head s c n key kind) v).medium) b.opened)
  unfolding new_head bytes_of
  wrote n key kind i v hd size bytes form p f =
      wrote_as Two n key kind i v (omega (arith, key_below key p.1.0)) p.1.0 hd size bytes form f p.1.1.1.0 p.1.1.1.1.0
      p.1.1.1.1.1.0
