-- Conditions 1 to 4 of opening hold of a store that is down: master, blocks and pages are canonical bytes of sound
-- fields, records and slots, the sequences are bounded, commit times rise, and pages hold stored versions only.
use Prim.Native.Nat.{ℕ, zero, suc, ◌+◌, ◌-◌, ◌*◌, ◌^◌, ◌≤◌, ◌<◌}
use native.Mathlib.Numerals.{add-one}
use native.Mathlib.Omega.{arith}
use mathlib.Core.Bool.{true, not, ◌&&◌, ◌||◌}
use mathlib.Core.List.{List, [], ◌∷◌, ◌++◌}
use mathlib.Core.Logic.{◌⊎◌, inl, inr, ◌≢◌}
use mathlib.Core.Path.{◌≡◌, refl, ap, ◌∙◌}
use lib.Dec.{eqb, leb, ltb}
use lib.ListN.{length, take, drop, get_or, length-take}
use lib.Seq.{drop-cons}
use borrow.Author.Tests.{eq-eqb, ne_eqb, le-leb, lt-ltb}
use Rattle.fields.specs.Block.{blk, page_block_at}
use Rattle.layout.specs.Journal.{Record, version, commit, record_size, record_form, Parsed, parsed, used_form}
use Rattle.layout.specs.Master.{master_of, oldest_on}
use Rattle.layout.specs.Page.{page_form, page_end}
use Rattle.layout.specs.Table.{table_pair, pair_form}
use Rattle.fields.proofs.CellLaws.{Each, each_at}
use Rattle.layout.proofs.JournalLaws.{parsed_log_bytes, used_form_log_bytes}
use Rattle.layout.proofs.MasterLaws.{master_back}
use Rattle.layout.proofs.PageLaws.{form_page_bytes}
use Rattle.layout.proofs.SlotLaws.{SlotSized, SlotHolds}
use Rattle.std.specs.Prelude.{Option}
use Rattle.layout.specs.declared.master.Fields.{Fields}
use Rattle.store.specs.OpenLog.{Placed, place_from, block_of, read_count, log_end}
use Rattle.store.specs.OpenConditions.{holds, sizes_are, forms_of, records_fit, low_after_all, records_from}
use Rattle.store.specs.OpenConditions.{fields_in_form, sequences_in_range, records_whole, ends_logged}
use Rattle.agreement.proofs.opening.Reading.{sound_block, small_block, block_is, count_is, log_is, log_split}
use Rattle.agreement.proofs.opening.Reading.{ends_below}
use Rattle.agreement.proofs.history.Ghost.{versions_of, Sound, place_all, records, LoggedVersion, no_version}
use Rattle.agreement.proofs.history.Ghost.{commits_in, Rising, end_of_page, page_with, Disk}
use Rattle.agreement.proofs.history.ListLaws.{same?, each_take, each_drop}
use Rattle.agreement.proofs.history.PlacingLaws.{sound_sized}
use Rattle.agreement.proofs.history.VersionLaws.{commits_append, place_versions, near}
use Rattle.agreement.proofs.history.CommitLaws.{rising_right}
use Rattle.agreement.proofs.history.SlotLaws.{end_page}
use Rattle.agreement.proofs.invariant.Invariant.{master_fields, OnMedium}
use Rattle.agreement.proofs.invariant.MediumFacts.{fields_sized, oldest_is, cells_sized, cells_hold}
use Rattle.agreement.proofs.opening.CheckLaws.{both, first_holds, append_holds, each_holds, table_holds, blocks_hold}

-- ---- the records of a block

forms_sound : (d : ℕ) (rs : List Record) → Each (Sound d) rs → forms_of rs ≡ true
unfolding forms_of
forms_sound d [] h = refl
forms_sound d (r ∷ rs) h = both (record_form r) (forms_of rs) h.0.form (forms_sound d rs h.1)

-- where the times rise from t on and `low` asks for no more, the records fit, and `low` behind them asks for no more
-- than the times of the rest keep
record FitsOn (d low : ℕ) (rs : List Record) (rest : List Placed) : Type 0 where
  pub fit : records_fit d low rs ≡ true
  pub time : ℕ
  pub after : low_after_all low rs ≤ time + 1
  pub rising : Rising time (commits_in rest)

records_fit_law : (d q off low t : ℕ) (rs : List Record) (rest : List Placed) → Each (Sound d) rs → low ≤ t + 1
    → Rising t (commits_in (place_from q off rs ++ rest)) → FitsOn d low rs rest
unfolding records_fit low_after_all commits_in place_from
records_fit_law d q off low t [] rest h a r = record { fit = refl; time = t; after = a; rising = r }
records_fit_law d q off low t (version v x ∷ rs) rest h a r =
    let o = records_fit_law d q (off + record_size (version v x)) low t rs rest h.1 a r in
    record {
      fit = both (ltb v.slot (15 * d)) (records_fit d low rs) (lt-ltb v.slot (15 * d) h.0.placeable) o.fit;
      time = o.time;
      after = o.after;
      rising = o.rising;
    }
records_fit_law d q off low t (commit p ∷ rs) rest h a r =
    let o = records_fit_law d q (off + record_size (commit p)) (p.time.0 + 1) p.time.0 rs rest h.1 (omega arith) r.1 in
    record {
      fit = both (leb low p.time.0) (records_fit d (p.time.0 + 1) rs) (le-leb low p.time.0 (omega (arith, r.0)))
          o.fit;
      time = o.time;
      after = o.after;
      rising = o.rising;
    }

module _ {l d : ℕ} {m : List ℕ} {disk : Disk} (medium : OnMedium l d m disk disk.stored) where
  -- ---- the blocks that are read

  read_high : (q : ℕ) → q < oldest_on m + read_count m l → q < length disk.stored
  read_high q h = omega (arith, oldest_is medium, count_is medium, medium.log.shape.low)

  parsed_is : (q : ℕ) → disk.oldest ≤ q → q < length disk.stored
      → parsed (block_of m l q) ≡ record { records = get_or disk.stored q []; whole = true }
  parsed_is q a h =
      ap parsed (block_is medium q a h) ∙ parsed_log_bytes q (get_or disk.stored q [])
      (sound_sized d (get_or disk.stored q []) (sound_block medium q h).each) (small_block medium q h)

  -- ---- condition 1

  sizes_are_law : sizes_are (master_of (blk m 0)) l d ≡ true
  sizes_are_law =
      ap (λ (f : Option Fields). sizes_are f l d)
      (ap master_of medium.master.block ∙ master_back (master_fields l d disk.oldest disk.next disk.time)
      (fields_sized medium)) ∙ both (eqb l l) (eqb d d) (eq-eqb l l refl) (eq-eqb d d refl)

  pair_form_law : (i : ℕ) → i < 64 → pair_form (table_pair m i) ≡ true
  unfolding pair_form
  pair_form_law i h = go (same? (table_pair m i).number.0 0)
    where
      go : ((table_pair m i).number.0 ≡ 0) ⊎ ((table_pair m i).number.0 ≢ 0)
          → not (eqb (table_pair m i).number.0 0) || eqb (table_pair m i).time.0 0 ≡ true
      go (inl e) =
          rw (eq-eqb (table_pair m i).number.0 0 e, eq-eqb (table_pair m i).time.0 0 (medium.table.vacant i h e))
      go (inr e) = rw (ne_eqb (table_pair m i).number.0 0 e)

  block_form : (q : ℕ) → oldest_on m ≤ q → q < oldest_on m + read_count m l
      → used_form (block_of m l q) && forms_of (parsed (block_of m l q)).records ≡ true
  block_form q a b =
      let low : disk.oldest ≤ q = omega (arith, oldest_is medium) in
      let high = read_high q b in
      both (used_form (block_of m l q)) (forms_of (parsed (block_of m l q)).records)
      (ap used_form (block_is medium q low high)
      ∙ used_form_log_bytes q (get_or disk.stored q []) (small_block medium q high))
      (ap (λ (x : Parsed). forms_of x.records) (parsed_is q low high)
      ∙ forms_sound d (get_or disk.stored q []) (sound_block medium q high).each)

  page_form_law : (p : ℕ) → p < d → page_form (blk m (page_block_at l p)) ≡ true
  unfolding page_with
  page_form_law p h =
      ap page_form (medium.pages.page p h)
      ∙ form_page_bytes (end_of_page (versions_of disk.stored) p (disk.on p))
      (take (disk.on p) (drop (15 * p) disk.cells))
      (each_take SlotSized (disk.on p) (drop (15 * p) disk.cells)
      (each_drop SlotSized (15 * p) disk.cells (cells_sized medium)))
      (each_take SlotHolds (disk.on p) (drop (15 * p) disk.cells)
      (each_drop SlotHolds (15 * p) disk.cells (cells_hold medium)))
      (simp length-take (omega (arith, (medium.pages.few p).0)))

  pub fields_in_form_law : holds (fields_in_form m l d) ≡ true
  unfolding fields_in_form
  fields_in_form_law =
      first_holds _ 0 _ sizes_are_law
      (append_holds _ _ (table_holds (λ i. pair_form (table_pair m i)) pair_form_law)
      (append_holds _ _ (blocks_hold m l d
      (λ s. used_form (block_of m l s) && forms_of (parsed (block_of m l s)).records) block_form)
      (each_holds (λ p. (page_form (blk m (page_block_at l p)), page_block_at l p)) 0 d
      (λ p a b. page_form_law p (omega arith)))))

  -- ---- condition 2

  pub sequences_in_range_law : holds (sequences_in_range m l d) ≡ true
  unfolding sequences_in_range
  sequences_in_range_law =
      first_holds _ 0 _ (both (leb 1 (oldest_on m)) (ltb (oldest_on m) (2 ^ 48))
      (le-leb 1 (oldest_on m) (omega (arith, oldest_is medium, medium.master.fits.oldest_low)))
      (lt-ltb (oldest_on m) (2 ^ 48) (omega (arith, oldest_is medium, medium.master.fits.oldest_high))))
      (blocks_hold m l d (λ s. leb 1 s && ltb s (2 ^ 48))
      (λ q a b. both (leb 1 q) (ltb q (2 ^ 48))
      (le-leb 1 q (omega (arith, oldest_is medium, medium.master.fits.oldest_low)))
      (lt-ltb q (2 ^ 48) (omega (arith, read_high q b, medium.log.shape.top)))))

  -- ---- condition 3

  records_from_law : (j low t q : ℕ) → q + j ≡ length disk.stored → disk.oldest ≤ q → low ≤ t + 1
      → Rising t (commits_in (place_all q (drop q disk.stored))) → holds (records_from m l d low q j) ≡ true
  unfolding records_from holds place_all
  records_from_law zero low t q e o a r = refl
  records_from_law (suc j) low t q e o a r =
      let rs = get_or disk.stored q [] in
      let h : q < length disk.stored = omega arith in
      let g = records_fit_law d q 10 low t rs (place_all (suc q) (drop (suc q) disk.stored))
      (sound_block medium q h).each a (rw (drop-cons disk.stored q [] h) at r) in
      rw (parsed_is q o h, g.fit, add-one)
      (records_from_law j (low_after_all low rs) g.time (suc q) (omega arith) (omega arith) g.after g.rising)

  pub records_whole_law : holds (records_whole m l d) ≡ true
  unfolding records_whole
  records_whole_law =
      rw (oldest_is medium, count_is medium)
      (records_from_law (length disk.stored - disk.oldest) 0 0 disk.oldest (omega (arith, medium.log.shape.low))
      (omega arith) (omega arith)
      (rw (log_is medium) at (rising_right 0 (commits_in (place_all 0 (take disk.oldest disk.stored))) _
      (rw (log_split medium, commits_append) at medium.numbers.rising))))

  -- ---- condition 4

  page_end_law : (p c : ℕ) → c ≤ length (versions_of disk.stored) - 15 * p
      → (end_of_page (versions_of disk.stored) p c ≤ log_end m l) × (end_of_page (versions_of disk.stored) p c < 2 ^ 64)
  page_end_law p zero h = (omega arith, omega arith)
  page_end_law p (suc c) h =
      let lt : 15 * p + c < length (versions_of disk.stored) = omega arith in (
        each_at (λ (v : LoggedVersion). v.end ≤ log_end m l) (versions_of disk.stored) (15 * p + c) no_version
            (place_versions (λ e q. e ≤ log_end m l) (records disk.stored) (ends_below medium)) lt,
        omega (arith, near d disk.stored medium.log.shape.stored_sound (15 * p + c) lt, medium.log.shape.top),
      )

  pub ends_logged_law : holds (ends_logged m l d) ≡ true
  unfolding ends_logged
  ends_logged_law =
      each_holds (λ p. (leb (page_end (blk m (page_block_at l p))) (log_end m l), page_block_at l p)) 0 d
      (λ p a b. let e = page_end_law p (disk.on p) (medium.pages.few p).1 in
      le-leb (page_end (blk m (page_block_at l p))) (log_end m l)
      (rw (
        ap page_end (medium.pages.page p (omega arith)),
        end_page (versions_of disk.stored) disk.cells p (disk.on p) e.1,
      ) e.0))
