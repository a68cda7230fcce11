-- What holds of each record holds of each version and each commit, and the end places of versions rise with their
-- slots.
use Rattle.std.specs.Prelude.{Some, None}
use Prim.Native.Nat.{ℕ, zero, suc, ◌+◌, ◌*◌, ◌≤◌, ◌<◌}
use native.Mathlib.Nat.{le_of_suc-le-suc, not-suc-le-zero}
use native.Mathlib.Omega.{arith}
use mathlib.Core.Bool.{Bool, true, false, cond}
use mathlib.Core.List.{List, [], ◌∷◌, ◌++◌, append_assoc}
use mathlib.Core.Logic.{◌⊎◌, inl, inr, ◌≢◌}
use mathlib.Core.Path.{◌≡◌, refl, sym, ap, ◌∙◌}
use lib.Dec.{eqb}
use lib.ListN.{length, get_or-append}
use borrow.Author.Tests.{eqb-true, eqb-false}
use Rattle.layout.specs.Journal.{Record, version, commit, record_size}
use Rattle.fields.proofs.CellLaws.{Each, each_at, each_append, each_map}
use Rattle.store.specs.OpenLog.{Placed, place_from, number_in}
use Rattle.agreement.proofs.history.Ghost.{versions_of, commits_of, Sound, BlockSound, place_all, records}
use Rattle.agreement.proofs.history.Ghost.{LoggedVersion, as_version, versions_in, no_version, at, newest_of}
use Rattle.agreement.proofs.history.Ghost.{LoggedCommit, as_commit, commits_in}
use Rattle.agreement.proofs.history.ListLaws.{same?}
use Rattle.agreement.proofs.history.PlacingLaws.{Between, Near, between_all, near_records}

-- ---- versions and commits of a list of records

pub versions_append : (xs ys : List Placed) → versions_in (xs ++ ys) ≡ versions_in xs ++ versions_in ys
unfolding versions_in
versions_append [] ys = refl
versions_append (x ∷ xs) ys = rw (versions_append xs ys, append_assoc)

pub commits_append : (xs ys : List Placed) → commits_in (xs ++ ys) ≡ commits_in xs ++ commits_in ys
unfolding commits_in
commits_append [] ys = refl
commits_append (x ∷ xs) ys = rw (commits_append xs ys, append_assoc)

-- what holds of each record holds of each version and of each commit
module _ (P : Placed → Type 0) where
  pub each_versions : (Q : LoggedVersion → Type 0)
      → ((x : Placed) → P x → Each Q (as_version x.rec x.seq x.end)) → (ps : List Placed) → Each P ps
      → Each Q (versions_in ps)
  unfolding versions_in
  each_versions Q f [] h = tt
  each_versions Q f (x ∷ xs) h =
      each_append Q (as_version x.rec x.seq x.end) (versions_in xs) (f x h.0) (each_versions Q f xs h.1)

  pub each_commits : (Q : LoggedCommit → Type 0)
      → ((x : Placed) → P x → Each Q (as_commit x.rec x.seq x.end)) → (ps : List Placed) → Each P ps
      → Each Q (commits_in ps)
  unfolding commits_in
  each_commits Q f [] h = tt
  each_commits Q f (x ∷ xs) h =
      each_append Q (as_commit x.rec x.seq x.end) (commits_in xs) (f x h.0) (each_commits Q f xs h.1)

-- of end place and block alone
module _ (P : ℕ → ℕ → Type 0) where
  pub place_versions : (ps : List Placed) → Each (λ (x : Placed). P x.end x.seq) ps
      → Each (λ (v : LoggedVersion). P v.end v.seq) (versions_in ps)
  place_versions ps h =
      each_versions (λ (x : Placed). P x.end x.seq) (λ (v : LoggedVersion). P v.end v.seq)
      (λ x p. go x.rec x.seq x.end p) ps h
    where
      go : (r : Record) (q e : ℕ) → P e q → Each (λ (v : LoggedVersion). P v.end v.seq) (as_version r q e)
      go (version h v) q e p = (p, tt)
      go (commit c) q e p = tt

  pub place_commits : (ps : List Placed) → Each (λ (x : Placed). P x.end x.seq) ps
      → Each (λ (c : LoggedCommit). P c.end c.seq) (commits_in ps)
  place_commits ps h =
      each_commits (λ (x : Placed). P x.end x.seq) (λ (c : LoggedCommit). P c.end c.seq)
      (λ x p. go x.rec x.seq x.end p) ps h
    where
      go : (r : Record) (q e : ℕ) → P e q → Each (λ (c : LoggedCommit). P c.end c.seq) (as_commit r q e)
      go (version h v) q e p = tt
      go (commit c) q e p = (p, tt)

-- of the number alone
module _ (P : ℕ → Type 0) where
  pub num_versions : (ps : List Placed) → Each (λ (x : Placed). P (number_in x.rec)) ps
      → Each (λ (v : LoggedVersion). P v.num) (versions_in ps)
  num_versions ps h =
      each_versions (λ (x : Placed). P (number_in x.rec)) (λ (v : LoggedVersion). P v.num)
      (λ x p. go x.rec x.seq x.end p) ps h
    where
      go : (r : Record) (q e : ℕ) → P (number_in r) → Each (λ (v : LoggedVersion). P v.num) (as_version r q e)
      go (version h v) q e p = (p, tt)
      go (commit c) q e p = tt

  pub num_commits : (ps : List Placed) → Each (λ (x : Placed). P (number_in x.rec)) ps
      → Each (λ (c : LoggedCommit). P c.num) (commits_in ps)
  num_commits ps h =
      each_commits (λ (x : Placed). P (number_in x.rec)) (λ (c : LoggedCommit). P c.num)
      (λ x p. go x.rec x.seq x.end p) ps h
    where
      go : (r : Record) (q e : ℕ) → P (number_in r) → Each (λ (c : LoggedCommit). P c.num) (as_commit r q e)
      go (version h v) q e p = tt
      go (commit c) q e p = (p, tt)

-- the records of sound blocks are sound
pub sound_from : (d q off : ℕ) (rs : List Record) → Each (Sound d) rs
    → Each (λ (x : Placed). Sound d x.rec) (place_from q off rs)
unfolding place_from
sound_from d q off [] h = tt
sound_from d q off (r ∷ rs) h = (h.0, sound_from d q (off + record_size r) rs h.1)

pub sound_all : (d q : ℕ) (bs : List (List Record)) → Each (BlockSound d) bs
    → Each (λ (x : Placed). Sound d x.rec) (place_all q bs)
unfolding place_all
sound_all d q [] h = tt
sound_all d q (b ∷ bs) h =
    each_append (λ (x : Placed). Sound d x.rec) (place_from q 10 b) (place_all (suc q) bs)
    (sound_from d q 10 b h.0.each) (sound_all d (suc q) bs h.1)

-- ---- the versions' end places rise

abbrev Climbing : ℕ → List LoggedVersion → Type 0
Climbing lo [] = Unit {0}
Climbing lo (x ∷ xs) = (lo < x.end) × Climbing x.end xs

climbing_weak : (lo lo' : ℕ) (vs : List LoggedVersion) → lo' ≤ lo → Climbing lo vs → Climbing lo' vs
climbing_weak lo lo' [] h r = tt
climbing_weak lo lo' (x ∷ xs) h r = (omega (arith, r.0), r.1)

climbing_versions : (lo hi : ℕ) (ps : List Placed) → Between lo ps hi → Climbing lo (versions_in ps)
unfolding versions_in
climbing_versions lo hi [] b = tt
climbing_versions lo hi (x ∷ xs) b = go x.rec (climbing_versions x.end hi xs b.1)
  where
    go : (r : Record) → Climbing x.end (versions_in xs) → Climbing lo (as_version r x.seq x.end ++ versions_in xs)
    go (version h v) ih = (b.0, ih)
    go (commit p) ih = climbing_weak x.end lo (versions_in xs) (omega (arith, b.0)) ih

climbing_at : (lo : ℕ) (vs : List LoggedVersion) (n : ℕ) → Climbing lo vs → n < length vs → lo < (at vs n).end
climbing_at lo [] n b h = absurd (not-suc-le-zero h)
climbing_at lo (x ∷ xs) zero b h = b.0
climbing_at lo (x ∷ xs) (suc n) b h = omega (arith, b.0, climbing_at x.end xs n b.1 (le_of_suc-le-suc h))

climbing_lt : (lo : ℕ) (vs : List LoggedVersion) (i j : ℕ) → Climbing lo vs → i < j → j < length vs
    → (at vs i).end < (at vs j).end
climbing_lt lo [] i j b h k = absurd (not-suc-le-zero k)
climbing_lt lo (x ∷ xs) zero zero b h k = absurd (not-suc-le-zero h)
climbing_lt lo (x ∷ xs) zero (suc j) b h k = climbing_at x.end xs j b.1 (le_of_suc-le-suc k)
climbing_lt lo (x ∷ xs) (suc i) zero b h k = absurd (not-suc-le-zero h)
climbing_lt lo (x ∷ xs) (suc i) (suc j) b h k = climbing_lt x.end xs i j b.1 (le_of_suc-le-suc h) (le_of_suc-le-suc k)

-- the laws of the versions of sound blocks
module _ (d : ℕ) (bs : List (List Record)) (f : Each (BlockSound d) bs) where
  pub rise : (i j : ℕ) → i < j → j < length (versions_of bs) → (at (versions_of bs) i).end < (at (versions_of bs) j).end
  rise i j h k = climbing_lt _ (versions_of bs) i j (climbing_versions _ _ (records bs) (between_all d 0 bs f)) h k

  pub near : (n : ℕ) → n < length (versions_of bs)
      → (512 * (at (versions_of bs) n).seq + 10 < (at (versions_of bs) n).end)
      × ((at (versions_of bs) n).end ≤ 512 * (at (versions_of bs) n).seq + 512)
      × ((at (versions_of bs) n).seq < length bs)
  near n h =
      each_at (λ (v : LoggedVersion). (512 * v.seq + 10 < v.end) × (v.end ≤ 512 * v.seq + 512) × (v.seq < length bs))
      (versions_of bs) n no_version
      (place_versions (λ e q. (512 * q + 10 < e) × (e ≤ 512 * q + 512) × (q < length bs)) (records bs)
      (each_map (Near 0 (length bs)) (λ (x : Placed). (512 * x.seq + 10 < x.end) × (x.end ≤ 512 * x.seq + 512)
      × (x.seq < length bs)) (records bs) (λ x p. (p.after, p.within, p.high)) (near_records d bs f))) h

  pub seqs : (i j : ℕ) → i < j → j < length (versions_of bs) → (at (versions_of bs) i).seq ≤ (at (versions_of bs) j).seq
  seqs i j h k = omega (arith, rise i j h k, near i (omega arith), near j k)

  pub near_commits : Each (λ (c : LoggedCommit). (512 * c.seq + 10 < c.end) × (c.end ≤ 512 * c.seq + 512)
      × (c.seq < length bs)) (commits_of bs)
  near_commits =
      place_commits (λ e q. (512 * q + 10 < e) × (e ≤ 512 * q + 512) × (q < length bs)) (records bs)
      (each_map (Near 0 (length bs)) (λ (x : Placed). (512 * x.seq + 10 < x.end) × (x.end ≤ 512 * x.seq + 512)
      × (x.seq < length bs)) (records bs) (λ x p. (p.after, p.within, p.high)) (near_records d bs f))

-- ---- the newest version of a record

pub newest_append : (vs ws : List LoggedVersion) (key n : ℕ) → n ≤ length vs
    → newest_of (vs ++ ws) key n ≡ newest_of vs key n
unfolding newest_of
newest_append vs ws key zero h = refl
newest_append vs ws key (suc n) h = rw (get_or-append vs ws no_version n h, newest_append vs ws key n (omega arith))

-- what was found is below n, has the key, and none between has
pub record NewestAt (vs : List LoggedVersion) (key n j : ℕ) : Type 0 where
  pub below : j < n
  pub keyed : (at vs j).key ≡ key
  pub last : (i : ℕ) → j < i → i < n → (at vs i).key ≢ key

pub newest_at : (vs : List LoggedVersion) (key n j : ℕ) → newest_of vs key n ≡ Some j → NewestAt vs key n j
unfolding newest_of
newest_at vs key zero j e = let z : ◌≡◌ {A = ℕ} 0 1 = cc in absurd (omega arith)
newest_at vs key (suc n) j e = go (newest_at vs key n j) (eqb (at vs n).key key) refl e
  where
    go : (newest_of vs key n ≡ Some j → NewestAt vs key n j) → (t : Bool) → eqb (at vs n).key key ≡ t
        → cond t (Some n) (newest_of vs key n) ≡ Some j → NewestAt vs key (suc n) j
    go ih true q e =
        let z : n ≡ j = cc in
        record {
          below = omega arith;
          keyed = ap (λ (i : ℕ). (at vs i).key) (sym z) ∙ eqb-true _ _ q;
          last =
              λ i h k. absurd (omega arith);
        }
    go ih false q e =
        let w : NewestAt vs key n j = ih e in
        record {
          below = omega (arith, w.below);
          keyed = w.keyed;
          last = λ i h k. by i h k (same? i n);
        }
      where
        by : (i : ℕ) → j < i → i < suc n → (i ≡ n) ⊎ (i ≢ n) → (at vs i).key ≢ key
        by i h k (inl s) = λ y. eqb-false _ _ q (ap (λ (a : ℕ). (at vs a).key) (sym s) ∙ y)
        by i h k (inr s) = (ih e).last i h (omega arith)

pub newest_none : (vs : List LoggedVersion) (key n : ℕ) → newest_of vs key n ≡ None → (i : ℕ) → i < n
    → (at vs i).key ≢ key
unfolding newest_of
newest_none vs key zero e i h = absurd (omega arith)
newest_none vs key (suc n) e i h = go (newest_none vs key n) (eqb (at vs n).key key) refl e (same? i n)
  where
    go : (newest_of vs key n ≡ None → (i : ℕ) → i < n → (at vs i).key ≢ key) → (t : Bool) → eqb (at vs n).key key ≡ t
        → cond t (Some n) (newest_of vs key n) ≡ None
        → (i ≡ n) ⊎ (i ≢ n) → (at vs i).key ≢ key
    go ih true q e s = let z : ◌≡◌ {A = ℕ} 0 1 = cc in absurd (omega arith)
    go ih false q e (inl s) = λ y. eqb-false _ _ q (ap (λ (a : ℕ). (at vs a).key) (sym s) ∙ y)
    go ih false q e (inr s) = ih e i (omega arith)
