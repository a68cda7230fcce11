-- A list of changes has the book's lines: each step takes the last version below a time, in which both agree (AsOf),
-- by induction on the steps; and their bytes, which the buffer has room for, are the book's listing.
use Rattle.layout.specs.declared.CommitTime.{CommitTime}
use Rattle.std.specs.Prelude.{Option}
use Prim.Native.Nat.{ℕ, zero, suc, ◌*◌, ◌/◌, ◌%◌, ◌≤◌, ◌<◌}
use native.Mathlib.Omega.{arith}
use mathlib.Core.Bool.{Bool, true, false, cond, ◌&&◌}
use mathlib.Core.List.{List, [], ◌∷◌, ◌++◌}
use mathlib.Core.Path.{◌≡◌, refl, ap, ◌∙◌}
use lib.Dec.{eqb, ltb}
use lib.ListN.{length, drop, length-append, length-replicate}
use Rattle.fields.specs.Field.{enc}
use Rattle.fields.specs.Part.{splice}
use Rattle.fields.specs.Equal.{eq_list}
use Rattle.fields.specs.Block.{zeros}
use Rattle.fields.specs.Cells.{flat}
use Rattle.layout.specs.Journal.{Record}
use Rattle.fields.proofs.FieldLaws.{length_enc}
use Rattle.fields.proofs.PartLaws.{splice_is}
use Rattle.store.specs.declared.State.{State}
use Rattle.store.specs.Places.{time_under}
use Rattle.store.specs.Chain.{newest}
use Rattle.store.specs.Changes.{Line, line_bytes, differs, differs_from, lines_at, lines_below, change_lines}
use Rattle.runs.specs.Book.{Book, Dated, last_below, same, lines_of, number, listing, laid, differs as row_differs}
use Rattle.runs.specs.Book.{lines_at as row_lines_at, lines_below as row_lines_below}
use Rattle.agreement.proofs.history.Ghost.{versions_of, at, Disk}
use Rattle.agreement.proofs.invariant.Invariant.{Up}
use Rattle.agreement.proofs.invariant.MediumFacts.{sound_at}
use Rattle.agreement.proofs.reads.ReadFacts.{kind_cached, value_cached}
use Rattle.agreement.proofs.reads.AsOf.{Agree, neither, either, before_is}

-- ---- the same lines

pub data Alike : List Line → List Dated → Type 0 where
  ended : Alike [] []
  more : (t kind : ℕ) (v : List ℕ) {ls : List Line} {xs : List Dated} → length v ≡ 16 → Alike ls xs
      → Alike (record { time = t; kind = kind; value = v } ∷ ls) (record { time = t; kind = kind; value = v } ∷ xs)

alike_append : {ls js : List Line} {xs ys : List Dated} → Alike ls xs → Alike js ys → Alike (ls ++ js) (xs ++ ys)
alike_append ended b = b
alike_append (more t kind v h a) b = more t kind v h (alike_append a b)

pub alike_length : {ls : List Line} {xs : List Dated} → Alike ls xs → length ls ≡ length xs
alike_length ended = refl
alike_length (more t kind v h a) = ap suc (alike_length a)

-- ---- their bytes

number_is : (w n : ℕ) → enc w n ≡ number w n
unfolding enc number
number_is zero n = refl
number_is (suc w) n = ap (λ (l : List ℕ). n % 256 ∷ l) (number_is w (n / 256))

pub alike_bytes : {ls : List Line} {xs : List Dated} → Alike ls xs → flat line_bytes ls ≡ listing xs
unfolding flat line_bytes listing
alike_bytes ended = refl
alike_bytes (more t kind v h a) = rw (number_is 8 t, alike_bytes a)

line_size : (t kind : ℕ) (v : List ℕ) → length v ≡ 16
    → length (line_bytes (record { time = t; kind = kind; value = v })) ≡ 32
unfolding line_bytes
line_size t kind v h =
    length-append (enc 8 t) (kind ∷ (zeros 7 ++ v))
    ∙ omega (arith, length_enc 8 t, length-append (zeros 7) v, length-replicate {A = ℕ} 7 0)

pub alike_size : {ls : List Line} {xs : List Dated} → Alike ls xs → length (flat line_bytes ls) ≡ 32 * length ls
unfolding flat
alike_size ended = refl
alike_size (more t kind v {ls} {xs} h a) =
    let line : Line = record { time = t; kind = kind; value = v } in
    length-append (line_bytes line) (flat line_bytes ls) ∙ omega (arith, line_size t kind v h, alike_size a)

pub alike_laid : {ls : List Line} {xs : List Dated} (buffer : List ℕ) → Alike ls xs → 32 * length ls ≤ length buffer
    → splice buffer 0 (flat line_bytes ls) ≡ laid (listing xs) buffer
unfolding laid
alike_laid {ls} {xs} buffer a h =
    splice_is buffer 0 (flat line_bytes ls) (omega (arith, alike_size a))
    ∙ ap (λ (v : List ℕ). v ++ drop (length v) buffer) (alike_bytes a)

-- ---- the same lines are listed

same_is : (xs ys : List ℕ) → eq_list xs ys ≡ same xs ys
unfolding eq_list same
same_is [] [] = refl
same_is [] (y ∷ ys) = refl
same_is (x ∷ xs) [] = refl
same_is (x ∷ xs) (y ∷ ys) = ap (λ (t : Bool). eqb x y && t) (same_is xs ys)

module _ {l d : ℕ} {m c : List ℕ} {s : State} {b : Book} {disk : Disk} {closed : List (List Record)}
    {tail : List Record} (u : Up l d m c s b disk closed tail) where
  differs_is : (n t : ℕ) → n < length (versions_of (closed ++ (tail ∷ []))) → (x : Option (ℕ × CommitTime)) (y : Option Dated)
      → Agree (versions_of (closed ++ (tail ∷ []))) x y
      → differs_from c n x
      ≡ row_differs (record {
        time = t;
        kind = (at (versions_of (closed ++ (tail ∷ []))) n).kind;
        value =
            (at (versions_of (closed ++ (tail ∷ []))) n).value;
      }) y
  unfolding differs
  differs_is n t h x y neither = refl
  differs_is n t h x y (either r w g) =
      rw (
        kind_cached u n h,
        value_cached u n h,
        kind_cached u r g,
        value_cached u r g,
        same_is (at (versions_of (closed ++ (tail ∷ []))) n).value (at (versions_of (closed ++ (tail ∷ []))) r).value,
      )

  lines_below_law : (key t1 i t : ℕ)
      → Alike (lines_below c (time_under s.places) (newest c key s.slots) t1 i t) (row_lines_below b.rows key t1 i t)
  unfolding lines_below row_lines_below
  lines_below_law key t1 zero t = ended
  lines_below_law key t1 (suc i) t = go _ _ (before_is u key t) (lines_below_law key t1 i)
    where
      go : (x : Option (ℕ × CommitTime)) (y : Option Dated) → Agree (versions_of (closed ++ (tail ∷ []))) x y
          → ((a : ℕ) → Alike (lines_below c (time_under s.places) (newest c key s.slots) t1 i a)
          (row_lines_below b.rows key t1 i a))
          → Alike (lines_at c (time_under s.places) (newest c key s.slots)
          (lines_below c (time_under s.places) (newest c key s.slots) t1 i) t1 x)
          (row_lines_at b.rows key t1 (row_lines_below b.rows key t1 i) y)
      go x y neither ih = ended
      go x y (either n w h) ih =
          rw (kind_cached u n h, value_cached u n h, differs_is n w.0 h _ _ (before_is u key w.0))
          (by (ltb w.0 t1)
          (row_differs (record {
            time = w.0;
            kind = (at (versions_of (closed ++ (tail ∷ []))) n).kind;
            value =
                (at (versions_of (closed ++ (tail ∷ []))) n).value;
          }) (last_below b.rows key w.0)))
        where
          by : (z y : Bool)
              → Alike (cond z [] (lines_below c (time_under s.places) (newest c key s.slots) t1 i w.0
              ++ cond y (record {
                time = w.0;
                kind = (at (versions_of (closed ++ (tail ∷ []))) n).kind;
                value =
                    (at (versions_of (closed ++ (tail ∷ []))) n).value;
              } ∷ []) []))
              (cond z [] (row_lines_below b.rows key t1 i w.0
              ++ cond y (record {
                time = w.0;
                kind = (at (versions_of (closed ++ (tail ∷ []))) n).kind;
                value =
                    (at (versions_of (closed ++ (tail ∷ []))) n).value;
              } ∷ []) []))
          by true y = ended
          by false true =
              alike_append (ih w.0) (more w.0 (at (versions_of (closed ++ (tail ∷ []))) n).kind
              (at (versions_of (closed ++ (tail ∷ []))) n).value (sound_at u.medium n h).size ended)
          by false false = alike_append (ih w.0) ended

  pub lines_are : (key t1 t2 : ℕ) → Alike (change_lines s c key t1 t2) (lines_of b.rows key t1 t2)
  unfolding change_lines lines_of
  lines_are key t1 t2 = lines_below_law key t1 (suc (suc t2)) (suc t2)
