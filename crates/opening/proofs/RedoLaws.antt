-- The loop that applies the logged versions: what is left of the log, applied to the present cache, gives the whole. Each turn
-- is one clause of `redo` and `redo_ok`; assumes nothing.
use mathlib.Core.Path.{◌≡◌, refl, sym, ap, ◌∙◌}
use mathlib.Core.Bool.{Bool, true, false, ◌&&◌}
use Prim.Native.Nat.{ℕ, ◌+◌, ◌*◌, ◌/◌, ◌%◌, ◌≤◌, ◌<◌}
use native.Mathlib.Omega.{arith}
use mathlib.Core.List.{List, [], ◌∷◌}
use lib.ListN.{length}
use lib.Dec.{eqb, ltb}
use borrow.Author.Tests.{ltb-true}
use Rattle.fields.specs.Block.{blk, page_of}
use Rattle.layout.specs.Page.{page_used, put_version}
use Rattle.layout.specs.Journal.{version, commit}
use Rattle.layout.specs.declared.item.VersionHead.{VersionHead}
use Rattle.layout.specs.declared.item.Pair.{Pair}
use Rattle.fields.proofs.Choose.{and_0, and_1}
use Rattle.layout.proofs.CacheLaws.{length_put_version}
use Rattle.layout.proofs.PlaceLaws.{slot_page_below}
use Rattle.store.specs.Write.{cell_for, touched}
use Rattle.store.specs.OpenLog.{Placed}
use Rattle.store.specs.OpenRedo.{Redone, applies, redo_one, redo}
use Rattle.conditions.specs.declared.cursor.Cursor.{Cursor}
use Rattle.conditions.specs.Cursor.{rest_of, Valid}
use Rattle.conditions.specs.Lookup.{slots_below}
use Rattle.conditions.specs.Passes.{redo_ok}
use Rattle.conditions.proofs.CursorLaws.{Next}

-- a version that the page has already, and one that it lacks
pass_is : (d : Redone) (x : Placed) (h : VersionHead) (v : List ℕ) → x.rec ≡ version h v → applies d.cache h x.end ≡ false → redo_one d x ≡ d
unfolding redo_one
pass_is d x h v f q = rw (f, q)

apply_is : (d : Redone) (x : Placed) (h : VersionHead) (v : List ℕ) → x.rec ≡ version h v → applies d.cache h x.end ≡ true
    → redo_one d x ≡ record { cache = put_version d.cache h.slot x.end (cell_for h v); first = touched d.first (page_of h.slot) x.seq }
unfolding redo_one
apply_is d x h v f q = rw (f, q)

-- the cursor stands at c, `now` is what was made of `start`, and `whole` is the log from the start on
pub record Going (m : List ℕ) (l d : ℕ) (c : Cursor) (now start : Redone) (whole : List Placed) : Type 0 where
  pub valid : Valid c
  pub size : length now.cache ≡ 512 * d
  pub below : slots_below d (rest_of m l c) ≡ true
  pub ok : redo_ok now (rest_of m l c) ≡ redo_ok start whole
  pub end : redo now (rest_of m l c) ≡ redo start whole

pub going_begin : (m : List ℕ) (l d : ℕ) (c : Cursor) (start : Redone) → Valid c → length start.cache ≡ 512 * d → slots_below d (rest_of m l c) ≡ true
    → Going m l d c start start (rest_of m l c)
going_begin m l d c start v n b = record { valid = v; size = n; below = b; ok = refl; end = refl }

module _ {m : List ℕ} {l d : ℕ} {c : Cursor} {now start : Redone} {whole : List Placed} (g : Going m l d c now start whole) where
  pub going_done : rest_of m l c ≡ [] → (true ≡ redo_ok start whole) × (now ≡ redo start whole)
  unfolding redo_ok redo
  going_done e = (rw e at g.ok, rw e at g.end)

  pub going_skip : {e : Cursor} → Next m l c e [] → Going m l d e now start whole
  going_skip n = record {
    valid = n.valid;
    size = g.size;
    below = rw n.rest at g.below;
    ok = rw n.rest at g.ok;
    end = rw n.rest at g.end;
  }

  -- a record that changes nothing and asks for nothing, and one that is applied
  module _ (x : Placed) {e : Cursor} (n : Next m l c e (x ∷ [])) where
    rest_below : slots_below d (x ∷ rest_of m l e) ≡ true
    rest_below = rw n.rest at g.below

    pub going_commit : (p : Pair) → x.rec ≡ commit p → Going m l d e now start whole
    unfolding redo_ok redo redo_one slots_below
    going_commit p f = record {
      valid = n.valid;
      size = g.size;
      below = rw f at rest_below;
      ok = rw (n.rest, f) at g.ok;
      end = rw (n.rest, f) at g.end;
    }

    module _ (h : VersionHead) (v : List ℕ) (f : x.rec ≡ version h v) where
      slot_test : ltb h.slot (15 * d) && slots_below d (rest_of m l e) ≡ true
      unfolding slots_below
      slot_test = rw f at rest_below

      pub going_slot : h.slot < 15 * d
      going_slot = ltb-true h.slot (15 * d) (and_0 (ltb h.slot (15 * d)) _ slot_test)

      pub going_page : 512 * page_of h.slot + 512 ≤ length now.cache
      going_page = omega (arith, g.size, slot_page_below d h.slot going_slot)

      rest_slots : slots_below d (rest_of m l e) ≡ true
      rest_slots = and_1 (ltb h.slot (15 * d)) _ slot_test

      module _ (t : Bool) (must : t ≡ applies now.cache h x.end) where
        pub going_pass : t ≡ false → Going m l d e now start whole
        unfolding redo_ok redo
        going_pass q = record {
          valid = n.valid;
          size = g.size;
          below = rest_slots;
          ok = rw (n.rest, pass_is now x h v f (sym must ∙ q), f, sym must ∙ q) at g.ok;
          end = sym (ap (redo now) n.rest ∙ ap (λ (y : Redone). redo y (rest_of m l e)) (pass_is now x h v f (sym must ∙ q))) ∙ g.end;
        }

        module _ (yes : t ≡ true) (u : Bool) (next : u ≡ eqb (h.slot % 15) (page_used (blk now.cache (page_of h.slot)))) where
          pub going_stop : u ≡ false → false ≡ redo_ok start whole
          unfolding redo_ok
          going_stop q = rw (n.rest, f, sym must ∙ yes, sym next ∙ q) at g.ok

          pub going_apply : (cache first : List ℕ) → u ≡ true → cache ≡ put_version now.cache h.slot x.end (cell_for h v)
              → first ≡ touched now.first (h.slot / 15) x.seq → Going m l d e (record { cache = cache; first = first }) start whole
          unfolding redo_ok redo page_of
          going_apply cache first q a b = record {
            valid = n.valid;
            size = ap length a ∙ length_put_version now.cache h.slot x.end (cell_for h v) ∙ g.size;
            below = rest_slots;
            ok = rw (a, b) (rw (n.rest, apply_is now x h v f (sym must ∙ yes), f, sym must ∙ yes, sym next ∙ q) at g.ok);
            end = rw (a, b) (sym (ap (redo now) n.rest ∙ ap (λ (y : Redone). redo y (rest_of m l e)) (apply_is now x h v f (sym must ∙ yes))) ∙ g.end);
          }
