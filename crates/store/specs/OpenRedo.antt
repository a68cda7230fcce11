-- Opening: the pages copied, and the logged versions applied.
use Rattle.std.specs.Prelude.{ℕ, zero, suc, ◌+◌, ◌*◌, ◌%◌, Bool, true, false, cond, List, [], ◌∷◌, replicate, eqb, ltb}
use Rattle.fields.specs.Part.{part}
use Rattle.fields.specs.Block.{blk, page_of, log_block_at}
use Rattle.layout.specs.Page.{page_end, page_used, put_version}
use Rattle.layout.specs.Journal.{Record, version, commit}
use Rattle.layout.specs.declared.item.VersionHead.{VersionHead}
use Rattle.store.specs.Write.{cell_for, touched}
use Rattle.store.specs.OpenLog.{Placed}

-- 01: "It copies the pages"
unfoldable pub pages_on : List ℕ → ℕ → ℕ → List ℕ
pages_on m l d = part m (512 * (3 + l)) (512 * d)

-- 01: "block that first changed a page": the cache, and for each page the block of the first record applied to it
pub record Redone : Type 0 where
  pub cache : List ℕ
  pub first : List ℕ

-- 01: "applies version records whose end place is above the page's"
unfoldable pub applies : List ℕ → VersionHead → ℕ → Bool
applies c h e = ltb (page_end (blk c (page_of h.slot))) e

-- 01: "applies version records": the version in its slot, and its page's first change noted, if it is to be applied
abbrev pub redo_if : Bool → Redone → VersionHead → List ℕ → Placed → Redone
redo_if true d h v x = record {
  cache = put_version d.cache h.slot x.end (cell_for h v);
  first = touched d.first (page_of h.slot) x.seq;
}
redo_if false d h v x = d

-- 01: "applies version records": a commit record changes no page
abbrev pub redo_record : Record → Redone → Placed → Redone
redo_record (version h v) d x = redo_if (applies d.cache h x.end) d h v x
redo_record (commit p) d x = d

-- 01: "applies version records": one record of the log
unfoldable pub redo_one : Redone → Placed → Redone
redo_one d x = redo_record x.rec d x

-- 01: "applies version records whose end place is above the page's": the records one after the other
unfoldable pub redo : Redone → List Placed → Redone
redo d [] = d
redo d (x ∷ xs) = redo (redo_one d x) xs

-- 01: "every applied version in the next slot of its page"
abbrev pub next_in_page : Record → List ℕ → ℕ → Bool
next_in_page (version h v) c e =
    cond (applies c h e) (eqb (h.slot % 15) (page_used (blk c (page_of h.slot)))) true
next_in_page (commit p) c e = true

-- 01: "every applied version in the next slot of its page": for each record whether that holds, with its block
unfoldable pub redo_checks : ℕ → Redone → List Placed → List (Bool × ℕ)
redo_checks l d [] = []
redo_checks l d (x ∷ xs) =
    (next_in_page x.rec d.cache x.end, log_block_at l x.seq) ∷ redo_checks l (redo_one d x) xs

-- 01: "used slots, 1": how many slots of the first k pages are used
unfoldable pub used_in : List ℕ → ℕ → ℕ
used_in c zero = 0
used_in c (suc k) = used_in c k + page_used (blk c k)

-- 01: "block that first changed a page": none, for each of 64 pages
unfoldable pub untouched : List ℕ
untouched = replicate 64 0
