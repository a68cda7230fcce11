-- How a write or an erase ends: where its questions refuse, and where its step is the definition's. Assumes nothing.
use Rattle.std.specs.Prelude.{None, Some, Ok}
use mathlib.Core.Path.{◌≡◌, ap, ◌∙◌}
use mathlib.Core.Bool.{true}
use mathlib.Core.List.{List}
use Prim.Native.Nat.{ℕ, ◌+◌, ◌*◌, ◌≤◌, ◌<◌}
use native.Mathlib.Omega.{arith}
use lib.ListN.{length}
use lib.Dec.{ltb}
use borrow.Author.Tests.{ltb-true}
use Rattle.fields.specs.Block.{cache_length, page_of}
use Rattle.layout.specs.Journal.{version}
use Rattle.layout.specs.Page.{put_version}
use Rattle.layout.specs.declared.EndPlace.{EndPlace}
use Rattle.layout.specs.declared.item.VersionHead.{VersionHead}
use Rattle.layout.specs.declared.slot.Slot.TheVariants.{Waiting}
use Rattle.store.specs.declared.Answer.TheVariants.{Written}
use Rattle.store.specs.declared.State.{State}
use Rattle.store.specs.Answer.{Outcome, leaves, ask}
use Rattle.store.specs.Places.{find_active}
use Rattle.store.specs.State.{fits}
use Rattle.store.specs.Tail.{may_log, logged, tail_end}
use Rattle.store.specs.Write.{write_asks, new_head, cell_for, written, write_step, write_if, add_of}
use Rattle.store.proofs.FitLaws.{fit_of}
use Rattle.tail.specs.Taken.{taken}
use Rattle.store.proofs.AskLaws.{passed}

-- the questions that the step draws on, all passed
pub record WriteAsked (s : State) (m c : List ℕ) : Type 0 where
  pub fit : fits s (length m) (length c) ≡ true
  pub slot : ltb s.slots (15 * s.pages) ≡ true
  pub log : may_log s m 34 ≡ true

pub write_asked : (s : State) (m c : List ℕ) (n key : ℕ) → ask (write_asks s m c n key) ≡ None → WriteAsked s m c
write_asked s m c n key e =
    let p = passed (write_asks s m c n key) e in
    record { fit = p.0; slot = p.1.1.1.1.0; log = p.1.1.1.1.1.0 }

pub write_passed : (s : State) (m c : List ℕ) (n key kind i : ℕ) (h : VersionHead) (v : List ℕ) (w : Outcome)
    → ask (write_asks s m c n key) ≡ None → find_active s.places n ≡ Some i → h ≡ new_head s c n key kind
    → w ≡ write_step s m c i h v → w ≡ add_of s m c n key kind v
unfolding add_of write_if
write_passed s m c n key kind i h v w e f eh ew = ew ∙ rw (e, f, eh)

pub slot_in_cache : (s : State) (m c : ℕ) → fits s m c ≡ true → ltb s.slots (15 * s.pages) ≡ true
    → (s.slots < 960) × (512 * page_of s.slots + 512 ≤ c)
unfolding cache_length page_of
slot_in_cache s m c f e =
    let h = fit_of s m c f in
    let p = h.range.pages_high in
    let k = h.cache in
    let l = ltb-true s.slots (15 * s.pages) e in
    (omega arith, omega arith)

pub slots_taken : (s t : State) (m : List ℕ) (h : VersionHead) (v : List ℕ) → t ≡ taken s (logged s m (version h v)) → t.slots ≡ s.slots
unfolding taken
slots_taken s t m h v e = ap (λ (x : State). x.slots) e

-- t is the state whose tail took the record and e the end place of that, u the state with the version counted
pub write_done : (s t u : State) (m n c d : List ℕ) (i : ℕ) (h : VersionHead) (v : List ℕ) (e : EndPlace) → h.slot ≡ s.slots
    → t ≡ taken s (logged s m (version h v)) → n ≡ (logged s m (version h v)).medium → e ≡ tail_end t.tail
    → d ≡ put_version c h.slot e.0 (record { state = Waiting h.number; key = h.key; kind = h.kind; earlier = h.earlier; value = v })
    → u ≡ written t i (record { medium = t.tail; tail = t.tail; end = t.end; saved = t.saved })
    → leaves (Ok (Written h.slot)) u n d ≡ write_step s m c i h v
unfolding write_step cell_for written taken
write_done s t u m n c d i h v e es et en ee ed eu = simp (eu, en, ed, ee, et, es)
