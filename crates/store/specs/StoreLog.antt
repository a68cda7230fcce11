-- Store log.
use Rattle.std.specs.Prelude.{ℕ, Bool, not, List, [], ◌∷◌, length, Option, None, Some, Ok}
use Rattle.fields.specs.Equal.{eq_list}
use Rattle.fields.specs.Block.{blk, log_block_at}
use Rattle.layout.specs.Journal.{sequence_of}
use Rattle.store.specs.declared.Refusal.{Refusal}
use Rattle.store.specs.declared.Refusal.TheVariants.{Unfit, Unchanged}
use Rattle.store.specs.declared.Answer.TheVariants.{Done}
use Rattle.store.specs.declared.State.{State}
use Rattle.store.specs.Answer.{Outcome, leaves, refuses, ask}
use Rattle.store.specs.State.{fits}
use Rattle.store.specs.Tail.{tail_end, stored_tail}

-- 01: "state and buffers fit .. ? 16", "would a byte on the medium change? 13"
abbrev pub store_log_asks : State → List ℕ → List ℕ → List (Bool × Refusal)
store_log_asks s m c =
    (fits s (length m) (length c), Unfit)
    ∷ (not (eq_list (blk m (log_block_at s.blocks (sequence_of s.tail))) s.tail), Unchanged)
    ∷ []

-- 01: "Its end place stored?", "the time last stored": all of the tail is stored, with it every commit time given
unfoldable pub log_stored : State → State
log_stored s = record {
  blocks = s.blocks;
  pages = s.pages;
  slots = s.slots;
  next = s.next;
  last = s.last;
  saved = s.last;
  end = tail_end s.tail;
  tail = s.tail;
  places = s.places;
  ring = s.ring;
  first = s.first;
  phase = s.phase;
}

-- 01: "on "no", this number with zeros", "A store replaces one block": refused, or the tail put in its block
unfoldable pub store_log_if : Option Refusal → State → List ℕ → List ℕ → Outcome
store_log_if (Some r) s m c = refuses r s m c
store_log_if None s m c = leaves (Ok Done) (log_stored s) (stored_tail s.blocks m s.tail) c

-- 01: "In this order, those that fit the call": the outcome of storing the log, its first "no" or its store
unfoldable pub store_log_of : State → List ℕ → List ℕ → Outcome
store_log_of s m c = store_log_if (ask (store_log_asks s m c)) s m c
