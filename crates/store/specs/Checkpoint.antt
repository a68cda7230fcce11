-- Checkpoint: one entry, called three times.
use Rattle.std.specs.Prelude.{ℕ, zero, suc, ◌+◌, ◌*◌, min, Bool, cond, List, [], ◌∷◌, length, take, eqb, leb, Option, None, Some, Ok}
use Rattle.fields.specs.Block.{put}
use Rattle.fields.specs.Cells.{flat}
use Rattle.layout.specs.Table.{pair_bytes}
use Rattle.layout.specs.Master.{master_bytes}
use Rattle.layout.specs.Journal.{sequence_of}
use Rattle.layout.specs.declared.item.Pair.{Pair}
use Rattle.store.specs.declared.Life.{Life}
use Rattle.store.specs.declared.Life.TheVariants.{Free, Active, Committed}
use Rattle.store.specs.declared.Place.{Place}
use Rattle.store.specs.declared.Phase.{Phase}
use Rattle.store.specs.declared.Phase.TheVariants.{Idle, FirstStored, SecondStored}
use Rattle.store.specs.declared.Refusal.{Refusal}
use Rattle.store.specs.declared.Refusal.TheVariants.{Unfit}
use Rattle.store.specs.declared.Answer.TheVariants.{Done}
use Rattle.store.specs.declared.State.{State}
use Rattle.store.specs.Answer.{Outcome, leaves, refuses, ask}
use Rattle.store.specs.Places.{place_at}
use Rattle.store.specs.State.{fits, with_phase}

-- 01: "state and buffers fit .. ? 16"
abbrev pub checkpoint_asks : State → List ℕ → List ℕ → List (Bool × Refusal)
checkpoint_asks s m c = (fits s (length m) (length c), Unfit) ∷ []

-- 01: "the least block that first changed a page": the least of the numbers that are not 0, or d if all are 0
unfoldable pub least_or : ℕ → List ℕ → ℕ
least_or d [] = d
least_or d (q ∷ qs) = cond (eqb q 0) (least_or d qs) (min q (least_or q qs))

-- 01: "the least block that first changed a page not stored since, or the tail if none": the new oldest sequence
unfoldable pub new_oldest : State → ℕ
new_oldest s = least_or (sequence_of s.tail) (take s.pages s.first)

-- 01: "A table place holds .. else zeros": a place without a pair
abbrev pub no_pair : Pair
no_pair = record { number = record { 0 = 0 }; time = record { 0 = 0 } }

-- 01: "its live committed transaction's pair if that commit lies below the new oldest block, else zeros": block o
abbrev pub pair_below : ℕ → Life → Pair
pair_below o Free = no_pair
pair_below o (Active n k) = no_pair
pair_below o (Committed n t e) = cond (leb e.0 (512 * o)) (record { number = n; time = t }) no_pair

-- 01: "A table place holds its live committed transaction's pair": the k places from place i on
unfoldable pub pairs_from : List Place → ℕ → ℕ → ℕ → List Pair
pairs_from ps o i zero = []
pairs_from ps o i (suc k) = pair_below o (place_at ps i).life ∷ pairs_from ps o (i + 1) k

-- 01: "64 places of 16 bytes": the 32 places from i on; table block 1 begins with place 0, block 2 with place 32
unfoldable pub table_block : List Place → ℕ → ℕ → List ℕ
table_block ps o i = flat pair_bytes (pairs_from ps o i 32)

-- 01: "They store table block 1, block 2, master", "The master takes the current next number and the time last stored
-- when the checkpoint began"
unfoldable pub checkpoint_step : Phase → State → List ℕ → List ℕ → Outcome
checkpoint_step Idle s m c =
    leaves (Ok Done) (with_phase s (FirstStored (new_oldest s) s.saved)) (put m 1 (table_block s.places (new_oldest s) 0)) c
checkpoint_step (FirstStored o t) s m c =
    leaves (Ok Done) (with_phase s (SecondStored o t)) (put m 2 (table_block s.places o 32)) c
checkpoint_step (SecondStored o t) s m c =
    leaves (Ok Done) (with_phase s Idle)
    (put m 0 (master_bytes (record { blocks = s.blocks; pages = s.pages; oldest = o; next = s.next; last = t }))) c

-- 01: "on "no", this number with zeros": a checkpoint call refused, or the next of its three stores
unfoldable pub checkpoint_if : Option Refusal → State → List ℕ → List ℕ → Outcome
checkpoint_if (Some r) s m c = refuses r s m c
checkpoint_if None s m c = checkpoint_step s.phase s m c

-- 01: "In this order, those that fit the call": a checkpoint call's outcome, its first "no" or its store
unfoldable pub checkpoint_of : State → List ℕ → List ℕ → Outcome
checkpoint_of s m c = checkpoint_if (ask (checkpoint_asks s m c)) s m c
