-- A line changes no block but the one that `block_of` names: a call and a handover by their own laws, a byte put into
-- the medium lies in its block, and the other lines leave the medium as it is.
use mathlib.Core.Path.{◌≡◌, refl, sym}
use mathlib.Core.Bool.{false}
use mathlib.Core.List.{List, [], ◌∷◌}
use Prim.Native.Nat.{ℕ, ◌/◌}
use native.Mathlib.Omega.{arith}
use lib.ListN.{set, replicate}
use lib.Dec.{eqb, ltb}
use Rattle.fields.proofs.WriteLaws.{set_splice}
use Rattle.store.specs.declared.State.{State}
use Rattle.store.specs.Answer.{answer_number}
use Rattle.store.specs.Open.{open_of}
use Rattle.runs.specs.Event.{begin, current_read, abort, as_of, changes}
use Rattle.runs.specs.Machine.{called}
use Rattle.runs.proofs.OneBlock.{stores}
use Rattle.runs.proofs.Refusals.{open_medium}
use Rattle.fields.proofs.Choose.{bool_case, no}
use Rattle.handover.specs.declared.Transfer.{Transfer}
use Rattle.script.specs.declared.call.Asked.{Asked}
use Rattle.script.specs.declared.call.Call.{Call}
use Rattle.script.specs.declared.call.Call.TheVariants.{Format, Open, OpenSized, Cut, Begin, Write, Erase, Read, Commit}
use Rattle.script.specs.declared.call.Call.TheVariants.{Abort, Hand, AsOf, Changes, StoreLog, StorePage, Checkpoint}
use Rattle.script.specs.declared.call.Call.TheVariants.{Block, Page, Poke, Other}
use Rattle.rooms.specs.declared.parts.Standing.{Standing}
use Rattle.rooms.specs.Parts.{room_of}
use Rattle.rooms.specs.Room.{Room, gone, shut, ready, medium_in, blocks_in, pages_in, opened, opening, cut, poked}
use Rattle.rooms.specs.Room.{outcome_of, called as printed, calling, handed, handing, turn_by, turn_of}
use Rattle.disk.specs.Block.{log_block, block_of}
use Rattle.disk.specs.Stored.{is_format}
use Rattle.disk.proofs.AlikeLaws.{Alike, alike_same, alike_is, alike_splice}
use Rattle.disk.proofs.CallLaws.{alike_put, alike_write, alike_erase, alike_commit, alike_hand, alike_log, alike_page}
use Rattle.disk.proofs.CallLaws.{alike_checkpoint}

-- an opening leaves the medium
open_left : (letter : ℕ) (r : Room) (given : List ℕ) → medium_in (opening letter r given).room ≡ medium_in r
unfolding opening opened
open_left letter r given =
    bool_case (eqb (answer_number (open_of (medium_in r) given (blocks_in r) (pages_in r)).answer) 0)
    (λ e. simp e (open_medium (medium_in r) given (blocks_in r) (pages_in r))) (λ e. simp e)

cut_left : (r : Room) → medium_in (cut r) ≡ medium_in r
unfolding cut
cut_left gone = refl
cut_left (shut l d m) = refl
cut_left (ready l d m c s) = refl

byte_left : (m : List ℕ) (at b : ℕ) → Alike m (at / 512) (set m at b)
byte_left m at b = rw (set_splice m at b) (alike_splice m (at / 512) at (b ∷ []) (omega arith) (omega arith))

poked_left : (r : Room) (at b : ℕ) (s : State) → Alike (medium_in r) (block_of s (Poke at b)) (medium_in (poked r at b))
unfolding poked block_of
poked_left gone at b s = alike_same [] (at / 512)
poked_left (shut l d m) at b s = byte_left m at b
poked_left (ready l d m c u) at b s = byte_left m at b

-- ---- a call

call_left : (m c : List ℕ) (s : State) (v : List ℕ) (k : Call) → Alike m (block_of s k) (outcome_of k v s m c).medium
unfolding block_of outcome_of called
call_left m c s v (Format l d) = alike_same m _
call_left m c s v (Open byte) = alike_same m _
call_left m c s v (OpenSized bytes) = alike_same m _
call_left m c s v Cut = alike_same m _
call_left m c s v (Begin clock) = alike_put (stores m c s (begin clock))
call_left m c s v (Write number key) = alike_write m c s number key v
call_left m c s v (Erase number key) = alike_erase m c s number key
call_left m c s v (Read number key) = alike_put (stores m c s (current_read number key))
call_left m c s v (Commit number clock) = alike_commit m c s number clock
call_left m c s v (Abort number) = alike_put (stores m c s (abort number))
call_left m c s v (Hand flight from to began ended) = alike_same m _
call_left m c s v (AsOf key time) = alike_put (stores m c s (as_of key time))
call_left m c s v (Changes key t1 t2 bytes) = alike_put (stores m c s (changes key t1 t2 (replicate bytes 170)))
call_left m c s v StoreLog = alike_log m c s
call_left m c s v (StorePage page) = alike_page m c s page
call_left m c s v Checkpoint = alike_checkpoint m c s
call_left m c s v (Block block) = alike_same m _
call_left m c s v (Page page) = alike_same m _
call_left m c s v (Poke offset byte) = alike_same m _
call_left m c s v Other = alike_same m _

-- the state of an opened room; any other has none
pub data Holds : Room → State → Type 0 where
  is_gone : {s : State} → Holds gone s
  is_shut : {l d : ℕ} {m : List ℕ} {s : State} → Holds (shut l d m) s
  is_ready : {l d : ℕ} {m c : List ℕ} {s : State} → Holds (ready l d m c s) s

calling_left : (k : Call) (v : List ℕ) {r : Room} {s : State} → Holds r s
    → Alike (medium_in r) (block_of s k) (medium_in (calling k v r).room)
unfolding calling printed
calling_left k v {s = s} is_gone = alike_same [] (block_of s k)
calling_left k v {s = s} (is_shut {m = m}) = alike_same m (block_of s k)
calling_left k v {s = s} (is_ready {m = m} {c = c}) = call_left m c s v k

-- ---- a handover

handing_left : (x : Transfer) {r : Room} {s : State} → Holds r s
    → Alike (medium_in r) (log_block s) (medium_in (handing x r).room)
unfolding handing handed
handing_left x {s = s} is_gone = alike_same [] (log_block s)
handing_left x {s = s} (is_shut {m = m}) = alike_same m (log_block s)
handing_left x {s = s} (is_ready {m = m} {c = c}) = alike_hand m c s x

-- ---- a line

line_left : (k : Call) (v : List ℕ) {r : Room} {s : State} → Holds r s → is_format k ≡ false
    → Alike (medium_in r) (block_of s k) (medium_in (turn_by k v r).room)
unfolding turn_by is_format block_of
line_left (Format l d) v h e = no (sym e)
line_left (Open byte) v {r} h e = alike_is (open_left 79 r _)
line_left (OpenSized bytes) v {r} h e = alike_is (open_left 111 r _)
line_left Cut v {r} h e = alike_is (cut_left r)
line_left (Begin clock) v h e = calling_left (Begin clock) v h
line_left (Write number key) v h e = calling_left (Write number key) v h
line_left (Erase number key) v h e = calling_left (Erase number key) v h
line_left (Read number key) v h e = calling_left (Read number key) v h
line_left (Commit number clock) v h e = calling_left (Commit number clock) v h
line_left (Abort number) v h e = calling_left (Abort number) v h
line_left (Hand flight from to began ended) v h e =
    handing_left (record { flight = flight; from = from; to = to; began = began; ended = ended }) h
line_left (AsOf key time) v h e = calling_left (AsOf key time) v h
line_left (Changes key t1 t2 bytes) v h e = calling_left (Changes key t1 t2 bytes) v h
line_left StoreLog v h e = calling_left StoreLog v h
line_left (StorePage page) v h e = calling_left (StorePage page) v h
line_left Checkpoint v h e = calling_left Checkpoint v h
line_left (Block block) v {r} h e = alike_same (medium_in r) _
line_left (Page page) v {r} h e = alike_same (medium_in r) _
line_left (Poke offset byte) v {r} {s} h e = poked_left r offset byte s
line_left Other v {r} h e = alike_same (medium_in r) _

-- the room that stands so holds this state
room_holds : (t : Standing) (m c : List ℕ) (s : State) → Holds (room_of t m c s) s
unfolding room_of
room_holds t m c s =
    bool_case (ltb t.stage 2) (λ e. simp e is_gone)
    (λ e. bool_case (ltb t.stage 3) (λ f. simp (e, f) is_shut) (λ f. simp (e, f) is_ready))

pub alike_line : (a : Asked) (t : Standing) (m c : List ℕ) (s : State) → is_format a.call ≡ false
    → Alike (medium_in (room_of t m c s)) (block_of s a.call) (medium_in (turn_of a (room_of t m c s)).room)
unfolding turn_of
alike_line a t m c s e = line_left a.call a.value (room_holds t m c s) e
