-- The one block of the medium that a line can change, and its bytes.
use Rattle.std.specs.Prelude.{ℕ, ◌-◌, ◌*◌, ◌/◌, min, cond, ltb}
use Rattle.fields.specs.Block.{log_block_at, page_block_at}
use Rattle.layout.specs.Journal.{sequence_of}
use Rattle.store.specs.declared.Phase.{Phase}
use Rattle.store.specs.declared.Phase.TheVariants.{Idle, FirstStored, SecondStored}
use Rattle.store.specs.declared.State.{State}
use Rattle.store.specs.State.{in_range}
use Rattle.script.specs.declared.call.Call.{Call}
use Rattle.script.specs.declared.call.Call.TheVariants.{Format, Open, OpenSized, Cut, Begin, Write, Erase, Read, Commit}
use Rattle.script.specs.declared.call.Call.TheVariants.{Abort, Hand, AsOf, Changes, StoreLog, StorePage, Checkpoint}
use Rattle.script.specs.declared.call.Call.TheVariants.{Block, Page, Poke, Other}

-- 01: "Sequence s is at block 3 + (s mod L)": the tail's; with sizes out of range a call is refused
unfoldable pub log_block : State → ℕ
log_block s = cond (in_range s.blocks s.pages) (log_block_at s.blocks (sequence_of s.tail)) 0

-- the block of a page that the medium has
unfoldable pub page_block : State → ℕ → ℕ
page_block s p = cond (in_range s.blocks s.pages) (cond (ltb p s.pages) (page_block_at s.blocks p) 0) 0

-- a checkpoint's three calls store blocks 1, 2 and 0
unfoldable pub phase_block : Phase → ℕ
phase_block Idle = 1
phase_block (FirstStored o t) = 2
phase_block (SecondStored o t) = 0

-- the block that a line can change; 0 for a line that changes none
unfoldable pub block_of : State → Call → ℕ
block_of s (Format l d) = 0
block_of s (Open byte) = 0
block_of s (OpenSized bytes) = 0
block_of s Cut = 0
block_of s (Begin clock) = 0
block_of s (Write number key) = log_block s
block_of s (Erase number key) = log_block s
block_of s (Read number key) = 0
block_of s (Commit number clock) = log_block s
block_of s (Abort number) = 0
block_of s (Hand flight from to began ended) = log_block s
block_of s (AsOf key time) = 0
block_of s (Changes key t1 t2 bytes) = 0
block_of s StoreLog = log_block s
block_of s (StorePage page) = page_block s page
block_of s Checkpoint = phase_block s.phase
block_of s (Block block) = 0
block_of s (Page page) = 0
block_of s (Poke offset byte) = offset / 512
block_of s Other = 0

-- where a block of a medium of n bytes begins; block 0 stands for one that it does not have
unfoldable pub start_of : ℕ → ℕ → ℕ
start_of k n = cond (ltb (512 * k) n) (512 * k) 0

-- how many bytes the medium has there, at most a block
unfoldable pub length_of : ℕ → ℕ → ℕ
length_of at n = min (n - at) 512
