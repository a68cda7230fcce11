-- What a line leaves in the file that holds the medium.
use Rattle.std.specs.Prelude.{ℕ, ◌-◌, ◌*◌, min, ◌≡◌, Bool, true, false, cond, List, length}
use Rattle.fields.specs.Part.{splice}
use Rattle.script.specs.declared.call.Call.{Call}
use Rattle.script.specs.declared.call.Call.TheVariants.{Format, Open, OpenSized, Cut, Begin, Write, Erase, Read, Commit}
use Rattle.script.specs.declared.call.Call.TheVariants.{Abort, Hand, AsOf, Changes, StoreLog, StorePage, Checkpoint}
use Rattle.script.specs.declared.call.Call.TheVariants.{Block, Page, Poke, Other}

-- replay, `F L D`: "format a fresh medium": the line that makes every block anew
unfoldable pub is_format : Call → Bool
is_format (Format l d) = true
is_format (Open byte) = false
is_format (OpenSized bytes) = false
is_format Cut = false
is_format (Begin clock) = false
is_format (Write number key) = false
is_format (Erase number key) = false
is_format (Read number key) = false
is_format (Commit number clock) = false
is_format (Abort number) = false
is_format (Hand flight from to began ended) = false
is_format (AsOf key time) = false
is_format (Changes key t1 t2 bytes) = false
is_format StoreLog = false
is_format (StorePage page) = false
is_format Checkpoint = false
is_format (Block block) = false
is_format (Page page) = false
is_format (Poke offset byte) = false
is_format Other = false

-- a file after at most one write, of these bytes from `at` on
unfoldable pub stored : Bool → List ℕ → ℕ → List ℕ → List ℕ
stored changed file at bytes = cond changed (splice file at bytes) file

-- 01: "A store replaces one block": so many bytes from `at` on are one block of a medium, or what it has of its last
pub record Whole (m : List ℕ) (at len : ℕ) : Type 0 where
  pub block : ℕ
  pub begins : at ≡ 512 * block
  pub ends : len ≡ min (length m - at) 512
