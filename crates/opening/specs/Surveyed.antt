-- What a survey of a medium finds.
use Rattle.std.specs.Prelude.{ℕ, ◌≡◌, true, false, List, Option, None, Some}
use Rattle.layout.specs.Master.{oldest_on}
use Rattle.store.specs.OpenLog.{read_count, read_log, log_end}
use Rattle.store.specs.OpenConditions.{redone, copied}
use Rattle.conditions.specs.declared.cursor.Cursor.{Cursor}
use Rattle.conditions.specs.Passes.{medium_ok, redo_ok}

-- what reading master, log blocks and pages finds
pub record ReadGood (m : List ℕ) (l d : ℕ) (log : Cursor) (e : ℕ) : Type 0 where
  pub ok : medium_ok m l d ≡ true
  pub sequence : log.sequence ≡ oldest_on m
  pub at : log.at ≡ 10
  pub left : log.left ≡ read_count m l
  pub end : e ≡ log_end m l

abbrev pub ReadAs : List ℕ → ℕ → ℕ → Option (Cursor × ℕ) → Type 0
ReadAs m l d (Some (log, e)) = ReadGood m l d log e
ReadAs m l d None = medium_ok m l d ≡ false

-- a medium whose log was read and applied: the cache c and the first changes are those that redo leaves
pub record Applied (m : List ℕ) (l d : ℕ) (log : Cursor) (e : ℕ) (c fs : List ℕ) : Type 0 where
  pub read : ReadGood m l d log e
  pub redo : redo_ok (copied m l d) (read_log m l) ≡ true
  pub cache : c ≡ (redone m l d).cache
  pub first : fs ≡ (redone m l d).first
