-- What the answers of the system's calls on a file mean. No answer goes by which error a call gave.
use Rattle.std.specs.Prelude.{ℕ, Bool, false, cond, eqb, leb, bit_and, Result, Ok, Err}
use Rattle.std.specs.Fs.{metadata_mode}
use Rattle.std.specs.declared.fs.attrs.Metadata.{Metadata}
use Rattle.files.specs.declared.LoadError.{LoadError}
use Rattle.files.specs.declared.LoadError.TheVariants.{TooLong, Failed}
use Rattle.files.specs.declared.StoreError.{StoreError}
use Rattle.files.specs.declared.StoreError.TheVariants.{Unsynced}

-- striproom, code 4: "a directory, a pipe, a device": what `fstat` answers, and the mode in it, of which the bits 61440 tell
-- the kind of file, and 32768 among them a regular one
abbrev pub says_regular : {E : Type 0} → Result Metadata E → Bool
says_regular (Ok said) = eqb (bit_and (metadata_mode said) 61440) 32768
says_regular (Err e) = false

-- striproom, code 8: "a write failed, or took fewer bytes", and code 7: "reading it failed, or it ended early": did a call
-- that was handed n bytes move them all?
abbrev pub is_whole : {E : Type 0} → Result ℕ E → ℕ → Bool
is_whole (Ok k) n = eqb k n
is_whole (Err e) n = false

-- striproom, code 6: "the file is longer than the longest medium", and code 7: "reading it failed": what there is to read
-- of a file that ends there
abbrev pub length_of : {E : Type 0} → Result ℕ E → ℕ → Result ℕ LoadError
length_of (Ok k) most = cond (leb k most) (Ok k) (Err TooLong)
length_of (Err e) most = Err Failed

-- striproom, code 9: "the system could not say that it is stored": a sync that succeeds says so
abbrev pub synced_of : {E : Type 0} → Result Unit E → Result Unit StoreError
synced_of (Ok done) = Ok done
synced_of (Err e) = Err Unsynced
