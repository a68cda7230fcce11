-- What goes wrong outside: the exit codes and their messages.
use Rattle.std.specs.Prelude.{ℕ, Bool, false, cond, not, List, [], eqb, ltb, ℤ, pos, negsuc, Option, Some, None, Result, Ok, Err, codes}
use Rattle.std.specs.declared.fs.File.{File}
use Rattle.files.specs.declared.LoadError.{LoadError}
use Rattle.files.specs.declared.LoadError.TheVariants.{TooLong as longer, Failed}
use Rattle.files.specs.declared.StoreError.{StoreError}
use Rattle.files.specs.declared.StoreError.TheVariants.{Unwritten as untaken, Unsynced as unsaid}
use Rattle.files.specs.declared.failure.Failure.{Failure}
use Rattle.files.specs.declared.failure.Failure.TheVariants.{Usage, Missing, NotRegular, Inaccessible, TooLong, Unread, Unwritten, Unsynced}

-- striproom, the table of the exit codes: the code of each failure
abbrev pub failure_code : Failure → ℕ
failure_code Usage = 2
failure_code Missing = 3
failure_code NotRegular = 4
failure_code Inaccessible = 5
failure_code TooLong = 6
failure_code Unread = 7
failure_code Unwritten = 8
failure_code Unsynced = 9

-- striproom, codes 3 to 5: an opening that failed, by its errno: 2 says that the file is missing, which is no failure yet,
-- and 21 that it is a directory; none: a name that is no text
abbrev pub opening_failure : Option ℤ → Option Failure
opening_failure (Some (pos k)) = cond (eqb k 2) None (cond (eqb k 21) (Some NotRegular) (Some Inaccessible))
opening_failure (Some (negsuc k)) = Some Inaccessible
opening_failure None = Some Inaccessible

-- striproom, code 3: "the file is missing, and a line other than an accepted `F` comes first": such a line, which ends the
-- run, with the file or without one
abbrev pub unplayed_of : Option File → Result Unit Failure
unplayed_of (Some file) = Ok tt
unplayed_of None = Err Missing

-- striproom, codes 6 and 7: "longer than the longest medium", "reading it failed, or it ended early"
abbrev pub load_failure : LoadError → Failure
load_failure longer = TooLong
load_failure Failed = Unread

-- striproom, codes 8 and 9: "a write failed, or took fewer bytes", "the system could not say that it is stored"
abbrev pub store_failure : StoreError → Failure
store_failure untaken = Unwritten
store_failure unsaid = Unsynced

-- striproom, "Program and launcher": a descriptor that is neither a standard stream's nor that of the exit code, if that
-- is written to one
abbrev pub is_free : ℤ → Option ℕ → Bool
is_free (pos k) (Some to) = cond (ltb k 3) false (not (eqb k to))
is_free (pos k) None = not (ltb k 3)
is_free (negsuc k) to = false

-- striproom, the table of the exit codes: what each says behind the file's name; how to use the program is said by itself
abbrev pub message_of : Failure → List ℕ
message_of Usage = []
message_of Missing = codes "no such file"
message_of NotRegular = codes "not a regular file"
message_of Inaccessible = codes "not readable or writable"
message_of TooLong = codes "no medium is that long"
message_of Unread = codes "not read"
message_of Unwritten = codes "not written: the next opening finds what is stored"
message_of Unsynced = codes "not stored: the next opening finds what is stored"
