-- The file of a run: its descriptor, and how the room stands before the first line.
use Rattle.std.specs.Prelude.{ℕ, ◌≡◌, true, List, Option, Some, None}
use Rattle.std.specs.Fd.{file_raw_fd}
use Rattle.std.specs.declared.fs.File.{File}
use Rattle.files.specs.Codes.{is_free}
use Rattle.rooms.specs.declared.parts.Standing.{Standing}
use Rattle.disk.specs.Named.{named_by}

-- striproom, "Program and launcher": a file has a descriptor of its own, neither a standard stream's nor that of the exit
-- code
abbrev pub IsApart : Option ℕ → File → Type 0
IsApart to file = is_free (file_raw_fd file) to ≡ true

-- striproom, "A missing file": the same of a file that may be missing
abbrev pub Apart : Option ℕ → Option File → Type 0
Apart to (Some file) = IsApart to file
Apart to None = Unit {0}

-- striproom, "The file is the medium" and "A missing file": the room with the medium that was read, so many bytes, or
-- without one
abbrev pub first_of : Option ℕ → List ℕ → Standing
first_of (Some n) m = named_by m n
first_of None m = record { stage = 1; blocks = 0; pages = 0; bytes = 0 }
