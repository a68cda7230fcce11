-- Where a line leads that was played, stored and answered: as for `replay`, but one line at a time.
use Rattle.std.specs.Prelude.{ℕ, ◌≡◌, Bool, List, length, take}
use Rattle.script.specs.declared.line.Line.{Line}
use Rattle.script.specs.Run.{Stand}
use Rattle.rooms.specs.Room.{Room, Turn}

-- striproom: "plays a script .. in the language of `replay`": the room behind a line, and the output, whose first bytes are
-- what the line prints
abbrev pub Answered : Turn → Room → List ℕ → Type 0
Answered t r out = (r ≡ t.room) × (take (length t.text) out ≡ t.text)

-- striproom: "plays a script .. in the language of `replay`": a run's place by its line, its room and whether it goes on,
-- and the output, whose first bytes are what was printed
abbrev pub Leads : Stand Room → Line → Room → Bool → List ℕ → Type 0
Leads u l r on out = (l ≡ u.line) × (r ≡ u.world) × (on ≡ u.on) × (take (length u.out) out ≡ u.out)
