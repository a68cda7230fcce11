-- Words for runs and for what is seen of them.
use Rattle.std.specs.Prelude.{ℕ, ◌*◌, true, false, List, [], replicate, None, Some}
use Rattle.runs.specs.Event.{Event, opening, Strip, missing, Sight, Observation}

-- sixteen equal bytes
abbrev pub bytes : ℕ → List ℕ
bytes b = replicate 16 b

-- an opening with a cache of right length, as it may lie there
abbrev pub opened : ℕ → Event
opened d = opening (replicate (512 * d) 255)

-- ---- what is seen

-- a number, slot or time, or the 0 of a call that has no other answer
abbrev pub answers : ℕ → Observation
answers n = record { refusal = 0; result = n; strip = missing; changed = false; buffer = []; found = [] }

-- the same, where the call changed a log block on the medium
abbrev pub stores : ℕ → Observation
stores n = record { refusal = 0; result = n; strip = missing; changed = true; buffer = []; found = [] }

abbrev pub reads : Strip → Observation
reads s = record { refusal = 0; result = 0; strip = s; changed = false; buffer = []; found = [] }

abbrev pub lists : ℕ → List ℕ → Observation
lists n b = record { refusal = 0; result = n; strip = missing; changed = false; buffer = b; found = [] }

-- an accepted opening: the last time, and the slots
abbrev pub finds : ℕ → List Sight → Observation
finds t s = record { refusal = 0; result = t; strip = missing; changed = false; buffer = []; found = s }

abbrev pub refuses : ℕ → Observation
refuses n = record { refusal = n; result = 0; strip = missing; changed = false; buffer = []; found = [] }

-- a slot of a record with a value of equal bytes: at a time, and without one
abbrev pub at : ℕ → ℕ → ℕ → Sight
at t key b = record { key = key; kind = 0; value = bytes b; time = Some t }

abbrev pub waits : ℕ → ℕ → Sight
waits key b = record { key = key; kind = 0; value = bytes b; time = None }
