-- What `relief` does with a room: it asks which call comes next and makes it, until none is left or 70 are made.
use Rattle.std.specs.Prelude.{ℕ, zero, suc, ◌≡◌, List, [], ◌∷◌, ◌++◌, Option, Some, None}
use Rattle.store.specs.declared.Relief.{Relief}
use Rattle.store.specs.declared.Relief.TheVariants.{StoreLog, StorePage, Checkpoint}
use Rattle.store.specs.declared.State.{State}
use Rattle.store.specs.Answer.{Outcome, answer_number}
use Rattle.store.specs.StoreLog.{store_log_of}
use Rattle.store.specs.StorePage.{store_page_of}
use Rattle.store.specs.Checkpoint.{checkpoint_of}
use Rattle.store.specs.Relief.{relief_of}
use Rattle.script.specs.Print.{decimal}

-- relief: "makes the call that is named": what it answers and leaves, of a state, a medium and a cache
unfoldable pub made_of : Relief → State → List ℕ → List ℕ → Outcome
made_of StoreLog s m c = store_log_of s m c
made_of (StorePage p) s m c = store_page_of s m c p
made_of Checkpoint s m c = checkpoint_of s m c

-- relief: "`S r`", "`K r`": a letter and a number
unfoldable pub line_text : ℕ → ℕ → List ℕ
line_text letter r = letter ∷ (32 ∷ (decimal r ++ (10 ∷ [])))

-- relief: "`P page r`"
unfoldable pub page_text : ℕ → ℕ → List ℕ
page_text p r = 80 ∷ (32 ∷ (decimal p ++ (32 ∷ (decimal r ++ (10 ∷ [])))))

-- relief: "a line for each: `S r`, `P page r` or `K r`, where r is 0 or the number of a refusal"
unfoldable pub call_text : Relief → ℕ → List ℕ
call_text StoreLog r = line_text 83 r
call_text (StorePage p) r = page_text p r
call_text Checkpoint r = line_text 75 r

-- relief: "`N` if nothing is left, `M` if more is left"
unfoldable pub end_text : Option Relief → List ℕ
end_text (Some next) = 77 ∷ 10 ∷ []
end_text None = 78 ∷ 10 ∷ []

-- relief: "prints a line for each", "the room as the calls left it": what is printed, and what is left
pub record Freed : Type 0 where
  pub text : List ℕ
  pub state : State
  pub medium : List ℕ
  pub cache : List ℕ

-- relief: "the room as the calls left it": this text, with this state, medium and cache
abbrev pub freed : List ℕ → State → List ℕ → List ℕ → Freed
freed t s m c = record { text = t; state = s; medium = m; cache = c }

-- relief: "prints a line for each": one line, and then the others
abbrev pub behind : List ℕ → Freed → Freed
behind t f = freed (t ++ f.text) f.state f.medium f.cache

-- relief: "makes the call .., and prints a line": and goes on with what the call left
abbrev pub goes_on : Relief → Outcome → (State → List ℕ → List ℕ → Freed) → Freed
goes_on next o rest = behind (call_text next (answer_number o.answer)) (rest o.state o.medium o.cache)

-- relief: "makes the call that is named, until nothing is left": by what comes next
abbrev pub freed_by : Option Relief → (State → List ℕ → List ℕ → Freed) → State → List ℕ → List ℕ → Freed
freed_by (Some next) rest s m c = goes_on next (made_of next s m c) rest
freed_by None rest s m c = freed (end_text None) s m c

-- relief: "makes the call that is named, until nothing is left, at most 70 times": at most n times
unfoldable pub freed_from : ℕ → State → List ℕ → List ℕ → Freed
freed_from zero s m c = freed (end_text (relief_of s m c)) s m c
freed_from (suc n) s m c = freed_by (relief_of s m c) (freed_from n) s m c

-- relief: "the room as the calls left it"
abbrev pub LeftAs : Freed → State → List ℕ → List ℕ → Type 0
LeftAs f s m c = (s ≡ f.state) × (m ≡ f.medium) × (c ≡ f.cache)
