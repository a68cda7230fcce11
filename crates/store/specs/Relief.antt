-- Out of a full log: which call comes next.
use Rattle.std.specs.Prelude.{ℕ, Bool, true, false, not, cond, ◌&&◌, ◌||◌, List, [], ◌∷◌, length, eqb, Option, Some, None}
use Rattle.layout.specs.Master.{oldest_on}
use Rattle.store.specs.declared.Phase.{Phase}
use Rattle.store.specs.declared.Phase.TheVariants.{Idle, FirstStored, SecondStored}
use Rattle.store.specs.declared.Refusal.{Refusal}
use Rattle.store.specs.declared.Relief.{Relief}
use Rattle.store.specs.declared.Relief.TheVariants.{StoreLog, StorePage, Checkpoint}
use Rattle.store.specs.declared.State.{State}
use Rattle.store.specs.Places.{first}
use Rattle.store.specs.State.{fits}
use Rattle.store.specs.StoreLog.{store_log_asks}
use Rattle.store.specs.StorePage.{store_page_asks}
use Rattle.store.specs.Checkpoint.{new_oldest}

-- 01: "In this order, those that fit the call": is every question answered "yes"?
abbrev pub all_yes : List (Bool × Refusal) → Bool
all_yes [] = true
all_yes (q ∷ qs) = q.0 && all_yes qs

-- 02, #114: "each page that differs": the first page whose store is not refused
unfoldable pub page_left : State → List ℕ → List ℕ → Option ℕ
page_left s m c = first (λ p. all_yes (store_page_asks s m c p)) s.pages 0

-- 02, #114: "finish a checkpoint under way": is one under way?
abbrev pub under_way : Phase → Bool
under_way Idle = false
under_way (FirstStored o t) = true
under_way (SecondStored o t) = true

-- 02, #114: "finish a checkpoint under way, and make one more": is one under way, or would one move the oldest block?
unfoldable pub checkpoint_left : State → List ℕ → Bool
checkpoint_left s m = under_way s.phase || not (eqb (new_oldest s) (oldest_on m))

-- 02, #114: "each page that differs, finish a checkpoint under way, and make one more": the next call, by the page found
abbrev pub after_log : Option ℕ → Bool → Option Relief
after_log (Some p) more = Some (StorePage p)
after_log None more = cond more (Some Checkpoint) None

-- 02, #114: "store the log if it differs, each page that differs, finish a checkpoint under way, and make one more": the
-- next of these calls. None is left where no call is accepted, since state and buffers do not fit.
unfoldable pub relief_of : State → List ℕ → List ℕ → Option Relief
relief_of s m c =
    cond (fits s (length m) (length c))
    (cond (all_yes (store_log_asks s m c)) (Some StoreLog) (after_log (page_left s m c) (checkpoint_left s m)))
    None
