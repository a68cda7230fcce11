-- The places that table and log give, as the code lays them.
use Rattle.std.specs.Prelude.{ℕ, cond, not, ◌&&◌, List, [], ◌∷◌, eqb, ltb, Option, Some, None}
use Rattle.layout.specs.Table.{table_pair}
use Rattle.layout.specs.declared.TxNumber.{TxNumber}
use Rattle.layout.specs.declared.CommitTime.{CommitTime}
use Rattle.store.specs.declared.Life.TheVariants.{Committed}
use Rattle.store.specs.declared.Place.{Place}
use Rattle.store.specs.Places.{first, is_free, place_at, free_place}
use Rattle.store.specs.OpenLog.{Placed, Commitment, commit_under}
use Rattle.opening.specs.declared.waiting.Waiting.{Waiting}
use Rattle.store.specs.OpenPairs.{end_of_commitment, table_find, take_at, time_or_zero}

-- a live committed transaction's place, with its commit in the log, if there is one, and its waiting versions counted
unfoldable pub place_of : Option Commitment → TxNumber → CommitTime → ℕ → Place
place_of found n t waiting = record {
  life = Committed n t (record { 0 = end_of_commitment found });
  waiting = waiting;
}

-- the place that table place i gives, with f for how many versions wait under a number
unfoldable pub table_place : List ℕ → List Placed → (ℕ → ℕ) → ℕ → Place
table_place m log f i =
    cond (not (eqb (table_pair m i).number.0 0) && ltb 0 (f (table_pair m i).number.0))
    (place_of (commit_under log (table_pair m i).number.0) (table_pair m i).number (table_pair m i).time (f (table_pair m i).number.0))
    free_place

-- the first free place, if the table has none for a number
unfoldable pub free_unless : Option ℕ → List Place → Option ℕ
free_unless (Some i) ps = None
free_unless None ps = first (λ i. is_free (place_at ps i).life) 64 0

-- the places with a number's, and with those of a list
unfoldable pub take_one : List ℕ → List Placed → List Place → Waiting → List Place
take_one m log ps w =
    take_at (free_unless (table_find m w.number) ps) ps
    (place_of (commit_under log w.number) (record { 0 = w.number }) (record { 0 = time_or_zero (commit_under log w.number) }) w.count)

unfoldable pub take_all : List ℕ → List Placed → List Place → List Waiting → List Place
take_all m log ps [] = ps
take_all m log ps (w ∷ ws) = take_all m log (take_one m log ps w) ws
