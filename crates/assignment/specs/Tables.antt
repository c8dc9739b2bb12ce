-- What a table says, and when it takes a row.
use Rattle.std.specs.Prelude.{◌≡◌, ℕ, ◌<◌, ◌≤◌, Bool, true, false, List, [], ◌∷◌, ◌++◌, map, length, Some, None, Ok, Err, Option, Result}
use Rattle.rules.specs.Meaning.{Entries, trainees, practices}
use Rattle.voting.specs.Placements.{Seat}
use Rattle.voting.specs.Weights.{Weighing}
use Rattle.assignment.specs.declared.row.Row.{Row}
use Rattle.assignment.specs.declared.table.NotTaken.{NotTaken}
use Rattle.assignment.specs.declared.table.NotTaken.TheVariants.{Full, Unfit}
use Rattle.assignment.specs.declared.table.Table.{Table}
use Rattle.assignment.specs.Rows.{at, list, weigh, GoodRow, Roomy}

abbrev pub entries : Table → Entries
entries T = record { places = T.places.items; lists = map list T.rows.items }

abbrev pub weights : Table → Weighing
weights T t s = weigh (at T.rows.items t) s

-- a table is opened where there are few practices and each has a place
abbrev pub Opened : List ℕ → Option Table → Type 0
Opened places None = (length places ≤ 100) × Roomy places → ⊥
Opened places (Some T) = (length places ≤ 100) × Roomy places × (entries T ≡ record { places = places; lists = [] })

-- the same of a table that is there already: where it is not opened, it stays as it was
abbrev pub OpenedAt : Table → List ℕ → Bool → Table → Type 0
OpenedAt T places true T' = (length places ≤ 100) × Roomy places × (entries T' ≡ record { places = places; lists = [] })
OpenedAt T places false T' = ((length places ≤ 100) × Roomy places → ⊥) × (T' ≡ T)

-- where one more row may stand
pub record Takes (T : Table) (r : Row) : Type 0 where
  pub few : trainees (entries T) < 400
  pub good : GoodRow (practices (entries T)) r

-- the table T' is T with the row behind the others
pub record Extended (T : Table) (r : Row) (T' : Table) : Type 0 where
  pub places : (entries T').places ≡ (entries T).places
  pub lists : (entries T').lists ≡ (entries T).lists ++ list r ∷ []
  pub earlier : (t : ℕ) (s : Seat) → t < trainees (entries T) → weights T' t s ≡ weights T t s
  pub last : (s : Seat) → weights T' (trainees (entries T)) s ≡ weigh r s

-- why a row may not stand there: the table is full, or else the row is not good
abbrev pub Because : Table → Row → NotTaken → Type 0
Because T r Full = trainees (entries T) ≡ 400
Because T r Unfit = (trainees (entries T) < 400) × (GoodRow (practices (entries T)) r → ⊥)

abbrev pub Added : Table → Row → Result (Unit {0}) NotTaken → Table → Type 0
Added T r (Ok _) T' = Takes T r × Extended T r T'
Added T r (Err e) T' = (Takes T r → ⊥) × (T' ≡ T) × Because T r e
