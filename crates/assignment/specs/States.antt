-- What the state of the engine means, and when it is sound.
use Rattle.std.specs.Prelude.{◌≡◌, ℕ, ◌+◌, ◌^◌, ◌<◌, ◌≤◌, List, length, Some, None, slice_index, slice_index_or}
use Rattle.std.specs.Coded.{Unit-prop}
use Rattle.std.proofs.Props.{props}
use Rattle.voting.specs.Placements.{Seat, Placement, Allowed, stored, seated_at}
use Rattle.voting.specs.Weights.{price_of}
use Rattle.assignment.specs.declared.row.Row.{Row}
use Rattle.assignment.specs.declared.table.Table.{Table}
use Rattle.assignment.specs.declared.state.PracticeState.{PracticeState}
use Rattle.assignment.specs.declared.state.State.{State}
use Rattle.assignment.specs.declared.state.TraineeState.{TraineeState}
use Rattle.assignment.specs.Rows.{at, choice_of, list, weigh}

abbrev pub trainees_in : Table → ℕ
trainees_in T = length T.rows.items

abbrev pub practices_in : Table → ℕ
practices_in T = length T.places.items

abbrev pub row : Table → ℕ → Row
row T t = at T.rows.items t

abbrev pub choice : Table → ℕ → ℕ → ℕ
choice T t i = choice_of (row T t) i

abbrev pub capacity : Table → ℕ → ℕ
capacity T p = slice_index T.places.items p

-- what stands past the end
abbrev pub no_trainee_state : TraineeState
no_trainee_state = record { seat = None; value = 0 }

abbrev pub no_practice_state : PracticeState
no_practice_state = record { count = 0; price = 0 }

abbrev pub seats_in : List TraineeState → Placement
seats_in ts t = stored (slice_index_or ts t no_trainee_state).seat

abbrev pub value_in : List TraineeState → ℕ → ℕ
value_in ts t = (slice_index_or ts t no_trainee_state).value

abbrev pub price_in : List PracticeState → ℕ → ℕ
price_in ps p = (slice_index_or ps p no_practice_state).price

abbrev pub count_in : List PracticeState → ℕ → ℕ
count_in ps p = (slice_index_or ps p no_practice_state).count

abbrev pub seat_of : State → Placement
seat_of S = seats_in S.trainees

abbrev pub value : State → ℕ → ℕ
value S = value_in S.trainees

abbrev pub price : State → ℕ → ℕ
price S = price_in S.practices

abbrev pub count : State → ℕ → ℕ
count S = count_in S.practices

-- a seat is allowed in one way
pub Allowed-prop : (list : List ℕ) (s : Seat) → IsProp (Allowed list s)
Allowed-prop list None = Unit-prop
Allowed-prop list (Some p) = Prim.hlevel props

pub record Sound (T : Table) (S : State) : Type 0 where
  -- no allowed seat weighs more than the trainee's value and its price, and the own seat weighs just that
  pub priced :
      (t : ℕ) (s : Seat) → t < trainees_in T → Allowed (list (row T t)) s → weigh (row T t) s ≤ value S t + price_of (price S) s
  pub allowed : (t : ℕ) → t < S.newcomer → Allowed (list (row T t)) (seat_of S t)
  pub tight : (t : ℕ) → t < S.newcomer → weigh (row T t) (seat_of S t) ≡ value S t + price_of (price S) (seat_of S t)
  -- nobody from the newcomer on has a seat
  pub later : (t : ℕ) → S.newcomer ≤ t → seat_of S t ≡ None
  pub counted : (p : ℕ) → p < practices_in T → count S p ≡ seated_at (trainees_in T) (seat_of S) p
  pub fits : (p : ℕ) → p < practices_in T → count S p ≤ capacity T p
  -- what has a price is full
  pub full : (p : ℕ) → 0 < price S p → (p < practices_in T) × (count S p ≡ capacity T p)
  pub cheap : (p : ℕ) → price S p ≤ 2 ^ 30
  pub modest : (t : ℕ) → value S t ≤ 2 ^ 30

-- a seat that t would take at these prices
pub record Tight (T : Table) (S : State) (t : ℕ) (s : Seat) : Type 0 where
  pub allowed : Allowed (list (row T t)) s
  pub exact : weigh (row T t) s ≡ value S t + price_of (price S) s

-- there is a newcomer to place
pub record Ready (T : Table) (S : State) : Type 0 where
  pub sound : Sound T S
  pub next : S.newcomer < trainees_in T
