-- Prices go up where a search was stuck.
use Rattle.std.specs.Prelude.{◌≡◌, ℕ, ◌+◌, ◌^◌, ◌<◌, ◌≤◌, Bool, true, false, cond, List}
use Rattle.voting.specs.Placements.{Seat, Placement, Allowed}
use Rattle.voting.specs.Weights.{price_of}
use Rattle.assignment.specs.declared.table.Table.{Table}
use Rattle.assignment.specs.declared.state.State.{State}
use Rattle.assignment.specs.Rows.{list, weigh, weight_of}
use Rattle.assignment.specs.States.{row, choice, value, price, count, seat_of}
use Rattle.assignment.specs.Searches.{marked, inside, comes_to, Reached}

-- an allowed seat that was not reached lacks at least d to be tight for t
abbrev pub Spare : Table → State → List Bool → ℕ → ℕ → Type 0
Spare T S V t d =
    (s : Seat) → Allowed (list (row T t)) s → inside V s ≡ false → weigh (row T t) s + d ≤ value S t + price_of (price S) s

-- the same of the first i choices
abbrev pub SpareChoices : Table → State → List Bool → ℕ → ℕ → ℕ → Type 0
SpareChoices T S V t d i =
    (j : ℕ) → j < i → marked V (choice T t j) ≡ false → weight_of (row T t) j + d ≤ value S t + price S (choice T t j)

-- of each who was reached
abbrev pub Slack : Table → State → List Bool → ℕ → Type 0
Slack T S V d = (t : ℕ) → t ≤ S.newcomer → Reached S V t → Spare T S V t d

-- d more for each practice that was reached
abbrev pub Raised : (ℕ → ℕ) → (ℕ → ℕ) → List Bool → ℕ → Type 0
Raised old new V d = (p : ℕ) → new p ≡ old p + cond (marked V p) d 0

-- d less for each who was reached, where k is the newcomer
abbrev pub Lowered : (ℕ → ℕ) → (ℕ → ℕ) → ℕ → Placement → List Bool → ℕ → Type 0
Lowered old new k M V d = (t : ℕ) → new t + cond (comes_to k M V t) d 0 ≡ old t

-- what may be taken from the values
abbrev pub Lowerable : (ℕ → ℕ) → ℕ → Placement → List Bool → ℕ → Type 0
Lowerable old k M V d = (t : ℕ) → comes_to k M V t ≡ true → d ≤ old t

-- what may be added to the prices
abbrev pub Raisable : (ℕ → ℕ) → List Bool → ℕ → Type 0
Raisable old V d = (p : ℕ) → marked V p ≡ true → old p + d ≤ 2 ^ 30

-- the state after the raise
pub record Rise (S S' : State) (V : List Bool) (d : ℕ) : Type 0 where
  pub newcomer : S'.newcomer ≡ S.newcomer
  pub seats : (t : ℕ) → seat_of S' t ≡ seat_of S t
  pub counts : (p : ℕ) → count S' p ≡ count S p
  pub prices : Raised (price S) (price S') V d
  pub values : Lowered (value S) (value S') S.newcomer (seat_of S) V d
