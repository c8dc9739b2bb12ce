-- What a row says, and which rows may stand in a table.
use Rattle.std.specs.Prelude.{◌≡◌, ℕ, ◌^◌, ◌<◌, ◌≤◌, List, [], length, map, take, Some, None, Option, ◌≢◌, slice_index, slice_index_or}
use Rattle.rules.specs.Questions.{position}
use Rattle.voting.specs.Placements.{Seat}
use Rattle.assignment.specs.declared.row.Choice.{Choice}
use Rattle.assignment.specs.declared.row.Row.{Row}

abbrev pub no_choice : Choice
no_choice = record { practice = record { 0 = 0 }; weight = 0 }

-- the choices that the row counts
abbrev pub choices_in : Row → List Choice
choices_in r = take r.len r.choices

-- the row of these choices
abbrev pub row_of : List Choice → ℕ → Row
row_of choices none = record { choices = choices; none = none; len = length choices }

-- a row that says the same, where there are few choices
abbrev pub RowOf : List Choice → ℕ → Option Row → Type 0
RowOf choices none (Some r) = (choices_in r ≡ choices) × (r.none ≡ none)
RowOf choices none None = 12 < length choices

abbrev pub no_row : Row
no_row = row_of [] 0

abbrev pub size : Row → ℕ
size r = length (choices_in r)

abbrev pub choice_of : Row → ℕ → ℕ
choice_of r i = (slice_index_or (choices_in r) i no_choice).practice.0

abbrev pub weight_of : Row → ℕ → ℕ
weight_of r i = (slice_index_or (choices_in r) i no_choice).weight

-- the practices of the row's list
abbrev pub list : Row → List ℕ
list r = map (λ (c : Choice). c.practice.0) (choices_in r)

-- what a seat weighs by this row
abbrev pub weigh : Row → Seat → ℕ
weigh r None = r.none
weigh r (Some p) = weight_of r (position (list r) p)

-- a row over m practices: few choices, each known, each once, and no weight too great
pub record GoodRow (m : ℕ) (r : Row) : Type 0 where
  pub short : size r ≤ 12
  pub known : (i : ℕ) → i < size r → choice_of r i < m
  pub once : (i j : ℕ) → i < j → j < size r → choice_of r i ≢ choice_of r j
  pub modest : (i : ℕ) → i < size r → weight_of r i ≤ 2 ^ 30
  pub least : r.none ≤ 2 ^ 30

-- each practice has a place
abbrev pub Roomy : List ℕ → Type 0
Roomy places = (p : ℕ) → p < length places → 0 < slice_index places p

abbrev pub at : List Row → ℕ → Row
at rows t = slice_index_or rows t no_row

-- all rows are good
abbrev pub Standing : ℕ → List Row → Type 0
Standing m rows = (t : ℕ) → t < length rows → GoodRow m (at rows t)
