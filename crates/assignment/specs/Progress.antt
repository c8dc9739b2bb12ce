-- What the calls of a search speak of: how far it has come, and who was reached.
use Rattle.std.specs.Prelude.{◌≡◌, ℕ, ◌<◌, ◌≤◌, slice_index_or}
use Rattle.assignment.specs.declared.row.Choice.{Choice}
use Rattle.assignment.specs.declared.search.Search.{Search}
use Rattle.assignment.specs.declared.table.Table.{Table}
use Rattle.assignment.specs.Rows.{no_choice, choices_in, size}
use Rattle.assignment.specs.Searches.{Progress, progress_of, Reached}
use Rattle.assignment.specs.States.{row}

abbrev pub progress : Search → Progress
progress s = progress_of s.moves s.waiting s.reached

-- the search s' goes on with the table and the state of s
pub record Kept (s s' : Search) : Type 0 where
  pub table : s'.table.now ≡ s.table.now
  pub state : s'.state.now ≡ s.state.now

-- the search has come to t
pub record Comes (s : Search) (t : ℕ) : Type 0 where
  pub early : t ≤ s.state.now.newcomer
  pub reached : Reached s.state.now s.reached t

-- c stands on the row of t
abbrev pub IsChoice : Table → ℕ → Choice → Type 0
IsChoice T t c = (i : ℕ) × (i < size (row T t)) × (slice_index_or (choices_in (row T t)) i no_choice ≡ c)
