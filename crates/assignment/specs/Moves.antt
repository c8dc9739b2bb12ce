-- A list of moves, read by position.
use Rattle.std.specs.Prelude.{ℕ, List, None, slice_index_or}
use Rattle.rules.specs.declared.words.Move.{Move}
use Rattle.voting.specs.Placements.{Seat, stored}

abbrev pub no_move : Move
no_move = record { trainee = record { 0 = 0 }; left = None; taken = record { 0 = 0 } }

-- who moves, from which seat, to which practice
abbrev pub mover : List Move → ℕ → ℕ
mover ms j = (slice_index_or ms j no_move).trainee.0

abbrev pub origin : List Move → ℕ → Seat
origin ms j = stored (slice_index_or ms j no_move).left

abbrev pub goal : List Move → ℕ → ℕ
goal ms j = (slice_index_or ms j no_move).taken.0
