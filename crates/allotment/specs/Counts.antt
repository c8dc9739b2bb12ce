-- Counts of seats, as arrays hold them.
use Rattle.std.specs.Prelude.{◌≡◌, ℕ, ◌<◌, Bool, true, ◌&&◌, List, Some, None, nat_lt, slice_index}
use Rattle.rules.specs.Meaning.{Entries, places_of, list_of}
use Rattle.rules.specs.Questions.{listed}
use Rattle.voting.specs.Placements.{Seat, Placement, seated_at}

-- no seat, or a practice below m
abbrev pub Below : ℕ → Seat → Type 0
Below m None = Unit {0}
Below m (Some p) = p < m

-- for each practice, how many of the first n trainees are seated there
abbrev pub Counted : ℕ → Placement → List ℕ → Type 0
Counted n M counts = (p : ℕ) → slice_index counts p ≡ seated_at n M p

-- the seat is none or on the own list, and its practice has a place left beside those counted
abbrev pub seat_fits : Entries → ℕ → List ℕ → Seat → Bool
seat_fits e t counts None = true
seat_fits e t counts (Some p) = listed (list_of e t) p && nat_lt (slice_index counts p) (places_of e p)
