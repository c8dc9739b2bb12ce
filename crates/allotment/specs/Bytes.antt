-- Seats as bytes of sheets and callers' buffers: a practice's number, or 255 for no seat.
use Rattle.std.specs.Prelude.{ℕ, cond, List, ◌++◌, map, drop, Some, None, ◌==◌, slice_index_or}
use Rattle.std.specs.List.{range_with_len}
use Rattle.voting.specs.Placements.{Seat, Placement}

abbrev pub seat_of_byte : ℕ → Seat
seat_of_byte b = cond (b == 255) None (Some b)

abbrev pub byte_of_seat : Seat → ℕ
byte_of_seat None = 255
byte_of_seat (Some p) = p

-- the placement that bytes offer, one a trainee
abbrev pub offered_by : List ℕ → Placement
offered_by bytes t = seat_of_byte (slice_index_or bytes t 255)

-- the bytes of the first n seats
abbrev pub bytes_of : ℕ → Placement → List ℕ
bytes_of n M = map (λ t. byte_of_seat (M t)) (range_with_len 0 n)

-- the buffer with the first n seats in its first bytes, and its later bytes as they were
abbrev pub written : ℕ → Placement → List ℕ → List ℕ
written n M buffer = bytes_of n M ++ drop n buffer
