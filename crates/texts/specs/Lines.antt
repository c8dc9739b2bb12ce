-- The lines that people read, each ended by the byte 10.
use Rattle.std.specs.Prelude.{ℕ, List, [], ◌∷◌, ◌++◌, Some, None, codes, decimal}
use Rattle.std.specs.List.{range_with_len, flat_map}
use Rattle.rules.specs.declared.words.Refusal.{Refusal}
use Rattle.rules.specs.Words.{number_of, word_of}
use Rattle.voting.specs.Placements.{Seat, Placement, seated}

abbrev pub line : List ℕ → List ℕ
line words = words ++ 10 ∷ []

-- refused N LAYER PLACE
abbrev pub refusal_words : Refusal → List ℕ
refusal_words r = codes "refused " ++ decimal (number_of r.reason) ++ codes " " ++ word_of r.layer ++ codes " " ++ decimal r.place

-- a practice, or - for no seat
abbrev pub seat_word : Seat → List ℕ
seat_word None = codes "-"
seat_word (Some p) = decimal p

-- TRAINEE SEAT
abbrev pub seat_words : ℕ → Seat → List ℕ
seat_words t s = decimal t ++ codes " " ++ seat_word s

-- a line for each of n trainees
abbrev pub seat_lines : ℕ → Placement → List ℕ
seat_lines n M = flat_map (λ t. line (seat_words t (M t))) (range_with_len 0 n)

-- placed K of N, and a line for each trainee
abbrev pub placement_lines : ℕ → Placement → List ℕ
placement_lines n M = line (codes "placed " ++ decimal (seated n M) ++ codes " of " ++ decimal n) ++ seat_lines n M

-- majority K, and a line for each trainee
abbrev pub rival_lines : ℕ → ℕ → Placement → List ℕ
rival_lines n k N = line (codes "majority " ++ decimal k) ++ seat_lines n N
