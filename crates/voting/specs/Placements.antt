-- Placements, and which of them are feasible.
use Rattle.std.specs.Prelude.{◌≡◌, ℕ, ◌<◌, ◌≤◌, Bool, true, false, List, Some, None, Option, ◌==◌, slice_index_or}
use Rattle.rules.specs.declared.words.Practice.{Practice}
use Rattle.rules.specs.Meaning.{Entries, trainees, places_of, list_of}
use Rattle.rules.specs.Questions.{listed}
use Rattle.voting.specs.Totals.{many}

-- a practice, or no seat
abbrev pub Seat : Type 0
Seat = Option ℕ

-- a seat for each trainee, by number
abbrev pub Placement : Type 0
Placement = ℕ → Seat

-- the seat that a stored seat is, and the placement that stored seats are
abbrev pub stored : Option Practice → Seat
stored None = None
stored (Some p) = Some p.0

abbrev pub seating : List (Option Practice) → Placement
seating seats t = stored (slice_index_or seats t None)

-- the placement that a row of seats is: no seat past its end
abbrev pub seats_of : List Seat → Placement
seats_of row t = slice_index_or row t None

-- no seat, or a practice of the list
abbrev pub Allowed : List ℕ → Seat → Type 0
Allowed list None = Unit {0}
Allowed list (Some p) = listed list p ≡ true

abbrev pub sits : Seat → ℕ → Bool
sits None p = false
sits (Some q) p = q == p

abbrev pub placed : Seat → Bool
placed None = false
placed (Some q) = true

-- how many of the first n trainees are seated at p
abbrev pub seated_at : ℕ → Placement → ℕ → ℕ
seated_at n M p = many n (λ t. sits (M t) p)

-- how many of the first n trainees have a seat
abbrev pub seated : ℕ → Placement → ℕ
seated n M = many n (λ t. placed (M t))

-- each trainee has no seat, or a practice of the own list, and no practice seats more trainees than it has places
pub record Feasible (e : Entries) (M : Placement) : Type 0 where
  pub allowed : (t : ℕ) → t < trainees e → Allowed (list_of e t) (M t)
  pub fits : (p : ℕ) → seated_at (trainees e) M p ≤ places_of e p
