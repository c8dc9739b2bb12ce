-- The worked rounds: small lawful rolls, and what holds of each.
use Rattle.std.specs.Prelude.{◌≡◌, ℕ, List, [], ◌∷◌, Some, None}
use Rattle.std.specs.List.{AllByRecursion}
use Rattle.rules.specs.Meaning.{Entries, Lawful, trainees}
use Rattle.voting.specs.Placements.{Seat, Placement, Feasible, seated, seats_of}
use Rattle.voting.specs.Votes.{Fullest, EachBeaten, Strongest}

-- what can be said of a round
pub data Outcome : Type 0 where
  -- there is a fullest placement, and each seats so many
  seats : ℕ → Outcome
  -- this placement is a fullest
  fullest : List Seat → Outcome
  -- each feasible placement is beaten
  none_unbeaten : Outcome
  -- the greatest majority over this feasible placement
  challenged : List Seat → ℕ → Outcome

abbrev pub Says : Entries → Outcome → Type 0
Says e (seats k) = ((M : Placement) × Fullest e M) × ((M : Placement) → Fullest e M → seated (trainees e) M ≡ k)
Says e (fullest row) = Fullest e (seats_of row)
Says e none_unbeaten = EachBeaten e
Says e (challenged row k) = Feasible e (seats_of row) × ((N : Placement) × Strongest e (seats_of row) k N)

pub record Round : Type 0 where
  pub entries : Entries
  pub outcomes : List Outcome

abbrev pub round : List ℕ → List (List ℕ) → List Outcome → Round
round places lists outcomes = record { entries = record { places = places; lists = lists }; outcomes = outcomes }

abbrev pub Holds : Round → Type 0
Holds r = Lawful r.entries × AllByRecursion (Says r.entries) r.outcomes

-- three trainees with the same list of two practices
abbrev pub three_alike : List (List ℕ)
three_alike = (0 ∷ 1 ∷ []) ∷ (0 ∷ 1 ∷ []) ∷ (0 ∷ 1 ∷ []) ∷ []

abbrev pub rounds : List Round
rounds =
    round [] [] (seats 0 ∷ []) ∷
    round (1 ∷ []) ([] ∷ []) (seats 0 ∷ []) ∷
    round (1 ∷ 1 ∷ []) ((0 ∷ 1 ∷ []) ∷ (0 ∷ []) ∷ [] ∷ []) (seats 2 ∷ fullest (Some 1 ∷ Some 0 ∷ None ∷ []) ∷ []) ∷
    round (1 ∷ 1 ∷ []) three_alike (none_unbeaten ∷ []) ∷
    round (2 ∷ []) ((0 ∷ []) ∷ (0 ∷ []) ∷ (0 ∷ []) ∷ []) (seats 2 ∷ []) ∷
    round (2 ∷ 1 ∷ []) ((0 ∷ []) ∷ (1 ∷ 0 ∷ []) ∷ (1 ∷ []) ∷ []) (seats 3 ∷ fullest (Some 0 ∷ Some 0 ∷ Some 1 ∷ []) ∷ []) ∷
    round (1 ∷ 1 ∷ []) ((0 ∷ 1 ∷ []) ∷ (0 ∷ 1 ∷ []) ∷ []) (seats 2 ∷ challenged (Some 0 ∷ None ∷ []) 1 ∷ []) ∷
    round (1 ∷ 1 ∷ []) three_alike (challenged (Some 0 ∷ Some 1 ∷ None ∷ []) 1 ∷ []) ∷ []

abbrev pub WorkedRounds : Type 0
WorkedRounds = AllByRecursion Holds rounds
