-- What callers see of a round.
use Rattle.std.specs.Prelude.{ℕ, List, Some, None, Ok, Err, Option, Result}
use Rattle.rules.specs.declared.words.Practice.{Practice}
use Rattle.rules.specs.declared.words.Refusal.{Refusal}
use Rattle.rules.specs.Meaning.{Entries, Rules, meant}
use Rattle.voting.specs.Placements.{Seat, Placement, stored, seating}
use Rattle.round.specs.Steps.{State}
use Rattle.round.specs.declared.rounds.Round.{Round}

-- the placement of a table, if it stands
abbrev pub shown : Option ℕ → List (Option Practice) → Option Placement
shown None seats = None
shown (Some number) seats = Some (seating seats)

abbrev pub seen : {R : Type 0} → (R → Entries) → (R → Rules) → Round R → State
seen entries rules r = record { meaning = meant entries rules r.register; placement = shown r.table.seated r.table.seats }

-- an answer of seat, with the practice by its number
abbrev pub numbered : Result (Option Practice) Refusal → Result Seat Refusal
numbered (Ok seat) = Ok (stored seat)
numbered (Err r) = Err r
