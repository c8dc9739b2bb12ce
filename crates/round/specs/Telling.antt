-- A round and its account: what ties them, and that the law goes on call by call.
use Rattle.std.specs.Prelude.{◌≡◌, ℕ, List, [], ◌∷◌, ◌++◌, length}
use Rattle.rules.specs.Meaning.{Meaning, trainees}
use Rattle.round.specs.Account.{Event, standing, Seats, Law}
use Rattle.round.specs.Steps.{State, seat_answer}

-- The account tells of a round: the law holds of it, the register means the standing entries, and whatever seat would answer now is as
-- the law has it.
pub record Tells (m₀ : Meaning) (account : List Event) (s : State) : Type 0 where
  pub law : Law m₀ account
  pub means : s.meaning ≡ standing m₀ account
  pub seats : (t : ℕ) → Seats account (length account) (trainees s.meaning.entries) t (seat_answer s t)

-- A call takes the round from s to s': whatever account told of s, that account with the call at its end tells of s'.
abbrev pub GoesOn : State → Event → State → Type 0
GoesOn s e s' = (m₀ : Meaning) (account : List Event) → Tells m₀ account s → Tells m₀ (account ++ e ∷ []) s'
