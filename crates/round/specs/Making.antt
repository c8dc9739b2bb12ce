-- How a call of a script is made.
use Rattle.std.specs.Prelude.{◌≡◌, ℕ, ◌<◌, List, length, Some, Ok, Err, Result}
use Rattle.rules.specs.declared.words.Refusal.{Refusal}
use Rattle.voting.specs.Placements.{Placement}
use Rattle.allotment.specs.Bytes.{bytes_of}
use Rattle.round.specs.declared.script.Call.{Call}
use Rattle.round.specs.declared.script.Answer.{Answer}
use Rattle.round.specs.Account.{Event}
use Rattle.round.specs.Steps.{State, seats_told}
use Rattle.round.specs.Telling.{GoesOn}
use Rattle.round.specs.Serving.{Line}

-- one call of a script made on a round
abbrev pub Makes : ℕ → State → Call → Answer → List ℕ → List ℕ → State → Type 0
Makes n s call answer before after s' = (e : Event) × Line n call answer before after e × GoesOn s e s'

-- each practice fits a byte
abbrev pub Narrow : Placement → Type 0
Narrow M = (t p : ℕ) → M t ≡ Some p → p < 256

-- the room of an allot after it: the seats given, or as it was
abbrev pub noted : Result ℕ Refusal → State → List ℕ → List ℕ
noted (Ok number) s' room = bytes_of (length room) (seats_told s')
noted (Err r) s' room = room
