use Rattle.std.proofs.Common.{◌≡◌, ℕ, ◌<◌, get_or}
use Rattle.allotment.specs.Bytes.{byte_of_seat}
use Rattle.round.specs.Steps.{seats_told}
use Rattle.round.specs.Seen.{seen}
use Rattle.round.proofs.notes.note.Given as goal

abbrev pub invariant-loop-t : goal.invariant-loop-t
invariant-loop-t g l = (k : ℕ) → k < l.t → get_or l.room k 0 ≡ byte_of_seat (seats_told (seen g.R.Roll.entries g.R.Terms.rules l.round) k)
