use Rattle.std.proofs.Common.{◌≡◌, ℕ, length}
use Rattle.voting.specs.Placements.{stored}
use Rattle.worklist.specs.Records.{records}
use Rattle.assignment.specs.States.{seats_in, value_in}
use Rattle.assignment.specs.Walks.{Unwinds, Front}
use Rattle.assignment.proofs.moves.unwind.Given as goal

abbrev pub invariant-loop-step : goal.invariant-loop-step
invariant-loop-step l = record {
  size : length l.trainees ≡ 400;
  front : Front (records l.moves) (records l.initial.moves);
  seats :
      Unwinds (seats_in l.initial.trainees) (stored l.initial.left) (length (records l.initial.moves)) (seats_in l.trainees) (stored l.left)
      (length (records l.moves)) (records l.initial.moves);
  values : (t : ℕ) → value_in l.trainees t ≡ value_in l.initial.trainees t;
}

abbrev pub decreases-loop-step : goal.decreases-loop-step
decreases-loop-step l = length (records l.moves)
