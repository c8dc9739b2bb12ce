use Rattle.std.proofs.Common.{◌≡◌, ℕ, ◌<◌, ◌≤◌, None, length}
use Rattle.voting.specs.Placements.{seating}
use Rattle.assignment.specs.States.{seat_of}
use Rattle.assignment.proofs.state.State.seats.Given as goal

abbrev pub invariant-loop-t : goal.invariant-loop-t
invariant-loop-t l = record {
  size : length l.seats ≡ 400;
  below : (u : ℕ) → u < l.t → seating l.seats u ≡ seat_of l.self u;
  above : (u : ℕ) → l.t ≤ u → seating l.seats u ≡ None;
}
