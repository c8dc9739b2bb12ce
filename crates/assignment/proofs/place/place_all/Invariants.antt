use Rattle.std.proofs.Common.{◌≡◌}
use Rattle.assignment.specs.States.{Sound}
use Rattle.assignment.proofs.place.place_all.Given as goal

abbrev pub invariant-loop : goal.invariant-loop
invariant-loop l = record {
  sound : Sound l.table l.state;
  newcomer : l.state.newcomer ≡ l.counter;
}
