use Rattle.std.proofs.Common.{◌≡◌}
use Rattle.assignment.specs.States.{Ready, value}
use Rattle.assignment.proofs.place.take_in.Given as goal

abbrev pub invariant-loop-end : goal.invariant-loop-end
invariant-loop-end l = record {
  ready : Ready l.table l.state;
  newcomer : l.state.newcomer ≡ l.initial.state.newcomer;
}

-- the newcomer's value falls with each raise
abbrev pub decreases-loop-end : goal.decreases-loop-end
decreases-loop-end l = value l.state l.state.newcomer
