use Rattle.std.proofs.Common.{◌<◌, ◌≤◌}
use Rattle.assignment.specs.Raises.{SpareChoices}
use Rattle.assignment.proofs.search.Search.row_slack.Given as goal

abbrev pub invariant-loop-choice : goal.invariant-loop-choice
invariant-loop-choice l = record {
  some : 0 < l.d;
  most : l.d ≤ l.initial.d;
  spare : SpareChoices l.self.table.now l.self.state.now l.self.reached l.t l.d l.choice-index;
}
