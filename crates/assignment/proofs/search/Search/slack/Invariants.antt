use Rattle.std.proofs.Common.{◌≡◌, ℕ, ◌<◌, true}
use Rattle.assignment.specs.Raises.{Spare}
use Rattle.assignment.specs.Searches.{is_reached}
use Rattle.assignment.proofs.search.Search.slack.Given as goal

abbrev pub invariant-loop-t : goal.invariant-loop-t
invariant-loop-t l = record {
  some : 0 < l.d;
  spare :
      (u : ℕ) → u < l.t → is_reached l.self.state.now l.self.reached u ≡ true →
      Spare l.self.table.now l.self.state.now l.self.reached u l.d;
}
