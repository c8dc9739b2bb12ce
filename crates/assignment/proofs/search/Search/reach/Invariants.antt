use Rattle.std.proofs.Common.{◌+◌, ◌-◌, length}
use Rattle.voting.specs.Totals.{many}
use Rattle.worklist.specs.Records.{records}
use Rattle.assignment.specs.Progress.{progress, Kept}
use Rattle.assignment.specs.Searches.{is_reached, Covered}
use Rattle.assignment.specs.States.{trainees_in}
use Rattle.assignment.proofs.search.Search.reach.Given as goal

abbrev pub invariant-loop-next : goal.invariant-loop-next
invariant-loop-next l = record {
  kept : Kept l.initial.self l.self;
  covered : Covered l.initial.self.table.now l.initial.self.state.now (progress l.self);
}

-- who has not been reached, and who waits
abbrev pub decreases-loop-next : goal.decreases-loop-next
decreases-loop-next l =
    let n = trainees_in l.initial.self.table.now in
    (length (records l.self.waiting) + n) - many n (is_reached l.initial.self.state.now l.self.reached)
