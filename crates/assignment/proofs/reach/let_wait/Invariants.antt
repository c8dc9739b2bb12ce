use Rattle.std.proofs.Common.{◌≡◌}
use Rattle.worklist.specs.Records.{records, room}
use Rattle.assignment.specs.Searches.{Queued}
use Rattle.assignment.proofs.reach.let_wait.Given as goal

abbrev pub invariant-loop-t : goal.invariant-loop-t
invariant-loop-t l = record {
  queued : Queued l.state l.t l.p.0 (records l.initial.waiting) (records l.waiting);
  room : room l.waiting ≡ room l.initial.waiting;
}
