use Rattle.std.proofs.Common.{◌≤◌, length, ap, ◌∙◌, arith}
use Rattle.voting.specs.Placements.{stored}
use Rattle.worklist.specs.Records.{records, room}
use Rattle.worklist.proofs.Ends.{oldest_some, oldest_none}
use Rattle.assignment.specs.Progress.{progress}
use Rattle.assignment.specs.Searches.{is_reached, Reached, Grown, Ends, Closed}
use Rattle.assignment.specs.States.{trainees_in}
use Rattle.assignment.proofs.Counts.{many_le}
use Rattle.assignment.proofs.Growth.{reached_grown, along}
use Rattle.assignment.proofs.Searches.{with_queue, explored_rest, next_waits, covered_next, stuck_done}
use Rattle.assignment.proofs.Truths.{explored_of}
use Rattle.assignment.proofs.search.Search.reach.Goals as goal

pub invariant_of-self : goal.invariant_of-self
invariant_of-self c =
    let s = c.loop-next.self in
    let w = c.take_oldest.new.self in
    record {
      ready = s.ready;
      explored = ∣ explored_rest s.table.now s.state.now (progress s) c.take_oldest.result (records w) (room w)
          (explored_of s.table.now s.state.now (progress s) s.explored) c.take_oldest.ensures.outcome c.take_oldest.ensures.room ∣₁;
    }

pub scan-requires : goal.scan-requires
scan-requires c =
    let s = c.loop-next.self in
    let w = c.take_oldest.new.self in
    let e = oldest_some (records s.waiting) (records w) c.in-Some.next c.in-Some.ensures.outcome in
    let n = next_waits s.table.now s.state.now (progress s) c.in-Some.next (records w) (room w) e (explored_of s.table.now s.state.now (progress s) s.explored) in
    record { early = n.0; reached = n.1 }

pub returns-in-Some-scan-clause-sought : goal.returns-in-Some-scan-clause-sought
returns-in-Some-scan-clause-sought c =
    let s = c.args.self.now in
    let s' = c.loop-next.self in
    let k = c.loop-next.invariant.kept in
    let w = c.take_oldest.new.self in
    let t = c.in-Some.next.0 in
    let e = oldest_some (records s'.waiting) (records w) c.in-Some.next c.in-Some.ensures.outcome in
    let n = along (λ T S. (t ≤ S.newcomer) × Reached S s'.reached t) k.table k.state
    (next_waits s'.table.now s'.state.now (progress s') c.in-Some.next (records w) (room w) e (explored_of s'.table.now s'.state.now (progress s') s'.explored)) in
    let g = along (λ T S. Grown T S (with_queue (progress s') (records w) (room w)) (progress c.scan.new.self)) k.table k.state c.scan.ensures.grown in
    record {
      ends = along (λ T S. Ends T S t (stored c.in-Some-scan.seat)) k.table k.state c.in-Some-scan.ensures.scanned;
      early = n.0;
      reached = reached_grown s.table.now s.state.now (with_queue (progress s') (records w) (room w)) (progress c.scan.new.self) t g n.1;
    }

pub loop-next-smaller : goal.loop-next-smaller
loop-next-smaller c =
    let s = c.args.self.now in
    let s' = c.loop-next.self in
    let w = c.take_oldest.new.self in
    let g = along (λ T S. Grown T S (with_queue (progress s') (records w) (room w)) (progress c.scan.new.self)) c.loop-next.invariant.kept.table c.loop-next.invariant.kept.state c.scan.ensures.grown in
    omega (
      arith,
      ap length (oldest_some (records s'.waiting) (records w) c.in-Some.next c.in-Some.ensures.outcome),
      g.fair,
      many_le (trainees_in s.table.now) (is_reached s.state.now s'.reached),
      many_le (trainees_in s.table.now) (is_reached s.state.now c.scan.new.self.reached),
    )

pub loop-next-preserved : goal.loop-next-preserved
loop-next-preserved c =
    let s = c.args.self.now in
    let s' = c.loop-next.self in
    let v = c.loop-next.invariant in
    let w = c.take_oldest.new.self in
    let x = c.in-Some.next in
    let e = oldest_some (records s'.waiting) (records w) x c.in-Some.ensures.outcome in
    let g = along (λ T S. Grown T S (with_queue (progress s') (records w) (room w)) (progress c.scan.new.self)) v.kept.table v.kept.state c.scan.ensures.grown in
    record {
      kept = record { table = c.scan.ensures.kept.table ∙ v.kept.table; state = c.scan.ensures.kept.state ∙ v.kept.state };
      covered = covered_next s.table.now s.state.now (progress s') x (records w) (room w) e (progress c.scan.new.self) v.covered g
          (along (λ T S. Closed T S c.scan.new.self.reached x.0) v.kept.table v.kept.state c.in_default-scan.ensures.scanned);
    }

pub returns-clause-sought : goal.returns-clause-sought
returns-clause-sought c =
    let s = c.args.self.now in
    let s' = c.loop-next.self in
    stuck_done s.table.now s.state.now (progress s') c.loop-next.invariant.covered
    (oldest_none (records s'.waiting) (records c.take_oldest.new.self) c.in_default.ensures.outcome)
