use Rattle.std.proofs.Common.{refl, ap, arith}
use Rattle.worklist.specs.Outcomes.{oldest_outcome}
use Rattle.worklist.proofs.Turns.{oldest_at, head_on}
use Rattle.worklist.proofs.WorkList.take_oldest.Goals as goal

pub returns : goal.returns
returns g c =
    let w = c.args.self.now in
    let s = w.slots.now in
    let e = head_on s w.head c.slot-self.result (omega arith) c.slot-self.ensures.behind in
    record {
      outcome = ap oldest_outcome (oldest_at s w.head c.slot-self.result w.len c.index-self-self.result (omega arith) (omega arith) (omega arith) e);
      room = refl;
      kept = λ f. cc;
    }
