use Rattle.std.proofs.Common.{◌<◌, length, Ok, sym, ap, ◌∙◌, arith, length-set}
use Rattle.worklist.specs.Records.{records}
use Rattle.worklist.proofs.Turns.{length_records, write_at, push_more}
use Rattle.worklist.proofs.Ends.{add_free}
use Rattle.worklist.proofs.WorkList.add.Goals as goal

pub returns : goal.returns
returns g c =
    let w = c.args.self.now in
    let s = w.slots.now in
    let n : w.len < length s = omega arith in
    let e = write_at s w.head w.len c.slot-at.result c.args.x (omega arith) n c.slot-at.ensures.within c.slot-at.ensures.behind in
    let p = push_more s _ w.head w.len c.args.x (omega arith) n e in
    let a = add_free (records w) (length s) c.args.x (omega (arith, length_records w)) in
    record { outcome = a ∙ ap (λ ys. (Ok tt, ys)) (sym p); room = length-set s _ _; kept = λ f. cc }
