use Rattle.std.proofs.Common.{◌-◌, Some, sym, refl, ap, ◌∙◌, arith}
use Rattle.worklist.specs.Records.{contents}
use Rattle.worklist.specs.Outcomes.{newest_outcome}
use Rattle.worklist.proofs.Turns.{newest_at, read_at}
use Rattle.worklist.proofs.Ends.{newest_push}
use Rattle.worklist.proofs.WorkList.take_newest.Goals as goal

pub returns : goal.returns
returns g c =
    let w = c.args.self.now in
    let s = w.slots.now in
    let x = c.index-self-at.result in
    let e = read_at s w.head (w.len - 1) c.slot-at.result x (omega arith) (omega arith) c.slot-at.ensures.within c.slot-at.ensures.behind in
    let o = newest_at s w.head w.len x (omega arith) (omega arith) (omega arith) (e ∙ sym c.index-self-at.is) in
    let q = ap newest_outcome o ∙ newest_push (contents s w.head (w.len - 1)) x in
    record { outcome = q ∙ ap (λ y. (Some y, contents s w.head (w.len - 1))) c.index-self-at.is; room = refl; kept = λ f. cc }
