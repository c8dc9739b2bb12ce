use Rattle.std.proofs.Common.{Err, sym, ap, ◌∙◌, arith, rules}
use Rattle.std.proofs.lemmas.List.{at_drop_all}
use Rattle.std.proofs.lemmas.Result.{err_from_is_err_and}
use Rattle.rules.specs.Refusals.{answer_of}
use Rattle.sheet.proofs.Checked.{became, stayed}
use Rattle.sheet_writer.specs.Writing.{filed_refusal}
use Rattle.sheet_writer.proofs.Refused.{filed_here, filed_passes}
use Rattle.sheet_writer.proofs.refusal.check_filing.Goals as goal

pub returns-in_err-map_err : goal.returns-in_err-map_err
returns-in_err-map_err c =
    let f = c.args.filing.now in
    let t = c.loop-t.t-counter in
    let d = c.in_err-map_err.field-0.0 in
    let k = became _ c.check_filed.result d t c.in_err-map_err.ensures.cases (λ e q. search rules) in
    let p = err_from_is_err_and c.from_residual.result c.from_residual.ensures.1 in
    let here = filed_here c.args.practices t f k.0 (omega arith) (sym k.1 ∙ c.check_filed.ensures) in
    rw (p.1, p.2) (ap Err k.2 ∙ ap answer_of (sym here ∙ c.loop-t.invariant))

pub loop-t-preserved : goal.loop-t-preserved
loop-t-preserved c =
    sym (filed_passes c.args.practices c.loop-t.t-counter c.args.filing.now (omega arith) (stayed c.check_filed.result c.in_ok-map_err.ensures.variant ∙ c.check_filed.ensures))
    ∙ c.loop-t.invariant

pub returns : goal.returns
returns c =
    ap answer_of (sym (at_drop_all (filed_refusal c.args.practices c.loop-t.t-counter) c.args.filing.now c.loop-t.t-counter (omega arith)) ∙ c.loop-t.invariant)
