use Rattle.std.proofs.lemmas.Result.{err_from_is_err_and}
use Rattle.sheet.proofs.Loops.{counts_done, counts_unfiled, counts_refused}
use Rattle.sheet.proofs.check.read_counts.Goals as goal

pub returns-in_err-filed : goal.returns-in_err-filed
returns-in_err-filed c =
    let p = err_from_is_err_and c.from_residual-in_err-filed.result c.from_residual-in_err-filed.ensures.1 in
    let a = c.in_ok-practices.ensures in
    let b = c.in_ok-trainees.ensures in
    rw (p.1, p.2) (counts_unfiled c.args.bytes.now _ _ _ _ _ _ _ _ c.new.ensures.size c.new.ensures.rest a.size a.reads b.size b.reads _ c.in_err-filed.ensures.reads)

pub returns-in_err-finish : goal.returns-in_err-finish
returns-in_err-finish c =
    let p = err_from_is_err_and c.from_residual-in_err-finish.result c.from_residual-in_err-finish.ensures.1 in
    let a = c.in_ok-practices.ensures in
    let b = c.in_ok-trainees.ensures in
    let f = c.in_ok-filed.ensures in
    rw (p.1, p.2) (counts_refused c.args.bytes.now _ _ _ _ _ _ _ _ c.new.ensures.size c.new.ensures.rest a.size a.reads b.size b.reads _ _ _ f.size f.reads _ c.in_err-finish.ensures)

pub returns : goal.returns
returns c =
    let a = c.in_ok-practices.ensures in
    let b = c.in_ok-trainees.ensures in
    let f = c.in_ok-filed.ensures in
    counts_done c.args.bytes.now _ _ _ _ _ _ _ _ c.new.ensures.size c.new.ensures.rest a.size a.reads b.size b.reads _ _ _ f.size f.reads c.in_ok-finish.ensures
