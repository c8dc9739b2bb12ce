use Rattle.std.proofs.Common.{[], length, arith}
use Rattle.std.proofs.lemmas.Result.{err_from_is_err_and}
use Rattle.rules.proofs.Outcomes.{none_from_ok, some_from_err}
use Rattle.sheet_writer.proofs.Refused.{writable, few_filed}
use Rattle.sheet_writer.proofs.Whole.{sheet_length}
use Rattle.sheet_writer.proofs.Trips.{trip_refused, trip_written}
use Rattle.sheet_writer.proofs.write.write.Goals as goal

pub put_sheet-requires : goal.put_sheet-requires
put_sheet-requires g c =
    let e = g.R.Roll.entries c.args.roll.now in
    let f = c.args.filing.now in
    let w = writable e f (length c.args.buffer.now) (none_from_ok _ c.in_ok-check_write.ensures) in
    record { few = omega (arith, few_filed e f (g.R.Roll.lawful c.args.roll.now) w.fits.many); room = omega (arith, w.roomy, sheet_length e f, sheet_length e []) }

pub returns-in_err-check_write : goal.returns-in_err-check_write
returns-in_err-check_write g c =
    let p = err_from_is_err_and c.from_residual.result c.from_residual.ensures.1 in
    let d = c.in_err-check_write.field-0.0 in
    let t = trip_refused (g.R.Roll.entries c.args.roll.now) c.args.filing.now c.args.buffer.now d (some_from_err _ d c.in_err-check_write.ensures) in
    rw (p.1, p.2) (record { outcome = t.outcome; reads = t.reads; opens = t.opens })

pub returns : goal.returns
returns g c =
    let t =
    trip_written (g.R.Roll.entries c.args.roll.now) c.args.filing.now c.args.buffer.now c.put_sheet.new.out c.put_sheet.result (g.R.Roll.lawful c.args.roll.now) (none_from_ok _ c.in_ok-check_write.ensures) c.put_sheet.ensures.end c.put_sheet.ensures.bytes in
    record { outcome = t.outcome; reads = t.reads; opens = t.opens }
