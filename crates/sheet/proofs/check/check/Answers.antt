use Rattle.sheet.proofs.Accepted.{bytes_fit, counted_sheet, sheet_counted}
use Rattle.sheet.proofs.Whole.{reads_the_sheets}
use Rattle.sheet.proofs.check.check.Goals as goal

pub returns-in_err-read_counts-clause-sheets : goal.returns-in_err-read_counts-clause-sheets
returns-in_err-read_counts-clause-sheets c = reads_the_sheets c.args.bytes.now (bytes_fit c.args.bytes.now c.type_inv.bytes)

pub returns-in_err-read_counts-clause-every : goal.returns-in_err-read_counts-clause-every
returns-in_err-read_counts-clause-every c = λ e f s. absurd (sheet_counted c.args.bytes.now _ e f s c.in_err-read_counts.ensures)

pub returns-clause-sheets : goal.returns-clause-sheets
returns-clause-sheets c = reads_the_sheets c.args.bytes.now (bytes_fit c.args.bytes.now c.type_inv.bytes)

pub returns-clause-only : goal.returns-clause-only
returns-clause-only c = λ _. counted_sheet c.args.bytes.now _ (bytes_fit c.args.bytes.now c.type_inv.bytes) c.in_ok-read_counts.ensures
