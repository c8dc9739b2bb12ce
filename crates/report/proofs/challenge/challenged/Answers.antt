use Rattle.std.proofs.Common.{rules}
use Rattle.sheet.specs.Reading.{reading}
use Rattle.report.specs.Report.{answer_text}
use Rattle.report.proofs.Challenging.{challenged_refused}
use Rattle.report.proofs.challenge.challenged.Goals as goal

pub returns-in_err-check : goal.returns-in_err-check
returns-in_err-check c =
    challenged_refused (reading c.args.sheet.now) c.in_err-check.field-0.0 c.in_err-check.ensures.reads (answer_text c.from_residual.result) (search rules)
