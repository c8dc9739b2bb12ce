use Rattle.std.proofs.Common.{ℕ, List, None, subst}
use Rattle.sheet.specs.Reading.{reading}
use Rattle.texts.specs.Text.{text}
use Rattle.report.specs.Report.{Judged, TellsReport, report_text}
use Rattle.report.proofs.Handing.{handed}
use Rattle.report.proofs.report.report.Goals as goal

pub returns-clause-reports : goal.returns-clause-reports
returns-clause-reports c =
    let sheet = c.args.sheet.now in
    let said = c.hand_over.ensures.reports in
    handed (Judged (reading sheet)) (report_text (reading sheet)) None (text said.0) c.args.buffer.now (c.hand_over.result, c.hand_over.new.buffer)
    (λ l. subst (λ (s : List ℕ). TellsReport (reading s) (text said.0)) (said.1 l).2 (said.1 l).1) said.2
