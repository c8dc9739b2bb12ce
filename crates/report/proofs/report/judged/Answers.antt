use Rattle.std.proofs.Common.{subst}
use Rattle.rules.specs.Meaning.{Entries}
use Rattle.sheet.specs.Reading.{reading}
use Rattle.report.specs.Report.{TellsVerdict, answer_text}
use Rattle.report.proofs.Judging.{judged_accepted}
use Rattle.report.proofs.report.judged.Goals as goal

pub returns : goal.returns
returns c =
    let words = answer_text c.verdict.result in
    judged_accepted (reading c.args.sheet.now) c.in_ok-check.ensures.reads words (subst (λ (e : Entries). TellsVerdict e words) c.open.ensures.entries c.verdict.ensures)
