use Rattle.std.proofs.Common.{ℕ, List, None, subst}
use Rattle.voting.specs.Placements.{Placement}
use Rattle.sheet.specs.Reading.{reading}
use Rattle.texts.specs.Text.{text}
use Rattle.report.specs.Report.{Challenged, TellsChallenge, challenge_text}
use Rattle.report.proofs.Handing.{handed}
use Rattle.report.proofs.challenge.challenge_text.Goals as goal

pub returns-clause-reports : goal.returns-clause-reports
returns-clause-reports c =
    let sheet = c.args.sheet.now in
    let said = c.hand_over.ensures.reports in
    let told =
    handed {X = ℕ × Placement} (λ x. Challenged (reading sheet) x.0 x.1) (λ x. challenge_text (reading sheet) x.0 x.1) (0, λ t. None)
    (text said.0) c.args.buffer.now (c.hand_over.result, c.hand_over.new.buffer)
    (λ l. let x = subst (λ (s : List ℕ). TellsChallenge (reading s) (text said.0)) (said.1 l).2 (said.1 l).1 in ((x.0, x.1), x.2, x.3)) said.2
    in
    (told.0.0, told.0.1, told.1, told.2)
