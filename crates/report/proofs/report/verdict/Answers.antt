use Rattle.std.proofs.Common.{◌∙◌}
use Rattle.texts.specs.Text.{text}
use Rattle.report.proofs.Judging.{verdict_placed}
use Rattle.report.proofs.report.verdict.Goals as goal

pub returns : goal.returns
returns g c =
    let roll = c.args.roll.now in
    let gave = c.in_ok-seated.ensures in
    verdict_placed (g.R.Roll.entries roll) (g.R.Roll.lawful roll) gave.0 gave.1 _ c.allot_all.new.seats c.in_ok-seated.seated c.from.result gave.2 (c.from.ensures ∙ c.trainees.ensures)
    (text c.new-text.result) (text c.put_placement.new.text) c.new-text.ensures c.put_placement.ensures
