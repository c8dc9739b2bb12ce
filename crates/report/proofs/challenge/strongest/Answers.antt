use Rattle.std.proofs.Common.{rules}
use Rattle.texts.specs.Text.{text}
use Rattle.report.proofs.Challenging.{rival_told}
use Rattle.report.proofs.challenge.strongest.Goals as goal

pub returns : goal.returns
returns g c =
    let roll = c.args.roll.now in
    let gave = c.in_ok-majority.ensures in
    rival_told (g.R.Roll.entries roll) c.args.offered.now (g.R.Roll.lawful roll) gave.0 gave.1 _ c.challenge.new.rival c.in_ok-majority.majority (search rules) gave.2 gave.3
    c.put_rival.ensures.short (text c.new-text.result) (text c.put_rival.new.text) c.new-text.ensures c.put_rival.ensures.after
