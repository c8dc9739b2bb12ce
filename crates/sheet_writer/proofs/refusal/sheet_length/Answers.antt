use Rattle.std.proofs.Common.{arith}
use Rattle.sheet_writer.proofs.Whole.{sheet_length}
use Rattle.sheet_writer.proofs.refusal.sheet_length.Goals as goal

pub returns : goal.returns
returns g c =
    let e = g.R.Roll.entries c.args.roll.now in
    omega (arith, sheet_length e c.args.filing.now, c.practices.ensures, c.lists_length.ensures.all)
