use Rattle.std.proofs.Common.{◌∙◌, rules}
use Rattle.sheet.specs.Opening.{entries_in}
use Rattle.sheet_writer.proofs.Trips.{written_again}
use Rattle.sheet_writer.proofs.write.rewrite.Goals as goal

pub returns : goal.returns
returns c =
    let o = c.open-sheet.ensures in
    written_again c.args.bytes.now c.args.buffer.now (entries_in c.open-sheet.result) c.filing.result.now (λ k l. (let f = c.type_inv.bytes k in search rules)) c.in_ok-check.ensures.reads o.entries (c.filing.ensures ∙ o.filing)
    ∙ c.write.ensures.outcome
