use Rattle.std.proofs.Common.{ap}
use Rattle.rules.specs.Meaning.{Entries}
use Rattle.sheet.specs.Filing.{Filing}
use Rattle.sheet.proofs.Accepted.{bytes_fit}
use Rattle.sheet.proofs.Sheets.{opened_lawful, opened_sheet}
use Rattle.sheet.proofs.opening.open.Goals as goal

pub invariant_of-result : goal.invariant_of-result
invariant_of-result c =
    record {
      fits = bytes_fit c.args.bytes.now c.type_inv.bytes;
      counted = c.opened_counts-counts.ensures;
      lawful = ∣ opened_lawful c.args.bytes.now ∣₁;
    }

pub returns-clause-sheets : goal.returns-clause-sheets
returns-clause-sheets c =
    λ e f s.
    let o = opened_sheet c.args.bytes.now e f s in
    (ap (λ (q : Entries × Filing). q.0) o, ap (λ (q : Entries × Filing). q.1) o)
