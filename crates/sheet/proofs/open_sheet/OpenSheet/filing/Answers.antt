use Rattle.std.proofs.Common.{ℕ, ◌-◌, length, drop, ap, ◌∙◌, arith}
use Rattle.std.proofs.lemmas.List.{take_rest}
use Rattle.sheet.specs.declared.counts.Counts.{Counts}
use Rattle.sheet.proofs.Sheets.{filing_at}
use Rattle.sheet.proofs.open_sheet.OpenSheet.filing.Goals as goal

pub overflow_sub-result : goal.overflow_sub-result
overflow_sub-result c =
    let s = c.args.self.now in
    omega (arith, ap (λ (k : Counts). k.filed) s.counted, (filing_at s.bytes.now s.fits).0)

pub returns : goal.returns
returns c =
    let s = c.args.self.now in
    let b = s.bytes.now in
    take_rest b (length b - s.counts.filed)
    ∙ ap (λ (n : ℕ). drop (length b - n) b) (ap (λ (k : Counts). k.filed) s.counted)
    ∙ (filing_at b s.fits).1
