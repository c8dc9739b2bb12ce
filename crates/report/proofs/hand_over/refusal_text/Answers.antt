use Rattle.std.proofs.Common.{◌≤◌, length, ◌∙◌, arith}
use Rattle.texts.specs.Lines.{line, refusal_words}
use Rattle.texts.proofs.Keeping.{kept_short}
use Rattle.report.proofs.hand_over.refusal_text.Goals as goal

pub returns : goal.returns
returns c =
    let s : length (line (refusal_words c.args.refusal)) ≤ 4096 = omega (arith, c.put_refusal.ensures.short) in
    c.put_refusal.ensures.after ∙ rw c.new-text.ensures (kept_short (line (refusal_words c.args.refusal)) s)
