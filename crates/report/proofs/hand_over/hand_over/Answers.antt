use Rattle.std.proofs.Common.{[], length, Err, sym, ap, arith}
use Rattle.std.proofs.lemmas.Bool.{lt-leb}
use Rattle.report.proofs.hand_over.hand_over.Goals as goal

pub returns-then-buffer-lt4096-clause-reports : goal.returns-then-buffer-lt4096-clause-reports
returns-then-buffer-lt4096-clause-reports g c =
    (record { bytes = record { items = [] } }, λ l. absurd (omega arith), rw (lt-leb 4096 (length c.args.buffer.now) c.if-buffer-lt4096.true) (ap (λ r. (Err r, c.args.buffer.now)) (sym c.refusal.ensures)))
