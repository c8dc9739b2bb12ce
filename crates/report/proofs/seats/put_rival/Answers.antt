use Rattle.std.proofs.Common.{◌++◌, length, codes, decimal, append_assoc}
use Rattle.allotment.specs.Bytes.{offered_by}
use Rattle.texts.specs.Text.{text}
use Rattle.texts.specs.Lines.{seat_lines}
use Rattle.texts.proofs.Keeping.{kept_kept}
use Rattle.report.proofs.Lined.{headed}
use Rattle.report.proofs.seats.put_rival.Goals as goal

pub returns-clause-after : goal.returns-clause-after
returns-clause-after c =
    headed (text c.args.text.now) (codes "majority " ++ decimal c.args.majority) (seat_lines (length c.args.seats.now) (offered_by c.args.seats.now)) (text c.put_number.new.self) (text c.put_seats.new.text)
    (simp (c.put.ensures, c.from.ensures, c.put_number.ensures.after, kept_kept, append_assoc)) c.put_seats.ensures
