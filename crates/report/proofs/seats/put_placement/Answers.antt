use Rattle.std.proofs.Common.{◌++◌, length, codes, decimal, append_assoc}
use Rattle.allotment.specs.Bytes.{offered_by}
use Rattle.texts.specs.Text.{text}
use Rattle.texts.specs.Lines.{seat_lines}
use Rattle.texts.proofs.Keeping.{kept_kept}
use Rattle.report.proofs.Lined.{headed}
use Rattle.report.proofs.seats.put_placement.Goals as goal

pub returns : goal.returns
returns c =
    headed (text c.args.text.now) (codes "placed " ++ decimal c.args.seated ++ codes " of " ++ decimal (length c.args.seats.now)) (seat_lines (length c.args.seats.now) (offered_by c.args.seats.now)) (text c.put_number-2.new.self) (text c.put_seats.new.text)
    (simp (c.put.ensures, c.from.ensures, c.put_number.ensures.after, c.put-2.ensures, c.put_number-2.ensures.after, kept_kept, append_assoc)) c.put_seats.ensures
