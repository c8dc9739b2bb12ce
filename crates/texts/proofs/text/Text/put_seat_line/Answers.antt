use Rattle.std.proofs.Common.{append_assoc}
use Rattle.texts.proofs.Keeping.{kept_kept}
use Rattle.texts.proofs.text.Text.put_seat_line.Goals as goal

pub returns : goal.returns
returns c = simp (c.put_number.ensures.after, c.push.ensures, c.put_seat.ensures, c.push-2.ensures, kept_kept, append_assoc)
