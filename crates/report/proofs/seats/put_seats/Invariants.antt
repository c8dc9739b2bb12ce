use Rattle.std.proofs.Common.{◌≡◌, ◌∷◌, ◌++◌}
use Rattle.allotment.specs.Bytes.{offered_by}
use Rattle.texts.specs.Text.{text, kept}
use Rattle.texts.specs.Lines.{seat_lines}
use Rattle.report.proofs.seats.put_seats.Given as goal

abbrev pub invariant-loop-t : goal.invariant-loop-t
invariant-loop-t l = text l.text ≡ kept (text l.fn.text ++ 10 ∷ seat_lines l.t (offered_by l.seats))
